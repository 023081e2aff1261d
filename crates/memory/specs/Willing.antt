-- A willing kit: it refuses only what the questions refuse, and is quiet only where nothing waits.
-- One memory alone is kept by a kit that refuses every call; this is what such a kit breaks.
use Rattle.std.specs.Prelude.{◌≡◌, ℕ, ◌<◌, Bool, not, List, [], ◌∷◌, ◌++◌, Ok, Err, Result, nat_lt}
use Rattle.wire.specs.Faults.{number}
use Rattle.wire.specs.Questions.{first_no, refusal}
use Rattle.wire.specs.declared.fault.Fault.{Fault}
use Rattle.wire.specs.declared.fault.Fault.TheVariants.{NoSuchBoard, NoSuchAddress, AccessOpen}
use Rattle.wire.specs.declared.message.Message.{Message}
use Rattle.lone.specs.Sizes.{has_address}
use Rattle.memory.specs.declared.call.Call.{Call}
use Rattle.memory.specs.declared.call.Call.TheVariants.{Load, Store, Deliver}
use Rattle.memory.specs.declared.answer.Answer.{Answer}
use Rattle.memory.specs.declared.answer.Answer.TheVariants.{Accessed, Arrived, Quiet}
use Rattle.memory.specs.Histories.{Event, History}
use Rattle.memory.specs.Ledgers.{Ledger, ledger, is_open}
use Rattle.memory.specs.Placements.{Words}

-- is there such a board, and such an address, and is no access of that board open?
abbrev pub questions_of : ℕ → ℕ → Ledger → ℕ → ℕ → List (ℕ × Bool)
questions_of n p l board address =
    (number NoSuchBoard, nat_lt board n) ∷ (number NoSuchAddress, has_address p address)
    ∷ (number AccessOpen, not (is_open (l.pending board))) ∷ []

-- what a running kit of n boards and p pages asks of a call, all of it known from the history
abbrev pub questions : ℕ → ℕ → Ledger → Call → List (ℕ × Bool)
questions n p l (Load board address) = questions_of n p l board address
questions n p l (Store board address word) = questions_of n p l board address
questions n p l (Deliver pick) = []

-- a delivery is quiet exactly where nothing waits
abbrev pub QuietWhereNothingWaits : Ledger → Result Answer Fault → Type 0
QuietWhereNothingWaits l (Ok (Accessed answer)) = Unit {0}
QuietWhereNothingWaits l (Ok (Arrived arrival)) = 0 < l.waiting
QuietWhereNothingWaits l (Ok Quiet) = l.waiting ≡ 0
QuietWhereNothingWaits l (Err fault) = Unit {0}

-- a refused or quiet call posts nothing
abbrev pub PostsNothing : Result Answer Fault → List Message → Type 0
PostsNothing (Ok (Accessed answer)) posted = Unit {0}
PostsNothing (Ok (Arrived arrival)) posted = Unit {0}
PostsNothing (Ok Quiet) posted = posted ≡ []
PostsNothing (Err fault) posted = posted ≡ []

pub record AnswersWillingly (n p : ℕ) (l : Ledger) (e : Event) : Type 0 where
  pub asked : refusal e.answer ≡ first_no (questions n p l e.call)
  pub quiet : QuietWhereNothingWaits l e.answer
  pub posts : PostsNothing e.answer e.posted

abbrev pub Willing : ℕ → ℕ → Words → History → Type 0
Willing n p first history = (before : History) (e : Event) (later : History) → history ≡ before ++ e ∷ later → AnswersWillingly n p (ledger first before) e
