-- One memory: the promise of a kit, told of a history and the ledger kept from it.
use Rattle.std.specs.Prelude.{◌≡◌, ℕ, ◌-◌, ◌*◌, ◌≤◌, ◌∷◌, ◌++◌, length, Some, None, Ok, Err, Result}
use Rattle.wire.specs.declared.fault.Fault.{Fault}
use Rattle.board.specs.declared.answer.AccessAnswer.TheVariants.{Answered, Opened}
use Rattle.board.specs.declared.answer.Arrival.TheVariants as arrival
use Rattle.board.specs.declared.answer.Finished.{Finished}
use Rattle.memory.specs.declared.call.Call.{Call}
use Rattle.memory.specs.declared.call.Call.TheVariants.{Load, Store, Deliver}
use Rattle.memory.specs.declared.answer.Answer.{Answer}
use Rattle.memory.specs.declared.answer.Answer.TheVariants.{Accessed, Arrived, Quiet}
use Rattle.memory.specs.Histories.{Event, History, Access, load, store, kind_of, address_of, OnlyDeliveries}
use Rattle.memory.specs.Ledgers.{Ledger, brought, entered, ledger, passed_on, open_accesses}
use Rattle.memory.specs.Placements.{Words}

-- a finished access was open, and its answer is that access's, with the array's word and the times that its request was passed on
pub record FinishIsRight (l : Ledger) (passed : ℕ) (f : Finished) : Type 0 where
  pub access : Access
  pub was_open : l.pending f.board ≡ Some access
  pub same_kind : f.kind ≡ kind_of access
  pub same_address : f.address ≡ address_of access
  pub array_word : f.word ≡ brought l.array access
  pub times_passed : f.hops ≡ passed

-- a load or a store brings its word at once, opens where the board had none open, or is refused
abbrev pub AccessIsRight : Ledger → ℕ → Access → Result Answer Fault → Type 0
AccessIsRight l board access (Ok (Accessed (Answered word))) = word ≡ brought l.array access
AccessIsRight l board access (Ok (Accessed Opened)) = l.pending board ≡ None
AccessIsRight l board access (Ok (Arrived a)) = ⊥
AccessIsRight l board access (Ok Quiet) = ⊥
AccessIsRight l board access (Err fault) = Unit {0}

-- a delivery finishes an open access, or finishes none
abbrev pub DeliveryIsRight : Ledger → Ledger → Result Answer Fault → Type 0
DeliveryIsRight l after (Ok (Accessed answer)) = ⊥
DeliveryIsRight l after (Ok (Arrived (arrival.Moved board kind hops))) = Unit {0}
DeliveryIsRight l after (Ok (Arrived (arrival.Finished f))) = FinishIsRight l (passed_on after f.board) f
DeliveryIsRight l after (Ok Quiet) = Unit {0}
DeliveryIsRight l after (Err fault) = Unit {0}

abbrev pub AnswerIsRight : Ledger → Ledger → Call → Result Answer Fault → Type 0
AnswerIsRight l after (Load board address) answer = AccessIsRight l board (load address) answer
AnswerIsRight l after (Store board address word) answer = AccessIsRight l board (store address word) answer
AnswerIsRight l after (Deliver pick) answer = DeliveryIsRight l after answer

-- an event is right for a ledger: its answer is, and no board's request has been passed on more than so many times
pub record Right (most : ℕ) (l : Ledger) (e : Event) : Type 0 where
  pub answer : AnswerIsRight l (entered l e) e.call e.answer
  pub passes : (board : ℕ) → passed_on (entered l e) board ≤ most

abbrev pub NothingOpen : Ledger → Type 0
NothingOpen l = (board : ℕ) → l.pending board ≡ None

-- A history of n boards, begun with these words, is one memory, with at most so many passings on of a request and so many deliveries for each open access.
pub record OneMemoryWithin (n most each : ℕ) (first : Words) (history : History) : Type 0 where
  -- every event is right for what came before it
  pub right : (before : History) (e : Event) (later : History) → history ≡ before ++ e ∷ later → Right most (ledger first before) e
  -- wherever only deliveries followed, enough of them, every access had been answered
  pub in_time : (before deliveries later : History) → history ≡ before ++ deliveries ++ later → OnlyDeliveries deliveries →
      each * open_accesses n (ledger first before) ≤ length deliveries → NothingOpen (ledger first (before ++ deliveries))

-- A history of a kit of n boards is one memory: each answer is the array's, no request is passed on more than n - 2 times, and 3n - 4 deliveries for each open access answer them all.
abbrev pub OneMemory : ℕ → Words → History → Type 0
OneMemory n first history = OneMemoryWithin n (n - 2) (3 * n - 4) first history
