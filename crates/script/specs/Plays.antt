-- What the bench answers to a script.
use Rattle.std.specs.Prelude.{ℕ, Bool, true, false, cond, List, [], ◌∷◌, ◌++◌, length, is_some, Some, None, Option, ◌==◌, ◌||◌, nat_lt, slice_index}
use Rattle.std.specs.List.{flat_map}
use Rattle.wire.specs.Faults.{number}
use Rattle.wire.specs.Links.{largest_limit}
use Rattle.wire.specs.Questions.{first_no, inside}
use Rattle.wire.specs.declared.fault.Fault.TheVariants.{BadForm, NoSuchBoard, OutOfPlace}
use Rattle.wire.specs.declared.message.Message.{Message}
use Rattle.board.specs.declared.answer.AccessAnswer.{AccessAnswer}
use Rattle.board.specs.declared.answer.Arrival.{Arrival}
use Rattle.lone.specs.Calls as lone
use Rattle.lone.specs.LoneQuestions as asks
use Rattle.memory.specs.declared.answer.Answer.TheVariants.{Accessed, Arrived, Quiet}
use Rattle.memory.specs.declared.call.Call.{Call as KitCall}
use Rattle.memory.specs.declared.call.Call.TheVariants.{Load, Store, Deliver}
use Rattle.memory.specs.Kits as kits
use Rattle.memory.specs.Placements.{placed}
use Rattle.kit.specs.KitQuestions.{making_questions, place_questions}
use Rattle.script.specs.Choosing.{Taken, taken}
use Rattle.script.specs.Lines.{line_of, refused_line, text}
use Rattle.script.specs.Records.{records, form}
use Rattle.script.specs.Letters.{letter_k}
use Rattle.script.specs.Options.{◌>>=◌}
use Rattle.script.specs.declared.answer.Answer.{Answer}
use Rattle.script.specs.declared.answer.Answer.TheVariants.{Made, Placed, Ran}
use Rattle.script.specs.declared.call.Call.{Call}
use Rattle.script.specs.declared.call.Call.TheVariants.{Kit, Place, Run}
use Rattle.script.specs.declared.call.LinkKind.{LinkKind}
use Rattle.script.specs.declared.line.Line.{Line}

-- no kit is made yet, or one is loading over a link, or one is running, with the messages that wait on its link, in
-- order of posting
pub data Bench : Type 0 where
  no_kit : Bench
  loading : LinkKind → kits.Kit → Bench
  running : LinkKind → kits.Kit → List Message → Bench

-- what a call answers, the messages that it posts, and the bench that it leaves
pub record Done : Type 0 where
  pub answer : Answer
  pub posted : List Message
  pub bench : Bench

-- Calls on a running kit.

-- a load or a store at a board has this outcome
abbrev pub after_access : LinkKind → kits.Kit → List Message → KitCall → ℕ → lone.Outcome AccessAnswer → Done
after_access link k row call board o =
    record {
      answer = Ran call (Accessed o.answer);
      posted = o.posts;
      bench = running link (kits.with_board k board o.board) (row ++ o.posts);
    }

-- an arrival at a board has this outcome
abbrev pub after_arrival : LinkKind → kits.Kit → List Message → KitCall → ℕ → lone.Outcome Arrival → Done
after_arrival link k rest call board o =
    record {
      answer = Ran call (Arrived o.answer);
      posted = o.posts;
      bench = running link (kits.with_board k board o.board) (rest ++ o.posts);
    }

-- the message that the link hands over arrives at the board that it is addressed to; where none waits the delivery is
-- quiet
abbrev pub after_delivery : LinkKind → kits.Kit → KitCall → Option Taken → Done
after_delivery link k call None = record { answer = Ran call Quiet; posted = []; bench = running link k [] }
after_delivery link k call (Some t) =
    after_arrival link k t.rest call t.message.to (lone.arrive_at (kits.board_at k t.message.to) t.message)

abbrev pub ran : LinkKind → kits.Kit → List Message → KitCall → Done
ran link k row (Load board address) =
    after_access link k row (Load board address) board (lone.load_at (kits.board_at k board) address)
ran link k row (Store board address word) =
    after_access link k row (Store board address word) board (lone.store_at (kits.board_at k board) address word)
ran link k row (Deliver pick) = after_delivery link k (Deliver pick) (taken link pick row)

-- is there such a board, and does it take the access? A delivery is asked nothing.
abbrev pub access_questions : kits.Kit → ℕ → ℕ → List (ℕ × Bool)
access_questions k board address =
    (number NoSuchBoard, nat_lt board k.boards) ∷ asks.access_questions (kits.board_at k board) address

abbrev pub run_questions : kits.Kit → KitCall → List (ℕ × Bool)
run_questions k (Load board address) = access_questions k board address
run_questions k (Store board address word) = access_questions k board address
run_questions k (Deliver pick) = []

-- What a call does where it belongs: until a kit is made only K, and after it none; P while the kit is loading; L, S
-- and D once it is made, and they start it.
abbrev pub carried_out : Bench → Call → Option Done
carried_out no_kit (Kit plan) =
    Some (record { answer = Made plan; posted = []; bench = loading plan.link (kits.start_kit plan.boards plan.pages) })
carried_out no_kit (Place a w) = None
carried_out no_kit (Run call) = None
carried_out (loading link k) (Kit plan) = None
carried_out (loading link k) (Place a w) =
    Some (record { answer = Placed a w; posted = []; bench = loading link (placed k a w) })
carried_out (loading link k) (Run call) = Some (ran link k [] call)
carried_out (running link k row) (Kit plan) = None
carried_out (running link k row) (Place a w) = None
carried_out (running link k row) (Run call) = Some (ran link k row call)

abbrev pub belongs : Bench → Call → Bool
belongs s c = is_some (carried_out s c)

-- the questions of a call that belongs
abbrev pub call_questions : Bench → Call → List (ℕ × Bool)
call_questions no_kit (Kit plan) = making_questions plan.boards plan.pages largest_limit 0
call_questions no_kit (Place a w) = []
call_questions no_kit (Run call) = []
call_questions (loading link k) (Kit plan) = []
call_questions (loading link k) (Place a w) = place_questions k.pages a
call_questions (loading link k) (Run call) = run_questions k call
call_questions (running link k row) (Kit plan) = []
call_questions (running link k row) (Place a w) = []
call_questions (running link k row) (Run call) = run_questions k call

-- Are all characters of their form? Does the letter belong here? Then the call's own.
abbrev pub record_questions : Bench → Option Call → List (ℕ × Bool)
record_questions s None = (number BadForm, false) ∷ []
record_questions s (Some c) = (number BadForm, true) ∷ (number OutOfPlace, belongs s c) ∷ call_questions s c

-- a record is carried out, or refused with a number
pub data Outcome : Type 0 where
  accepted : Done → Outcome
  refused : ℕ → Outcome

-- the first question that is answered no refuses it; where none is, there is a call that belongs
abbrev pub decided : Option ℕ → Option Done → Outcome
decided (Some n) result = refused n
decided None (Some result) = accepted result
decided None None = refused (number OutOfPlace)

abbrev pub outcome_of : Bench → Option Call → Outcome
outcome_of s call = decided (first_no (record_questions s call)) (call >>= carried_out s)

abbrev pub outcome : Bench → List ℕ → Outcome
outcome s r = outcome_of s (form r)

-- the line that says it
abbrev pub line : Outcome → Line
line (accepted done) = line_of done.answer
line (refused n) = refused_line n

-- a refusal changes nothing
abbrev pub after : Bench → Outcome → Bench
after s (accepted done) = done.bench
after s (refused n) = s

-- the last record of a script may be cut short
abbrev pub is_cut : List ℕ → Bool
is_cut r = inside 1 15 (length r)

-- a refused record whose first character is K ends the play, and so does one that is cut short
abbrev pub ends : Outcome → List ℕ → Bool
ends (accepted done) r = false
ends (refused n) r = is_cut r || slice_index r 0 == letter_k

-- the outcomes of records, one after another
abbrev pub outcomes : Bench → List (List ℕ) → List Outcome
outcomes s [] = []
outcomes s (r ∷ rs) = outcome s r ∷ cond (ends (outcome s r) r) [] (outcomes (after s (outcome s r)) rs)

-- a line for each
abbrev pub answers : Bench → List (List ℕ) → List ℕ
answers s rs = flat_map (λ o. text (line o)) (outcomes s rs)

abbrev pub listing : List ℕ → List ℕ
listing script = answers no_kit (records script)
