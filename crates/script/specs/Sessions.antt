-- The accesses in a script are one memory.
use Rattle.std.specs.Prelude.{◌≡◌, ℕ, cond, List, [], ◌∷◌, ◌++◌, Some, None, Ok, Err, Option, Result, ◌==◌}
use Rattle.std.specs.List.{flat_map, zip}
use Rattle.wire.specs.Faults.{number}
use Rattle.wire.specs.declared.fault.Fault.{Fault}
use Rattle.wire.specs.declared.fault.Fault.TheVariants.{NoSuchBoard, NoSuchAddress, AccessOpen}
use Rattle.wire.specs.declared.message.Message.{Message}
use Rattle.memory.specs.Histories.{Event, History}
use Rattle.memory.specs.OneMemory.{OneMemory}
use Rattle.memory.specs.Placements.{array}
use Rattle.memory.specs.declared.placement.Placement.{Placement}
use Rattle.memory.specs.Willing.{Willing}
use Rattle.memory.specs.Calls.{Running}
use Rattle.memory.specs.Reached.{begun, Reached}
use Rattle.wire.specs.Links.{largest_limit}
use Rattle.script.specs.Lines.{numbers_of, ran_line, refused_line}
use Rattle.script.specs.Plays.{Bench, no_kit, Done, Outcome, accepted, refused, outcomes, line}
use Rattle.script.specs.Records.{records, form}
use Rattle.memory.specs.declared.answer.Answer.{Answer as KitAnswer}
use Rattle.memory.specs.declared.call.Call.{Call as KitCall}
use Rattle.script.specs.declared.call.Call.{Call}
use Rattle.script.specs.declared.call.Call.TheVariants.{Kit, Place, Run}
use Rattle.script.specs.declared.answer.Answer.{Answer}
use Rattle.script.specs.declared.call.KitPlan.{KitPlan}
use Rattle.script.specs.declared.answer.Answer.TheVariants.{Made, Placed, Ran}
use Rattle.script.specs.declared.line.Line.{Line}

-- what a record does to the kit: it is carried out, or it is a load or a store that the kit refuses
pub data Deed : Type 0 where
  did : Done → Deed
  refused_access : KitCall → Fault → Deed

-- the faults that a load or a store of the kit is refused with
abbrev pub access_fault : ℕ → Option Fault
access_fault n =
    cond (n == number NoSuchBoard) (Some NoSuchBoard)
    (cond (n == number NoSuchAddress) (Some NoSuchAddress)
    (cond (n == number AccessOpen) (Some AccessOpen) None))

abbrev pub refused_with : KitCall → Option Fault → List Deed
refused_with call None = []
refused_with call (Some fault) = refused_access call fault ∷ []

-- a record that is refused because of its form, or where no kit takes its call, is no deed
abbrev pub refusal_of : Option Call → ℕ → List Deed
refusal_of None n = []
refusal_of (Some (Kit plan)) n = []
refusal_of (Some (Place address word)) n = []
refusal_of (Some (Run call)) n = refused_with call (access_fault n)

abbrev pub deed_of : Option Call → Outcome → List Deed
deed_of call (accepted done) = did done ∷ []
deed_of call (refused n) = refusal_of call n

-- what records do, each with its outcome
abbrev pub deeds_by : Bench → List (List ℕ) → List Deed
deeds_by s rs = flat_map (λ (r, o). deed_of (form r) o) (zip rs (outcomes s rs))

-- the word that an answer says was placed, before those placed earlier
abbrev pub placed_by : Answer → List Placement → List Placement
placed_by (Made plan) words = words
placed_by (Placed address word) words = record { address = address; word = word } ∷ words
placed_by (Ran call answer) words = words

abbrev pub placed_in : Deed → List Placement → List Placement
placed_in (did d) words = placed_by d.answer words
placed_in (refused_access call fault) words = words

-- the words that were placed, the newest first
abbrev pub words_after : List Placement → List Deed → List Placement
words_after words [] = words
words_after words (d ∷ ds) = words_after (placed_in d words) ds

abbrev pub event_of : Answer → List Message → History
event_of (Made plan) posted = []
event_of (Placed address word) posted = []
event_of (Ran call answer) posted = record { call = call; answer = Ok answer; posted = posted } ∷ []

abbrev pub events_of : Deed → History
events_of (did d) = event_of d.answer d.posted
events_of (refused_access call fault) = record { call = call; answer = Err fault; posted = [] } ∷ []

-- the calls on the kit, with the answers and the refusals that their lines tell, and the messages that they post
abbrev pub history_of : List Deed → History
history_of [] = []
history_of (d ∷ ds) = events_of d ++ history_of ds

-- a kit of this plan, started with these words, can have this history, which is one memory and that of a willing kit
pub record KeepsOneMemory (plan : KitPlan) (words : List Placement) (history : History) : Type 0 where
  pub state : Running
  pub reached : Reached (begun plan.boards plan.pages largest_limit words) history state
  pub one_memory : OneMemory plan.boards (array words) history
  pub willing : Willing plan.boards plan.pages (array words) history

-- What was done first made a kit, and with all that was done since, and all accesses that were refused, it keeps one
-- memory.
abbrev pub OneMemorySince : Answer → List Deed → Type 0
OneMemorySince (Made plan) ds = KeepsOneMemory plan (words_after [] ds) (history_of ds)
OneMemorySince (Placed address word) ds = ⊥
OneMemorySince (Ran call answer) ds = ⊥

abbrev pub DeedsAreOneMemory : List Deed → Type 0
DeedsAreOneMemory [] = Unit {0}
DeedsAreOneMemory (did d ∷ ds) = OneMemorySince d.answer ds
DeedsAreOneMemory (refused_access call fault ∷ ds) = ⊥

abbrev pub SessionKeepsOneMemory : List ℕ → Type 0
SessionKeepsOneMemory script = DeedsAreOneMemory (deeds_by no_kit (records script))

-- the line of a call on the kit: that of its answer, or that of its refusal
abbrev pub event_line : KitCall → Result KitAnswer Fault → Line
event_line call (Ok answer) = ran_line (numbers_of call) answer
event_line call (Err fault) = refused_line (number fault)

-- what was asked, with this outcome, is one event: it is of this call, and the line of the outcome tells it
pub record IsTold (asked : Option Call) (o : Outcome) (call : KitCall) : Type 0 where
  pub event : Event
  pub one : history_of (deed_of asked o) ≡ event ∷ []
  pub of_call : event.call ≡ call
  pub told : line o ≡ event_line event.call event.answer
