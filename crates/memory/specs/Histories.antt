-- What can be seen of a running kit: its calls, their answers, and the messages that they post.
use Rattle.std.specs.Prelude.{ℕ, List, [], ◌∷◌, Ok, Err, Result}
use Rattle.wire.specs.declared.fault.Fault.{Fault}
use Rattle.wire.specs.declared.message.Message.{Message}
use Rattle.board.specs.declared.request.AccessKind.{AccessKind}
use Rattle.board.specs.declared.request.AccessKind.TheVariants as kind
use Rattle.board.specs.declared.answer.AccessAnswer.TheVariants.{Answered, Opened}
use Rattle.board.specs.declared.answer.Arrival.TheVariants.{Moved, Finished}
use Rattle.memory.specs.declared.call.Call.{Call}
use Rattle.memory.specs.declared.call.Call.TheVariants.{Load, Store, Deliver}
use Rattle.memory.specs.declared.answer.Answer.{Answer}
use Rattle.memory.specs.declared.answer.Answer.TheVariants.{Accessed, Arrived, Quiet}

-- one call on a running kit, its answer, and the messages that it posted, in their order
pub record Event : Type 0 where
  pub call : Call
  pub answer : Result Answer Fault
  pub posted : List Message

-- oldest first
abbrev pub History : Type 0
History = List Event

-- a load of an address, or a store of a word at an address
pub data Access : Type 0 where
  load : ℕ → Access
  store : ℕ → ℕ → Access

abbrev pub kind_of : Access → AccessKind
kind_of (load address) = kind.Load
kind_of (store address word) = kind.Store

abbrev pub address_of : Access → ℕ
address_of (load address) = address
address_of (store address word) = address

-- what a call and its answer change, all that the array is told
pub data Change : Type 0 where
  -- an access of a board, answered within its call
  at_once : ℕ → Access → Change
  -- an access of a board, answered as opened
  opens : ℕ → Access → Change
  -- a delivery that finishes the open access of a board
  finishes : ℕ → Change
  nothing : Change

abbrev pub access_change : ℕ → Access → Result Answer Fault → Change
access_change board access (Ok (Accessed (Answered word))) = at_once board access
access_change board access (Ok (Accessed Opened)) = opens board access
access_change board access (Ok (Arrived arrival)) = nothing
access_change board access (Ok Quiet) = nothing
access_change board access (Err fault) = nothing

abbrev pub delivery_change : Result Answer Fault → Change
delivery_change (Ok (Accessed answer)) = nothing
delivery_change (Ok (Arrived (Moved board kind hops))) = nothing
delivery_change (Ok (Arrived (Finished f))) = finishes f.board
delivery_change (Ok Quiet) = nothing
delivery_change (Err fault) = nothing

abbrev pub change : Call → Result Answer Fault → Change
change (Load board address) answer = access_change board (load address) answer
change (Store board address word) answer = access_change board (store address word) answer
change (Deliver pick) answer = delivery_change answer

abbrev pub IsDelivery : Call → Type 0
IsDelivery (Load board address) = ⊥
IsDelivery (Store board address word) = ⊥
IsDelivery (Deliver pick) = Unit {0}

abbrev pub OnlyDeliveries : History → Type 0
OnlyDeliveries [] = Unit {0}
OnlyDeliveries (e ∷ h) = IsDelivery e.call × OnlyDeliveries h
