-- A call on a running kit always has an outcome. So what is said of every history is not true for want of histories.
use Rattle.std.specs.Prelude.{◌≡◌, ℕ, List, [], Ok, Result}
use Rattle.wire.specs.Bags.{Bag, ◌&◌, empty}
use Rattle.wire.specs.declared.fault.Fault.{Fault}
use Rattle.wire.specs.declared.message.Message.{Message}
use Rattle.memory.specs.declared.answer.Answer.{Answer}
use Rattle.memory.specs.declared.answer.Answer.TheVariants.{Quiet}
use Rattle.memory.specs.declared.call.Call.{Call}
use Rattle.memory.specs.declared.call.Call.TheVariants.{Load, Store, Deliver}
use Rattle.memory.specs.Calls.{Running, Delivers, DoesCall}

-- something is an outcome: an answer, what is posted, and the state afterwards
abbrev pub HasOutcome : (Result Answer Fault → List Message → Running → Type 0) → Type 0
HasOutcome Is = (answer : Result Answer Fault) × (posted : List Message) × (t : Running) × Is answer posted t

-- in every state, reached or not
pub record NothingIsStuck : Type 0 where
  pub loads : (s : Running) (board address : ℕ) → HasOutcome (DoesCall (Load board address) s)
  pub stores : (s : Running) (board address word : ℕ) → HasOutcome (DoesCall (Store board address word) s)
  -- whichever of the waiting messages is taken
  pub deliveries : (s : Running) (m : Message) (rest : Bag Message) → s.waiting ≡ m & rest →
      HasOutcome (λ answer posted t. (d : Delivers s answer posted t) × (d.message ≡ m))
  pub quiet : (s : Running) (pick : ℕ) → s.waiting ≡ empty → DoesCall (Deliver pick) s (Ok Quiet) [] s
  -- and so no call is without one; a bag has no order, so which message a delivery takes cannot be said in general
  pub none_is_stuck : (s : Running) (call : Call) → (HasOutcome (DoesCall call s) → ⊥) → ⊥
