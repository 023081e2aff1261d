-- What a call on a running kit does, and what becomes of every history that led to the kit.
use Rattle.std.specs.Prelude.{◌≡◌, ℕ, List, [], ◌∷◌, ◌++◌, Some, None, Ok, Option, Result, OnErr}
use Rattle.std.proofs.Common.{inl, inr}
use Rattle.wire.specs.Bags.{Bag}
use Rattle.wire.specs.Links.{InTurn}
use Rattle.wire.specs.declared.fault.Fault.{Fault}
use Rattle.wire.specs.declared.message.Message.{Message}
use Rattle.memory.specs.declared.answer.Answer.{Answer}
use Rattle.memory.specs.declared.answer.Answer.TheVariants.{Quiet}
use Rattle.memory.specs.declared.call.Call.{Call}
use Rattle.memory.specs.declared.call.Call.TheVariants.{Load, Store, Deliver}
use Rattle.memory.specs.Calls as calls
use Rattle.memory.specs.Calls.{DoesCall}
use Rattle.memory.specs.Histories.{History}
use Rattle.memory.specs.Kits.{Kit}
use Rattle.memory.specs.OneMemory.{OneMemory}
use Rattle.memory.specs.Placements.{array}
use Rattle.memory.specs.declared.placement.Placement.{Placement}
use Rattle.memory.specs.Promises.{NothingIsRefused}
use Rattle.memory.specs.Reached.{MayBegin, begun, Reached}
use Rattle.memory.specs.Willing.{Willing}
use Rattle.kit.specs.Clusters.{kit_of, over}
use Rattle.kit.specs.OpenedCount.{openings, counted, opened_after}
use Rattle.kit.specs.declared.running.Running.{Running}

-- a running kit's boards, its link, and how many accesses it has opened
abbrev pub running_kit : {L : Type 0} → Running L → Kit
running_kit r = kit_of r.cluster

abbrev pub running_link : {L : Type 0} → Running L → L
running_link r = r.link

abbrev pub opened_count : {L : Type 0} → Running L → ℕ
opened_count r = r.opened

module _ {L : Type 0} (limit : L → ℕ) (waiting : L → Bag Message) where
  abbrev pub running_of : Running L → calls.Running
  running_of r = over (running_kit r) (limit (running_link r)) (waiting (running_link r))

  -- the boards, the meaning of the link and the count are as they were; where the link itself is, so is the whole kit
  pub record MeansTheSame (before after : Running L) : Type 0 where
    pub running : running_of after ≡ running_of before
    pub opened : opened_count after ≡ opened_count before
    pub whole : running_link after ≡ running_link before → after ≡ before

  -- a load or a store that is refused changes nothing, and a quiet delivery nothing but what the link keeps to itself
  abbrev pub NothingChanges : Call → Result Answer Fault → Running L → Running L → Type 0
  NothingChanges (Load board address) answer before after = OnErr answer (after ≡ before)
  NothingChanges (Store board address word) answer before after = OnErr answer (after ≡ before)
  NothingChanges (Deliver pick) answer before after = answer ≡ Ok Quiet → MeansTheSame before after

  -- a history of a kit that began so leads to r
  pub record LeadsTo (n p first_limit : ℕ) (placements : List Placement) (history : History) (r : Running L) : Type 0 where
    pub reached : Reached (begun n p first_limit placements) history (running_of r)
    pub opened : opened_count r ≡ counted (openings history)

  -- it leads to r, it is one memory and that of a willing kit, and of what waits nothing is refused
  pub record Kept (n p first_limit : ℕ) (placements : List Placement) (history : History) (r : Running L) : Type 0 where
    pub leads : LeadsTo n p first_limit placements history r
    pub one_memory : OneMemory n (array placements) history
    pub willing : Willing n p (array placements) history
    pub not_refused : NothingIsRefused n (running_of r)

module _ {L : Type 0} (limit : L → ℕ) (waiting : L → Bag Message) (joins : L → Message → Result (Unit {0}) Fault → L → Type 0) (chooses : L → ℕ → Option Message → L → Type 0) where
  -- A load or a store posts on the link; a delivery takes from it first, with the pick. What is posted joins the link in its order.
  abbrev pub LinkDoes : (call : Call) (s : calls.Running) (answer : Result Answer Fault) (posted : List Message) (t : calls.Running) → DoesCall call s answer posted t → L → L → Type 0
  LinkDoes (Load board address) s answer posted t does before after = InTurn joins posted before after
  LinkDoes (Store board address word) s answer posted t does before after = InTurn joins posted before after
  LinkDoes (Deliver pick) s answer posted t (inl quiet) before after = chooses before pick None after
  LinkDoes (Deliver pick) s answer posted t (inr delivers) before after = (between : L) × chooses before pick (Some delivers.message) between × InTurn joins posted between after

  -- a call on r is answered, and leaves t
  pub record GoesOn (call : Call) (answer : Result Answer Fault) (r t : Running L) : Type 0 where
    pub posted : List Message
    -- the answer, the messages, the tables and what waits are those of the call's meaning
    pub does : DoesCall call (running_of limit waiting r) answer posted (running_of limit waiting t)
    pub link : LinkDoes call (running_of limit waiting r) answer posted (running_of limit waiting t) does (running_link r) (running_link t)
    pub opened : opened_count t ≡ opened_after (opened_count r) answer
    pub unchanged : NothingChanges limit waiting call answer r t
    -- every history that led to r leads to t with this call, and is one memory
    pub kept : (n p first_limit : ℕ) (placements : List Placement) → MayBegin n p first_limit placements → (history : History) → LeadsTo limit waiting n p first_limit placements history r →
        Kept limit waiting n p first_limit placements (history ++ record { call = call; answer = answer; posted = posted } ∷ []) t
