-- A call on the code's running kit, over the link of a script, is what the bench says.
use Rattle.std.specs.Prelude.{IfNone}
use Rattle.std.proofs.Common.{◌≡◌, ℕ, List, [], ◌∷◌, ◌++◌, length, Ok, Option, Result, refl, ap, ◌∙◌, subst, inl, inr}
use Rattle.std.proofs.Math.Logic.{∥∥₁_elim, ∥∥₁_map}
use Rattle.std.proofs.Props.{props}
use Rattle.wire.specs.Bags.{bag}
use Rattle.wire.specs.Links.{largest_limit, Chosen}
use Rattle.wire.specs.Questions.{first_no, refusal}
use Rattle.wire.specs.declared.fault.Fault.{Fault}
use Rattle.wire.specs.declared.message.Message.{Message}
use Rattle.lone.specs.Calls as lone
use Rattle.memory.specs.Calls.{Running as State, DoesCall}
use Rattle.memory.specs.Histories.{Event}
use Rattle.memory.specs.Kits.{board_at}
use Rattle.memory.specs.Reached.{Reached, begun, onward}
use Rattle.memory.specs.declared.answer.Answer.{Answer as KitAnswer}
use Rattle.memory.specs.declared.call.Call.{Call as KitCall}
use Rattle.memory.specs.declared.call.Call.TheVariants.{Load, Store, Deliver}
use Rattle.kit.specs.Clusters.{kit_of}
use Rattle.kit.specs.Runs.{GoesOn, running_of}
use Rattle.kit.specs.Runs as runs
use Rattle.kit.specs.declared.running.Running.{Running}
use Rattle.script.proofs.Rows.{joins, in_turn}
use Rattle.script.proofs.Runs.{Says, access_asks, access_says, delivery_asks, arrival_says, quiet_says}
use Rattle.script.specs.Benches.{over_link, Came}
use Rattle.script.specs.Choosing.{place_of}
use Rattle.script.specs.NamedLinks.{kind_of, limit_of, row_of}
use Rattle.script.specs.Plays.{run_questions}
use Rattle.script.specs.declared.named_link.NamedLink.{NamedLink}

abbrev pub chooses : NamedLink → ℕ → Option Message → NamedLink → Type 0
chooses s pick r after =
    Chosen (place_of (kind_of s) pick (length (row_of s))) r (row_of s) (row_of after) × (kind_of after ≡ kind_of s)
    × IfNone r (after ≡ s)

abbrev pub Runs : KitCall → Result KitAnswer Fault → Running NamedLink → Running NamedLink → Type 0
Runs call answer r t = GoesOn limit_of (λ s. bag (row_of s)) joins chooses call answer r t

abbrev pub state : Running NamedLink → State
state r = running_of limit_of (λ s. bag (row_of s)) r

limit_kept : (call : KitCall) (s t : State) (a : KitAnswer) (posted : List Message) → DoesCall call s (Ok a) posted t →
    t.limit ≡ s.limit
limit_kept (Load board address) s t a posted does = ap (λ (x : State). x.limit) does.1.2
limit_kept (Store board address word) s t a posted does = ap (λ (x : State). x.limit) does.1.2
limit_kept (Deliver pick) s t a posted (inl q) = ap (λ (x : State). x.limit) q.3
limit_kept (Deliver pick) s t a posted (inr d) = ap (λ (x : State). x.limit) d.arrives.1.2

module _ (r t : Running NamedLink) (limit : limit_of r.link ≡ largest_limit) where
  here : state r ≡ over_link (kit_of r.cluster) (row_of r.link)
  here = rw limit refl

  asks_by : Came (kit_of r.cluster) (row_of r.link) →
      (call : KitCall) (answer : Result KitAnswer Fault) (posted : List Message) →
      DoesCall call (over_link (kit_of r.cluster) (row_of r.link)) answer posted (state t) →
      refusal answer ≡ first_no (run_questions (kit_of r.cluster) call)
  asks_by came (Load board address) answer posted does =
      access_asks (kit_of r.cluster) (row_of r.link) came board address
      (lone.load_at (board_at (kit_of r.cluster) board) address) answer posted (state t) does
  asks_by came (Store board address word) answer posted does =
      access_asks (kit_of r.cluster) (row_of r.link) came board address
      (lone.store_at (board_at (kit_of r.cluster) board) address word) answer posted (state t) does
  asks_by came (Deliver pick) answer posted does =
      delivery_asks (kit_of r.cluster) (row_of r.link) came pick answer posted (state t) does

  pub asks : ∥ Came (kit_of r.cluster) (row_of r.link) ∥₁ → (call : KitCall) (answer : Result KitAnswer Fault) →
      Runs call answer r t → refusal answer ≡ first_no (run_questions (kit_of r.cluster) call)
  asks came call answer g =
      ∥∥₁_elim came (Prim.hlevel props) (λ c. asks_by c call answer g.posted
      (subst (λ s. DoesCall call s answer g.posted (state t)) here g.does))

  -- what the bench says of the call, with the messages that it posts
  pub record Said (call : KitCall) (a : KitAnswer) : Type 0 where
    pub posted : List Message
    pub says : Says (kind_of r.link) (kit_of r.cluster) (row_of r.link) call a posted (kit_of t.cluster) (row_of t.link)
    pub kind : kind_of t.link ≡ kind_of r.link

  delivery_said : (pick : ℕ) (a : KitAnswer) (posted : List Message)
      (does : DoesCall (Deliver pick) (state r) (Ok a) posted (state t)) →
      runs.LinkDoes limit_of (λ s. bag (row_of s)) joins chooses (Deliver pick) (state r) (Ok a) posted
      (state t) does r.link t.link → Said (Deliver pick) a
  delivery_said pick a posted (inl q) chosen = record {
    posted = posted;
    says =
        quiet_says (kit_of r.cluster) (limit_of r.link) (row_of r.link) (kind_of r.link) pick a posted
        (state t) q chosen.0.0 ∙ rw chosen.0.1 refl;
    kind = chosen.1;
  }
  delivery_said pick a posted (inr d) link =
      let rows = in_turn posted link.0 t.link link.2 in
      record {
        posted = posted;
        says =
            arrival_says (kit_of r.cluster) (limit_of r.link) (row_of r.link) (kind_of r.link) pick a posted (state t) d
            (row_of link.0) (row_of t.link) link.1.0 rows.0;
        kind = rows.1 ∙ link.1.1;
      }

  pub said : (call : KitCall) (a : KitAnswer) → Runs call (Ok a) r t → Said call a
  said (Load board address) a g =
      let rows = in_turn g.posted r.link t.link g.link in
      record {
        posted = g.posted;
        says =
            access_says (kit_of r.cluster) (limit_of r.link) (row_of r.link) (kind_of r.link)
            (Load board address) board address (lone.load_at (board_at (kit_of r.cluster) board) address) a g.posted
            (state t) (row_of t.link) g.does rows.0;
        kind = rows.1;
      }
  said (Store board address word) a g =
      let rows = in_turn g.posted r.link t.link g.link in
      record {
        posted = g.posted;
        says =
            access_says (kit_of r.cluster) (limit_of r.link) (row_of r.link) (kind_of r.link)
            (Store board address word) board address
            (lone.store_at (board_at (kit_of r.cluster) board) address word) a g.posted (state t)
            (row_of t.link) g.does rows.0;
        kind = rows.1;
      }
  said (Deliver pick) a g = delivery_said pick a g.posted g.does g.link

  came_by : Came (kit_of r.cluster) (row_of r.link) → (call : KitCall) (a : KitAnswer) → Runs call (Ok a) r t →
      Came (kit_of t.cluster) (row_of t.link)
  came_by came call a g =
      let same_limit = limit_kept call (state r) (state t) a g.posted g.does ∙ limit in
      let e : Event = record { call = call; answer = Ok a; posted = g.posted } in
      let there : state t ≡ over_link (kit_of t.cluster) (row_of t.link) = rw same_limit refl in
      let reached = onward e came.reached (subst (λ s. DoesCall call s (Ok a) g.posted (state t)) here g.does) in
      record {
        boards = came.boards;
        pages = came.pages;
        placements = came.placements;
        may = came.may;
        history = came.history ++ e ∷ [];
        reached =
            subst (λ s. Reached (begun came.boards came.pages largest_limit came.placements)
            (came.history ++ e ∷ []) s) there reached;
      }

  pub came_on : ∥ Came (kit_of r.cluster) (row_of r.link) ∥₁ → (call : KitCall) (a : KitAnswer) → Runs call (Ok a) r t →
      (limit_of t.link ≡ largest_limit) × ∥ Came (kit_of t.cluster) (row_of t.link) ∥₁
  came_on came call a g =
      (limit_kept call (state r) (state t) a g.posted g.does ∙ limit, ∥∥₁_map came (λ c. came_by c call a g))
