-- The code's bench, and what a script may have made of it.
use Rattle.std.specs.Prelude.{◌≡◌, ℕ, List, [], length, ⊤}
use Rattle.std.specs.Coded.{Unit-prop}
use Rattle.std.proofs.Math.Logic.{∥∥₁_prop}
use Rattle.std.proofs.Math.Nat.{ℕ_set}
use Rattle.wire.specs.Bags.{bag}
use Rattle.wire.specs.Links.{largest_limit}
use Rattle.wire.specs.declared.message.Message.{Message}
use Rattle.memory.specs.Calls as calls
use Rattle.memory.specs.Histories.{History}
use Rattle.memory.specs.Kits.{Kit}
use Rattle.memory.specs.Placements.{after_placing}
use Rattle.memory.specs.declared.placement.Placement.{Placement}
use Rattle.memory.specs.Reached.{MayBegin, begun, Reached}
use Rattle.kit.specs.Clusters.{over}
use Rattle.kit.specs.Loadings.{loading_kit, loading_link}
use Rattle.kit.specs.Runs.{running_kit, running_link}
use Rattle.script.specs.NamedLinks.{kind_of, limit_of, row_of}
use Rattle.script.specs.Plays as plays
use Rattle.script.specs.declared.bench.Bench.{Bench}
use Rattle.script.specs.declared.bench.Bench.TheVariants.{NoKit, Loading, Running}

abbrev pub bench_of : Bench → plays.Bench
bench_of NoKit = plays.no_kit
bench_of (Loading k) = plays.loading (kind_of (loading_link k)) (loading_kit k)
bench_of (Running k) = plays.running (kind_of (running_link k)) (running_kit k) (row_of (running_link k))

-- a kit over a link of the largest limit
abbrev pub over_link : Kit → List Message → calls.Running
over_link k row = over k largest_limit (bag row)

-- a kit that is loading has had words placed; one that is running has had a history since
pub record Began (k : Kit) : Type 0 where
  pub boards : ℕ
  pub pages : ℕ
  pub placements : List Placement
  pub may : MayBegin boards pages largest_limit placements
  pub kit : k ≡ after_placing boards pages placements

pub record Came (k : Kit) (row : List Message) : Type 0 where
  pub boards : ℕ
  pub pages : ℕ
  pub placements : List Placement
  pub may : MayBegin boards pages largest_limit placements
  pub history : History
  pub reached : Reached (begun boards pages largest_limit placements) history (over_link k row)

-- the link is one of the largest limit, on which nothing waits before the start, and the kit has come to be what it is
-- by the calls of kits
abbrev pub Ready : Bench → Type 0
Ready NoKit = ⊤
Ready (Loading k) =
    (limit_of (loading_link k) ≡ largest_limit) × (length (row_of (loading_link k)) ≡ 0) × ∥ Began (loading_kit k) ∥₁
Ready (Running k) =
    (limit_of (running_link k) ≡ largest_limit) × ∥ Came (running_kit k) (row_of (running_link k)) ∥₁

-- which can be so in one way alone
pub ready_prop : (b : Bench) → IsProp (Ready b)
ready_prop NoKit = Unit-prop
ready_prop (Loading k) =
    λ f g i. (ℕ_set _ _ f.0 g.0 i, ℕ_set _ _ f.1 g.1 i, ∥∥₁_prop {A = Began (loading_kit k)} f.2 g.2 i)
ready_prop (Running k) =
    λ f g i. (ℕ_set _ _ f.0 g.0 i, ∥∥₁_prop {A = Came (running_kit k) (row_of (running_link k))} f.1 g.1 i)

abbrev pub IsRunning : Bench → Type 0
IsRunning NoKit = ⊥
IsRunning (Loading k) = ⊥
IsRunning (Running k) = Unit {0}

-- the kit that was loading is running, with nothing on its link
abbrev pub Starts : Bench → Bench → Type 0
Starts NoKit after = after ≡ NoKit
Starts (Loading k) after =
    (bench_of after ≡ plays.running (kind_of (loading_link k)) (loading_kit k) []) × IsRunning after × Ready after
Starts (Running k) after = after ≡ Running k
