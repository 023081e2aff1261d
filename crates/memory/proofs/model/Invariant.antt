-- What is kept of a page by every step.
use Rattle.std.specs.Prelude.{◌≡◌, ℕ, ◌<◌, true, false, []}
use Rattle.std.specs.List.{AllByRecursion as All}
use Rattle.memory.proofs.model.Board.{Req}
use Rattle.memory.proofs.model.Page.{deferred, queued, Page, denies, is_write, awaits, busy, rooted, is_clearing, is_granted, loading, queued_at, Carries, mark, cover, holder, view, occ}
use Rattle.memory.proofs.model.Sums.{bit}
use Rattle.memory.proofs.model.Tree as tree

module _ {W : Type 0} where
  -- the page has one root; only the root owns it, and what it covers is who holds the page
  pub record Holders (n : ℕ) (p : Page W) : Type 0 where
    pub settled : (busy (p.journey p.root) ≡ rooted (p.journey p.root))
    pub only : (x : ℕ) → rooted (p.journey x) ≡ true → x ≡ p.root
    pub exact : (x : ℕ) → cover p x ≡ holder p x
    pub awaited : is_clearing (p.journey p.root) ≡ true → (y : ℕ) × (awaits (mark p y) ≡ true)
    pub marked : (x : ℕ) → awaits (mark p x) ≡ true → x < n
    pub apart : awaits (mark p p.root) ≡ false
    pub waiting : (x : ℕ) → mark p x ≡ deferred → loading (p.journey x) ≡ true

  pub record Tables (n : ℕ) (p : Page W) : Type 0 where
    pub inside : (x : ℕ) → denies (p.entry x).access ≡ false → x < n
    pub owner : is_granted (p.journey p.root) ≡ false → denies (p.entry p.root).access ≡ false
    pub writer : (x : ℕ) → is_write (p.entry x).access ≡ true → (x ≡ p.root) × (busy (p.journey x) ≡ false)
    pub alone : (x y : ℕ) → is_write (p.entry x).access ≡ true → cover p y ≡ false
    pub loads : (x : ℕ) → loading (p.journey x) ≡ true → denies (p.entry x).access ≡ true

  pub record Data (v : W) (p : Page W) : Type 0 where
    pub table : (x : ℕ) → denies (p.entry x).access ≡ false → (p.entry x).words ≡ v
    pub carried : (x : ℕ) → Carries (p.journey x) v

  -- all but that who has nothing open has nobody waiting
  pub record Core (n : ℕ) (v : W) (p : Page W) : Type 0 where
    pub ways : tree.Inv n (view p)
    pub holders : Holders n p
    pub tables : Tables n p
    pub words : Data v p
    pub told : (u : ℕ) → All (λ (r : Req). p.journey r.asker ≡ queued r.kind u r.hops) (p.waits u)
    pub lists : (u a : ℕ) → occ a (p.waits u) ≡ bit (queued_at u (p.journey a))

  pub record Inv (n : ℕ) (v : W) (p : Page W) : Type 0 where
    pub core : Core n v p
    pub free : (u : ℕ) → busy (p.journey u) ≡ false → p.waits u ≡ []
