-- Where no message of a page is on the link, nothing is open on the page.
use Rattle.std.proofs.Common.{◌≡◌, ℕ, ◌<◌, true, refl, ap, inl, inr, arith}
use Rattle.std.proofs.lemmas.Bool.{cases_Bool}
use Rattle.memory.proofs.model.Board.{Kind}
use Rattle.memory.proofs.model.Invariant.{Holders, Inv}
use Rattle.memory.proofs.model.Page.{deferred, Journey, home, asking, queued, copied, granted, clearing, Page, busy, place, is_clearing, mark, occ, quiet_mark, silent}
use Rattle.memory.proofs.model.Sums.{all_below}
use Rattle.memory.proofs.kept.Below.{all_below_at}
use Rattle.memory.proofs.kept.Following.{walk}
use Rattle.memory.proofs.kept.Sets.{facts}

module _ {W : Type 0} (n : ℕ) (v : W) (p : Page W) (i : Inv n v p) (rest : (y : ℕ) → y < n → silent n (p.journey y) ≡ true) where
  abbrev o : Holders n p
  o = i.core.holders

  abbrev Busy : ℕ → Type 0
  Busy y = (y < n) × (busy (p.journey y) ≡ true)

  -- where y's request waits there is a board that is busy
  host : (y u h : ℕ) (k : Kind) → p.journey y ≡ queued k u h → busy (p.journey u) ≡ true
  host y u h k e = elim (cases_Bool (busy (p.journey u))) [
    | inl q ↦ q
    | inr q ↦ absurd (let z = ap (occ y) (i.free u q) in grind (arith, facts, i.core.lists u y))
  ]

  next_busy : (y : ℕ) (t : Journey W) → p.journey y ≡ t → y < n → busy t ≡ true → busy (p.journey (place t y (p.entry y).hint)) ≡ true
  next_busy y home e l b = absurd (grind arith)
  next_busy y (asking k u h) e l b = absurd (grind (arith, rest y l))
  next_busy y (queued k u h) e l b = host y u h k e
  next_busy y (copied s h w) e l b = absurd (grind (arith, rest y l))
  next_busy y (granted s h c w) e l b = ap busy e
  next_busy y (clearing h m) e l b = ap busy e

  on : (y : ℕ) → Busy y → Busy (place (p.journey y) y (p.entry y).hint)
  on y q = (i.core.ways.inside y q.0, next_busy y (p.journey y) refl q.0 q.1)

  -- so the root is busy, and neither is a grant on its way to it nor does it await anyone
  root_stuck : Busy p.root → (t : Journey W) → p.journey p.root ≡ t → ⊥
  root_stuck q home e = grind (arith)
  root_stuck q (asking k u h) e = grind (arith, o.settled)
  root_stuck q (queued k u h) e = grind (arith, o.settled)
  root_stuck q (copied s h w) e = grind (arith, o.settled)
  root_stuck q (granted s h c w) e = grind (arith, rest p.root q.0)
  root_stuck q (clearing h m) e =
      let w = o.awaited (ap is_clearing e) in
      let y = w.0 in
      let l = o.marked y w.1 in
      let all : all_below n (λ x. quiet_mark (m x)) ≡ true = rw e at (rest p.root q.0) in
      let this : quiet_mark (m y) ≡ true = all_below_at n (λ x. quiet_mark (m x)) all y l in
      let is : mark p y ≡ deferred = grind (arith, w.1) in
      let s = rest y l in
      grind (arith, facts, o.waiting y is, i.core.tables.loads y, o.exact y)

  pub stuck : (x : ℕ) → x < n → busy (p.journey x) ≡ true → ⊥
  stuck x l b = root_stuck (walk Busy on (i.core.ways.tree x l) (l, b)) (p.journey p.root) refl
