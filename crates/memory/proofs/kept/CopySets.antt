-- The members of a copy set, at its owner or in a grant, are boards of the kit, and not the owner.
use Rattle.std.proofs.Common.{◌≡◌, ℕ, ◌<◌, true, ap, arith}
use Rattle.memory.proofs.model.Invariant.{Core}
use Rattle.memory.proofs.model.Page.{home, granted, Page, rooted}
use Rattle.memory.proofs.model.Sets.{has, Boards}
use Rattle.memory.proofs.kept.Sets.{facts}

module _ {W : Type 0} {n : ℕ} {v : W} {p : Page W} (i : Core n v p) where
  pub granted_in : (a s h : ℕ) (c : Boards) (w : W) → p.journey a ≡ granted s h c w → (x : ℕ) → has c x ≡ true → (x < n) × (x ≡ a → ⊥)
  granted_in a s h c w e x is =
      let o = i.holders in
      let t = i.tables in
      let r : a ≡ p.root = o.only a (ap rooted e) in
      let g = i.ways.askers x in
      grind (arith, facts, o.exact x, t.inside x)

  pub copies_in : (a : ℕ) → a ≡ p.root → p.journey a ≡ home → (x : ℕ) → has (p.entry a).copies x ≡ true → (x < n) × (x ≡ a → ⊥)
  copies_in a r e x is =
      let o = i.holders in
      let t = i.tables in
      let g = i.ways.askers x in
      grind (arith, facts, o.exact x, t.inside x)
