-- Who owns a page: of the boards with nothing open, the page's root alone hints at itself.
use Rattle.std.proofs.Common.{◌≡◌, ℕ, ◌<◌, ap, ◌∙◌, arith}
use Rattle.memory.proofs.model.Board.{none}
use Rattle.memory.proofs.model.Invariant.{Core}
use Rattle.memory.proofs.model.Page.{home, Page, place}
use Rattle.memory.proofs.kept.Following.{reach_fixed}
use Rattle.memory.proofs.kept.Sets.{facts}

module _ {W : Type 0} (n : ℕ) (v : W) (p : Page W) (i : Core n v p) where
  pub own : (a : ℕ) → a < n → p.journey a ≡ home → (p.entry a).hint ≡ a → a ≡ p.root
  own a l e q = let here_is : place (p.journey a) a (p.entry a).hint ≡ a = ap (λ t. place t a (p.entry a).hint) e ∙ q in reach_fixed here_is (i.ways.tree a l)

  pub no_owner : (a : ℕ) → p.journey a ≡ home → ((p.entry a).hint ≡ a → ⊥) → a ≡ p.root → ⊥
  no_owner a e ne q = let r = i.ways.root_fix in grind (arith, facts)

  pub no_access : (a : ℕ) → p.journey a ≡ home → (p.entry a).access ≡ none → a ≡ p.root → ⊥
  no_access a e free q = let t = i.tables in grind (arith, facts)
