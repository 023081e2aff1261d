-- A board asks for a page, clears the copies of it, or stores in it: what is kept of the page stays so.
use Rattle.std.proofs.Common.{◌≡◌, ℕ, ◌<◌, true, false, ◌⊎◌, sym, refl, ap, subst, arith}
use Rattle.memory.proofs.model.Board.{none, Kind, load}
use Rattle.memory.proofs.model.Invariant.{Core}
use Rattle.memory.proofs.model.Page.{Mark, home, asking, clearing, Page, rooted, is_queued, holder, view, marks}
use Rattle.memory.proofs.model.Sets.{has, nobody}
use Rattle.memory.proofs.model.Steps.{goes, stored_at}
use Rattle.memory.proofs.model.Tree as tree
use Rattle.memory.proofs.kept.CopySets.{copies_in}
use Rattle.memory.proofs.kept.HintTree.{open_kept, close_kept, state_path}
use Rattle.memory.proofs.kept.Roots.{own}
use Rattle.memory.proofs.kept.Sets.{facts}
use Rattle.memory.proofs.kept.Waiting.{told_after}

module _ {W : Type 0} (n : ℕ) (v : W) (p : Page W) (i : Core n v p) where
  -- a board that does not own the page asks for it
  ask_view : (k : Kind) (a : ℕ) → p.journey a ≡ home → view (goes p a (asking k (p.entry a).hint 0)) ≡ tree.opened (view p) a
  ask_view k a e = state_path refl (λ x. grind (arith, facts)) (λ x. grind (arith, facts)) (λ x. grind (arith, facts))

  pub ask_core : (k : Kind) (a : ℕ) → a < n → p.journey a ≡ home → (a ≡ p.root → ⊥) → (k ≡ load → (p.entry a).access ≡ none) → Core n v (goes p a (asking k (p.entry a).hint 0))
  ask_core k a l e ne is =
      let o = i.holders in
      let t = i.tables in
      let d = i.words in
      record {
        ways = subst (tree.Inv n) (sym (ask_view k a e)) (open_kept a i.ways l (omega (arith, i.ways.root_in)));
        holders = grind (arith, facts);
        tables = grind (arith, facts);
        words = grind (arith, facts);
        told = told_after i a _ (ap is_queued e);
        lists = grind (arith, facts, i.lists);
      }

  -- an owner with copies out clears them
  clear_view : (a : ℕ) (m : ℕ → Mark) → p.journey a ≡ home → (p.entry a).hint ≡ a → view (goes p a (clearing 0 m)) ≡ tree.opened (view p) a
  clear_view a m e q = state_path refl (λ x. grind (arith, facts)) (λ x. grind (arith, facts)) (λ x. grind (arith, facts))

  pub clear_core : (a y : ℕ) → a < n → p.journey a ≡ home → (p.entry a).hint ≡ a → has (p.entry a).copies y ≡ true → Core n v (goes p a (clearing 0 (marks (p.entry a).copies)))
  clear_core a y l e q c =
      let o = i.holders in
      let t = i.tables in
      let d = i.words in
      let r = own n v p i a l e q in
      let held : (x : ℕ) → has (p.entry a).copies x ≡ true → (x < n) × (x ≡ a → ⊥) = copies_in i a r e in
      let in_y = held y c in
      record {
        ways = subst (tree.Inv n) (sym (clear_view a (marks (p.entry a).copies) e q)) (open_kept a i.ways l (omega arith));
        holders = record {
          settled = grind (arith, facts);
          only = grind (arith, facts);
          exact = grind (arith, facts);
          awaited = λ _. (y, grind (arith, facts));
          marked = grind (arith, facts);
          apart = grind (arith, facts, o.exact a);
          waiting = grind (arith, facts);
        };
        tables = grind (arith, facts, λ (x : ℕ). t.alone x y);
        words = grind (arith, facts);
        told = told_after i a _ (ap is_queued e);
        lists = grind (arith, facts, i.lists);
      }

  -- a store is done at the root, where nobody else holds the page
  stored_view : (a : ℕ) (w : W) → a ≡ p.root → view (stored_at p a w) ≡ tree.closed (view p) a
  stored_view a w r = let fix = i.ways.root_fix in state_path refl (λ x. grind (arith, facts)) (λ x. grind (arith, facts)) (λ x. grind (arith, facts))

  pub stored_core : (a : ℕ) (f : W → W) (w : W) → a ≡ p.root → (p.journey a ≡ home) ⊎ (rooted (p.journey a) ≡ true) → ((x : ℕ) → holder p x ≡ false) → w ≡ v → Core n (f v) (stored_at p a (f w))
  stored_core a f w r j nobody is =
      let o = i.holders in
      let t = i.tables in
      let d = i.words in
      let l = i.ways.root_in in
      record {
        ways = subst (tree.Inv n) (sym (stored_view a (f w) r)) (close_kept a i.ways);
        holders = grind (arith, facts);
        tables = grind (arith, facts);
        words = record { table = λ x. grind (arith, facts, nobody x, t.writer x); carried = λ x. grind (arith, facts, nobody x, o.only x) };
        told = told_after i a home (grind (arith, o.settled));
        lists = λ u b. grind (arith, facts, i.lists u b);
      }
