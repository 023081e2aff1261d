-- A copy or a grant comes: what is kept of the page stays so.
use Rattle.std.proofs.Common.{◌≡◌, ℕ, ◌<◌, true, sym, refl, ap, subst, arith}
use Rattle.memory.specs.Functions.{changed}
use Rattle.memory.proofs.model.Invariant.{Core}
use Rattle.memory.proofs.model.Page.{Mark, deferred, acked, home, copied, granted, clearing, Page, busy, rooted, is_queued, mark, view}
use Rattle.memory.proofs.model.Sets.{has, Boards}
use Rattle.memory.proofs.model.Steps.{copy_came, copy_dropped, grant_came}
use Rattle.memory.proofs.model.Tree as tree
use Rattle.memory.proofs.kept.CopySets.{granted_in}
use Rattle.memory.proofs.kept.HintTree.{close_kept, state_path}
use Rattle.memory.proofs.kept.Sets.{facts}
use Rattle.memory.proofs.kept.Waiting.{others_stay, told_after}

module _ {W : Type 0} (n : ℕ) (v : W) (p : Page W) (i : Core n v p) where
  -- a copy comes
  pub copy_core : (a s h : ℕ) (w : W) → p.journey a ≡ copied s h w → (mark p a ≡ deferred → ⊥) → Core n v (copy_came p a s w)
  copy_core a s h w e ne =
      let o = i.holders in
      let t = i.tables in
      let d = i.words in
      let l = (i.ways.askers a (ap busy e)).in_range in
      record {
        ways = subst (tree.Inv n) {x = tree.closed (view p) a} (sym (state_path refl (λ x. grind (arith, facts)) (λ x. grind (arith, facts)) (λ x. grind (arith, facts)))) (close_kept a i.ways);
        holders = grind (arith, facts);
        tables = grind (arith, facts);
        words = grind (arith, facts, d.carried a);
        told = told_after i a _ (ap is_queued e);
        lists = grind (arith, facts, i.lists);
      }

  pub copy_drop_core : (a s h c g : ℕ) (m : ℕ → Mark) (w : W) → p.journey a ≡ copied s h w → p.journey c ≡ clearing g m → m a ≡ deferred → Core n v (copy_dropped p a s w c g m)
  copy_drop_core a s h c g m w e k is =
      let o = i.holders in
      let t = i.tables in
      let d = i.words in
      let r : c ≡ p.root = o.only c (ap rooted k) in
      record {
        ways = subst (tree.Inv n) {x = tree.closed (view p) a} (sym (state_path refl (λ x. grind (arith, facts)) (λ x. grind (arith, facts)) (λ x. grind (arith, facts)))) (close_kept a i.ways);
        holders = record {
          settled = grind (arith, facts);
          only = grind (arith, facts);
          exact = λ y. grind (arith, facts, o.exact y);
          awaited = λ _. (a, grind (arith, facts));
          marked = λ y. grind (arith, facts, o.marked y);
          apart = grind (arith, facts, o.apart, o.exact p.root);
          waiting = λ y. grind (arith, facts, o.waiting y);
        };
        tables = grind (arith, facts);
        words = grind (arith, facts);
        told = λ u. others_stay (changed p.journey c (clearing g (changed m a acked))) u a home (p.waits u) (grind (arith, facts, i.lists u a)) (told_after i c (clearing g (changed m a acked)) (ap is_queued k) u);
        lists = grind (arith, facts, i.lists);
      }

  -- a grant comes, with copies out
  pub grant_core : (a s h y : ℕ) (c : Boards) (w : W) → p.journey a ≡ granted s h c w → has c y ≡ true → Core n v (grant_came p a h c w)
  grant_core a s h y c w e is =
      let o = i.holders in
      let t = i.tables in
      let d = i.words in
      let r : a ≡ p.root = o.only a (ap rooted e) in
      let l = i.ways.root_in in
      let held : (x : ℕ) → has c x ≡ true → (x < n) × (x ≡ a → ⊥) = granted_in i a s h c w e in
      record {
        ways = subst (tree.Inv n) (sym (state_path refl (λ x. grind (arith, facts)) (λ x. grind (arith, facts)) (λ x. grind (arith, facts)))) i.ways;
        holders = record {
          settled = grind (arith, facts);
          only = grind (arith, facts);
          exact = grind (arith, facts);
          awaited = λ _. (y, grind (arith, facts));
          marked = grind (arith, facts);
          apart = grind (arith, facts, o.exact a);
          waiting = grind (arith, facts);
        };
        tables = grind (arith, facts);
        words = grind (arith, facts, d.carried a);
        told = told_after i a _ (ap is_queued e);
        lists = grind (arith, facts, i.lists);
      }
