-- An invalidation or an acknowledgement comes: what is kept of the page stays so.
use Rattle.std.proofs.Common.{◌≡◌, ℕ, true, false, sym, refl, ap, subst, arith}
use Rattle.memory.specs.Functions.{changed}
use Rattle.memory.proofs.model.Invariant.{Core}
use Rattle.memory.proofs.model.Page.{Mark, unmarked, sent, deferred, acked, clearing, Page, awaits, rooted, loading, is_queued}
use Rattle.memory.proofs.model.Steps.{goes, dropped}
use Rattle.memory.proofs.model.Tree as tree
use Rattle.memory.proofs.kept.HintTree.{state_path}
use Rattle.memory.proofs.kept.Sets.{facts}
use Rattle.memory.proofs.kept.Waiting.{told_after}

module _ {W : Type 0} (n : ℕ) (v : W) (p : Page W) (i : Core n v p) where
  -- an invalidation comes, and waits or is done
  pub defer_core : (c x h : ℕ) (m : ℕ → Mark) → p.journey c ≡ clearing h m → m x ≡ sent → loading (p.journey x) ≡ true → Core n v (goes p c (clearing h (changed m x deferred)))
  defer_core c x h m e is open_load =
      let o = i.holders in
      let t = i.tables in
      let d = i.words in
      let r : c ≡ p.root = o.only c (ap rooted e) in
      record {
        ways = subst (tree.Inv n) (sym (state_path refl (λ x. grind (arith, facts)) (λ x. grind (arith, facts)) (λ x. grind (arith, facts)))) i.ways;
        holders = record {
          settled = grind (arith, facts);
          only = grind (arith, facts);
          exact = λ y. grind (arith, facts, o.exact y);
          awaited = λ _. (x, grind (arith, facts));
          marked = λ y. grind (arith, facts, o.marked y);
          apart = grind (arith, facts, o.apart, o.exact p.root);
          waiting = λ y. grind (arith, facts, o.waiting y);
        };
        tables = grind (arith, facts);
        words = grind (arith, facts);
        told = told_after i c _ (ap is_queued e);
        lists = grind (arith, facts, i.lists);
      }

  pub drop_core : (c x h : ℕ) (m : ℕ → Mark) → p.journey c ≡ clearing h m → m x ≡ sent → loading (p.journey x) ≡ false → Core n v (dropped p x c h m)
  drop_core c x h m e is other =
      let o = i.holders in
      let t = i.tables in
      let d = i.words in
      let r : c ≡ p.root = o.only c (ap rooted e) in
      record {
        ways = subst (tree.Inv n) (sym (state_path refl (λ x. grind (arith, facts)) (λ x. grind (arith, facts)) (λ x. grind (arith, facts)))) i.ways;
        holders = record {
          settled = grind (arith, facts);
          only = grind (arith, facts);
          exact = λ y. grind (arith, facts, o.exact y);
          awaited = λ _. (x, grind (arith, facts));
          marked = λ y. grind (arith, facts, o.marked y);
          apart = grind (arith, facts, o.apart, o.exact p.root);
          waiting = λ y. grind (arith, facts, o.waiting y);
        };
        tables = grind (arith, facts);
        words = grind (arith, facts);
        told = told_after i c _ (ap is_queued e);
        lists = grind (arith, facts, i.lists);
      }

  pub ack_core : (c x y h : ℕ) (m : ℕ → Mark) → p.journey c ≡ clearing h m → m x ≡ acked → awaits (m y) ≡ true → (y ≡ x → ⊥) → Core n v (goes p c (clearing h (changed m x unmarked)))
  ack_core c x y h m e is more ne =
      let o = i.holders in
      let t = i.tables in
      let d = i.words in
      let r : c ≡ p.root = o.only c (ap rooted e) in
      record {
        ways = subst (tree.Inv n) (sym (state_path refl (λ x. grind (arith, facts)) (λ x. grind (arith, facts)) (λ x. grind (arith, facts)))) i.ways;
        holders = record {
          settled = grind (arith, facts);
          only = grind (arith, facts);
          exact = λ y. grind (arith, facts, o.exact y);
          awaited = λ _. (y, grind (arith, facts));
          marked = λ y. grind (arith, facts, o.marked y);
          apart = grind (arith, facts, o.apart, o.exact p.root);
          waiting = λ y. grind (arith, facts, o.waiting y);
        };
        tables = grind (arith, facts);
        words = grind (arith, facts);
        told = told_after i c _ (ap is_queued e);
        lists = grind (arith, facts, i.lists);
      }
