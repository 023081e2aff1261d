-- A request joins those that wait, or is passed on, answered by a copy or answered by a grant: what is kept of the page stays so.
use Rattle.std.proofs.Common.{◌≡◌, ℕ, ◌<◌, true, List, sym, refl, ap, ◌∙◌, subst, arith, [], ◌∷◌, ◌++◌}
use Rattle.std.proofs.ByRecursion.{All-push}
use Rattle.std.specs.List.{AllByRecursion as All}
use Rattle.memory.specs.Functions.{changed}
use Rattle.memory.proofs.model.Board.{Kind, load, store, Req}
use Rattle.memory.proofs.model.Invariant.{Core}
use Rattle.memory.proofs.model.Page.{Journey, home, queued, Page, busy, place, queued_at, view, At, occ, asking, is_queued}
use Rattle.memory.proofs.model.Steps.{passed_on, copied_to, granted_to, joined}
use Rattle.memory.proofs.model.Sums.{bit}
use Rattle.memory.proofs.model.Tree as tree
use Rattle.memory.proofs.kept.HintTree.{forward_kept, grant_kept, state_path}
use Rattle.memory.proofs.kept.Roots.{own, no_owner}
use Rattle.memory.proofs.kept.Sets.{facts}
use Rattle.memory.proofs.kept.Sums.{changed_same, changed_both}
use Rattle.memory.proofs.kept.Waiting.{others_stay, told_after, occ_push}

module _ {W : Type 0} (n : ℕ) (v : W) (p : Page W) (i : Core n v p) where
  -- it waits, where an access is open
  pub joined_core : (a u h : ℕ) (k : Kind) → p.journey a ≡ asking k u h → Core n v (joined p a u k h)
  joined_core a u h k e =
      let o = i.holders in
      let t = i.tables in
      let d = i.words in
      record {
        ways = subst (tree.Inv n) (sym (state_path refl (λ x. grind (arith, facts)) (λ x. grind (arith, facts)) (λ x. grind (arith, facts)))) i.ways;
        holders = grind (arith, facts);
        tables = grind (arith, facts);
        words = grind (arith, facts);
        told = λ w. changed_both (λ y xs. All (λ (r : Req). changed p.journey a (queued k u h) r.asker ≡ queued r.kind y r.hops) xs) p.waits u (p.waits u ++ record { asker = a; kind = k; hops = h } ∷ []) w
            (All-push (λ (r : Req). changed p.journey a (queued k u h) r.asker ≡ queued r.kind u r.hops) (p.waits u) (record { asker = a; kind = k; hops = h }) (told_after i a (queued k u h) (ap is_queued e) u) (changed_same p.journey a (queued k u h)))
            (λ ne. told_after i a (queued k u h) (ap is_queued e) w);
        lists = λ w b. grind (arith, facts, i.lists w b, i.lists u b, occ_push b (record { asker = a; kind = k; hops = h }) (p.waits u));
      }

-- a request of a at u, which has nothing open; ws: the waiting lists without it
module _ {W : Type 0} (n : ℕ) (v : W) (p : Page W) (i : Core n v p) (u a h : ℕ) (k : Kind) (ws : ℕ → List Req) (at : At (p.journey a) k u h) (e : p.journey u ≡ home) (rest : (w b : ℕ) → occ b (ws w) ≡ bit (queued_at w (changed p.journey a home b))) (stays : (w : ℕ) → All (λ (r : Req). p.journey r.asker ≡ queued r.kind w r.hops) (ws w)) where
  -- the others in the lists wait as they did
  lists_after : (t : Journey W) (w : ℕ) → All (λ (r : Req). changed p.journey a t r.asker ≡ queued r.kind w r.hops) (ws w)
  lists_after t w = others_stay p.journey w a t (ws w) (grind (arith, facts, rest w a)) (stays w)

  at_busy : busy (p.journey a) ≡ true
  at_busy = grind arith

  at_place : (x y : ℕ) → place (p.journey a) x y ≡ u
  at_place x y = grind arith

  apart : u ≡ a → ⊥
  apart q = grind arith

  pub asker_in : a < n
  asker_in = (i.ways.askers a at_busy).in_range

  place_in : u < n
  place_in = rw (at_place a (p.entry a).hint) at (i.ways.inside a asker_in)

  -- the code tests whether u hints at itself: that says that u is the root
  pub owner : (p.entry u).hint ≡ u → u ≡ p.root
  owner q = own n v p i u place_in e q

  passes_view : view (passed_on p u a k h ws) ≡ tree.passed_on (view p) a u
  passes_view = state_path refl (λ x. grind (arith, facts)) (λ x. grind (arith, facts)) (λ x. grind (arith, facts))

  pub passes_core : ((p.entry u).hint ≡ u → ⊥) → Core n v (passed_on p u a k h ws)
  passes_core ne =
      let nr = no_owner n v p i u e ne in
      let o = i.holders in
      let t = i.tables in
      let d = i.words in
      record {
        ways = subst (tree.Inv n) (sym passes_view) (forward_kept a u i.ways at_busy (at_place a (p.entry a).hint) apart nr (ap busy e));
        holders = grind (arith, facts);
        tables = grind (arith, facts);
        words = grind (arith, facts);
        told = lists_after _;
        lists = grind (arith, facts);
      }

  copies_view : view (copied_to p u a h ws) ≡ view p
  copies_view = state_path refl (λ x. grind (arith, facts)) (λ x. grind (arith, facts)) (λ x. grind (arith, facts))

  pub copies_core : k ≡ load → (p.entry u).hint ≡ u → Core n v (copied_to p u a h ws)
  copies_core is q =
      let r = owner q in
      let in_u = place_in in
      let o = i.holders in
      let t = i.tables in
      let d = i.words in
      record {
        ways = subst (tree.Inv n) (sym copies_view) i.ways;
        holders = grind (arith, facts);
        tables = grind (arith, facts);
        words = grind (arith, facts);
        told = lists_after _;
        lists = grind (arith, facts);
      }

  grants_view : u ≡ p.root → view (granted_to p u a h ws) ≡ tree.granted (view p) a
  grants_view r = state_path refl (λ x. grind (arith, facts)) (λ x. grind (arith, facts)) (λ x. grind (arith, facts))

  pub grants_core : k ≡ store → (p.entry u).hint ≡ u → Core n v (granted_to p u a h ws)
  grants_core is q =
      let r = owner q in
      let o = i.holders in
      let t = i.tables in
      let d = i.words in
      record {
        ways = subst (tree.Inv n) (sym (grants_view r)) (grant_kept a i.ways at_busy (at_place a (p.entry a).hint ∙ r) (λ s. apart (r ∙ s)) (ap (λ x. busy (p.journey x)) (sym r) ∙ ap busy e));
        holders = grind (arith, facts);
        tables = grind (arith, facts);
        words = grind (arith, facts);
        told = lists_after _;
        lists = grind (arith, facts);
      }
