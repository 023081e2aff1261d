-- A call, a request that is passed on or granted, and an access that ends leave the hints a tree, and each request a trail of boards that it does not meet again.
use Rattle.std.proofs.Common.{◌≡◌, ℕ, ◌+◌, ◌<◌, ◌≤◌, true, false, sym, refl, ap, ◌∙◌, inl, inr, arith}
use Rattle.std.proofs.lemmas.Bool.Decides.{nat_tests}
use Rattle.std.proofs.lemmas.Bool.{false_from_ne_true, cases_eq, both_ways}
use Rattle.memory.specs.Functions.{changed}
use Rattle.memory.proofs.model.Tree.{Reach, here, step, Turned, State, Trail, Asker, Inv, opened, passed_on, granted, closed, first}
use Rattle.memory.proofs.kept.Following.{reach_fixed, keeps, keeps_root, comes, no_cycle}
use Rattle.memory.proofs.kept.Sums.{changed_other, changed_both, count_more, count_room, sum_zero}

turned : (f : ℕ → ℕ) (a u v : ℕ) → f a ≡ u → (u ≡ a → ⊥) → Turned f (changed (changed f a v) u a) a u v
turned f a u v e ne = record { was = e; a_now = grind (arith, nat_tests); u_now = grind (arith, nat_tests); rest = λ x p q. grind (arith, nat_tests) }

-- the place of a request is neither its asker nor a board that passed it on: there is room for two more
bound_of : {n : ℕ} {f : ℕ → ℕ} {a h r : ℕ} → f r ≡ r → (a ≡ r → ⊥) → Reach f r a → a < n → f a < n → Trail n f a h → h + 2 ≤ n
bound_of {n} {f} {a} fix ne top l k t =
    let apart : (a ≡ f a) → ⊥ = λ e. ne (reach_fixed (sym e) top) in
    let new : t.seen (f a) ≡ false = false_from_ne_true (t.seen (f a)) (λ e. no_cycle fix ne refl top (t.below (f a) e)) in
    omega (arith, count_room n a (f a) t.seen l k apart t.other new, t.many)

asker_on : {n : ℕ} {f g : ℕ → ℕ} {a h : ℕ} → ((x : ℕ) → Reach f a x → Reach g a x) → Asker n f a h → Asker n g a h
asker_on k t = record {
  in_range = t.in_range;
  trail = record { seen = t.trail.seen; many = t.trail.many; other = t.trail.other; below = λ x e. k x (t.trail.below x e) };
  bound = t.bound;
}

-- hops changed at one board
by_board : {n : ℕ} {f : ℕ → ℕ} (hops : ℕ → ℕ) (a h b : ℕ) → Asker n f a h → ((b ≡ a → ⊥) → Asker n f b (hops b)) → Asker n f b (changed hops a h b)
by_board {n} {f} hops a h b this that = changed_both (λ x k. Asker n f x k) hops a h b this that

fresh : {n : ℕ} {f : ℕ → ℕ} {a : ℕ} → Trail n f a 0
fresh {n} = record { seen = λ _. false; many = sum_zero n (λ x. 0) (λ x. refl); other = refl; below = λ x e. absurd (both_ways false refl e) }

trail_more : {n : ℕ} {f g : ℕ → ℕ} {a u v h : ℕ} → Turned f g a u v → f u ≡ v → (u ≡ a → ⊥) → u < n → (Reach f a u → ⊥) → Trail n f a h → Trail n g a (h + 1)
trail_more {n} {g = g} {a = a} {u = u} t at_u ne l out k = record {
  seen = changed k.seen u true;
  many = omega (arith, count_more n u k.seen l (false_from_ne_true (k.seen u) (λ e. out (k.below u e))), k.many);
  other = changed_other k.seen u true a (λ e. ne (sym e)) ∙ k.other;
  below = λ x e. elim (cases_eq x u) [
    | inl p ↦ step {y = a} (ap g p ∙ t.u_now) (here refl)
    | inr p ↦ keeps t (λ q. ne (sym q)) at_u (k.below x (sym (changed_other k.seen u true x p) ∙ e))
  ];
}

pub open_kept : {n : ℕ} {s : State} (a : ℕ) → Inv n s → a < n → 2 ≤ n → Inv n (opened s a)
open_kept {n} {s} a i l ne = record {
  root_in = i.root_in;
  root_fix = i.root_fix;
  inside = i.inside;
  tree = i.tree;
  askers = λ b e. by_board s.hops a 0 b
      (record { in_range = l; trail = fresh; bound = omega arith })
      (λ p. i.askers b (sym (changed_other s.asked a true b p) ∙ e));
}

pub close_kept : {n : ℕ} {s : State} (a : ℕ) → Inv n s → Inv n (closed s a)
close_kept {n} {s} a i = record {
  root_in = i.root_in;
  root_fix = i.root_fix;
  inside = i.inside;
  tree = i.tree;
  askers = λ b e. let ne : b ≡ a → ⊥ = grind (arith, nat_tests) in rw (changed_other s.hops a 0 b ne) (i.askers b (grind (arith, nat_tests)));
}

pub forward_kept : {n : ℕ} {s : State} (a u : ℕ) → Inv n s → s.asked a ≡ true → s.next a ≡ u → (u ≡ a → ⊥) → (u ≡ s.root → ⊥) → s.asked u ≡ false → Inv n (passed_on s a u)
forward_kept {n} {s} a u i is at ne nr idle =
    let v = s.next u in
    let g = changed (changed s.next a v) u a in
    let t = turned s.next a u v at ne in
    let k = i.askers a is in
    let in_u : u < n = rw at at (i.inside a k.in_range) in
    let not_root : a ≡ s.root → ⊥ = λ e. ne (cc) in
    let fix : g s.root ≡ s.root = t.rest s.root (λ e. not_root (sym e)) (λ e. nr (sym e)) ∙ i.root_fix in
    let in_g : (x : ℕ) → x < n → g x < n = λ x l. grind (arith, nat_tests, i.inside x l, i.inside u in_u, k.in_range) in
    let up : (x : ℕ) → x < n → Reach g s.root x = λ x l. keeps t (λ e. nr (sym e)) refl (i.tree x l) in
    let longer : Trail n g a (s.hops a + 1) = trail_more t refl ne in_u (no_cycle i.root_fix not_root at (i.tree a k.in_range)) k.trail in
    record {
      root_in = i.root_in;
      root_fix = fix;
      inside = in_g;
      tree = up;
      askers = λ b e. by_board s.hops a (s.hops a + 1) b
          (record { in_range = k.in_range; trail = longer; bound = bound_of fix not_root (up a k.in_range) k.in_range (in_g a k.in_range) longer })
          (λ p. asker_on (λ x r. keeps t (λ q. both_ways (s.asked b) (ap s.asked q ∙ idle) e) refl r) (i.askers b e));
    }

pub grant_kept : {n : ℕ} {s : State} (a : ℕ) → Inv n s → s.asked a ≡ true → s.next a ≡ s.root → (s.root ≡ a → ⊥) → s.asked s.root ≡ false → Inv n (granted s a)
grant_kept {n} {s} a i is at ne idle =
    let t = turned s.next a s.root a at ne in
    let k = i.askers a is in
    record {
      root_in = k.in_range;
      root_fix = t.a_now;
      inside = λ x l. grind (arith, nat_tests, i.inside x l, k.in_range);
      tree = λ x l. comes t (i.tree x l);
      askers = λ b e. asker_on (λ x r. keeps_root t (λ q. both_ways (s.asked b) (ap s.asked q ∙ idle) e) i.root_fix r) (i.askers b e);
    }

pub first_inv : {n : ℕ} → 0 < n → Inv n first
first_inv l = record {
  root_in = l;
  root_fix = refl;
  inside = λ x k. l;
  tree = λ x k. step refl (here refl);
  askers = λ a e. absurd (both_ways false refl e);
}

-- the same root, hints and requests
pub state_path : {s t : State} → s.root ≡ t.root → ((x : ℕ) → s.next x ≡ t.next x) → ((x : ℕ) → s.asked x ≡ t.asked x) → ((x : ℕ) → s.hops x ≡ t.hops x) → s ≡ t
state_path a b c d = λ i. record { root = a i; next = λ x. b x i; asked = λ x. c x i; hops = λ x. d x i }
