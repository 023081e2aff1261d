-- Following hints from board to board: who still reaches whom when a hint is turned round, and no cycle below a root.
use Rattle.std.proofs.Common.{◌≡◌, ℕ, ◌⊎◌, sym, refl, ◌∙◌, inl, inr}
use Rattle.std.proofs.lemmas.Bool.{cases_eq}
use Rattle.memory.proofs.model.Tree.{Reach, here, step, Turned}

-- who reaches b from x, and is not there yet, reaches it from the next board
reach_on : {f : ℕ → ℕ} {x y b : ℕ} → (b ≡ x → ⊥) → f x ≡ y → Reach f b x → Reach f b y
reach_on ne e (here h) = absurd (ne (sym h))
reach_on ne e (step g r) = rw (sym g ∙ e) at r

-- from a fixed point nothing else is reached
pub reach_fixed : {f : ℕ → ℕ} {b x : ℕ} → f x ≡ x → Reach f b x → x ≡ b
reach_fixed e (here h) = h
reach_fixed {f} e (step {y = y} g r) = let q : f y ≡ y = cc in cc (reach_fixed q r)

module _ {f g : ℕ → ℕ} {a u v : ℕ} (t : Turned f g a u v) where
  -- who reaches b still does, unless b is the board that passed the request on
  one : {b x y : ℕ} → (b ≡ u → ⊥) → f u ≡ v → f x ≡ y → (x ≡ a) ⊎ (x ≡ a → ⊥) → (x ≡ u) ⊎ (x ≡ u → ⊥) → Reach g b y → Reach g b x
  one ne at_u e (inl p) q s = reach_on (λ k. ne (cc)) (cc) s
  one {y = y} ne at_u e (inr p) (inl q) s = step {y = a} (cc) (step {y = y} (cc) s)
  one ne at_u e (inr p) (inr q) s = step (t.rest _ p q ∙ e) s

  pub keeps : {b x : ℕ} → (b ≡ u → ⊥) → f u ≡ v → Reach f b x → Reach g b x
  keeps ne at_u (here e) = here e
  keeps {x = x} ne at_u (step e r) = one ne at_u e (cases_eq x a) (cases_eq x u) (keeps ne at_u r)

  -- the same where u was the root
  one_root : {b x y : ℕ} → (b ≡ u → ⊥) → f u ≡ u → f x ≡ y → (x ≡ a) ⊎ (x ≡ a → ⊥) → (x ≡ u) ⊎ (x ≡ u → ⊥) → Reach g b y → Reach g b x
  one_root ne at_u e (inl p) q s = reach_on (λ k. ne (cc)) (cc) s
  one_root {x = x} {y = y} ne at_u e (inr p) (inl q) s = let k : y ≡ x = cc in rw k at s
  one_root ne at_u e (inr p) (inr q) s = step (t.rest _ p q ∙ e) s

  pub keeps_root : {b x : ℕ} → (b ≡ u → ⊥) → f u ≡ u → Reach f b x → Reach g b x
  keeps_root ne at_u (here e) = here e
  keeps_root {x = x} ne at_u (step e r) = one_root ne at_u e (cases_eq x a) (cases_eq x u) (keeps_root ne at_u r)

  -- who reached u reaches a
  one_new : {x y : ℕ} → f x ≡ y → (x ≡ a) ⊎ (x ≡ a → ⊥) → (x ≡ u) ⊎ (x ≡ u → ⊥) → Reach g a y → Reach g a x
  one_new e (inl p) q s = here p
  one_new e (inr p) (inl q) s = step {y = a} (cc) (here refl)
  one_new e (inr p) (inr q) s = step (t.rest _ p q ∙ e) s

  pub comes : {x : ℕ} → Reach f u x → Reach g a x
  comes {x} (here e) = step {y = a} (cc) (here refl)
  comes {x} (step e r) = one_new e (cases_eq x a) (cases_eq x u) (comes r)

-- on a cycle through a, all that a reaches lies on it
round : {f : ℕ → ℕ} {a u b x : ℕ} → f a ≡ u → Reach f a u → Reach f a x → Reach f b x → Reach f a b
round e c k (here h) = rw h at k
round {f} {a} {u} {b} {x} e c k (step {y = y} h r) = elim (cases_eq a x) [
  | inl p ↦ round e c (let q : u ≡ y = cc in rw q at c) r
  | inr p ↦ round e c (reach_on p h k) r
]

-- so below a root there is none
pub no_cycle : {f : ℕ → ℕ} {a u r : ℕ} → f r ≡ r → (a ≡ r → ⊥) → f a ≡ u → Reach f r a → Reach f a u → ⊥
no_cycle fix ne e top c = ne (sym (reach_fixed fix (round e c (here refl) top)))

-- what holds of the next board where it holds of a board holds of whoever is reached
pub walk : {f : ℕ → ℕ} {b x : ℕ} (P : ℕ → Type 0) → ((y : ℕ) → P y → P (f y)) → Reach f b x → P x → P b
walk P h (here e) p = rw e at p
walk P h (step {x} e r) p = walk P h r (rw e at (h x p))
