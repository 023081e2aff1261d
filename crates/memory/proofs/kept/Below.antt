-- Tests of the numbers below n: what holds of each where all pass, and which one fails where not all do.
use Rattle.std.proofs.Common.{◌≡◌, ℕ, zero, suc, ◌<◌, Bool, true, false, refl, ap, ◌∙◌, inl, inr, arith}
use Rattle.std.proofs.lemmas.Bool.{cases_eq, cases_Bool, both_ways}
use Rattle.memory.proofs.model.Kit.{none_below}
use Rattle.memory.proofs.model.Sums.{all_below}

pub none_true : (n : ℕ) (c : ℕ → Bool) → none_below n c ≡ true → (y : ℕ) → y < n → c y ≡ false
none_true zero c e y l = absurd (omega arith)
none_true (suc n) c e y l = elim (cases_Bool (c n)) [
  | inl h ↦ absurd (grind arith)
  | inr h ↦ elim (cases_eq y n) [ inl q ↦ ap c q ∙ h | inr q ↦ none_true n c (grind arith) y (omega arith) ]
]

-- the same of all numbers, where those that pass are below n
pub none_anywhere : (n : ℕ) (c : ℕ → Bool) → ((y : ℕ) → c y ≡ true → y < n) → none_below n c ≡ true → (y : ℕ) → c y ≡ false
none_anywhere n c inside e y = elim (cases_Bool (c y)) [ inl q ↦ none_true n c e y (inside y q) | inr q ↦ q ]

pub none_false : (n : ℕ) (c : ℕ → Bool) → none_below n c ≡ false → (y : ℕ) × (y < n) × (c y ≡ true)
none_false zero c e = absurd (both_ways true e refl)
none_false (suc n) c e = elim (cases_Bool (c n)) [
  | inl h ↦ (n, omega arith, h)
  | inr h ↦ let k = none_false n c (grind arith) in (k.0, omega (arith, k.1), k.2)
]

pub all_below_all : (n : ℕ) (f : ℕ → Bool) → ((y : ℕ) → y < n → f y ≡ true) → all_below n f ≡ true
all_below_all zero f h = refl
all_below_all (suc n) f h = let a = h n (omega arith) in let b = all_below_all n f (λ y l. h y (omega arith)) in grind arith

pub all_below_at : (n : ℕ) (f : ℕ → Bool) → all_below n f ≡ true → (y : ℕ) → y < n → f y ≡ true
all_below_at zero f e y l = absurd (omega arith)
all_below_at (suc n) f e y l =
    let both : (f n ≡ true) × (all_below n f ≡ true) = grind arith in
    elim (cases_eq y n) [ inl q ↦ ap f q ∙ both.0 | inr ne ↦ all_below_at n f both.1 y (omega arith) ]
