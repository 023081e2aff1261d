-- A function changed at one number, and sums and counts over the numbers below n.
use Rattle.std.proofs.Common.{◌≡◌, ℕ, zero, suc, ◌+◌, ◌*◌, ◌<◌, ◌≤◌, Bool, true, false, eqb, sym, refl, ap, ◌∙◌, inl, inr, arith}
use Rattle.std.proofs.lemmas.Bool.Decides.{nat_tests}
use Rattle.std.proofs.lemmas.Bool.{cases_eq, cond-true, cond-false, eq-eqb, ne_eqb}
use Rattle.memory.specs.Functions.{changed}
use Rattle.memory.proofs.model.Sums.{sum_to, bit, count}

pub changed_same : {X : Type 0} (f : ℕ → X) (i : ℕ) (v : X) → changed f i v i ≡ v
changed_same f i v = cond-true (eqb i i) v (f i) (eq-eqb i i refl)

pub changed_other : {X : Type 0} (f : ℕ → X) (i : ℕ) (v : X) (x : ℕ) → (x ≡ i → ⊥) → changed f i v x ≡ f x
changed_other f i v x ne = cond-false (eqb x i) v (f x) (ne_eqb x i ne)

-- what holds of each board, after a change at one
pub changed_both : {X : Type 0} (P : ℕ → X → Type 0) (f : ℕ → X) (i : ℕ) (v : X) (x : ℕ) → P i v → ((x ≡ i → ⊥) → P x (f x)) → P x (changed f i v x)
changed_both P f i v x this that = elim (cases_eq x i) [ inl p ↦ rw (p, changed_same f i v) this | inr p ↦ rw (changed_other f i v x p) (that p) ]

-- the value that is there already
pub changed_self_at : {X : Type 0} (f : ℕ → X) (b : ℕ) (v : X) → v ≡ f b → (x : ℕ) → changed f b v x ≡ f x
changed_self_at f b v e x = grind (arith, nat_tests)

sum_same : (n : ℕ) (f g : ℕ → ℕ) → ((x : ℕ) → x < n → g x ≡ f x) → sum_to n g ≡ sum_to n f
sum_same zero f g h = refl
sum_same (suc n) f g h = omega (arith, h n (omega arith), sum_same n f g (λ x l. h x (omega arith)))

-- one summand changed: the sum changes by the difference
pub sum_one : (n i : ℕ) (f g : ℕ → ℕ) → i < n → ((x : ℕ) → (x ≡ i → ⊥) → g x ≡ f x) → sum_to n g + f i ≡ sum_to n f + g i
sum_one zero i f g l h = omega arith
sum_one (suc n) i f g l h =
    elim (cases_eq n i) [
      | inl e ↦ omega (arith, sum_same n f g (λ x k. h x (omega arith)), ap f e, ap g e)
      | inr e ↦ omega (arith, sum_one n i f g (omega arith) h, h n e)
    ]

pub sum_le : (n : ℕ) (f g : ℕ → ℕ) → ((x : ℕ) → x < n → f x ≤ g x) → sum_to n f ≤ sum_to n g
sum_le zero f g h = omega arith
sum_le (suc n) f g h = omega (arith, h n (omega arith), sum_le n f g (λ x l. h x (omega arith)))

pub sum_less : (n a : ℕ) (f g : ℕ → ℕ) → ((x : ℕ) → g x ≤ f x) → a < n → g a < f a → sum_to n g < sum_to n f
sum_less zero a f g h l k = omega arith
sum_less (suc n) a f g h l k = elim (cases_eq n a) [
  | inl e ↦ omega (arith, sum_le n g f (λ x _. h x), ap f e, ap g e)
  | inr e ↦ omega (arith, sum_less n a f g h (omega arith) k, h n)
]

pub sum_part : (n i : ℕ) (f : ℕ → ℕ) → i < n → f i ≤ sum_to n f
sum_part zero i f l = omega arith
sum_part (suc n) i f l = elim (cases_eq n i) [ inl e ↦ omega (arith, ap f e) | inr e ↦ omega (arith, sum_part n i f (omega arith)) ]

pub sum_times : (n c : ℕ) (f : ℕ → ℕ) → sum_to n (λ x. c * f x) ≡ c * sum_to n f
sum_times zero c f = omega arith
sum_times (suc n) c f = omega (arith, sum_times n c f)

pub sum_each : (n c : ℕ) (f : ℕ → ℕ) → ((x : ℕ) → f x ≤ c) → sum_to n f ≤ n * c
sum_each zero c f h = omega arith
sum_each (suc n) c f h = omega (arith, h n, sum_each n c f h)

pub sum_zero : (n : ℕ) (f : ℕ → ℕ) → ((s : ℕ) → f s ≡ 0) → sum_to n f ≡ 0
sum_zero zero f h = refl
sum_zero (suc n) f h = omega (arith, h n, sum_zero n f h)

count_le : (n : ℕ) (p : ℕ → Bool) → count n p ≤ n
count_le zero p = omega arith
count_le (suc n) p = grind (arith, count_le n p)

-- one more number counted
pub count_more : (n i : ℕ) (p : ℕ → Bool) → i < n → p i ≡ false → count n (changed p i true) ≡ count n p + 1
count_more n i p l e =
    omega (arith, ap bit e, ap bit (changed_same p i true), sum_one n i (λ x. bit (p x)) (λ x. bit (changed p i true x)) l (λ x ne. ap bit (changed_other p i true x ne)))

-- a number that is not counted leaves room for one, and two leave room for two
pub count_room_one : (n i : ℕ) (c : ℕ → Bool) → i < n → c i ≡ false → count n c + 1 ≤ n
count_room_one n i c l e = omega (arith, count_more n i c l e, count_le n (changed c i true))

pub count_room : (n i j : ℕ) (p : ℕ → Bool) → i < n → j < n → (i ≡ j → ⊥) → p i ≡ false → p j ≡ false → count n p + 2 ≤ n
count_room n i j p l k ne e d = omega (arith, count_more n i p l e, count_more n j (changed p i true) k (changed_other p i true j (λ q. ne (sym q)) ∙ d), count_le n (changed (changed p i true) j true))
