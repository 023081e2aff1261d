-- Sums, counts and tests over the numbers below n.
use Rattle.std.specs.Prelude.{ℕ, zero, suc, ◌+◌, Bool, true, cond, ◌&&◌}

abbrev pub sum_to : ℕ → (ℕ → ℕ) → ℕ
sum_to zero f = 0
sum_to (suc n) f = f n + sum_to n f

abbrev pub bit : Bool → ℕ
bit b = cond b 1 0

abbrev pub count : ℕ → (ℕ → Bool) → ℕ
count n p = sum_to n (λ i. bit (p i))

abbrev pub all_below : ℕ → (ℕ → Bool) → Bool
all_below zero f = true
all_below (suc n) f = f n && all_below n f
