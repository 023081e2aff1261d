-- A function changed at one number.
use Rattle.std.specs.Prelude.{ℕ, cond, ◌==◌}

abbrev pub changed : {X : Type 0} → (ℕ → X) → ℕ → X → ℕ → X
changed f i v x = cond (x == i) v (f x)
