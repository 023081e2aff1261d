-- The bounds of the promise are the least, whatever the number of boards.
use Rattle.std.specs.Prelude.{ℕ, ◌-◌, ◌*◌, ◌≤◌}
use Rattle.memory.specs.Promises.{IsOneMemoryWithin}
use Rattle.memory.specs.Witnesses.{OfSomeHistory, PassedOn, TakesAll}

-- a request may be passed on n - 2 times, and one access may take all 3n - 4 deliveries
abbrev pub PassesThroughAll : Type 0
PassesThroughAll = (n : ℕ) → 2 ≤ n → n ≤ 16 → OfSomeHistory n (PassedOn (n - 2))

abbrev pub AllAreNeeded : Type 0
AllAreNeeded = (n : ℕ) → 2 ≤ n → n ≤ 16 → OfSomeHistory n (TakesAll n)

-- no bounds that hold are lower, for any number of boards
abbrev pub BoundsAreLeast : Type 0
BoundsAreLeast = (most each : ℕ → ℕ) → IsOneMemoryWithin most each → (n : ℕ) → 1 ≤ n → n ≤ 16 → (n - 2 ≤ most n) × (3 * n - 4 ≤ each n)
