-- What is asked when a kit is made, and when a word is placed.
use Rattle.std.specs.Prelude.{ℕ, ◌+◌, ◌*◌, Bool, List, [], ◌∷◌, ◌++◌, ◌==◌, nat_le}
use Rattle.wire.specs.Faults.{number}
use Rattle.wire.specs.declared.fault.Fault.TheVariants.{NoSuchAddress, LimitTooLow, LinkNotEmpty}
use Rattle.lone.specs.Sizes.{size_questions, has_address}

-- is the link's limit at least N × N + 16, and is it empty?
abbrev pub link_questions : ℕ → ℕ → ℕ → List (ℕ × Bool)
link_questions n limit count = (number LimitTooLow, nat_le (n * n + 16) limit) ∷ (number LinkNotEmpty, count == 0) ∷ []

abbrev pub making_questions : ℕ → ℕ → ℕ → ℕ → List (ℕ × Bool)
making_questions n p limit count = size_questions n p ++ link_questions n limit count

-- is the address below 16 P?
abbrev pub place_questions : ℕ → ℕ → List (ℕ × Bool)
place_questions p address = (number NoSuchAddress, has_address p address) ∷ []
