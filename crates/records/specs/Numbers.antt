-- Numbers in bytes, low byte first.
use Rattle.std.specs.Prelude.{ℕ, zero, suc, ◌+◌, ◌*◌, ◌/◌, ◌%◌, List, [], ◌∷◌, slice_index}

-- the byte at a place
abbrev pub byte : List ℕ → ℕ → ℕ
byte bs place = slice_index bs place

-- a number in so many bytes
abbrev pub low_first : ℕ → ℕ → List ℕ
low_first zero n = []
low_first (suc width) n = n % 256 ∷ low_first width (n / 256)

-- the number that so many bytes, from a place on, are
abbrev pub number_at : List ℕ → ℕ → ℕ → ℕ
number_at bs place zero = 0
number_at bs place (suc width) = byte bs place + 256 * number_at bs (place + 1) width
