-- Sets of boards as numbers of sixteen bits.
use Rattle.std.specs.Prelude.{ℕ, ◌+◌, ◌*◌, ◌/◌, ◌%◌, ◌^◌, Bool, cond, List, [], ◌∷◌, map, ◌==◌}
use Rattle.std.specs.List.{range_with_len}
use Rattle.wire.specs.BoardSets.{marks, marked}
use Rattle.wire.specs.declared.board_set.BoardSet.{BoardSet}

-- the number whose bit i says whether the i-th is true
abbrev pub bits : List Bool → ℕ
bits [] = 0
bits (b ∷ bs) = cond b 1 0 + 2 * bits bs

abbrev pub bit : ℕ → ℕ → Bool
bit n i = n / 2 ^ i % 2 == 1

-- a set of boards has bit i for board i
abbrev pub set_bits : BoardSet → ℕ
set_bits s = bits (marks s)

unfoldable pub set_of_bits : ℕ → BoardSet
set_of_bits n = marked (map (bit n) (range_with_len 0 16))
