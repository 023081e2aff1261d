-- Sets of boards.
use Rattle.std.specs.Prelude.{ℕ, Bool, true, false, not, ◌&&◌, ◌||◌, List, [], ◌∷◌, replicate, drop, filter, slice_index_or, slice_set}
use Rattle.std.specs.List.{list_all, range_with_len}
use Rattle.wire.specs.declared.board_set.BoardSet.{BoardSet}

-- for each board, whether it is a member
abbrev pub marks : BoardSet → List Bool
marks s = s.members

abbrev pub marked : List Bool → BoardSet
marked bs = record { members = bs }

-- the board is a member
abbrev pub has : BoardSet → ℕ → Bool
has s board = slice_index_or (marks s) board false

abbrev pub none_of : List Bool → Bool
none_of [] = true
none_of (b ∷ bs) = not b && none_of bs

-- no board is a member
abbrev pub is_empty : BoardSet → Bool
is_empty s = none_of (marks s)

abbrev pub no_boards : BoardSet
no_boards = marked (replicate 16 false)

-- the set in which a board is a member or not
abbrev pub with_mark : BoardSet → ℕ → Bool → BoardSet
with_mark s board member = marked (slice_set (marks s) board member)

abbrev pub with_member : BoardSet → ℕ → BoardSet
with_member s board = with_mark s board true

abbrev pub without_member : BoardSet → ℕ → BoardSet
without_member s board = with_mark s board false

-- the members, in rising order
abbrev pub members : BoardSet → List ℕ
members s = filter (has s) (range_with_len 0 16)

-- all members have numbers below this
abbrev pub is_below : BoardSet → ℕ → Bool
is_below s boards = none_of (drop boards (marks s))

-- all members are members of the other
abbrev pub is_part : BoardSet → BoardSet → Bool
is_part s t = list_all (λ board. not (has s board) || has t board) (range_with_len 0 16)
