-- A kit: its boards' own states and page tables.
use Rattle.std.specs.Prelude.{ℕ, List, [], map, slice_index_or, slice_set}
use Rattle.std.specs.List.{range_with_len}
use Rattle.board.specs.Boards.{BoardState, start_state}
use Rattle.board.specs.declared.entry.PageEntry.{PageEntry}
use Rattle.lone.specs.Lones.{Lone}
use Rattle.lone.specs.Tables.{start_table}

-- N and P, and the tables, which have room for sixteen boards; what is past N or P stays as at the start
pub record Kit : Type 0 where
  pub boards : ℕ
  pub pages : ℕ
  pub states : List BoardState
  pub tables : List (List PageEntry)

-- a kit of n boards and p pages as it starts
abbrev pub start_kit : ℕ → ℕ → Kit
start_kit n p = record { boards = n; pages = p; states = map start_state (range_with_len 0 16); tables = map start_table (range_with_len 0 16) }

abbrev pub state_at : Kit → ℕ → BoardState
state_at k board = slice_index_or k.states board (start_state board)

abbrev pub table_of : Kit → ℕ → List PageEntry
table_of k board = slice_index_or k.tables board []

-- a board of the kit, as a board by itself
abbrev pub board_at : Kit → ℕ → Lone
board_at k board = record { boards = k.boards; pages = k.pages; state = state_at k board; table = table_of k board }

-- the kit with the state and the table of one board as they are there
abbrev pub with_board : Kit → ℕ → Lone → Kit
with_board k board l = record { boards = k.boards; pages = k.pages; states = slice_set k.states board l.state; tables = slice_set k.tables board l.table }
