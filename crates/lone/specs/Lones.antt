-- A lone board: its own state and its page table.
use Rattle.std.specs.Prelude.{ℕ, List, set}
use Rattle.board.specs.Boards.{BoardState, start_state}
use Rattle.board.specs.declared.entry.PageEntry.{PageEntry}
use Rattle.lone.specs.Tables.{start_table}

-- N and P, the board's own state, and its table, which has room for sixteen pages; what is past P stays as at the start
pub record Lone : Type 0 where
  pub boards : ℕ
  pub pages : ℕ
  pub state : BoardState
  pub table : List PageEntry

-- as that board of a kit starts
abbrev pub start_lone : ℕ → ℕ → ℕ → Lone
start_lone number boards pages = record { boards = boards; pages = pages; state = start_state number; table = start_table number }

-- after a step on a page
abbrev pub after_step : Lone → ℕ → BoardState → PageEntry → Lone
after_step l page state entry = record l { state = state; table = set l.table page entry }
