-- What the boards of a kit keep, whatever is called.
use Rattle.std.specs.Prelude.{◌≡◌, ℕ, ◌<◌, true, length}
use Rattle.lone.specs.Forms.{lone_form}
use Rattle.memory.specs.Kits.{Kit, state_at, table_of, board_at}

-- a board stands under its own number, with sixteen pages, and has the form of a board by itself
pub record BoardForm (k : Kit) (board : ℕ) : Type 0 where
  pub number : (state_at k board).number ≡ board
  pub rows : length (table_of k board) ≡ 16
  pub form : lone_form (board_at k board) ≡ true

abbrev pub KitForm : Kit → Type 0
KitForm k = (board : ℕ) → board < k.boards → BoardForm k board
