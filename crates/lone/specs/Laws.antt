-- Laws of a lone board, whatever messages have come to it.
use Rattle.std.specs.Prelude.{◌≡◌, ℕ, ◌<◌, true}
use Rattle.board.specs.Serving.{owns}
use Rattle.lone.specs.Forms.{reads}
use Rattle.lone.specs.LoneBoards.{lone_of}
use Rattle.lone.specs.Tables.{entry_at}
use Rattle.lone.specs.declared.lone_board.LoneBoard.{LoneBoard}

-- an owner's access is never none
abbrev pub OwnersRead : Type 0
OwnersRead = (b : LoneBoard) (page : ℕ) → page < 16 → let l = lone_of b in let e = entry_at l.table page in owns l.state.number e ≡ true → reads e.access ≡ true
