-- A lone board as the rules see it.
use Rattle.board.specs.Boards.{state_of}
use Rattle.lone.specs.Lones.{Lone}
use Rattle.lone.specs.Sizes.{size_boards, size_pages}
use Rattle.lone.specs.declared.lone_board.LoneBoard.{LoneBoard}

abbrev pub lone_of : LoneBoard → Lone
lone_of b = record {
  boards = size_boards b.size;
  pages = size_pages b.size;
  state = state_of b.state;
  table = b.table.entries;
}
