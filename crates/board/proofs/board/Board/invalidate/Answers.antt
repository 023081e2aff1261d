use Rattle.std.proofs.Common.{rules}
use Rattle.wire.specs.BoardSets.{has}
use Rattle.board.proofs.Invalidating.{one_more}
use Rattle.board.proofs.board.Board.invalidate.Goals.{then-contains, else-contains}
use Rattle.board.proofs.board.Board.invalidate.Goals as goal

pub loop-board-preserved : goal.loop-board-preserved
loop-board-preserved c =
    let more = one_more c.args.self.now.number c.args.page (has c.args.copies) c.loop-board.board in
    elim c.if-contains.branch [ then-contains w ↦ search rules | else-contains w ↦ search rules ]
