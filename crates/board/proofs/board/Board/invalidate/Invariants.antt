use Rattle.std.proofs.Common.{◌≡◌}
use Rattle.wire.specs.BoardSets.{has}
use Rattle.board.specs.Outboxes.{posts}
use Rattle.board.proofs.Invalidating.{to_first}
use Rattle.board.proofs.board.Board.invalidate.Given as goal

abbrev pub invariant-loop-board : goal.invariant-loop-board
invariant-loop-board l = posts l.out ≡ to_first l.initial.self.number l.page (has l.copies) l.board
