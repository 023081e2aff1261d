use Rattle.std.proofs.Common.{◌≡◌, ◌+◌, ◌≤◌, ◌++◌, length}
use Rattle.board.specs.Boards.{queue}
use Rattle.board.specs.Outboxes.{posts, outbox_room}
use Rattle.board.specs.Serving.{entry_after, posts_for}
use Rattle.board.proofs.board.Board.serve_waiting.Given as goal

abbrev pub invariant-loop-request : goal.invariant-loop-request
invariant-loop-request l =
    (l.self.number ≡ l.initial.self.number) × (l.self.stage ≡ l.initial.self.stage)
    × (length (posts l.out) + length (queue l.self.waiting) ≤ outbox_room)
    × (entry_after l.self.number l.page l.entry (queue l.self.waiting) ≡ entry_after l.self.number l.page l.initial.entry (queue l.initial.self.waiting))
    × (posts l.out ++ posts_for l.self.number l.page l.entry (queue l.self.waiting) ≡ posts l.initial.out ++ posts_for l.self.number l.page l.initial.entry (queue l.initial.self.waiting))

abbrev pub decreases-loop-request : goal.decreases-loop-request
decreases-loop-request l = length (queue l.self.waiting)
