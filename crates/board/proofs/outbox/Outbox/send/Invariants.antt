use Rattle.std.proofs.Common.{◌+◌, ◌≤◌, length, take}
use Rattle.wire.specs.Bags.{size}
use Rattle.wire.specs.Links.{Sent, InTurn}
use Rattle.board.proofs.outbox.Outbox.send.Given as goal

abbrev pub invariant-loop-message : goal.invariant-loop-message
invariant-loop-message g l =
    Sent g.L.Link.limit g.L.Link.waiting (take l.message-index l.message-items) l.initial.link l.link
    × InTurn g.L.Choice.joins (take l.message-index l.message-items) l.initial.link l.link
    × (size (g.L.Link.waiting l.initial.link) + length l.message-items ≤ g.L.Link.limit l.initial.link)
