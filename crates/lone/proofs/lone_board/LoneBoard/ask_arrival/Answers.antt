use Rattle.std.proofs.Common.{rules}
use Rattle.wire.specs.Bags.{size}
use Rattle.wire.specs.Links.{room_questions}
use Rattle.wire.proofs.Questions.{rises, goes_on}
use Rattle.board.specs.Outboxes.{outbox_room}
use Rattle.lone.specs.LoneBoards.{lone_of}
use Rattle.lone.specs.LoneQuestions.{arrival_questions}
use Rattle.lone.proofs.lone_board.LoneBoard.ask_arrival.Goals as goal

pub returns-in_err-ask_message-clause-refused : goal.returns-in_err-ask_message-clause-refused
returns-in_err-ask_message-clause-refused g c =
    rises (arrival_questions (lone_of c.args.self.now) c.args.message.now) (room_questions (g.L.Link.limit c.args.link.now) (size (g.L.Link.waiting c.args.link.now)) outbox_room)
    c.ask_message.result c.from_residual.result _ c.ask_message.ensures c.in_err-ask_message.was (search rules)

pub returns-clause-refused : goal.returns-clause-refused
returns-clause-refused g c =
    goes_on (arrival_questions (lone_of c.args.self.now) c.args.message.now) (room_questions (g.L.Link.limit c.args.link.now) (size (g.L.Link.waiting c.args.link.now)) outbox_room)
    c.ask_message.result c.ask_room.result _ c.ask_message.ensures c.in_ok-ask_message.was c.ask_room.ensures
