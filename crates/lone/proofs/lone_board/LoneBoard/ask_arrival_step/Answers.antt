use Rattle.std.proofs.Common.{rules, length}
use Rattle.wire.specs.Links.{room_questions}
use Rattle.wire.proofs.Questions.{rises, goes_on}
use Rattle.board.specs.Outboxes.{posts, outbox_room}
use Rattle.lone.specs.LoneBoards.{lone_of}
use Rattle.lone.specs.LoneQuestions.{arrival_questions}
use Rattle.lone.proofs.lone_board.LoneBoard.ask_arrival_step.Goals as goal

pub returns-in_err-ask_message-clause-refused : goal.returns-in_err-ask_message-clause-refused
returns-in_err-ask_message-clause-refused c =
    rises (arrival_questions (lone_of c.args.self.now) c.args.message.now) (room_questions outbox_room (length (posts c.args.out.now)) outbox_room)
    c.ask_message.result c.from_residual.result _ c.ask_message.ensures c.in_err-ask_message.was (search rules)

pub returns-clause-refused : goal.returns-clause-refused
returns-clause-refused c =
    goes_on (arrival_questions (lone_of c.args.self.now) c.args.message.now) (room_questions outbox_room (length (posts c.args.out.now)) outbox_room)
    c.ask_message.result c.ask_empty.result _ c.ask_message.ensures c.in_ok-ask_message.was c.ask_empty.ensures
