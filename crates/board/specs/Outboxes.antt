-- What an outbox holds.
use Rattle.std.specs.Prelude.{ℕ, List}
use Rattle.wire.specs.declared.message.Message.{Message}
use Rattle.board.specs.declared.outbox.Outbox.{Outbox}

-- the messages to be posted, in their order
abbrev pub posts : Outbox → List Message
posts out = out.messages.items

-- how many messages it has room for
abbrev pub outbox_room : ℕ
outbox_room = 16
