-- Messages.
use Rattle.std.specs.Prelude.{ℕ, replicate}
use Rattle.wire.specs.BoardSets.{no_boards}
use Rattle.wire.specs.declared.message.Kind.TheVariants.{ReadRequest}
use Rattle.wire.specs.declared.message.Message.{Message}

-- the most hops that a message can have
abbrev pub most_hops : ℕ
most_hops = 14

-- the message that stands in a row's places where none waits
abbrev pub blank : Message
blank = record { kind = ReadRequest; page = 0; from = 0; to = 0; asker = 0; hops = 0; copies = no_boards; words = replicate 16 0 }
