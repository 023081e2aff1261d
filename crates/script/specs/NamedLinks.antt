-- The link that a record named.
use Rattle.std.specs.Prelude.{ℕ, List}
use Rattle.wire.specs.Rows.{row, row_limit}
use Rattle.wire.specs.declared.message.Message.{Message}
use Rattle.script.specs.declared.call.LinkKind.{LinkKind}
use Rattle.script.specs.declared.call.LinkKind.TheVariants as kind
use Rattle.script.specs.declared.named_link.NamedLink.{NamedLink}
use Rattle.script.specs.declared.named_link.NamedLink.TheVariants.{Queue, Pool}

abbrev pub kind_of : NamedLink → LinkKind
kind_of (Queue q) = kind.Queue
kind_of (Pool p) = kind.Pool

abbrev pub limit_of : NamedLink → ℕ
limit_of (Queue q) = row_limit q
limit_of (Pool p) = row_limit p

-- the messages that wait on it, in order of posting
abbrev pub row_of : NamedLink → List Message
row_of (Queue q) = row q
row_of (Pool p) = row p
