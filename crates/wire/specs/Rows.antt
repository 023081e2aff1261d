-- What a row of messages holds.
use Rattle.std.specs.Prelude.{ℕ, List}
use Rattle.wire.specs.Bags.{Bag, bag}
use Rattle.wire.specs.declared.message.Message.{Message}
use Rattle.wire.specs.declared.row.Row.{Row}

-- the messages in it, oldest first
abbrev pub row : {O : Type 0} → Row O → List Message
row s = s.messages.items

-- the same without their order
abbrev pub held : {O : Type 0} → Row O → Bag Message
held s = bag (row s)

-- how many may be in it
abbrev pub row_limit : {O : Type 0} → Row O → ℕ
row_limit s = s.limit
