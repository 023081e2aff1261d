-- A link that draws the message that it hands over.
use Rattle.std.specs.Prelude.{◌≡◌, ℕ, ◌+◌, ◌*◌, ◌/◌, ◌%◌, ◌^◌, length, Option, Result}
use Rattle.wire.specs.Bags.{Bag}
use Rattle.wire.specs.Links.{Joins, Chosen}
use Rattle.wire.specs.Rows.{row, held, row_limit}
use Rattle.wire.specs.declared.fault.Fault.{Fault}
use Rattle.wire.specs.declared.message.Message.{Message}
use Rattle.trials.specs.declared.lottery.Lottery.{Lottery}

-- the number that it drew last
abbrev pub drawn : Lottery → ℕ
drawn s = s.number

-- the number after this one
abbrev pub next : ℕ → ℕ
next n = (n * 1664525 + 1013904223) % 2 ^ 32

-- what it means: its limit, and the messages that wait on it. The numbers are its own.
abbrev pub limit_of : Lottery → ℕ
limit_of s = row_limit s.messages

abbrev pub waiting_on : Lottery → Bag Message
waiting_on s = held s.messages

-- its choice: a post leaves the numbers alone, and a take steps them, also where nothing waits
abbrev pub joins : Lottery → Message → Result (Unit {0}) Fault → Lottery → Type 0
joins s message r after = Joins message r (row s.messages) (row after.messages) × (drawn after ≡ drawn s)

abbrev pub draws : Lottery → ℕ → Option Message → Lottery → Type 0
draws s pick r after =
    Chosen (next (drawn s) / 65536 % length (row s.messages)) r (row s.messages) (row after.messages)
    × (drawn after ≡ next (drawn s))
