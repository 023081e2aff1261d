-- Which of the waiting messages the links of a script hand over.
use Rattle.std.specs.Prelude.{ℕ, ◌%◌, List, [], ◌∷◌, Some, None, Option, get_or, length}
use Rattle.std.specs.List.{remove}
use Rattle.wire.specs.declared.message.Message.{Message}
use Rattle.script.specs.declared.call.LinkKind.{LinkKind}
use Rattle.script.specs.declared.call.LinkKind.TheVariants.{Queue, Pool}

-- a queue the oldest, a pool the one at place pick modulo how many wait
abbrev pub place_of : LinkKind → ℕ → ℕ → ℕ
place_of Queue pick waiting = 0
place_of Pool pick waiting = pick % waiting

-- a message taken from those that wait, and what is left
pub record Taken : Type 0 where
  pub message : Message
  pub rest : List Message

abbrev pub taken_at : ℕ → List Message → Option Taken
taken_at place [] = None
taken_at place (m ∷ ms) = Some (record { message = get_or (m ∷ ms) place m; rest = remove (m ∷ ms) place })

-- the message that this link hands over with this pick
abbrev pub taken : LinkKind → ℕ → List Message → Option Taken
taken link pick row = taken_at (place_of link pick (length row)) row
