-- What the calls of a link do, over its limit and the messages that wait on it.
use Rattle.std.specs.Prelude.{◌≡◌, ℕ, ◌+◌, ◌<◌, ◌≤◌, Bool, List, [], ◌∷◌, ◌++◌, length, Some, None, Ok, Err, Option, Result, ◌==◌, nat_le, nat_lt}
use Rattle.std.specs.List.{insert}
use Rattle.wire.specs.Bags.{Bag, ◌⊕◌, Adds, Empty, size}
use Rattle.wire.specs.Faults.{number}
use Rattle.wire.specs.Questions.{first_no, refusal, inside}
use Rattle.wire.specs.declared.fault.Fault.{Fault}
use Rattle.wire.specs.declared.fault.Fault.TheVariants.{LinkNotEmpty, LimitOutOfRange, LinkFull}
use Rattle.wire.specs.declared.message.Message.{Message}

-- do fewer wait than the limit?
abbrev pub post_questions : ℕ → ℕ → List (ℕ × Bool)
post_questions limit count = (number LinkFull, nat_lt count limit) ∷ []

-- are so many places free?
abbrev pub room_questions : ℕ → ℕ → ℕ → List (ℕ × Bool)
room_questions limit count places = (number LinkFull, nat_le (count + places) limit) ∷ []

-- the largest limit that a link or a layer is made with
abbrev pub largest_limit : ℕ
largest_limit = 288

-- making a link with a limit: is it in range?
abbrev pub limit_questions : ℕ → List (ℕ × Bool)
limit_questions limit = (number LimitOutOfRange, inside 1 largest_limit limit) ∷ []

-- making a layer over a link on which count messages wait: is it empty? is the limit in range?
abbrev pub layer_questions : ℕ → ℕ → List (ℕ × Bool)
layer_questions count limit = (number LinkNotEmpty, count == 0) ∷ limit_questions limit

module _ {L : Type 0} (limit : L → ℕ) (waiting : L → Bag Message) where
  -- what a post leaves of s: one message more, or nothing changes
  abbrev pub AfterPost : L → Message → Result (Unit {0}) Fault → L → Type 0
  AfterPost s m (Ok x) t = Adds m (waiting s) (waiting t) × (limit t ≡ limit s)
  AfterPost s m (Err e) t = t ≡ s

  -- m is posted on s, which leaves t
  abbrev pub Posted : L → Message → Result (Unit {0}) Fault → L → Type 0
  Posted s m r t = (refusal r ≡ first_no (post_questions (limit s) (size (waiting s)))) × AfterPost s m r t

  -- a message is taken from s, which leaves t: nothing waits, before or after; or one of those that wait leaves,
  -- unaltered. The limit stays
  abbrev pub Taken : L → Option Message → L → Type 0
  Taken s None t = Empty (waiting s) × Empty (waiting t) × (limit t ≡ limit s)
  Taken s (Some m) t = Adds m (waiting t) (waiting s) × (limit t ≡ limit s)

  -- messages are posted on s, which leaves t: they join those that wait
  abbrev pub Sent : List Message → L → L → Type 0
  Sent ms s t = (waiting t ≡ ms ⊕ waiting s) × (limit t ≡ limit s)

  -- s becomes t by posts and takes
  pub data Used : L → L → Type 0 where
    unused : (s : L) → Used s s
    posting : (s t u : L) (m : Message) (r : Result (Unit {0}) Fault) → Used s t → Posted t m r u → Used s u
    taking : (s t u : L) (r : Option Message) → Used s t → Taken t r u → Used s u

  -- never do more messages wait than the limit, on a link that began empty
  abbrev pub NeverOver : Type 0
  NeverOver = (s t : L) → size (waiting s) ≡ 0 → Used s t → size (waiting t) ≤ limit t

-- Messages are posted one after another on s, which leaves t, and none is refused. By joins a link says how one post leaves it.
abbrev pub InTurn : {L : Type 0} → (L → Message → Result (Unit {0}) Fault → L → Type 0) → List Message → L → L → Type 0
InTurn joins [] s t = t ≡ s
InTurn {L} joins (m ∷ ms) s t = (u : L) × joins s m (Ok tt) u × InTurn joins ms u t

-- Links that keep their messages in order of posting.

-- a post that is not refused puts its message behind the others
abbrev pub Joins : Message → Result (Unit {0}) Fault → List Message → List Message → Type 0
Joins m (Ok x) before after = after ≡ before ++ m ∷ []
Joins m (Err e) before after = after ≡ before

-- the message at a place is taken: put back there, it would stand where it stood
abbrev pub Chosen : ℕ → Option Message → List Message → List Message → Type 0
Chosen place None before after = (before ≡ []) × (after ≡ [])
Chosen place (Some m) before after = (place < length before) × (before ≡ insert after place m)
