-- What a kit promises of every history that it can have: whatever is called, over whatever link, in whatever order messages are delivered.
use Rattle.std.specs.Prelude.{◌≡◌, ℕ, ◌-◌, ◌*◌, ◌≤◌, List, None}
use Rattle.wire.specs.Bags.{Bag, ◌&◌, size}
use Rattle.wire.specs.Questions.{first_no}
use Rattle.wire.specs.declared.message.Message.{Message}
use Rattle.memory.specs.Calls.{Running, room, without, arrival_questions}
use Rattle.memory.specs.Histories.{History}
use Rattle.memory.specs.OneMemory.{OneMemory, OneMemoryWithin}
use Rattle.memory.specs.Placements.{array}
use Rattle.memory.specs.declared.placement.Placement.{Placement}
use Rattle.memory.specs.Reached.{MayBegin, begun, Reached}
use Rattle.memory.specs.Willing.{Willing}

-- something holds of every kit, of every history that it can have, and of the state that the history leads to
abbrev pub OfEveryHistory : (ℕ → ℕ → List Placement → History → Running → Type 0) → Type 0
OfEveryHistory Holds = (n p limit : ℕ) (placements : List Placement) → MayBegin n p limit placements →
    (history : History) (s : Running) → Reached (begun n p limit placements) history s → Holds n p placements history s

-- every history is one memory
abbrev pub IsOneMemory : Type 0
IsOneMemory = OfEveryHistory (λ n p placements history s. OneMemory n (array placements) history)

-- and is that of a willing kit
abbrev pub IsWilling : Type 0
IsWilling = OfEveryHistory (λ n p placements history s. Willing n p (array placements) history)

-- at most n × (n - 1) messages wait, so that no post is refused; and none that waits is refused by its receiver
pub record NothingIsRefused (n : ℕ) (s : Running) : Type 0 where
  pub few_wait : size s.waiting ≤ n * (n - 1)
  pub posts : first_no (room s) ≡ None
  pub arrivals : (m : Message) (rest : Bag Message) → s.waiting ≡ m & rest → first_no (arrival_questions (without s rest) m) ≡ None

abbrev pub NeverRefuses : Type 0
NeverRefuses = OfEveryHistory (λ n p placements history s. NothingIsRefused n s)

-- the same with other bounds on passing on and on deliveries
abbrev pub IsOneMemoryWithin : (ℕ → ℕ) → (ℕ → ℕ) → Type 0
IsOneMemoryWithin most each = OfEveryHistory (λ n p placements history s. OneMemoryWithin n (most n) (each n) (array placements) history)
