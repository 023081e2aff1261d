-- What the calls of a lone board do, by the rules of a board on the entry of one page.
use Rattle.std.specs.Prelude.{◌≡◌, ℕ, List, Result}
use Rattle.wire.specs.Bags.{Bag}
use Rattle.wire.specs.Links.{Sent, InTurn}
use Rattle.wire.specs.declared.fault.Fault.{Fault}
use Rattle.wire.specs.declared.message.Message.{Message}
use Rattle.board.specs.declared.answer.AccessAnswer.{AccessAnswer}
use Rattle.board.specs.declared.answer.Arrival.{Arrival}
use Rattle.board.specs.Addresses.{page_of}
use Rattle.board.specs.Openings.{Opening, load, store}
use Rattle.board.specs.Steps.{Step, arrive, answer_to}
use Rattle.lone.specs.Lones.{Lone, after_step}
use Rattle.lone.specs.Tables.{entry_at}

-- the board afterwards, the messages that it posts in their order, and its answer
pub record Outcome (A : Type 0) : Type 0 where
  pub board : Lone
  pub posts : List Message
  pub answer : A

abbrev pub opening : Lone → ℕ → Opening → Outcome AccessAnswer
opening l page o = record { board = after_step l page o.state o.entry; posts = o.posts; answer = o.answer }

abbrev pub load_at : Lone → ℕ → Outcome AccessAnswer
load_at l address = opening l (page_of address) (load l.state (entry_at l.table (page_of address)) address)

abbrev pub store_at : Lone → ℕ → ℕ → Outcome AccessAnswer
store_at l address word = opening l (page_of address) (store l.state (entry_at l.table (page_of address)) address word)

abbrev pub stepped : Lone → Message → Step → Outcome Arrival
stepped l m t = record { board = after_step l m.page t.state t.entry; posts = t.posts; answer = answer_to m l.state.number t.finished }

abbrev pub arrive_at : Lone → Message → Outcome Arrival
arrive_at l m = stepped l m (arrive l.state (entry_at l.table m.page) m)

-- the board afterwards, the outbox and the answer are those of an outcome; the outbox was empty before
abbrev pub Is : {A : Type 0} → Outcome A → Lone → List Message → A → Type 0
Is o board posts answer = (board ≡ o.board) × (posts ≡ o.posts) × (answer ≡ o.answer)

-- the same over a link, on which the messages are posted in their order
abbrev pub IsOver : {L A : Type 0} → (L → ℕ) → (L → Bag Message) → (L → Message → Result (Unit {0}) Fault → L → Type 0) → Outcome A → Lone → A → L → L → Type 0
IsOver limit waiting joins o board answer before after =
    (board ≡ o.board) × (answer ≡ o.answer) × Sent limit waiting o.posts before after × InTurn joins o.posts before after
