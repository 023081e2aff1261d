-- What a step of one board makes of its kit.
use Rattle.std.specs.Prelude.{◌≡◌, ◌≤◌, ℕ, List, length}
use Rattle.wire.specs.declared.message.Message.{Message}
use Rattle.board.specs.Outboxes.{outbox_room}
use Rattle.lone.specs.Calls.{Outcome}
use Rattle.memory.specs.Kits.{Kit, with_board}
use Rattle.kit.specs.Forms.{KitForm}

-- the board becomes what the outcome has, and the outbox and the answer are those of the outcome; the outbox was empty before
pub record Steps {A : Type 0} (board : ℕ) (o : Outcome A) (before after : Kit) (posts : List Message) (answer : A) : Type 0 where
  pub kit : after ≡ with_board before board o.board
  pub posted : posts ≡ o.posts
  pub few : length posts ≤ outbox_room
  pub answered : answer ≡ o.answer
  pub form : KitForm after
