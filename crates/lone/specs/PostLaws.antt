-- What holds of the messages that a lone board posts in one call.
use Rattle.std.specs.Prelude.{◌≡◌, ℕ, ◌<◌, ◌≤◌, true, List, length, None}
use Rattle.std.specs.List.{AllByRecursion}
use Rattle.wire.specs.BoardSets.{is_below}
use Rattle.wire.specs.Questions.{first_no}
use Rattle.wire.specs.declared.message.Message.{Message}
use Rattle.records.specs.Forms.{message_questions}
use Rattle.board.specs.Outboxes.{outbox_room}
use Rattle.lone.specs.Lones.{Lone}

-- a message of board me has the form of its kind, so that it has a record, and names boards and a page of the kit alone
pub record GoodPost (boards pages me : ℕ) (m : Message) : Type 0 where
  pub form : first_no (message_questions m) ≡ None
  pub from : m.from ≡ me
  pub to : m.to < boards
  pub asker : m.asker < boards
  pub copies : is_below m.copies boards ≡ true
  pub page : m.page < pages

-- at most sixteen, each such a message
pub record GoodPosts (l : Lone) (posts : List Message) : Type 0 where
  pub few : length posts ≤ outbox_room
  pub each : AllByRecursion (GoodPost l.boards l.pages l.state.number) posts
