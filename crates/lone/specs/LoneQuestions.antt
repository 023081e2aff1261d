-- What a lone board asks.
use Rattle.std.specs.Prelude.{ℕ, Bool, ◌&&◌, List, [], ◌∷◌, ◌++◌, ◌==◌, nat_lt}
use Rattle.wire.specs.BoardSets.{is_below}
use Rattle.wire.specs.Faults.{number}
use Rattle.wire.specs.declared.fault.Fault.TheVariants.{
  NoSuchBoard,
  NoSuchAddress,
  AccessOpen,
  DoesNotBelong,
  NotExpected,
}
use Rattle.wire.specs.declared.message.Message.{Message}
use Rattle.records.specs.Forms.{message_questions}
use Rattle.board.specs.Expected.{expected}
use Rattle.board.specs.Stages.{is_idle}
use Rattle.lone.specs.Lones.{Lone}
use Rattle.lone.specs.Sizes.{size_questions, has_address}
use Rattle.lone.specs.Tables.{entry_at}

-- making it: how many boards and pages are there, and is it one of the boards?
abbrev pub lone_questions : ℕ → ℕ → ℕ → List (ℕ × Bool)
lone_questions me boards pages = size_questions boards pages ++ (number NoSuchBoard, nat_lt me boards) ∷ []

-- a load or a store: is the address below 16 P, and is no access open?
abbrev pub access_questions : Lone → ℕ → List (ℕ × Bool)
access_questions l address =
    (number NoSuchAddress, has_address l.pages address) ∷ (number AccessOpen, is_idle l.state.stage) ∷ []

-- a message is addressed here, all boards that it names are below N, and its page is below P
abbrev pub belongs : Lone → Message → Bool
belongs l m =
    m.to == l.state.number && nat_lt m.from l.boards && nat_lt m.asker l.boards && is_below m.copies l.boards
    && nat_lt m.page l.pages

abbrev pub expects : Lone → Message → Bool
expects l m = expected l.state (entry_at l.table m.page) m

-- a message that arrives: has it its form, does it belong here, and is it expected?
abbrev pub arrival_questions : Lone → Message → List (ℕ × Bool)
arrival_questions l m =
    message_questions m ++ (number DoesNotBelong, belongs l m) ∷ (number NotExpected, expects l m) ∷ []
