-- The form of a message: what is asked of it before it is written, after it is read, and where it arrives.
use Rattle.std.specs.Prelude.{◌≡◌, ℕ, Bool, true, false, not, ◌&&◌, ◌⊎◌, List, [], ◌∷◌, Decides, ◌==◌, nat_le, nat_lt}
use Rattle.wire.specs.BoardSets.{has, is_empty}
use Rattle.wire.specs.Faults.{number}
use Rattle.wire.specs.Kinds.{kind_number}
use Rattle.wire.specs.Messages.{most_hops}
use Rattle.wire.specs.Questions.{inside}
use Rattle.wire.specs.declared.fault.Fault.TheVariants.{NoSuchKind, BadParties, PageOrHopsTooLarge, BrokenKindForm}
use Rattle.wire.specs.declared.message.Kind.{Kind}
use Rattle.wire.specs.declared.message.Kind.TheVariants.{ReadRequest, WriteRequest, Copy, Grant, Invalidate, Acknowledgement}
use Rattle.wire.specs.declared.message.Message.{Message}

-- board numbers and pages that a message can name
abbrev pub board_limit : ℕ
board_limit = 16

abbrev pub page_limit : ℕ
page_limit = 16

-- from, to and asker are numbers of boards, and no board sends to itself
abbrev pub has_parties : Message → Bool
has_parties m = nat_lt m.from board_limit && nat_lt m.to board_limit && nat_lt m.asker board_limit && not (m.from == m.to)

abbrev pub in_range : Message → Bool
in_range m = nat_lt m.page page_limit && nat_le m.hops most_hops

abbrev pub all_zero : List ℕ → Bool
all_zero [] = true
all_zero (n ∷ ns) = n == 0 && all_zero ns

-- neither words nor a copy set
abbrev pub carries_nothing : Message → Bool
carries_nothing m = all_zero m.words && is_empty m.copies

abbrev pub asked_by_receiver : Message → Bool
asked_by_receiver m = m.asker == m.to

abbrev pub asked_by_sender : Message → Bool
asked_by_sender m = m.asker == m.from

abbrev pub no_hops : Message → Bool
no_hops m = m.hops == 0

-- what each kind carries, and for whom
abbrev pub form_of : Kind → Message → Bool
form_of ReadRequest m = carries_nothing m
form_of WriteRequest m = carries_nothing m
form_of Copy m = is_empty m.copies && asked_by_receiver m
form_of Grant m = not (has m.copies m.to) && asked_by_receiver m
form_of Invalidate m = carries_nothing m && asked_by_sender m && no_hops m
form_of Acknowledgement m = carries_nothing m && asked_by_receiver m && no_hops m

abbrev pub kind_form : Message → Bool
kind_form m = form_of m.kind m

-- The questions 11 to 14, the kind given by its number. In a record 14 also asks that the bytes without a use are zero:
-- blank says so.
abbrev pub form_questions : ℕ → Bool → Message → List (ℕ × Bool)
form_questions kind blank m =
    (number NoSuchKind, inside 1 6 kind) ∷ (number BadParties, has_parties m) ∷ (number PageOrHopsTooLarge, in_range m)
    ∷ (number BrokenKindForm, blank && kind_form m) ∷ []

abbrev pub message_questions : Message → List (ℕ × Bool)
message_questions m = form_questions (kind_number m.kind) true m

-- The form of the kinds once more, field by field.
pub record FormKept (m : Message) : Type 0 where
  -- words come with a copy or a grant alone
  pub words : all_zero m.words ≡ false → (m.kind ≡ Copy) ⊎ (m.kind ≡ Grant)
  -- a copy set comes with a grant alone, and lacks the receiver
  pub copies : is_empty m.copies ≡ false → m.kind ≡ Grant
  pub receiver : m.kind ≡ Grant → has m.copies m.to ≡ false
  -- the asker is the receiver of a copy, a grant and an acknowledgement, and the sender of an invalidate
  pub asker_receives : (m.kind ≡ Copy) ⊎ (m.kind ≡ Grant) ⊎ (m.kind ≡ Acknowledgement) → m.asker ≡ m.to
  pub asker_sends : m.kind ≡ Invalidate → m.asker ≡ m.from
  -- an invalidate and an acknowledgement are not passed on
  pub hops : (m.kind ≡ Invalidate) ⊎ (m.kind ≡ Acknowledgement) → m.hops ≡ 0

-- both tell the same
abbrev pub FormsAgree : Type 0
FormsAgree = (m : Message) → Decides (kind_form m) (FormKept m)
