-- Writing and reading undo each other.
use Rattle.std.specs.Prelude.{◌≡◌, ℕ, ◌^◌, ◌<◌, List, length, None}
use Rattle.std.specs.List.{AllByRecursion}
use Rattle.wire.specs.BoardSets.{marks}
use Rattle.wire.specs.Questions.{first_no}
use Rattle.wire.specs.declared.message.Message.{Message}
use Rattle.records.specs.Forms.{message_questions}
use Rattle.records.specs.Layouts.{record_of, message_in, record_questions}

-- the message is accepted, and these bytes are its record
pub record Written (m : Message) (bs : List ℕ) : Type 0 where
  pub accepted : first_no (message_questions m) ≡ None
  pub bytes : bs ≡ record_of m

-- the bytes are accepted, and this message is in them
pub record Read (bs : List ℕ) (m : Message) : Type 0 where
  pub accepted : first_no (record_questions bs) ≡ None
  pub message : m ≡ message_in bs

-- what the code's types say of a message: sixteen boards that are members or not, and sixteen words of 32 bits
pub record Typed (m : Message) : Type 0 where
  pub boards : length (marks m.copies) ≡ 16
  pub words : length m.words ≡ 16
  pub wide : AllByRecursion (λ w. w < 2 ^ 32) m.words

abbrev pub Bytes : List ℕ → Type 0
Bytes bs = AllByRecursion (λ b. b < 256) bs

-- what was written is read back
abbrev pub ReadBack : Type 0
ReadBack = (m : Message) (bs : List ℕ) → Typed m → Written m bs → Read bs m

-- what was read is written back
abbrev pub WrittenBack : Type 0
WrittenBack = (m : Message) (bs : List ℕ) → Bytes bs → Read bs m → Written m bs

-- no two messages have one record
abbrev pub OneRecord : Type 0
OneRecord = (m n : Message) → Typed m → Typed n → record_of m ≡ record_of n → m ≡ n

-- no message has these bytes as its record
abbrev pub NoRecord : List ℕ → Type 0
NoRecord bs = (m : Message) → Typed m → Written m bs → ⊥

-- and bytes that are accepted are the record of a message
abbrev pub SomeRecord : List ℕ → Type 0
SomeRecord bs = (m : Message) × Typed m × Written m bs

abbrev pub AllRecords : Type 0
AllRecords = (bs : List ℕ) → Bytes bs → first_no (record_questions bs) ≡ None → SomeRecord bs
