-- The record of a message: 80 bytes.
use Rattle.std.specs.Prelude.{ℕ, ◌+◌, ◌*◌, Bool, List, ◌∷◌, ◌++◌, map, length, replicate, ◌==◌}
use Rattle.std.specs.List.{between, range_with_len, flat_map}
use Rattle.std.specs.Option.{unwrap_or}
use Rattle.wire.specs.BoardBits.{set_bits, set_of_bits}
use Rattle.wire.specs.Faults.{number}
use Rattle.wire.specs.Kinds.{kind_number, kind_numbered}
use Rattle.wire.specs.declared.fault.Fault.TheVariants.{WrongLength}
use Rattle.wire.specs.declared.message.Kind.{Kind}
use Rattle.wire.specs.declared.message.Kind.TheVariants.{ReadRequest}
use Rattle.wire.specs.declared.message.Message.{Message}
use Rattle.records.specs.Forms.{form_questions, message_questions, all_zero}
use Rattle.records.specs.Numbers.{byte, low_first, number_at}

abbrev pub record_length : ℕ
record_length = 80

-- kind, page, from, to, asker, hops; the copy set in two bytes; eight zeros
abbrev pub head_of : Message → List ℕ
head_of m = kind_number m.kind ∷ m.page ∷ m.from ∷ m.to ∷ m.asker ∷ m.hops ∷ low_first 2 (set_bits m.copies) ++ replicate 8 0

-- then the sixteen words, in four bytes each
abbrev pub record_of : Message → List ℕ
record_of m = head_of m ++ flat_map (low_first 4) m.words

-- where word i stands
abbrev pub word_place : ℕ → ℕ
word_place i = 16 + 4 * i

unfoldable pub words_in : List ℕ → List ℕ
words_in bs = map (λ i. number_at bs (word_place i) 4) (range_with_len 0 16)

-- the message of a kind whose fields the bytes hold
abbrev pub fields_in : Kind → List ℕ → Message
fields_in kind bs = record {
  kind = kind;
  page = byte bs 1;
  from = byte bs 2;
  to = byte bs 3;
  asker = byte bs 4;
  hops = byte bs 5;
  copies = set_of_bits (number_at bs 6 2);
  words = words_in bs;
}

-- the message in the bytes; where byte 0 is no kind's number, that is asked about first, and the kind put here does not matter
abbrev pub message_in : List ℕ → Message
message_in bs = fields_in (unwrap_or (kind_numbered (byte bs 0)) ReadRequest) bs

-- the bytes 8 to 15 have no use
abbrev pub unused_zero : List ℕ → Bool
unused_zero bs = all_zero (between 8 16 bs)

-- reading asks for 80 bytes, and then of what is in them
abbrev pub record_questions : List ℕ → List (ℕ × Bool)
record_questions bs =
    (number WrongLength, length bs == record_length) ∷ form_questions (byte bs 0) (unused_zero bs) (message_in bs)

-- writing asks for 80 bytes of room, and then of the message
abbrev pub writing_questions : ℕ → Message → List (ℕ × Bool)
writing_questions room m = (number WrongLength, room == record_length) ∷ message_questions m
