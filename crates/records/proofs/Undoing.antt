-- Writing and reading undo each other.
use Rattle.std.proofs.Common.{◌≡◌, ℕ, zero, suc, ◌+◌, ◌^◌, ◌<◌, ◌≤◌, Bool, true, List, [], ◌∷◌, ◌++◌, map, length, take, drop, replicate, unwrap_or, sym, refl, ap, ◌∙◌, append_assoc, arith}
use Rattle.std.specs.List.{between, range_with_len, AllByRecursion}
use Rattle.std.proofs.lemmas.List.{length-append, length-drop, drop_more, drop-drop, take_all, take-append-drop}
use Rattle.std.proofs.lemmas.List.Edits.{length-between}
use Rattle.std.proofs.lemmas.Bool.{eq-eqb}
use Rattle.std.proofs.lemmas.Bool.Decides.{nat_tests}
use Rattle.wire.specs.BoardBits.{set_bits, set_of_bits}
use Rattle.wire.specs.Kinds.{kind_number, kind_numbered}
use Rattle.wire.specs.Questions.{first_no, inside}
use Rattle.wire.specs.declared.message.Kind.{Kind}
use Rattle.wire.specs.declared.message.Kind.TheVariants.{ReadRequest, WriteRequest, Copy, Grant, Invalidate, Acknowledgement}
use Rattle.wire.specs.declared.message.Message.{Message}
use Rattle.records.specs.Forms.{form_questions, message_questions}
use Rattle.records.specs.Laws.{Typed, Bytes, ReadBack, WrittenBack, OneRecord, AllRecords}
use Rattle.records.specs.Layouts.{record_of, head_of, fields_in, message_in, record_questions, unused_zero, words_in, word_place}
use Rattle.records.specs.Numbers.{byte, low_first, number_at}
use Rattle.wire.proofs.BoardBits.{bits_below, set_back, bits_back}
use Rattle.records.proofs.Asking.{answers}
use Rattle.records.proofs.Bytewise.{number_back, bytes_back, number_below}
use Rattle.records.proofs.Zeros.{zeros_back}
use Rattle.records.proofs.WordBytes.{word_bytes, length_word_bytes, words_back, bytes_of_words}

same_message : (m n : Message) → m.kind ≡ n.kind → m.page ≡ n.page → m.from ≡ n.from → m.to ≡ n.to → m.asker ≡ n.asker → m.hops ≡ n.hops → m.copies ≡ n.copies → m.words ≡ n.words → m ≡ n
same_message m n a b c d e f g h = λ i. record { kind = a i; page = b i; from = c i; to = d i; asker = e i; hops = f i; copies = g i; words = h i }

kind_back : (k : Kind) → unwrap_or (kind_numbered (kind_number k)) ReadRequest ≡ k
kind_back ReadRequest = refl
kind_back WriteRequest = refl
kind_back Copy = refl
kind_back Grant = refl
kind_back Invalidate = refl
kind_back Acknowledgement = refl

-- the message is in its record
message_back : (m : Message) → Typed m → message_in (record_of m) ≡ m
message_back m typed =
    let head : List ℕ = kind_number m.kind ∷ m.page ∷ m.from ∷ m.to ∷ m.asker ∷ m.hops ∷ [] in
    let set = set_bits m.copies in
    let small : set < 256 ^ 2 = omega (arith, bits_below m.copies.members, ap (λ (k : ℕ). 2 ^ k) typed.boards) in
    let copies : number_at (record_of m) 6 2 ≡ set = number_back 2 set head (replicate 8 0 ++ word_bytes m.words) 6 refl small in
    same_message (message_in (record_of m)) m (kind_back m.kind) refl refl refl refl refl
    (ap set_of_bits copies ∙ set_back m.copies typed.boards)
    (words_back (head_of m) m.words refl typed.words typed.wide)

pub one_record : OneRecord
one_record m n s t e = sym (message_back m s) ∙ ap message_in e ∙ message_back n t

length_record : (m : Message) → Typed m → length (record_of m) ≡ 80
length_record m typed = omega (arith, length-append (head_of m) (word_bytes m.words), length_word_bytes m.words, typed.words)

-- of a record is asked what is asked of its message
asked_alike : (m : Message) → Typed m → first_no (record_questions (record_of m)) ≡ first_no (message_questions m)
asked_alike m typed =
    ap (λ (b : Bool). first_no ((10, b) ∷ form_questions (kind_number m.kind) true (message_in (record_of m)))) (eq-eqb (length (record_of m)) 80 (length_record m typed))
    ∙ ap (λ (n : Message). first_no (form_questions (kind_number m.kind) true n)) (message_back m typed)

pub read_back : ReadBack
read_back m bs typed w = record {
  accepted = ap (λ (xs : List ℕ). first_no (record_questions xs)) w.bytes ∙ asked_alike m typed ∙ w.accepted;
  message = sym (ap message_in w.bytes ∙ message_back m typed);
}

number_back_of_kind : (n : ℕ) → inside 1 6 n ≡ true → kind_number (unwrap_or (kind_numbered n) ReadRequest) ≡ n
number_back_of_kind n e = grind (arith, nat_tests)

module _ (bs : List ℕ) (l : length bs ≡ 80) where
  next : (place : ℕ) → place < 80 → drop place bs ≡ byte bs place ∷ drop (place + 1) bs
  next place h = drop_more bs place 0 (omega arith)

  part : (place width : ℕ) → drop place bs ≡ take width (drop place bs) ++ drop (place + width) bs
  part place width = sym (take-append-drop width (drop place bs)) ∙ ap (λ (xs : List ℕ). take width (drop place bs) ++ xs) (drop-drop width place bs)

  -- six bytes of fields, two of the copy set, eight without a use, and the words
  parts : bs ≡ byte bs 0 ∷ byte bs 1 ∷ byte bs 2 ∷ byte bs 3 ∷ byte bs 4 ∷ byte bs 5 ∷ (take 2 (drop 6 bs) ++ (between 8 16 bs ++ drop 16 bs))
  parts =
      let a = next 0 (omega arith) in
      let b = next 1 (omega arith) in
      let c = next 2 (omega arith) in
      let d = next 3 (omega arith) in
      let e = next 4 (omega arith) in
      let f = next 5 (omega arith) in
      let g = part 6 2 in
      let h = part 8 8 in
      cc

  module _ (small : Bytes bs) where
    words_again : word_bytes (words_in bs) ≡ drop 16 bs
    unfolding words_in
    words_again = bytes_of_words bs 0 16 small (omega arith) ∙ take_all 64 (drop 16 bs) (omega (arith, length-drop 16 bs))

    copies_again : low_first 2 (set_bits (set_of_bits (number_at bs 6 2))) ≡ take 2 (drop 6 bs)
    copies_again = ap (low_first 2) (bits_back (number_at bs 6 2) (number_below bs 6 2 small (omega arith))) ∙ bytes_back bs 6 2 small (omega arith)

    unused_again : unused_zero bs ≡ true → replicate 8 0 ≡ between 8 16 bs
    unused_again z = ap (λ (n : ℕ). replicate n 0) (sym (length-between bs 8 16 (omega arith))) ∙ sym (zeros_back (between 8 16 bs) z)

    -- the bytes are the record of the message in them
    bytes_again : (k : Kind) → byte bs 0 ≡ kind_number k → unused_zero bs ≡ true → bs ≡ record_of (fields_in k bs)
    bytes_again k e z =
        let whole = parts in
        let words = words_again in
        let copies = copies_again in
        let unused = unused_again z in
        let grouped = append_assoc (low_first 2 (set_bits (set_of_bits (number_at bs 6 2)))) (replicate 8 0) (word_bytes (words_in bs)) in
        cc

pub written_back : WrittenBack
written_back m bs small r =
    let yes = answers bs r.accepted in
    let number = number_back_of_kind (byte bs 0) yes.kind in
    record {
      accepted =
          ap (λ (n : Message). first_no (message_questions n)) r.message
          ∙ ap (λ (n : ℕ). first_no (form_questions n true (message_in bs))) number
          ∙ ap (λ (b : Bool). first_no (form_questions (byte bs 0) b (message_in bs))) (sym yes.unused)
          ∙ yes.form;
      bytes = bytes_again bs yes.long small (message_in bs).kind (sym number) yes.unused ∙ ap record_of (sym r.message);
    }

wide : (bs : List ℕ) (a n : ℕ) → Bytes bs → word_place (a + n) ≤ length bs → AllByRecursion (λ w. w < 2 ^ 32) (map (λ i. number_at bs (word_place i) 4) (range_with_len a n))
wide bs a zero small h = tt
wide bs a (suc n) small h = (number_below bs (word_place a) 4 small (omega arith), wide bs (a + 1) n small (omega arith))

typed_in : (bs : List ℕ) → Bytes bs → length bs ≡ 80 → Typed (message_in bs)
unfolding words_in set_of_bits
typed_in bs small l = record { boards = refl; words = refl; wide = wide bs 0 16 small (omega arith) }

pub all_records : AllRecords
all_records bs small e = (
  message_in bs,
  typed_in bs small (answers bs e).long,
  written_back (message_in bs) bs small (record { accepted = e; message = refl }),
)
