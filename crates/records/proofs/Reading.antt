-- What the questions of a record come to, as its bytes are looked at one after the other.
use Rattle.std.proofs.Common.{◌≡◌, ℕ, Bool, true, ◌&&◌, eqb, List, [], ◌∷◌, length, Some, None, Option, Ok, unwrap_or, sym, ap, ◌∙◌, arith}
use Rattle.std.specs.Option.{ok_or}
use Rattle.std.proofs.lemmas.Bool.{eq-eqb}
use Rattle.std.proofs.lemmas.Bool.Decides.{nat_tests}
use Rattle.wire.specs.Kinds.{kind_number, kind_numbered}
use Rattle.wire.specs.Questions.{first_no, inside}
use Rattle.wire.specs.declared.fault.Fault.TheVariants.{NoSuchKind}
use Rattle.wire.specs.declared.message.Kind.{Kind}
use Rattle.wire.specs.declared.message.Kind.TheVariants.{ReadRequest}
use Rattle.wire.specs.declared.message.Message.{Message}
use Rattle.records.specs.Forms.{form_questions, message_questions, kind_form, has_parties, in_range}
use Rattle.records.specs.Laws.{Written, Read, Bytes, NoRecord}
use Rattle.records.specs.Layouts.{fields_in, message_in, record_questions, unused_zero}
use Rattle.records.specs.Numbers.{byte}
use Rattle.records.proofs.Undoing.{read_back, written_back}

pub no_record : (bs : List ℕ) (n : ℕ) → Some n ≡ first_no (record_questions bs) → NoRecord bs
no_record bs n e m typed w =
    let none : Some n ≡ None = e ∙ (read_back m bs typed w).accepted in
    let never : ◌≡◌ {A = ℕ} 0 1 = cc in
    omega arith

-- the kind that a conversion gave
named : (o : Option Kind) (k : Kind) → Ok k ≡ ok_or o NoSuchKind → Some k ≡ o
named None k e = let never : ◌≡◌ {A = ℕ} 0 1 = cc in absurd (omega arith)
named (Some x) k e = cc

number_of_kind : (n : ℕ) (k : Kind) → Some k ≡ kind_numbered n → n ≡ kind_number k
number_of_kind n k e = grind (arith, nat_tests)

-- the form's questions, by their answers
abbrev four : Bool → Bool → Bool → Bool → Option ℕ
four kind parties range form = first_no ((11, kind) ∷ (12, parties) ∷ (13, range) ∷ (14, form) ∷ [])

-- a message that is refused is refused in a record too, whatever the bytes without a use are
still_refused : (k p r f b : Bool) (n : ℕ) → Some n ≡ four k p r f → Some n ≡ four k p r (b && f)
still_refused k p r f b n e = grind (arith, nat_tests)

-- the bytes name the kind k, and hold the message m
pub form_broken : (bs : List ℕ) (k : Kind) (m : Message) (n : ℕ) → length bs ≡ 80 → Ok k ≡ ok_or (kind_numbered (byte bs 0)) NoSuchKind → m ≡ fields_in k bs → Some n ≡ first_no (message_questions m) → Some n ≡ first_no (record_questions bs)
form_broken bs k m n long e holds refused =
    let asked : eqb (length bs) 80 ≡ true = eq-eqb (length bs) 80 long in
    let some : Some k ≡ kind_numbered (byte bs 0) = named (kind_numbered (byte bs 0)) k e in
    let is : m ≡ message_in bs = holds ∙ ap (λ (o : Option Kind). fields_in (unwrap_or o ReadRequest) bs) some in
    let kind : kind_number m.kind ≡ byte bs 0 = ap (λ (x : Message). kind_number x.kind) holds ∙ sym (number_of_kind (byte bs 0) k some) in
    let still = still_refused (inside 1 6 (byte bs 0)) (has_parties m) (in_range m) (kind_form m) (unused_zero bs) n (refused ∙ ap (λ (x : ℕ). first_no (form_questions x true m)) kind) in
    cc

-- accepted bytes are the record of the message in them
pub both_ways : (bs : List ℕ) (m : Message) → Bytes bs → None ≡ first_no (record_questions bs) → m ≡ message_in bs → Read bs m × Written m bs
both_ways bs m small e is =
    let r : Read bs m = record { accepted = sym e; message = is } in
    (r, written_back m bs small r)
