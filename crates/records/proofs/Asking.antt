-- What the answers to the questions of a record tell of its bytes.
use Rattle.std.proofs.Common.{◌≡◌, ℕ, true, ◌&&◌, eqb, List, [], ◌∷◌, length, Some, None}
use Rattle.std.proofs.lemmas.Bool.{and_parts, eqb-true, ne_eqb}
use Rattle.wire.proofs.Questions.{yes}
use Rattle.wire.specs.Questions.{first_no, inside}
use Rattle.records.specs.Forms.{form_questions, kind_form, has_parties, in_range}
use Rattle.records.specs.Layouts.{message_in, record_questions, unused_zero}
use Rattle.records.specs.Numbers.{byte}

pub record Accepted (bs : List ℕ) : Type 0 where
  pub long : length bs ≡ 80
  pub form : first_no (form_questions (byte bs 0) (unused_zero bs) (message_in bs)) ≡ None
  pub kind : inside 1 6 (byte bs 0) ≡ true
  pub parties : has_parties (message_in bs) ≡ true
  pub range : in_range (message_in bs) ≡ true
  pub unused : unused_zero bs ≡ true

pub answers : (bs : List ℕ) → first_no (record_questions bs) ≡ None → Accepted bs
answers bs e =
    let m = message_in bs in
    let last = unused_zero bs && kind_form m in
    let ten = yes 10 (eqb (length bs) 80) (form_questions (byte bs 0) (unused_zero bs) m) e in
    let eleven = yes 11 (inside 1 6 (byte bs 0)) ((12, has_parties m) ∷ (13, in_range m) ∷ (14, last) ∷ []) ten.1 in
    let twelve = yes 12 (has_parties m) ((13, in_range m) ∷ (14, last) ∷ []) eleven.1 in
    let thirteen = yes 13 (in_range m) ((14, last) ∷ []) twelve.1 in
    let fourteen = yes 14 last [] thirteen.1 in
    record {
      long = eqb-true (length bs) 80 ten.0;
      form = ten.1;
      kind = eleven.0;
      parties = twelve.0;
      range = thirteen.0;
      unused = (and_parts (unused_zero bs) (kind_form m) fourteen.0).0;
    }

-- bytes of another number
pub other_length : (bs : List ℕ) → (length bs ≡ 80 → ⊥) → first_no (record_questions bs) ≡ Some 10
other_length bs h = let e = ne_eqb (length bs) 80 h in cc
