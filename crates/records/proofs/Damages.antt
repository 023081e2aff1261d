-- A record in which one byte is damaged.
use Rattle.std.proofs.Common.{◌≡◌, ℕ, ◌<◌, Bool, true, false, ◌&&◌, eqb, List, [], ◌∷◌, length, take, drop, set, Some, None, refl, ap, ◌∙◌, arith}
use Rattle.std.proofs.lemmas.List.{length-set, get_or-set_same, get_or-set_other, drop-set}
use Rattle.std.proofs.lemmas.Bool.{eq-eqb, ne_eqb}
use Rattle.std.proofs.lemmas.Bool.Decides.{nat_tests}
use Rattle.wire.specs.Questions.{first_no, inside}
use Rattle.records.specs.Forms.{all_zero, kind_form, has_parties, in_range}
use Rattle.records.specs.Layouts.{message_in, record_questions, unused_zero}
use Rattle.records.specs.Numbers.{byte}
use Rattle.records.proofs.Asking.{answers}

-- the questions by their answers
by_answers : (bs : List ℕ) (k p r f : Bool) → length bs ≡ 80 → inside 1 6 (byte bs 0) ≡ k → has_parties (message_in bs) ≡ p → in_range (message_in bs) ≡ r → (unused_zero bs && kind_form (message_in bs)) ≡ f →
    first_no (record_questions bs) ≡ first_no ((11, k) ∷ (12, p) ∷ (13, r) ∷ (14, f) ∷ [])
by_answers bs k p r f l a b c d = let e = eq-eqb (length bs) 80 l in cc

module _ (bs : List ℕ) (accepted : first_no (record_questions bs) ≡ None) where
  kept : (place b k : ℕ) → (k ≡ place → ⊥) → byte (set bs place b) k ≡ byte bs k
  kept place b k h = get_or-set_other bs place k b 0 h

  long : (place b : ℕ) → length (set bs place b) ≡ 80
  long place b = length-set bs place b ∙ (answers bs accepted).long

  -- a kind that there is not
  pub other_kind : (b : ℕ) → inside 1 6 b ≡ false → first_no (record_questions (set bs 0 b)) ≡ Some 11
  other_kind b h =
      let here : byte (set bs 0 b) 0 ≡ b = get_or-set_same bs 0 b 0 (omega (arith, (answers bs accepted).long)) in
      by_answers (set bs 0 b) false _ _ _ (long 0 b) (ap (inside 1 6) here ∙ h) refl refl refl

  -- hops over the last
  pub other_hops : (b : ℕ) → 14 < b → first_no (record_questions (set bs 5 b)) ≡ Some 13
  other_hops b h =
      let yes = answers bs accepted in
      let here : byte (set bs 5 b) 5 ≡ b = get_or-set_same bs 5 b 0 (omega (arith, yes.long)) in
      let kind = kept 5 b 0 (omega arith) in
      let page = kept 5 b 1 (omega arith) in
      let from = kept 5 b 2 (omega arith) in
      let to = kept 5 b 3 (omega arith) in
      let asker = kept 5 b 4 (omega arith) in
      let over : in_range (message_in (set bs 5 b)) ≡ false = grind (arith, nat_tests) in
      by_answers (set bs 5 b) true true false _ (long 5 b) (ap (inside 1 6) kind ∙ yes.kind) (cc) over refl

  -- a byte without a use that is not zero
  pub used_byte : (b : ℕ) → 0 < b → first_no (record_questions (set bs 8 b)) ≡ Some 14
  used_byte b h =
      let yes = answers bs accepted in
      let kind = kept 8 b 0 (omega arith) in
      let page = kept 8 b 1 (omega arith) in
      let from = kept 8 b 2 (omega arith) in
      let to = kept 8 b 3 (omega arith) in
      let asker = kept 8 b 4 (omega arith) in
      let hops = kept 8 b 5 (omega arith) in
      let behind : drop 8 (set bs 8 b) ≡ b ∷ drop 9 bs = drop-set bs 8 b (omega (arith, yes.long)) in
      let first : eqb b 0 ≡ false = ne_eqb b 0 (omega arith) in
      let not-zero : unused_zero (set bs 8 b) ≡ false = ap (λ (xs : List ℕ). all_zero (take 8 xs)) behind ∙ ap (λ (t : Bool). t && all_zero (take 7 (drop 9 bs))) first in
      by_answers (set bs 8 b) true true true false (long 8 b) (ap (inside 1 6) kind ∙ yes.kind) (cc) (cc) (ap (λ (t : Bool). t && kind_form (message_in (set bs 8 b))) not-zero)
