-- Questions asked one list after another.
use Rattle.std.proofs.Common.{◌≡◌, ℕ, Bool, true, false, List, [], ◌∷◌, ◌++◌, Some, None, Ok, Err, Result, refl, ap, ◌∙◌, sym}
use Rattle.wire.specs.Questions.{first_no, refusal}
use Rattle.wire.specs.Faults.{number}
use Rattle.wire.specs.declared.fault.Fault.{Fault}

-- where no question is answered no, the first is answered yes, and so are the others
pub yes : (n : ℕ) (b : Bool) (qs : List (ℕ × Bool)) → first_no ((n, b) ∷ qs) ≡ None → (b ≡ true) × (first_no qs ≡ None)
yes n true qs e = (refl, e)
yes n false qs e = let never : Some n ≡ None = e in absurd (cc)

pub refused_before : (qs rs : List (ℕ × Bool)) (n : ℕ) → first_no qs ≡ Some n → first_no (qs ++ rs) ≡ Some n
refused_before [] rs n h = let never : None ≡ Some n = h in absurd (cc)
refused_before ((m, true) ∷ qs) rs n h = refused_before qs rs n h
refused_before ((m, false) ∷ qs) rs n h = h

pub passed_before : (qs rs : List (ℕ × Bool)) → first_no qs ≡ None → first_no (qs ++ rs) ≡ first_no rs
passed_before [] rs h = refl
passed_before ((m, true) ∷ qs) rs h = passed_before qs rs h
passed_before ((m, false) ∷ qs) rs h = let never : Some m ≡ None = h in absurd (cc)

-- a call that is refused by the first questions of a list, and one that passes them
module _ {S T : Type 0} (qs rs : List (ℕ × Bool)) where
  pub rises : (r : Result S Fault) (t : Result T Fault) (f : Fault) → refusal r ≡ first_no qs → r ≡ Err f → t ≡ Err f → refusal t ≡ first_no (qs ++ rs)
  rises r t f a e h = ap refusal h ∙ sym (refused_before qs rs (number f) (sym a ∙ ap refusal e))

  pub goes_on : (r : Result S Fault) (t : Result T Fault) (x : S) → refusal r ≡ first_no qs → r ≡ Ok x → refusal t ≡ first_no rs → refusal t ≡ first_no (qs ++ rs)
  goes_on r t x a e h = h ∙ sym (passed_before qs rs (sym a ∙ ap refusal e))
