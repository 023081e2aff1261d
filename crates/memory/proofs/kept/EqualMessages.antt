-- A test of messages whose words are lists of numbers: it holds of equal messages alone.
use Rattle.std.proofs.Common.{◌≡◌, ℕ, zero, suc, Bool, true, false, cond, ◌&&◌, eqb, List, [], ◌∷◌, sym, refl, ◌∙◌, arith}
use Rattle.std.proofs.lemmas.Bool.Decides.{nat_tests}
use Rattle.memory.proofs.model.Board.{load, store, is_load, Mail, request, copy, grant, invalidate, acknowledge}
use Rattle.memory.proofs.model.Told.{Equality}
use Rattle.memory.proofs.model.Sums.{bit}

abbrev same_list : {X : Type 0} → (X → ℕ) → List X → List X → Bool
same_list f [] [] = true
same_list f [] (y ∷ ys) = false
same_list f (x ∷ xs) [] = false
same_list f (x ∷ xs) (y ∷ ys) = eqb (f x) (f y) && same_list f xs ys

same_list_is : {X : Type 0} (f : X → ℕ) → ((x y : X) → f x ≡ f y → x ≡ y) → (xs ys : List X) → same_list f xs ys ≡ true → xs ≡ ys
same_list_is f inj [] [] e = refl
same_list_is f inj [] (y ∷ ys) e = absurd (grind arith)
same_list_is f inj (x ∷ xs) [] e = absurd (grind arith)
same_list_is f inj (x ∷ xs) (y ∷ ys) e =
    let h : (f x ≡ f y) × (same_list f xs ys ≡ true) = grind (arith, nat_tests) in
    let p = inj x y h.0 in
    let q = same_list_is f inj xs ys h.1 in
    cc

same_list_self : {X : Type 0} (f : X → ℕ) (xs : List X) → same_list f xs xs ≡ true
same_list_self f [] = refl
same_list_self f (x ∷ xs) = let h = same_list_self f xs in grind (arith, nat_tests)

bit_one : (x y : Bool) → bit x ≡ bit y → x ≡ y
bit_one true true e = refl
bit_one true false e = absurd (omega arith)
bit_one false true e = absurd (omega arith)
bit_one false false e = refl

record Parts : Type 0 where
  pub sort : ℕ
  pub one : ℕ
  pub two : ℕ
  pub three : ℕ
  pub copies : List Bool
  pub words : List ℕ

abbrev parts : Mail (List ℕ) → Parts
parts (request k t a h) = record { sort = cond (is_load k) 0 1; one = t; two = a; three = h; copies = []; words = [] }
parts (copy f t h w) = record { sort = 2; one = f; two = t; three = h; copies = []; words = w }
parts (grant f t h c w) = record { sort = 3; one = f; two = t; three = h; copies = c; words = w }
parts (invalidate f t) = record { sort = 4; one = f; two = t; three = 0; copies = []; words = [] }
parts (acknowledge f t) = record { sort = 5; one = f; two = t; three = 0; copies = []; words = [] }

abbrev whole : ℕ → ℕ → ℕ → ℕ → List Bool → List ℕ → Mail (List ℕ)
whole zero a b c s w = request load a b c
whole (suc zero) a b c s w = request store a b c
whole (suc (suc zero)) a b c s w = copy a b c w
whole (suc (suc (suc zero))) a b c s w = grant a b c s w
whole (suc (suc (suc (suc zero)))) a b c s w = invalidate a b
whole (suc (suc (suc (suc (suc n))))) a b c s w = acknowledge a b

abbrev of_parts : Parts → Mail (List ℕ)
of_parts p = whole p.sort p.one p.two p.three p.copies p.words

back : (m : Mail (List ℕ)) → of_parts (parts m) ≡ m
back (request load t a h) = refl
back (request store t a h) = refl
back (copy f t h w) = refl
back (grant f t h c w) = refl
back (invalidate f t) = refl
back (acknowledge f t) = refl

abbrev same_parts : Parts → Parts → Bool
same_parts p q = eqb p.sort q.sort && (eqb p.one q.one && (eqb p.two q.two && (eqb p.three q.three && (same_list bit p.copies q.copies && same_list (λ x. x) p.words q.words))))

parts_are : (p q : Parts) → same_parts p q ≡ true → of_parts p ≡ of_parts q
parts_are p q e =
    let a : p.sort ≡ q.sort = grind (arith, nat_tests) in
    let b : p.one ≡ q.one = grind (arith, nat_tests) in
    let c : p.two ≡ q.two = grind (arith, nat_tests) in
    let d : p.three ≡ q.three = grind (arith, nat_tests) in
    let f : same_list bit p.copies q.copies ≡ true = grind (arith, nat_tests) in
    let g : same_list (λ x. x) p.words q.words ≡ true = grind (arith, nat_tests) in
    let s = same_list_is bit bit_one p.copies q.copies f in
    let w = same_list_is (λ x. x) (λ x y e. e) p.words q.words g in
    λ i. whole (a i) (b i) (c i) (d i) (s i) (w i)

parts_self : (p : Parts) → same_parts p p ≡ true
parts_self p = let a = same_list_self bit p.copies in let b = same_list_self (λ x. x) p.words in grind (arith, nat_tests)

abbrev pub same_mail : Mail (List ℕ) → Mail (List ℕ) → Bool
same_mail x y = same_parts (parts x) (parts y)

pub same_law : Equality same_mail
same_law = record {
  is = λ x y e. sym (back x) ∙ parts_are (parts x) (parts y) e ∙ back y;
  self = λ x. parts_self (parts x);
}
