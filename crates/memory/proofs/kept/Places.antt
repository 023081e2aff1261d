-- A bag whose messages stand at places, at most one at each, is no larger than the places.
use Rattle.std.proofs.Common.{◌≡◌, ℕ, ◌+◌, ◌<◌, ◌≤◌, Bool, true, false, sym, ap, ◌∙◌, inl, inr, arith}
use Rattle.std.proofs.lemmas.Bool.Decides.{nat_tests}
use Rattle.std.proofs.lemmas.Bool.{cases_eq, cases_Bool}
use mathlib.Core.HLevel.{is_prop→PathP}
use native.Mathlib.Bridge.{le_prop}
use Rattle.memory.specs.Functions.{changed}
use Rattle.wire.specs.Bags.{Bag, empty, ◌&◌, either_order, total, size}
use Rattle.memory.proofs.model.Kit.{Maybe, absent, just}
use Rattle.memory.proofs.model.Told.{is_it}
use Rattle.memory.proofs.model.Sums.{sum_to, bit}
use Rattle.memory.proofs.kept.Sums.{changed_same, changed_other, sum_one}

abbrev pub some : {X : Type 0} → Maybe X → Bool
some absent = false
some (just x) = true

module _ {X : Type 0} (same : X → X → Bool) (is : (x y : X) → same x y ≡ true → x ≡ y) (self : (x : X) → same x x ≡ true) (f g : X → ℕ) (n : ℕ) where
  abbrev places : (ℕ → ℕ → Maybe X) → ℕ
  places k = sum_to n (λ a. sum_to n (λ s. bit (some (k a s))))

  abbrev Fits : Bag X → Type 0
  Fits b = (k : ℕ → ℕ → Maybe X) → ((x : X) → total (λ y. bit (same x y)) b ≡ bit (is_it same x (k (f x) (g x)))) → ((a s : ℕ) → some (k a s) ≡ true → (a < n) × (s < n)) → size b ≤ places k

  fits_prop : (b : Bag X) → IsProp (Fits b)
  fits_prop b u v = λ i k h r. le_prop (u k h r) (v k h r) i

  abbrev less : (ℕ → ℕ → Maybe X) → X → ℕ → ℕ → Maybe X
  less k x = changed k (f x) (changed (k (f x)) (g x) absent)

  held : (x : X) (c : Maybe X) → 0 < bit (is_it same x c) → c ≡ just x
  held x absent l = absurd (omega arith)
  held x (just y) l = let e : same x y ≡ true = grind arith in ap just (sym (is x y e))

  one_less : (k : ℕ → ℕ → Maybe X) (x : X) → f x < n → g x < n → k (f x) (g x) ≡ just x → places k ≡ places (less k x) + 1
  one_less k x lf lg e =
      let row = λ (a : ℕ). sum_to n (λ s. bit (some (k a s))) in
      let row' = λ (a : ℕ). sum_to n (λ s. bit (some (less k x a s))) in
      let outer = sum_one n (f x) row row' lf (λ a ne. ap (λ (z : ℕ → Maybe X). sum_to n (λ s. bit (some (z s)))) (changed_other k (f x) (changed (k (f x)) (g x) absent) a ne)) in
      let here = ap (λ (z : ℕ → Maybe X). sum_to n (λ s. bit (some (z s)))) (changed_same k (f x) (changed (k (f x)) (g x) absent)) in
      let inner = sum_one n (g x) (λ s. bit (some (k (f x) s))) (λ s. bit (some (changed (k (f x)) (g x) absent s))) lg (λ s ne. ap (λ c. bit (some c)) (changed_other (k (f x)) (g x) absent s ne)) in
      let was = ap (λ c. bit (some c)) e in
      let now = ap (λ c. bit (some c)) (changed_same (k (f x)) (g x) absent) in
      omega arith

  -- what is at x's place after x is taken
  at_place : (k : ℕ → ℕ → Maybe X) (x y : X) → k (f x) (g x) ≡ just x → bit (is_it same y (less k x (f y) (g y))) + bit (same y x) ≡ bit (is_it same y (k (f y) (g y)))
  at_place k x y e = elim (cases_Bool (same y x)) [
    | inl q ↦ let p = is y x q in
        let z : less k x (f y) (g y) ≡ absent = ap (λ w. less k x (f w) (g w)) p ∙ ap (λ (w : ℕ → Maybe X). w (g x)) (changed_same k (f x) (changed (k (f x)) (g x) absent)) ∙ changed_same (k (f x)) (g x) absent in
        let w : k (f y) (g y) ≡ just x = ap (λ w. k (f w) (g w)) p ∙ e in
        omega (arith, ap (λ c. bit (is_it same y c)) z, ap (λ c. bit (is_it same y c)) w)
    | inr q ↦ elim (cases_eq (f y) (f x)) [
      | inr ne ↦ omega (arith, ap bit q, ap (λ (w : ℕ → Maybe X). bit (is_it same y (w (g y)))) (changed_other k (f x) (changed (k (f x)) (g x) absent) (f y) ne))
      | inl p ↦ elim (cases_eq (g y) (g x)) [
        | inr ne ↦ let z : less k x (f y) (g y) ≡ k (f y) (g y) = ap (λ w. less k x w (g y)) p ∙ ap (λ (w : ℕ → Maybe X). w (g y)) (changed_same k (f x) (changed (k (f x)) (g x) absent)) ∙ changed_other (k (f x)) (g x) absent (g y) ne ∙ ap (λ w. k w (g y)) (sym p) in
            omega (arith, ap bit q, ap (λ c. bit (is_it same y c)) z)
        | inl r ↦ let z : less k x (f y) (g y) ≡ absent = ap (λ w. less k x w (g y)) p ∙ ap (less k x (f x)) r ∙ ap (λ (w : ℕ → Maybe X). w (g x)) (changed_same k (f x) (changed (k (f x)) (g x) absent)) ∙ changed_same (k (f x)) (g x) absent in
            let w : k (f y) (g y) ≡ just x = ap (λ w. k w (g y)) p ∙ ap (k (f x)) r ∙ e in
            omega (arith, ap bit q, ap (λ c. bit (is_it same y c)) z, ap (λ c. bit (is_it same y c)) w)
      ]
    ]
  ]

  add : (x : X) (b : Bag X) → Fits b → Fits (x & b)
  add x b u k h r =
      let e = held x (k (f x) (g x)) (let z = h x in let s = ap bit (self x) in omega arith) in
      let l = r (f x) (g x) (ap some e) in
      let rest = u (less k x) (λ y. omega (arith, h y, at_place k x y e)) (λ a s q. r a s (still a s q)) in
      omega (arith, rest, one_less k x l.0 l.1 e)
    where
      still : (a s : ℕ) → some (less k x a s) ≡ true → some (k a s) ≡ true
      still a s q = grind (arith, nat_tests)

  pub fits : (b : Bag X) → Fits b
  fits empty = λ k h r. omega arith
  fits (x & b) = add x b (fits b)
  fits (either_order x y b i) = is_prop→PathP (λ i. Fits (either_order x y b i)) (λ j. fits_prop (either_order x y b j)) (add x (y & b) (add y b (fits b))) (add y (x & b) (add x b (fits b))) i
