-- What an array holds that was made by a closure which changes nothing.
use Rattle.std.proofs.Common.{◌≡◌, ℕ, zero, suc, ◌+◌, ◌<◌, ◌≤◌, List, [], ◌∷◌, map, get_or, ap, subst, refl, ◌∙◌, arith}
use Rattle.std.specs.Array.{IsFromFnResult, IsFromFnResultFrom}
use Rattle.std.specs.Fn.{Called, Mut}
use Rattle.std.specs.List.{range_with_len}
use Rattle.std.proofs.lemmas.List.{get_or-map, length-map}
use Rattle.std.proofs.lemmas.List.FromFn.{fill_by_all}

-- each call shows h of its place
module _ {F A B : Type 0} (g : Mut F (ℕ × Unit {0}) A) (f : F) (show : A → B) (h : ℕ → B) (len : ℕ) (call : (i : ℕ) (y : A) (q : F) → i < len → Called g f (i, tt) y q → (q ≡ f) × (show y ≡ h i)) where
  at_each : (p : F) (ys : List A) (d : A) (i n k : ℕ) → p ≡ f → i + n ≤ len → IsFromFnResultFrom g p ys i n → k < n → show (get_or ys (i + k) d) ≡ h (i + k)
  at_each p ys d i zero k e inside run lt = absurd (omega arith)
  at_each p ys d i (suc n) zero e inside (q, y, is, called, run) lt =
      let here : i + 0 ≡ i = omega arith in
      rw here (ap show (is.1 d) ∙ (call i y q (omega arith) (subst (λ (r : F). Called g r (i, tt) y q) e called)).1)
  at_each p ys d i (suc n) (suc k) e inside (q, y, is, called, run) lt =
      let next : i + suc k ≡ i + 1 + k = omega arith in
      rw next (at_each q ys d (i + 1) n k (call i y q (omega arith) (subst (λ (r : F). Called g r (i, tt) y q) e called)).0 (omega arith) run (omega arith))

  each : (ys : List A) (d : A) → IsFromFnResult g f ys len → (k : ℕ) → k < len → show (get_or ys k d) ≡ h k
  each ys d r k lt = let e : k ≡ 0 + k = omega arith in rw e (at_each f ys d 0 len k refl (omega arith) r.each lt)

  -- so the array shows h of each place
  pub shown : (ys : List A) → IsFromFnResult g f ys len → map show ys ≡ map h (range_with_len 0 len)
  shown [] r = ap (λ n. map h (range_with_len 0 n)) r.long
  shown (y ∷ ys) r =
      fill_by_all h (map show (y ∷ ys)) len (h 0) (length-map (y ∷ ys) show ∙ r.long)
      (λ k lt. get_or-map show (y ∷ ys) k y (h 0) (omega (arith, r.long)) ∙ each (y ∷ ys) y r k lt)

-- each call gives h of its place, and so does the array
pub made : {F A : Type 0} (g : Mut F (ℕ × Unit {0}) A) (f : F) (h : ℕ → A) (len : ℕ) → ((i : ℕ) (y : A) (q : F) → i < len → Called g f (i, tt) y q → (q ≡ f) × (y ≡ h i)) → (ys : List A) (d : A) → IsFromFnResult g f ys len → ys ≡ map h (range_with_len 0 len)
made g f h len call ys d r = fill_by_all h ys len d r.long (each g f (λ y. y) h len call ys d r)
