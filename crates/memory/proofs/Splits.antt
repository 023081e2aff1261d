-- How a list with one more element can be split.
use Rattle.std.proofs.Common.{◌≡◌, ◌⊎◌, List, [], ◌∷◌, ◌++◌, length, sym, refl, ap, ◌∙◌, inl, inr, append_assoc, append-nil, arith, length-append}
use Rattle.std.proofs.lemmas.List.{same_from_push}

module _ {X : Type 0} where
  pub not_empty : (before : List X) (x : X) (later : List X) → [] ≡ before ++ x ∷ later → ⊥
  not_empty before x later p = omega (arith, ap length p, length-append before (x ∷ later))

  last_of : (xs : List X) → (xs ≡ []) ⊎ ((ys : List X) × (y : X) × (xs ≡ ys ++ y ∷ []))
  last_of [] = inl refl
  last_of (x ∷ xs) = elim (last_of xs) [ inl p ↦ inr ([], x, ap (λ r. x ∷ r) p) | inr q ↦ inr (x ∷ q.0, q.1, ap (λ r. x ∷ r) q.2) ]

  -- the second part is empty, or that element is its last
  pub split_push : (xs before later : List X) (x : X) → xs ++ x ∷ [] ≡ before ++ later →
      ((later ≡ []) × (before ≡ xs ++ x ∷ [])) ⊎ ((early : List X) × (later ≡ early ++ x ∷ []) × (xs ≡ before ++ early))
  split_push xs before later x p = elim (last_of later) [
    | inl q ↦ inl (q, sym (p ∙ ap (λ r. before ++ r) q ∙ append-nil before))
    | inr q ↦
        let r = same_from_push xs (before ++ q.0) x q.1 (p ∙ ap (λ r. before ++ r) q.2 ∙ sym (append_assoc before q.0 (q.1 ∷ []))) in
        inr (q.0, q.2 ∙ ap (λ y. q.0 ++ y ∷ []) (sym r.1), r.0)
  ]
