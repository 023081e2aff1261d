-- How a gap is closed.
use Rattle.std.proofs.Common.{◌≡◌, ℕ, ◌+◌, ◌-◌, ◌<◌, List, ◌++◌, length, take, drop, sym, ap, ◌∙◌, add-one, arith}
use Rattle.std.specs.List.{remove}
use Rattle.std.proofs.lemmas.List.{length-append, length-drop, take_all, take_at}
use Rattle.std.proofs.lemmas.List.Edits.{length-remove}
use lib.Seq.{paste}
use Rattle.wire.specs.Gaps.{closed}

module _ {X : Type 0} (xs : List X) (place : ℕ) (h : place < length xs) where
  whole : closed xs (length xs) place ≡ remove xs place ++ drop (length xs - 1) xs
  whole = ap (λ ys. remove ys place ++ drop (length xs - 1) xs) (take_all (length xs) xs (omega arith))

  -- what stands behind the place is copied to it
  pub moved_up : paste xs place (drop (place + 1) xs) (length xs - (place + 1)) ≡ closed xs (length xs) place
  moved_up =
      let behind = drop (place + 1) xs in
      let n = length xs - (place + 1) in
      let end : place + n ≡ length xs - 1 = omega arith in
      ap (λ ys. take place xs ++ ys ++ drop (place + n) xs) (take_all n behind (omega (arith, length-drop (place + 1) xs)))
      ∙ ap (λ k. take place xs ++ behind ++ drop k xs) end
      ∙ ap (λ k. take place xs ++ drop k xs ++ drop (length xs - 1) xs) (add-one place)
      ∙ sym whole

  pub length_closed : length (closed xs (length xs) place) ≡ length xs
  length_closed = omega (arith, ap length whole, length-append (remove xs place) (drop (length xs - 1) xs), length-remove xs place h, length-drop (length xs - 1) xs)

  -- without its last place, what is left
  pub front_closed : (ys : List X) → ys ≡ closed xs (length xs) place → take (length ys - 1) ys ≡ remove xs place
  front_closed ys e =
      ap (λ zs. take (length zs - 1) zs) e
      ∙ ap (λ n. take (n - 1) (closed xs (length xs) place)) length_closed
      ∙ ap (take (length xs - 1)) whole
      ∙ take_at (remove xs place) (drop (length xs - 1) xs) (length xs - 1) (omega (arith, length-remove xs place h))
