-- Invalidates in rising order.
use Rattle.std.proofs.Common.{◌≡◌, ℕ, ◌+◌, ◌≤◌, Bool, true, false, not, cond, List, [], ◌∷◌, ◌++◌, map, length, refl, sym, ap, ◌∙◌, arith}
use Rattle.std.proofs.lemmas.List.{map-append, map-id, length-map}
use Rattle.std.proofs.lemmas.List.Elements.{filter-append}
use Rattle.std.proofs.lemmas.List.Filters.{length-filter_both}
use Rattle.std.proofs.lemmas.List.FromFn.{map-range_with_len_more, length-range_with_len}
use Rattle.std.specs.List.{filter, range_with_len}
use Rattle.wire.specs.declared.message.Message.{Message}
use Rattle.board.specs.Posts.{invalidate}

-- the invalidates to those of n boards that pass
abbrev pub to_first : ℕ → ℕ → (ℕ → Bool) → ℕ → List Message
to_first me page test n = map (invalidate me page) (filter test (range_with_len 0 n))

module _ (me page : ℕ) (test : ℕ → Bool) where
  to_one : (t : Bool) (board : ℕ) → map (invalidate me page) (cond t (board ∷ []) []) ≡ cond t (invalidate me page board ∷ []) []
  to_one true board = refl
  to_one false board = refl

  counting : (n : ℕ) → range_with_len 0 (n + 1) ≡ range_with_len 0 n ++ n ∷ []
  counting n =
      sym (map-id (range_with_len 0 (n + 1)))
      ∙ map-range_with_len_more (λ (x : ℕ). x) 0 n n (omega arith)
      ∙ ap (λ (xs : List ℕ). xs ++ n ∷ []) (map-id (range_with_len 0 n))

  -- one board more
  pub one_more : (n : ℕ) → to_first me page test (n + 1) ≡ to_first me page test n ++ cond (test n) (invalidate me page n ∷ []) []
  one_more n =
      rw (counting n, filter-append test (range_with_len 0 n) (n ∷ []), map-append (invalidate me page) (filter test (range_with_len 0 n)) (cond (test n) (n ∷ []) []), to_one (test n) n) refl

  pub no_more : (n : ℕ) → length (to_first me page test n) ≤ n
  no_more n =
      omega (arith, length-map (filter test (range_with_len 0 n)) (invalidate me page), length-filter_both test (λ x. not (test x)) (λ x. refl) (range_with_len 0 n), length-range_with_len 0 n)
