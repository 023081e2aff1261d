-- The records of a script, one after another.
use Rattle.std.proofs.Common.{◌≡◌, ℕ, zero, suc, ◌+◌, ◌-◌, ◌*◌, ◌<◌, min, List, [], ◌∷◌, ◌++◌, map, length, take, ap, ◌∙◌, arith, length-append, append-nil, inl, inr}
use Rattle.std.specs.List.{range_with_len}
use Rattle.std.proofs.Math.Seq.{drop-append-add}
use Rattle.std.proofs.lemmas.List.{nil_from_length, take_all, drop_all, take-append-le}
use Rattle.std.proofs.lemmas.Bool.{cases_lt}
use Rattle.script.specs.Records.{record_at, record_count, records}

-- a script's first record, of sixteen characters or of all that there are, and what is behind it
module _ (script chunk rest : List ℕ) (parts : script ≡ chunk ++ rest) (size : length chunk
    ≡ min 16 (length script)) where
  lengths : length script ≡ length chunk + length rest
  lengths = ap length parts ∙ length-append chunk rest

  first : record_at script 0 ≡ chunk
  first = elim (cases_lt (length script) 16) [
    | inl short ↦
        let none : rest ≡ [] = nil_from_length rest (omega (arith, lengths)) in
        rw (parts, none, append-nil) (take_all 16 chunk (omega (arith, lengths)))
    | inr long ↦
        rw parts (take-append-le 16 chunk rest (omega (arith, lengths)) ∙ take_all 16 chunk (omega (arith, lengths)))
  ]

  next : (i : ℕ) → record_at script (i + 1) ≡ record_at rest i
  next i = elim (cases_lt (length script) 16) [
    | inl short ↦
        let none : rest ≡ [] = nil_from_length rest (omega (arith, lengths)) in
        rw (none, drop_all (16 * (i + 1)) script (omega (arith, lengths)), drop_all {X = ℕ} (16 * i) [] (omega arith))
    | inr long ↦
        let at : 16 * (i + 1) ≡ length chunk + 16 * i = omega (arith, lengths) in
        ap (take 16) (rw (at, parts) (drop-append-add chunk rest (16 * i)))
  ]

  rest_from : (a n : ℕ) → map (record_at script) (range_with_len (a + 1) n) ≡ map (record_at rest) (range_with_len a n)
  rest_from a zero = λ i. []
  rest_from a (suc n) = rw (next a, rest_from (a + 1) n)

  -- the first record comes before the others, and there is one more of them
  pub records_more : 0 < length script →
      (records script ≡ chunk ∷ records rest) × (record_count script ≡ suc (record_count rest))
  records_more h =
      let count : record_count script - 0 ≡ suc (record_count rest - 0) = omega (arith, lengths) in (
        ap (λ (n : ℕ). map (record_at script) (range_with_len 0 n)) count
            ∙ ap (λ (r : List ℕ). r ∷ map (record_at script) (range_with_len 1 (record_count rest - 0))) first
            ∙ ap (λ (rs : List (List ℕ)). chunk ∷ rs) (rest_from 0 (record_count rest - 0)),
        omega (arith, count),
      )
