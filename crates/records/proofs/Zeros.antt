-- A list of zeros.
use Rattle.std.proofs.Common.{◌≡◌, ℕ, Bool, true, ◌&&◌, eqb, List, [], ◌∷◌, length, replicate, refl, ap, ◌∙◌}
use Rattle.std.specs.Cmp.Lexicographic.{pointwise}
use Rattle.std.proofs.lemmas.Bool.{and_parts, eqb-true}
use Rattle.records.specs.Forms.{all_zero}

pub zeros_back : (ns : List ℕ) → all_zero ns ≡ true → ns ≡ replicate (length ns) 0
zeros_back [] e = refl
zeros_back (n ∷ ns) e =
    let p = and_parts (eqb n 0) (all_zero ns) e in
    ap (λ (x : ℕ). x ∷ ns) (eqb-true n 0 p.0) ∙ ap (λ (xs : List ℕ). 0 ∷ xs) (zeros_back ns p.1)

-- the answer to whether a list equals one of zeros
pub zero_test : (ns : List ℕ) → pointwise eqb ns (replicate (length ns) 0) ≡ all_zero ns
zero_test [] = refl
zero_test (n ∷ ns) = ap (λ (b : Bool). eqb n 0 && b) (zero_test ns)
