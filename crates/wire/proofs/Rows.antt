-- Messages taken out of a row.
use Rattle.std.proofs.Common.{◌≡◌, ℕ, zero, suc, ◌<◌, false, eqb, List, [], ◌∷◌, length, get_or, sym, ap, arith}
use Rattle.std.specs.List.{remove, insert}
use Rattle.std.proofs.lemmas.Bool.{eqb-false}

-- what was taken out, put back, gives the row again
pub put_back : {X : Type 0} (xs : List X) (place : ℕ) (x : X) → place < length xs → x ≡ get_or xs place x → xs ≡ insert (remove xs place) place x
put_back [] place x h e = absurd (omega arith)
put_back (z ∷ xs) zero x h e = ap (λ y. y ∷ xs) (sym e)
put_back (z ∷ xs) (suc place) x h e = ap (λ ys. z ∷ ys) (put_back xs place x (omega arith) e)

-- the place that an order names in a row that is not empty
pub inside_row : {X : Type 0} (xs : List X) (place : ℕ → ℕ → ℕ) (pick : ℕ) → ((pick n : ℕ) → 0 < n → place pick n < n) → eqb (length xs) 0 ≡ false → place pick (length xs) < length xs
inside_row xs place pick inside some = let n = eqb-false (length xs) 0 some in inside pick (length xs) (omega arith)
