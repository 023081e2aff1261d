use Rattle.std.proofs.Common.{◌≡◌, ◌+◌, ◌≤◌, ℕ, List, length, take, min, sym, ◌∙◌, ap, arith}
use Rattle.std.proofs.lemmas.List.{take_all, length-take}

-- a list that is the same as another one to past that one's end is the same
pub same_past_end : (xs ys : List ℕ) → take (length ys + 1) xs ≡ take (length ys + 1) ys → xs ≡ ys
same_past_end xs ys same =
    let whole : take (length ys + 1) ys ≡ ys = take_all (length ys + 1) ys (omega arith)
    in let front : take (length ys + 1) xs ≡ ys = same ∙ whole
    in let count : min (length ys + 1) (length xs) ≡ length ys =
    sym (length-take (length ys + 1) xs) ∙ ap length front
    in let short : length xs ≤ length ys + 1 = grind arith
    in sym (take_all (length ys + 1) xs short) ∙ front
