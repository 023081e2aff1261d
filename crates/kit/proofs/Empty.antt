-- A bag of size 0 is empty.
use Rattle.std.proofs.Common.{◌≡◌, ℕ, ◌+◌, Bool, true, false, nat_lt, refl, ap, ◌∙◌, sym, arith}
use Rattle.std.proofs.Math.Bool.{Bool-set}
use Rattle.std.proofs.lemmas.Bool.{true≢false, lt-ltb}
use mathlib.Core.HLevel.{is_prop→PathP}
use Rattle.wire.specs.Bags.{Bag, empty, ◌&◌, either_order, size}

filled : {X : Type 0} → Bag X → Bool
filled empty = false
filled (x & b) = true
filled (either_order x y b i) = true

not_filled : {X : Type 0} (b : Bag X) → filled b ≡ false → b ≡ empty
unfolding filled
not_filled empty h = refl
not_filled (x & b) h = absurd (true≢false h)
not_filled (either_order x y b i) h = absurd (true≢false h)

some : (n : ℕ) → nat_lt 0 (1 + n) ≡ true
some n = lt-ltb 0 (1 + n) (omega arith)

filled_is : {X : Type 0} (b : Bag X) → filled b ≡ nat_lt 0 (size b)
unfolding filled
filled_is empty = refl
filled_is (x & b) = sym (some (size b))
filled_is (either_order x y b i) =
    is_prop→PathP (λ i. filled (either_order x y b i) ≡ nat_lt 0 (size (either_order x y b i)))
    (λ j. Bool-set (filled (either_order x y b j)) (nat_lt 0 (size (either_order x y b j)))) (sym (some (size (y & b)))) (sym (some (size (x & b)))) i

pub nothing_in : {X : Type 0} (b : Bag X) → size b ≡ 0 → b ≡ empty
nothing_in b h = not_filled b (filled_is b ∙ ap (nat_lt 0) h)
