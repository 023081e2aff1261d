-- A bag with one item in it has no other.
use Rattle.std.proofs.Common.{◌≡◌, ap, ◌∙◌, sym, arith}
use Rattle.wire.specs.Bags.{Bag, empty, ◌&◌, either_order, size}
use Rattle.kit.proofs.Empty.{nothing_in}

-- x where the bag is empty, else d
beside_nothing : {X : Type 0} → X → X → Bag X → X
beside_nothing d x empty = x
beside_nothing d x (y & b) = d
beside_nothing d x (either_order y z b i) = d

-- the item of a bag with one in it, else d
sole : {X : Type 0} → X → Bag X → X
unfolding beside_nothing
sole d empty = d
sole d (x & b) = beside_nothing d x b
sole d (either_order x y b i) = d

same_sole : {X : Type 0} (x y : X) → x & empty ≡ y & empty → x ≡ y
unfolding beside_nothing sole
same_sole x y e = ap (sole x) e

pub only_one : {X : Type 0} (x y : X) (b : Bag X) → x & empty ≡ y & b → (y ≡ x) × (b ≡ empty)
only_one x y b e =
    let none : b ≡ empty = nothing_in b (omega (arith, ap size e)) in
    (sym (same_sole x y (e ∙ ap (λ c. y & c) none)), none)
