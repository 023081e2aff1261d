-- Laws of bags.
use Rattle.std.proofs.Common.{◌≡◌, ℕ, zero, suc, ◌<◌, List, [], ◌∷◌, ◌++◌, length, get_or, refl, ap, ◌∙◌, arith}
use Rattle.std.specs.List.{remove}
use Rattle.wire.specs.Bags.{Bag, empty, ◌&◌, either_order, total, size, bag, Adds, Empty}

pub either_way : {X : Type 0} (x y : X) (b : Bag X) → x & y & b ≡ y & x & b
either_way x y b = λ i. either_order x y b i

pub size_bag : {X : Type 0} (xs : List X) → size (bag xs) ≡ length xs
size_bag [] = refl
size_bag (x ∷ xs) = omega (arith, size_bag xs)

pub bag_push : {X : Type 0} (xs : List X) (x : X) → bag (xs ++ x ∷ []) ≡ x & bag xs
bag_push [] x = refl
bag_push (y ∷ xs) x = ap (λ b. y & b) (bag_push xs x) ∙ either_way y x (bag xs)

pub bag_removed : {X : Type 0} (xs : List X) (i : ℕ) (d : X) → i < length xs → bag xs ≡ get_or xs i d & bag (remove xs i)
bag_removed [] i d h = absurd (omega arith)
bag_removed (x ∷ xs) zero d h = refl
bag_removed (x ∷ xs) (suc i) d h =
    ap (λ b. x & b) (bag_removed xs i d (omega arith)) ∙ either_way x (get_or xs i d) (bag (remove xs i))

pub adds : {X : Type 0} {x : X} {b c : Bag X} → c ≡ x & b → Adds x b c
adds e = (e, λ f. ap (total f) e)

pub is_empty : {X : Type 0} {b : Bag X} → b ≡ empty → Empty b
is_empty e = (e, λ f. ap (total f) e)

-- the bags of a list, one that an item was put at the end of, one that an item was taken out of, and one with nothing in it
pub adds_push : {X : Type 0} (xs ys : List X) (x : X) → ys ≡ xs ++ x ∷ [] → Adds x (bag xs) (bag ys)
adds_push xs ys x e = adds (ap bag e ∙ bag_push xs x)

pub adds_removed : {X : Type 0} (xs ys : List X) (i : ℕ) (x : X) → i < length xs → x ≡ get_or xs i x → ys ≡ remove xs i → Adds x (bag ys) (bag xs)
adds_removed xs ys i x h e f = let b = bag_removed xs i x h in adds (cc)

pub empty_list : {X : Type 0} (xs : List X) → length xs ≡ 0 → Empty (bag xs)
empty_list [] e = is_empty refl
empty_list (x ∷ xs) e = absurd (omega arith)

pub empty_bag : {X : Type 0} (xs : List X) → xs ≡ [] → Empty (bag xs)
empty_bag xs e = is_empty (ap bag e)
