-- A bag: items without order, each as often as it was added.
use Rattle.std.specs.Prelude.{◌≡◌, ℕ, ◌+◌, Bool, cond, List, [], ◌∷◌}
use Rattle.std.proofs.Math.Nat.{add_left_comm}

-- Nothing; one item more; and the order of adding does not count.
infixr 40 ◌&◌
pub data Bag (X : Type 0) : Type 0 where
  empty : Bag X
  ◌&◌ : X → Bag X → Bag X
  either_order : (x y : X) (b : Bag X) (i : 𝕀) → Bag X [ i = 0 ↦ x & (y & b) | i = 1 ↦ y & (x & b) ]

-- the sum of f over the items
abbrev pub total : {X : Type 0} → (X → ℕ) → Bag X → ℕ
total f empty = 0
total f (x & b) = f x + total f b
total f (either_order x y b i) = add_left_comm (f x) (f y) (total f b) i

-- how many items pass
abbrev pub count : {X : Type 0} → (X → Bool) → Bag X → ℕ
count p b = total (λ x. cond (p x) 1 0) b

-- how many items there are
abbrev pub size : {X : Type 0} → Bag X → ℕ
size b = total (λ _. 1) b

-- the items of a list
abbrev pub bag : {X : Type 0} → List X → Bag X
bag [] = empty
bag (x ∷ xs) = x & bag xs

-- the items of a list beside those of a bag
infixr 40 ◌⊕◌
abbrev pub ◌⊕◌ : {X : Type 0} → List X → Bag X → Bag X
[] ⊕ b = b
(x ∷ xs) ⊕ b = x & (xs ⊕ b)

-- c is b with x added; every sum shows it, which is said again for the search
abbrev pub Adds : {X : Type 0} → X → Bag X → Bag X → Type 0
Adds {X} x b c = (c ≡ x & b) × ((f : X → ℕ) → total f c ≡ f x + total f b)

-- b is empty
abbrev pub Empty : {X : Type 0} → Bag X → Type 0
Empty {X} b = (b ≡ empty) × ((f : X → ℕ) → total f b ≡ 0)
