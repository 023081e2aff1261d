-- Bags: those that wait in the model are the images of those that wait.
use Rattle.std.proofs.Common.{◌≡◌, ℕ, ◌+◌, List, [], ◌∷◌, map, refl, ap, ◌∙◌, arith}
use Rattle.std.specs.List.{AllByRecursion as All}
use mathlib.Core.HLevel.{is_prop→PathP}
use native.Mathlib.Nat.{ℕ_set}
use Rattle.wire.specs.Bags.{Bag, empty, ◌&◌, either_order, ◌⊕◌, total, size}
use Rattle.wire.proofs.Bags.{either_way}
use Rattle.memory.proofs.model.Board.{Mail}
use Rattle.memory.proofs.model.Kit.{Post, post_all}
use Rattle.memory.proofs.images.Images.{W, map_bag}
use Rattle.memory.proofs.images.Sets.{on_page}

beside_add : {X : Type 0} (xs : List X) (x : X) (b : Bag X) → xs ⊕ (x & b) ≡ x & (xs ⊕ b)
beside_add [] x b = refl
beside_add (y ∷ xs) x b = ap (λ c. y & c) (beside_add xs x b) ∙ either_way y x (xs ⊕ b)

pub post_all_is : (page : ℕ) (ms : List (Mail W)) (b : Bag (Post W)) → post_all page ms b ≡ map (on_page page) ms ⊕ b
post_all_is page [] b = refl
post_all_is page (m ∷ ms) b = post_all_is page ms (on_page page m & b) ∙ beside_add (map (on_page page) ms) (on_page page m) b

pub map_beside : {X Y : Type 0} (f : X → Y) (xs : List X) (b : Bag X) → map_bag f (xs ⊕ b) ≡ map f xs ⊕ map_bag f b
map_beside f [] b = refl
map_beside f (x ∷ xs) b = ap (λ c. f x & c) (map_beside f xs b)

pub total_map : {X Y : Type 0} (f : X → Y) (g : Y → ℕ) (b : Bag X) → total g (map_bag f b) ≡ total (λ x. g (f x)) b
total_map f g empty = refl
total_map f g (x & b) = ap (λ n. g (f x) + n) (total_map f g b)
total_map f g (either_order x y b i) =
    is_prop→PathP (λ i. total g (map_bag f (either_order x y b i)) ≡ total (λ x. g (f x)) (either_order x y b i))
    (λ j. ℕ_set (total g (map_bag f (either_order x y b j))) (total (λ x. g (f x)) (either_order x y b j)))
    (ap (λ n. g (f x) + n) (ap (λ n. g (f y) + n) (total_map f g b))) (ap (λ n. g (f y) + n) (ap (λ n. g (f x) + n) (total_map f g b))) i

pub size_map : {X Y : Type 0} (f : X → Y) (b : Bag X) → size (map_bag f b) ≡ size b
size_map f b = total_map f (λ _. 1) b

-- those that count nothing add nothing
pub total_beside : {X : Type 0} (f : X → ℕ) (xs : List X) (b : Bag X) → All (λ x. f x ≡ 0) xs → total f (xs ⊕ b) ≡ total f b
total_beside f [] b h = refl
total_beside f (x ∷ xs) b h = omega (arith, h.0, total_beside f xs b h.1)
