-- Laws of sets of boards.
use Rattle.std.proofs.Common.{◌≡◌, ℕ, zero, suc, ◌-◌, ◌<◌, ◌≤◌, Bool, true, false, not, ◌||◌, List, [], ◌∷◌, length, take, drop, set, replicate, get_or, refl, ap, ◌∙◌, sym, arith}
use Rattle.std.proofs.lemmas.Bool.{true≢false, and_parts, and_from}
use Rattle.std.proofs.lemmas.List.{take_all, length-drop, get_or-set_other}
use Rattle.std.specs.List.{list_any, list_all, range_with_len}
use Rattle.wire.specs.BoardSets.{none_of, has, is_below, is_part, no_boards, with_member, without_member}
use Rattle.wire.specs.declared.board_set.BoardSet.{BoardSet}

-- it is where no test for a member is met
pub none_of_any : (test : Bool → Bool) → test true ≡ true → test false ≡ false → (bs : List Bool) → not (list_any test bs) ≡ none_of bs
none_of_any test t f [] = refl
none_of_any test t f (true ∷ bs) = cc
none_of_any test t f (false ∷ bs) = let rest = none_of_any test t f bs in cc

-- nor past a number
pub none_past : (test : Bool → Bool) → test true ≡ true → test false ≡ false → (bs : List Bool) (n len : ℕ) → length bs - n ≤ len → not (list_any test (take len (drop n bs))) ≡ none_of (drop n bs)
none_past test t f bs n len h =
    none_of_any test t f (take len (drop n bs)) ∙ ap none_of (take_all len (drop n bs) (omega (arith, length-drop n bs)))

-- a board that is no member any more
none_without : (bs : List Bool) (i : ℕ) → none_of bs ≡ true → none_of (set bs i false) ≡ true
none_without [] i h = h
none_without (true ∷ bs) i h = absurd (true≢false (sym h))
none_without (false ∷ bs) zero h = h
none_without (false ∷ bs) (suc i) h = none_without bs i h

drop_without : (bs : List Bool) (n i : ℕ) → none_of (drop n bs) ≡ true → none_of (drop n (set bs i false)) ≡ true
drop_without bs zero i h = none_without bs i h
drop_without [] (suc n) i h = h
drop_without (b ∷ bs) (suc n) zero h = h
drop_without (b ∷ bs) (suc n) (suc i) h = drop_without bs n i h

drop_with : (bs : List Bool) (n i : ℕ) (b : Bool) → i < n → none_of (drop n bs) ≡ true → none_of (drop n (set bs i b)) ≡ true
drop_with bs zero i b l h = absurd (omega (arith, l))
drop_with [] (suc n) i b l h = h
drop_with (x ∷ bs) (suc n) zero b l h = h
drop_with (x ∷ bs) (suc n) (suc i) b l h = drop_with bs n i b (omega (arith, l)) h

drop_false : (k n : ℕ) → none_of (drop n (replicate k false)) ≡ true
drop_false zero zero = refl
drop_false zero (suc n) = refl
drop_false (suc k) zero = drop_false k zero
drop_false (suc k) (suc n) = drop_false k n

not_past : (bs : List Bool) (n i : ℕ) → none_of (drop n bs) ≡ true → get_or bs i false ≡ true → i < n
not_past [] n i h e = absurd (true≢false (sym e))
not_past (true ∷ bs) zero i h e = absurd (true≢false (sym h))
not_past (false ∷ bs) zero zero h e = absurd (true≢false (sym e))
not_past (false ∷ bs) zero (suc i) h e = absurd (let l = not_past bs zero i h e in omega (arith, l))
not_past (b ∷ bs) (suc n) zero h e = omega arith
not_past (b ∷ bs) (suc n) (suc i) h e = let l = not_past bs n i h e in omega (arith, l)

-- which sets have numbers below n alone
pub below_without : (s : BoardSet) (board n : ℕ) → is_below s n ≡ true → is_below (without_member s board) n ≡ true
below_without s board n h = drop_without s.members n board h

pub below_with : (s : BoardSet) (board n : ℕ) → board < n → is_below s n ≡ true → is_below (with_member s board) n ≡ true
below_with s board n l h = drop_with s.members n board true l h

pub below_none : (n : ℕ) → is_below no_boards n ≡ true
below_none n = drop_false 16 n

pub member_below : (s : BoardSet) (board n : ℕ) → is_below s n ≡ true → has s board ≡ true → board < n
member_below s board n h e = not_past s.members n board h e

-- a part of a set stays one
part_step : (p q : ℕ → Bool) → ((x : ℕ) → p x ≡ true → q x ≡ true) → (xs : List ℕ) → list_all p xs ≡ true → list_all q xs ≡ true
part_step p q f [] h = h
part_step p q f (x ∷ xs) h = let parts = and_parts (p x) (list_all p xs) h in and_from (q x) (list_all q xs) (f x parts.0) (part_step p q f xs parts.1)

same_or_not : (b : Bool) → (not b || b) ≡ true
same_or_not true = refl
same_or_not false = refl

pub part_same : (s : BoardSet) → is_part s s ≡ true
part_same s = part_step (λ x. true) (λ x. not (has s x) || has s x) (λ x e. same_or_not (has s x)) (range_with_len 0 16) refl

lacking : (bs : List Bool) (i : ℕ) → get_or (set bs i false) i false ≡ false
lacking [] i = refl
lacking (b ∷ bs) zero = refl
lacking (b ∷ bs) (suc i) = lacking bs i

was_there : (bs : List Bool) (i j : ℕ) → get_or (set bs i false) j false ≡ true → get_or bs j false ≡ true
was_there [] i j h = h
was_there (b ∷ bs) zero zero h = absurd (true≢false (sym h))
was_there (b ∷ bs) zero (suc j) h = h
was_there (b ∷ bs) (suc i) zero h = h
was_there (b ∷ bs) (suc i) (suc j) h = was_there bs i j h

pub lacks : (s : BoardSet) (board : ℕ) → has (without_member s board) board ≡ false
lacks s board = lacking s.members board

pub other_member : (s : BoardSet) (board other : ℕ) → (other ≡ board → ⊥) → has (with_member s board) other ≡ has s other
other_member s board other h = get_or-set_other s.members board other true false h

pub was_member : (s : BoardSet) (board other : ℕ) → has (without_member s board) other ≡ true → has s other ≡ true
was_member s board other h = was_there s.members board other h

not_or : (b c d : Bool) → (c ≡ true → b ≡ true) → (not b || d) ≡ true → (not c || d) ≡ true
not_or b true d f h = ap (λ (x : Bool). not x || d) (sym (f refl)) ∙ h
not_or b false d f h = refl

pub part_without : (s t : BoardSet) (board : ℕ) → is_part s t ≡ true → is_part (without_member s board) t ≡ true
part_without s t board h =
    part_step (λ x. not (has s x) || has t x) (λ x. not (has (without_member s board) x) || has t x)
    (λ x e. not_or (has s x) (has (without_member s board) x) (has t x) (was_member s board x) e) (range_with_len 0 16) h

no_member : (k i : ℕ) → get_or (replicate k false) i false ≡ false
no_member zero i = refl
no_member (suc k) zero = refl
no_member (suc k) (suc i) = no_member k i

pub none_has : (board : ℕ) → has no_boards board ≡ false
none_has board = no_member 16 board
