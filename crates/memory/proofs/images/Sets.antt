-- Sets of boards in the model, and how they are those of the boards.
use Rattle.std.proofs.Common.{◌≡◌, ℕ, zero, suc, ◌+◌, ◌<◌, ◌≤◌, Bool, true, false, cond, List, replicate, [], ◌∷◌, ◌++◌, length, map, drop, set, get_or, refl, ap, ◌∙◌, sym, inl, inr, arith}
use Rattle.std.proofs.lemmas.Bool.{cases_Bool, cases_eq, true≢false}
use Rattle.std.proofs.lemmas.Bool.Decides.{nat_tests}
use Rattle.std.specs.List.{filter, range_with_len}
use Rattle.wire.specs.BoardSets as sets
use Rattle.wire.specs.declared.board_set.BoardSet.{BoardSet}
use Rattle.memory.proofs.model.Sets.{has, put, nobody}
use Rattle.memory.proofs.model.Kit.{none_below, invalidates, Post}
use Rattle.memory.proofs.model.Board.{Mail, invalidate}
use Rattle.memory.proofs.images.Images.{W, post_image}
use Rattle.wire.proofs.BoardSets.{member_below, lacks}
use Rattle.std.proofs.lemmas.List.{get_or-set_other, append-nil, map-append, get_or-drop}
use Rattle.std.proofs.lemmas.List.Elements.{filter-append}
use Rattle.memory.specs.Functions.{changed}
use Rattle.board.specs.Posts as board

pub has_is : (c : List Bool) (y : ℕ) → has c y ≡ get_or c y false
unfolding has
has_is [] y = refl
has_is (b ∷ c) zero = refl
has_is (b ∷ c) (suc y) = has_is c y

pub put_is : (c : List Bool) (a : ℕ) (v : Bool) → a < length c → put c a v ≡ set c a v
unfolding put
put_is [] a v l = absurd (omega (arith, l))
put_is (b ∷ c) zero v l = refl
put_is (b ∷ c) (suc a) v l = ap (λ (x : List Bool). b ∷ x) (put_is c a v (omega (arith, l)))

pub nobody_is : nobody ≡ replicate 16 false
unfolding nobody
nobody_is = refl

-- none below n is a member
none_past : (c : List Bool) → sets.none_of c ≡ true → (y : ℕ) → get_or c y false ≡ false
none_past [] h y = refl
none_past (true ∷ c) h y = absurd (true≢false (sym h))
none_past (false ∷ c) h zero = refl
none_past (false ∷ c) h (suc y) = none_past c h y

some_member : (c : List Bool) → sets.none_of c ≡ false → (y : ℕ) × (get_or c y false ≡ true)
some_member [] h = absurd (true≢false h)
some_member (true ∷ c) h = (0, refl)
some_member (false ∷ c) h = let r = some_member c h in (suc r.0, r.1)

none_below_all : (n : ℕ) (f : ℕ → Bool) → ((y : ℕ) → f y ≡ false) → none_below n f ≡ true
none_below_all zero f h = refl
none_below_all (suc n) f h = let a = h n in let b = none_below_all n f h in grind arith

none_below_some : (n : ℕ) (f : ℕ → Bool) (y : ℕ) → y < n → f y ≡ true → none_below n f ≡ false
none_below_some zero f y l h = absurd (omega (arith, l))
none_below_some (suc n) f y l h = elim (cases_eq y n) [
  | inl e ↦ (let a : f n ≡ true = ap f (sym e) ∙ h in grind arith)
  | inr e ↦ (let b = none_below_some n f y (omega (arith, l, e)) h in grind (arith, cases_Bool (f n)))
]

empty_by : (s : BoardSet) (n : ℕ) (f : ℕ → Bool) (b : Bool) → sets.is_empty s ≡ b → ((y : ℕ) → f y ≡ sets.has s y) → sets.is_below s n ≡ true → none_below n f ≡ b
empty_by s n f true e h below = none_below_all n f (λ y. h y ∙ none_past s.members e y)
empty_by s n f false e h below = let m = some_member s.members e in none_below_some n f m.0 (member_below s m.0 n below m.1) (h m.0 ∙ m.1)

-- a set whose members are all below n is empty where the model finds none below n
pub empty_is : (s : BoardSet) (n : ℕ) (f : ℕ → Bool) → ((y : ℕ) → f y ≡ sets.has s y) → sets.is_below s n ≡ true → none_below n f ≡ sets.is_empty s
empty_is s n f h below = empty_by s n f (sets.is_empty s) refl h below

-- a member is taken out
pub lacking_is : (s : BoardSet) (a : ℕ) (f : ℕ → Bool) → ((y : ℕ) → f y ≡ sets.has s y) → (y : ℕ) → changed f a false y ≡ sets.has (sets.without_member s a) y
lacking_is s a f h y = elim (cases_eq y a) [
  | inl e ↦ (let z = lacks s a in rw e (grind (arith, nat_tests)))
  | inr e ↦ (let z : sets.has (sets.without_member s a) y ≡ sets.has s y = get_or-set_other s.members a y false false e in let w = h y in grind (arith, nat_tests))
]

-- the members in rising order
range_more : (a k : ℕ) → range_with_len a (suc k) ≡ range_with_len a k ++ (a + k) ∷ []
range_more a zero = ap (λ (x : ℕ). x ∷ []) (omega arith)
range_more a (suc k) = ap (λ (x : List ℕ). a ∷ x) (range_more (a + 1) k ∙ ap (λ (x : ℕ). range_with_len (a + 1) k ++ x ∷ []) (omega arith))

abbrev to_each : ℕ → List ℕ → List (Mail W)
to_each me ys = map (λ y. invalidate me y) ys

rising : (k me : ℕ) (c : List Bool) → invalidates {W = W} k me c ≡ to_each me (filter (λ y. get_or c y false) (range_with_len 0 k))
rising zero me c = refl
rising (suc k) me c =
    ap (λ (x : List (Mail W)). x ++ cond (has c k) (invalidate me k ∷ []) []) (rising k me c)
    ∙ last (has c k) (get_or c k false) (has_is c k)
    ∙ sym (ap (λ (x : List ℕ). to_each me (filter (λ y. get_or c y false) x)) (range_more 0 k ∙ ap (λ (x : ℕ). range_with_len 0 k ++ x ∷ []) {y = k} (omega arith)) ∙ ap (to_each me) (filter-append (λ y. get_or c y false) (range_with_len 0 k) (k ∷ []))
    ∙ map-append (λ y. invalidate me y) (filter (λ y. get_or c y false) (range_with_len 0 k)) (cond (get_or c k false) (k ∷ []) []))
  where
    last : (a b : Bool) → a ≡ b → to_each me (filter (λ y. get_or c y false) (range_with_len 0 k)) ++ cond a (invalidate me k ∷ []) [] ≡ to_each me (filter (λ y. get_or c y false) (range_with_len 0 k)) ++ to_each me (cond b (k ∷ []) [])
    last true true e = refl
    last false false e = refl
    last true false e = absurd (true≢false e)
    last false true e = absurd (true≢false (sym e))

none_more : (k n me : ℕ) (s : BoardSet) → n ≤ k → sets.is_below s n ≡ true → invalidates {W = W} k me s.members ≡ invalidates n me s.members
none_more zero n me s l below = let e : 0 ≡ n = omega (arith, l) in ap (λ (x : ℕ). invalidates {W = W} x me s.members) e
none_more (suc k) n me s l below = elim (cases_eq n (suc k)) [
  | inl e ↦ ap (λ (x : ℕ). invalidates {W = W} x me s.members) (sym e)
  | inr e ↦ by (omega (arith, l, e)) (has s.members k) refl ∙ none_more k n me s (omega (arith, l, e)) below
]
  where
    by : n ≤ k → (b : Bool) → has s.members k ≡ b → invalidates {W = W} k me s.members ++ cond b (invalidate me k ∷ []) [] ≡ invalidates k me s.members
    by h true e = absurd (let m = member_below s k n below (sym (has_is s.members k) ∙ e) in omega (arith, m, h))
    by h false e = append-nil (invalidates {W = W} k me s.members)

abbrev pub on_page : ℕ → Mail W → Post W
on_page page m = record { page = page; mail = m }

pub invalidates_are : (n me page : ℕ) (s : BoardSet) → n ≤ 16 → sets.is_below s n ≡ true → map (on_page page) (invalidates n me s.members) ≡ map post_image (board.invalidates me page s)
invalidates_are n me page s l below =
    ap (map (on_page page)) (sym (none_more 16 n me s l below) ∙ rising 16 me s.members)
    ∙ each (filter (λ y. get_or s.members y false) (range_with_len 0 16))
  where
    each : (ys : List ℕ) → map (on_page page) (to_each me ys) ≡ map post_image (map (board.invalidate me page) ys)
    each [] = refl
    each (y ∷ ys) = ap (λ (z : List (Post W)). on_page page (invalidate me y) ∷ z) (each ys)

-- a set each of whose members is below n
pub below_from : (s : BoardSet) (n : ℕ) → ((y : ℕ) → sets.has s y ≡ true → y < n) → sets.is_below s n ≡ true
below_from s n h = by (sets.none_of (drop n s.members)) refl
  where
    by : (b : Bool) → sets.none_of (drop n s.members) ≡ b → sets.none_of (drop n s.members) ≡ true
    by true e = e
    by false e = absurd (let m = some_member (drop n s.members) e in let l = h (n + m.0) (sym (get_or-drop n s.members m.0 false) ∙ m.1) in omega (arith, l))

-- where nobody is a member, each place says so
pub no_member : (c : List Bool) → sets.none_of c ≡ true → c ≡ replicate (length c) false
no_member [] h = refl
no_member (true ∷ c) h = absurd (true≢false (sym h))
no_member (false ∷ c) h = ap (λ (x : List Bool). false ∷ x) (no_member c h)
