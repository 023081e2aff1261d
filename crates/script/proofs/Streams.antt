-- A script that is answered as it is read.
use Rattle.std.proofs.Common.{◌≡◌, ℕ, ◌+◌, ◌-◌, ◌≤◌, List, ◌++◌, length, take, drop, Some, None, Option, ap, subst, sym, ◌∙◌, append_assoc, append-nil, arith}
use Rattle.std.proofs.lemmas.List.{take_at, take-append-drop, take_all, drop-take, length-take, length-drop}
use lib.Seq.{paste, take-take}
use Rattle.std.specs.Io.KnownBytes.{Keeps, Consumes, Appends}

-- bytes that were kept and then consumed were consumed
pub kept_consumed : (a b c : Option (List ℕ)) (bs : List ℕ) → Keeps a b → Consumes b c bs → Consumes a c bs
kept_consumed None b c bs k h = tt
kept_consumed (Some xs) None c bs k h = absurd k
kept_consumed (Some xs) (Some ys) None bs k h = absurd h
kept_consumed (Some xs) (Some ys) (Some zs) bs k h = sym k ∙ h

pub kept_twice : (a b c : Option (List ℕ)) → Keeps a b → Keeps b c → Keeps a c
kept_twice None b c k h = tt
kept_twice (Some xs) None c k h = absurd k
kept_twice (Some xs) (Some ys) None k h = absurd h
kept_twice (Some xs) (Some ys) (Some zs) k h = h ∙ k

-- Bytes that are put out.
pub put_none : (a : Option (List ℕ)) (bs : List ℕ) → Appends a a (take 0 bs)
put_none None bs = tt
put_none (Some xs) bs = sym (append-nil xs)

pub put_more : (a b c : Option (List ℕ)) (bs : List ℕ) (at n : ℕ) → Appends a b (take at bs) →
    Appends b c (take n (drop at bs)) → Appends a c (take (at + n) bs)
put_more None b c bs at n p q = tt
put_more (Some xs) None c bs at n p q = absurd p
put_more (Some xs) (Some ys) None bs at n p q = absurd q
put_more (Some xs) (Some ys) (Some zs) bs at n p q =
    let few : at ≤ at + n = omega arith in
    q ∙ ap (λ (l : List ℕ). l ++ take n (drop at bs)) p ∙ append_assoc xs (take at bs) (take n (drop at bs))
    ∙ ap (λ (l : List ℕ). xs ++ l) (ap (λ (l : List ℕ). take at bs ++ l) (sym (drop-take at n bs))
    ∙ ap (λ (l : List ℕ). l ++ drop at (take (at + n) bs)) (sym (take-take at (at + n) bs few))
    ∙ take-append-drop at (take (at + n) bs))

pub put_rest : (b c : Option (List ℕ)) (bs : List ℕ) (at n : ℕ) →
    Appends b c (take n (take (length bs - at) (drop at bs))) → Appends b c (take n (drop at bs))
put_rest b c bs at n p =
    subst (λ (l : List ℕ). Appends b c (take n l))
    (take_all (length bs - at) (drop at bs) (omega (arith, length-drop at bs))) p

pub put_kept : (a b c : Option (List ℕ)) (bs : List ℕ) → Appends a b bs → Keeps b c → Appends a c bs
put_kept None b c bs p q = tt
put_kept (Some xs) None c bs p q = absurd p
put_kept (Some xs) (Some ys) None bs p q = absurd q
put_kept (Some xs) (Some ys) (Some zs) bs p q = q ∙ p

pub put_all : (a b : Option (List ℕ)) (bs : List ℕ) (at : ℕ) → length bs ≤ at → Appends a b (take at bs) →
    Appends a b bs
put_all a b bs at h p = subst (λ l. Appends a b l) (take_all at bs h) p

-- The characters in hand, where the first are let go.
pub forgotten : (xs : List ℕ) (count len : ℕ) → count ≤ len → len ≤ length xs →
    take (len - count) (paste xs 0 (drop count xs) (len - count)) ≡ drop count (take len xs)
forgotten xs count len h l =
    let n = len - count in
    let all : count + n ≡ len = omega arith in
    take_at (take n (drop count xs)) (drop (0 + n) xs) n
    (omega (arith, length-take n (drop count xs), length-drop count xs))
    ∙ sym (drop-take count n xs) ∙ ap (λ (k : ℕ). drop count (take k xs)) all
