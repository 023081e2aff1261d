-- A number's bytes give the number again, and bytes are those of the number that they are, at every width.
use Rattle.std.proofs.Common.{◌≡◌, ℕ, zero, suc, ◌+◌, ◌*◌, ◌/◌, ◌%◌, ◌^◌, ◌<◌, ◌≤◌, List, [], ◌∷◌, ◌++◌, map, length, take, drop, w32, sym, refl, ap, ◌∙◌, subst, append_assoc, pow-suc, arith}
use native.Mathlib.Nat.{pow-zero}
use Rattle.std.proofs.lemmas.Nat.{div_below}
use Rattle.std.proofs.ByRecursion.{All-get_or}
use Rattle.std.proofs.lemmas.List.{get_or_at, get_or-take, get_or-drop, drop_more, length-append, length-take-le, length-drop}
use Rattle.std.proofs.lemmas.List.FromFn.{fill_by_all}
use Rattle.std.specs.Int.{from_le_bytes}
use Rattle.std.specs.List.{range_with_len}
use Rattle.records.specs.Laws.{Bytes}
use Rattle.records.specs.Numbers.{byte, low_first, number_at}

-- the number is read where it was written
pub number_back : (width n : ℕ) (front back : List ℕ) (place : ℕ) → length front ≡ place → n < 256 ^ width → number_at (front ++ (low_first width n ++ back)) place width ≡ n
number_back zero n front back place l h = omega (arith, pow-zero 256)
number_back (suc width) n front back place l h =
    let all = front ++ (low_first (suc width) n ++ back) in
    let low = n % 256 in
    let rest = low_first width (n / 256) ++ back in
    let first : byte all place ≡ low = get_or_at front low rest 0 place l in
    let regrouped : (front ++ low ∷ []) ++ rest ≡ all = append_assoc front (low ∷ []) rest in
    let below : n < 256 ^ width * 256 = subst (λ (x : ℕ). n < x) (pow-suc 256 width) h in
    let high : number_at all (place + 1) width ≡ n / 256 =
    ap (λ (xs : List ℕ). number_at xs (place + 1) width) (sym regrouped)
    ∙ number_back width (n / 256) (front ++ low ∷ []) back (place + 1) (omega (arith, length-append front (low ∷ []))) (div_below n 256 (256 ^ width) (omega arith) below) in
    omega arith

-- the bytes are written as they were read
pub bytes_back : (bs : List ℕ) (place width : ℕ) → Bytes bs → place + width ≤ length bs → low_first width (number_at bs place width) ≡ take width (drop place bs)
bytes_back bs place zero small h = refl
bytes_back bs place (suc width) small h =
    let low = byte bs place in
    let high = number_at bs (place + 1) width in
    let inside : place < length bs = omega arith in
    let narrow : low < 256 = All-get_or (λ b. b < 256) bs place 0 inside small in
    let remainder : (low + 256 * high) % 256 ≡ low = omega arith in
    let quotient : (low + 256 * high) / 256 ≡ high = omega arith in
    ap (λ (x : ℕ). x ∷ low_first width ((low + 256 * high) / 256)) remainder
    ∙ ap (λ (x : ℕ). low ∷ low_first width x) quotient
    ∙ ap (λ (xs : List ℕ). low ∷ xs) (bytes_back bs (place + 1) width small (omega arith))
    ∙ ap (take (suc width)) (sym (drop_more bs place 0 inside))

-- so many bytes are below the power of 256
pub number_below : (bs : List ℕ) (place width : ℕ) → Bytes bs → place + width ≤ length bs → number_at bs place width < 256 ^ width
number_below bs place zero small h = omega (arith, pow-zero 256)
number_below bs place (suc width) small h =
    let narrow : byte bs place < 256 = All-get_or (λ b. b < 256) bs place 0 (omega arith) small in
    let rest = number_below bs (place + 1) width small (omega arith) in
    omega (arith, pow-suc 256 width)

-- bytes that stand together, one by one
pub one_by_one : (bs : List ℕ) (place n : ℕ) → place + n ≤ length bs → take n (drop place bs) ≡ map (λ i. byte bs (place + i)) (range_with_len 0 n)
one_by_one bs place n h =
    fill_by_all (λ i. byte bs (place + i)) (take n (drop place bs)) n 0 (length-take-le n (drop place bs) (omega (arith, length-drop place bs))) (λ k lt. get_or-take n (drop place bs) k 0 lt ∙ get_or-drop place bs k 0)

-- the library's number of four bytes
pub word : (bs : List ℕ) (place : ℕ) → place + 4 ≤ length bs → from_le_bytes w32 (take 4 (drop place bs)) ≡ number_at bs place 4
word bs place h =
    let first : byte bs (place + 0) ≡ byte bs place = ap (byte bs) (omega arith) in
    let third : byte bs (place + 1 + 1) ≡ byte bs (place + 2) = ap (byte bs) (omega arith) in
    let fourth : byte bs (place + 1 + 1 + 1) ≡ byte bs (place + 3) = ap (byte bs) (omega arith) in
    let e : from_le_bytes w32 (take 4 (drop place bs)) ≡ byte bs (place + 0) + byte bs (place + 1) * 256 + byte bs (place + 2) * 65536 + byte bs (place + 3) * 16777216 = ap (from_le_bytes w32) (one_by_one bs place 4 h) in
    omega (arith, e, first, third, fourth)
