-- Reading and writing numbers undo each other.
use Rattle.std.proofs.Common.{◌≡◌, ℕ, zero, suc, ◌+◌, ◌*◌, ◌/◌, ◌%◌, ◌^◌, ◌<◌, ◌≤◌, List, [], ◌∷◌, ◌++◌, length, get_or, take, Some, None, Option, sym, refl, ap, ◌∙◌, subst, mod-lt, pow-suc, div-add-mod', add-one, arith}
use lib.Arith.{digits_div, digits_mod}
use native.Mathlib.Nat.{pow-zero}
use Rattle.std.specs.Option.{option_and_then}
use Rattle.std.proofs.lemmas.Nat.{div_below}
use Rattle.std.proofs.lemmas.List.{take_more, take_all}
use Rattle.std.proofs.lemmas.Bool.Decides.{nat_tests}
use Rattle.script.specs.Digits.{digit_char, digit_of, digits, numeral, numeral_after}
use Rattle.script.specs.Laws.{ReadBack, WrittenBack}

-- a digit's character is that digit, and no other character is
digit_of_char : (base d : ℕ) → base ≤ 16 → d < base → digit_of base (digit_char d) ≡ Some d
digit_of_char base d h l = grind (arith, nat_tests)

char_of_digit : (base c d : ℕ) → digit_of base c ≡ Some d → (d < base) × (digit_char d ≡ c)
char_of_digit base c d e = (grind (arith, nat_tests), grind (arith, nat_tests))

and_then_twice : (o : Option ℕ) (f g h : ℕ → Option ℕ) → ((d : ℕ) → f d ≡ option_and_then h (g d)) →
    option_and_then f o ≡ option_and_then h (option_and_then g o)
and_then_twice None f g h e = refl
and_then_twice (Some d) f g h e = e d

-- the number that a digit behind another number makes
abbrev behind : ℕ → Option ℕ → ℕ → Option ℕ
behind base o k = option_and_then (λ d. Some (k * base + d)) o

-- one character more
numeral_push : (base m : ℕ) (xs : List ℕ) (c : ℕ) →
    numeral_after base m (xs ++ c ∷ []) ≡ option_and_then (behind base (digit_of base c)) (numeral_after base m xs)
numeral_push base m [] c = refl
numeral_push base m (x ∷ xs) c =
    and_then_twice (digit_of base x) (λ d. numeral_after base (m * base + d) (xs ++ c ∷ []))
    (λ d. numeral_after base (m * base + d) xs) (behind base (digit_of base c))
    (λ d. numeral_push base (m * base + d) xs c)

pub read_back : ReadBack
read_back base zero n b h l = let none : n ≡ 0 = omega (arith, pow-zero base) in ap Some (sym none)
read_back base (suc width) n b h l =
    let q : n < base ^ width * base = subst (λ (x : ℕ). n < x) (pow-suc base width) l in
    let front = read_back base width (n / base) b h (div_below n base (base ^ width) (omega arith) q) in
    let last = digit_of_char base (n % base) h (mod-lt n {m = base} (omega arith)) in
    rw (numeral_push base 0 (digits base width (n / base)) (digit_char (n % base)), front, last)
    (ap Some (div-add-mod' n base))

-- if characters and one more write n, the characters write k, and n is k and the digit behind it
parts : (base n : ℕ) (o p : Option ℕ) → option_and_then (behind base p) o ≡ Some n →
    (k : ℕ) × (d : ℕ) × (o ≡ Some k) × (p ≡ Some d) × (k * base + d ≡ n)
parts base n None p e = cc
parts base n (Some k) None e = cc
parts base n (Some k) (Some d) e = (k, d, refl, refl, cc)

quotient_and_digit : (base n k d : ℕ) → k * base + d ≡ n → d < base → (n / base ≡ k) × (n % base ≡ d)
quotient_and_digit base n k d e h = (
  ap (λ (x : ℕ). x / base) (sym e)
      ∙ digits_div k h,
  ap (λ (x : ℕ). x % base) (sym e) ∙ digits_mod k h,
)

-- the first i characters are the digits of what they write
front_written : (base : ℕ) (cs : List ℕ) (i n : ℕ) → i ≤ length cs → numeral base (take i cs) ≡ Some n →
    digits base i n ≡ take i cs
front_written base cs zero n l e = refl
front_written base cs (suc i) n l e =
    let c = get_or cs i 0 in
    let more : take (suc i) cs ≡ take i cs ++ c ∷ [] = ap (λ (k : ℕ). take k cs) (sym (add-one i))
    ∙ take_more cs i 0 (omega arith) in
    let p = parts base n (numeral base (take i cs)) (digit_of base c) (sym (numeral_push base 0 (take i cs) c)
    ∙ ap (numeral base) (sym more) ∙ e) in
    let k = p.0 in
    let d = p.1 in
    let digit = char_of_digit base c d p.3 in
    let whole = quotient_and_digit base n k d p.4 digit.0 in
    rw (whole.0, whole.1, digit.1) (ap (λ (xs : List ℕ). xs ++ c ∷ []) (front_written base cs i k (omega arith) p.2)
    ∙ sym more)

pub written_back : WrittenBack
written_back base cs n b h e =
    let whole : take (length cs) cs ≡ cs = take_all (length cs) cs (omega arith) in
    front_written base cs (length cs) n (omega arith) (ap (numeral base) whole ∙ e) ∙ whole
