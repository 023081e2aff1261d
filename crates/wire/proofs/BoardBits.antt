-- A set of boards as a number gives the set again, and a number of sixteen bits the number.
use Rattle.std.proofs.Common.{◌≡◌, ℕ, zero, suc, ◌+◌, ◌*◌, ◌/◌, ◌%◌, ◌^◌, ◌<◌, ◌≤◌, Bool, true, false, cond, eqb, List, [], ◌∷◌, map, length, get_or, ◌++◌, sym, refl, ap, ◌∙◌, append_assoc, pow-suc, add-one, one-add, arith, pow_mono}
use Rattle.std.specs.List.{range_with_len}
use Rattle.std.proofs.lemmas.Nat.{shr-shr, mod-pow-add}
use Rattle.std.proofs.lemmas.List.FromFn.{fill_by_all}
use Rattle.std.proofs.lemmas.List.{append-nil, length-append}
use Rattle.std.proofs.lemmas.Bool.Decides.{nat_tests}
use Rattle.wire.specs.declared.board_set.BoardSet.{BoardSet}
use Rattle.wire.specs.BoardBits.{bits, bit, set_bits, set_of_bits}

pub bits_below : (bs : List Bool) → bits bs < 2 ^ length bs
bits_below [] = omega arith
bits_below (true ∷ bs) = omega (arith, bits_below bs, pow-suc 2 (length bs))
bits_below (false ∷ bs) = omega (arith, bits_below bs, pow-suc 2 (length bs))

-- past the lowest bit stand those of half the number
bit_past : (n i : ℕ) → bit n (suc i) ≡ bit (n / 2) i
bit_past n i = ap (λ (x : ℕ). eqb (x % 2) 1) (ap (λ (k : ℕ). n / 2 ^ k) (sym (one-add i)) ∙ sym (shr-shr n 1 i))

bit_lowest : (b : Bool) (n : ℕ) → bit (cond b 1 0 + 2 * n) zero ≡ b
bit_lowest true n = grind (arith, nat_tests)
bit_lowest false n = grind (arith, nat_tests)

half : (b : Bool) (n : ℕ) → (cond b 1 0 + 2 * n) / 2 ≡ n
half true n = omega arith
half false n = omega arith

bit_of_bits : (bs : List Bool) (i : ℕ) → i < length bs → bit (bits bs) i ≡ get_or bs i false
bit_of_bits [] i h = absurd (omega arith)
bit_of_bits (b ∷ bs) zero h = bit_lowest b (bits bs)
bit_of_bits (b ∷ bs) (suc i) h = bit_past (cond b 1 0 + 2 * bits bs) i ∙ ap (λ (x : ℕ). bit x i) (half b (bits bs)) ∙ bit_of_bits bs i (omega arith)

lowest : (n : ℕ) → cond (eqb (n % 2) 1) 1 0 ≡ n % 2
lowest n = grind (arith, nat_tests)

-- so many bits of n, from the one at a on, are those of the number that they make
bits_of_bit : (n a width : ℕ) → bits (map (bit n) (range_with_len a width)) ≡ n / 2 ^ a % 2 ^ width
bits_of_bit n a zero = omega arith
bits_of_bit n a (suc width) =
    let m = n / 2 ^ a in
    let next : m / 2 ≡ n / 2 ^ (a + 1) = shr-shr n a 1 in
    let split : m % 2 ^ (width + 1) ≡ (m / 2 % 2 ^ width) * 2 + m % 2 = mod-pow-add m width 1 in
    let more = bits_of_bit n (a + 1) width in
    let one : m % 2 ^ suc width ≡ m % 2 ^ (width + 1) = ap (λ (k : ℕ). m % 2 ^ k) (sym (add-one width)) in
    let high : m / 2 % 2 ^ width ≡ n / 2 ^ (a + 1) % 2 ^ width = ap (λ (x : ℕ). x % 2 ^ width) next in
    omega (arith, lowest m)

pub set_back : (s : BoardSet) → length s.members ≡ 16 → set_of_bits (set_bits s) ≡ s
unfolding set_of_bits
set_back s l = ap (λ (bs : List Bool). record { members = bs }) (sym (fill_by_all (bit (set_bits s)) s.members 16 false l (λ k h. sym (bit_of_bits s.members k (omega arith)))))

pub bits_back : (n : ℕ) → n < 2 ^ 16 → set_bits (set_of_bits n) ≡ n
unfolding set_of_bits
bits_back n h = bits_of_bit n 0 16 ∙ omega arith

-- The bits of the sets' last boards are those of done; the boards before them are still to come, the last of these next.
pub record Counted (bs rest : List Bool) (n : ℕ) : Type 0 where
  pub done : List Bool
  pub both : rest ++ done ≡ bs
  pub number : n ≡ bits done

pub counted_none : (bs rest : List Bool) → rest ≡ bs → Counted bs rest 0
counted_none bs rest e = record { done = []; both = append-nil rest ∙ e; number = refl }

-- one bit more stays within sixteen
pub counted_room : (bs rest fewer : List Bool) (b : Bool) (n : ℕ) → length bs ≡ 16 → rest ≡ fewer ++ b ∷ [] → Counted bs rest n → n < 2 ^ 15
counted_room bs rest fewer b n l e c =
    let few : length c.done ≤ 15 = omega (arith, ap length c.both, ap length e, length-append rest c.done, length-append fewer (b ∷ [])) in
    omega (arith, bits_below c.done, c.number, pow_mono {i = length c.done} {j = 15} few)

pub counted_more : (bs rest fewer : List Bool) (b : Bool) (n m : ℕ) → rest ≡ fewer ++ b ∷ [] → m ≡ cond b 1 0 + 2 * n → Counted bs rest n → Counted bs fewer m
counted_more bs rest fewer b n m e f c = record {
  done = b ∷ c.done;
  both = sym (append_assoc fewer (b ∷ []) c.done) ∙ ap (λ (xs : List Bool). xs ++ c.done) (sym e) ∙ c.both;
  number = f ∙ ap (λ (k : ℕ). cond b 1 0 + 2 * k) c.number;
}

pub counted_all : (bs rest : List Bool) (n : ℕ) → length rest ≡ 0 → Counted bs rest n → n ≡ bits bs
counted_all bs [] n e c = c.number ∙ ap bits c.both
counted_all bs (b ∷ rest) n e c = absurd (omega arith)
