-- A number read character by character stays below the power of its base.
use Rattle.std.proofs.Common.{◌≡◌, ℕ, ◌+◌, ◌*◌, ◌^◌, ◌<◌, ◌≤◌, ◌∙◌, mul-le-mul_right, add-mul, pow-suc, add-one, arith}
use native.Mathlib.Nat.{pow-le-pow_right}

pow_more : (base i : ℕ) → base ^ (i + 1) ≡ base ^ i * base
pow_more base i = rw (add-one, pow-suc)

-- so many digits stay below the power of the base
pub bound_more : (base n d i : ℕ) → n < base ^ i → d < base → n * base + d < base ^ (i + 1)
bound_more base n d i h l =
    let m : (n + 1) * base ≤ base ^ i * base = mul-le-mul_right base (omega arith) in
    let s : (n + 1) * base ≡ n * base + base = add-mul n 1 base ∙ omega arith in
    omega (arith, pow_more base i)

-- and so fit a word where all of them do
pub fits_more : (base n d i len : ℕ) → base ^ len ≤ 2 ^ 32 → i < len → n < base ^ i → d < base → n * base + d < 2 ^ 32
fits_more base n d i len r l h b = omega (
  arith,
  bound_more base n d i h b,
  pow-le-pow_right {n =
      base} (omega arith) {i = i + 1} {j = len} (omega arith),
)
