-- Numbers as scripts and listings write them: digits of a base, the most significant first, letters lowercase.
use Rattle.std.specs.Prelude.{ℕ, zero, suc, ◌+◌, ◌-◌, ◌*◌, ◌/◌, ◌%◌, cond, List, [], ◌∷◌, ◌++◌, Some, None, Option, nat_lt}
use Rattle.wire.specs.Questions.{inside}
use Rattle.script.specs.Options.{◌>>=◌}
use Rattle.script.specs.declared.digits.Base.{Base}
use Rattle.script.specs.declared.digits.Base.TheVariants.{Ten, Sixteen}

-- the number of each base
abbrev pub base_number : Base → ℕ
base_number Ten = 10
base_number Sixteen = 16

-- the character of a digit: 0 to 9, then a to f
abbrev pub digit_char : ℕ → ℕ
digit_char d = cond (nat_lt d 10) (48 + d) (87 + d)

abbrev pub below : ℕ → ℕ → Option ℕ
below base d = cond (nat_lt d base) (Some d) None

-- the digit of a base that a character is
abbrev pub digit_of : ℕ → ℕ → Option ℕ
digit_of base c = cond (inside 48 57 c) (below base (c - 48)) (cond (inside 97 102 c) (below base (c - 87)) None)

-- a number written in so many digits
abbrev pub digits : ℕ → ℕ → ℕ → List ℕ
digits base zero n = []
digits base (suc width) n = digits base width (n / base) ++ digit_char (n % base) ∷ []

-- the number that characters go on to write where n stands before them
abbrev pub numeral_after : ℕ → ℕ → List ℕ → Option ℕ
numeral_after base n [] = Some n
numeral_after base n (c ∷ cs) = digit_of base c >>= (λ d. numeral_after base (n * base + d) cs)

-- the number that characters write, if each is a digit
abbrev pub numeral : ℕ → List ℕ → Option ℕ
numeral base cs = numeral_after base 0 cs
