-- Who is another of the boards.
use Rattle.std.proofs.Common.{◌≡◌, ℕ, ◌<◌, nat_lt, true, false, not, eqb, arith}
use Rattle.std.proofs.lemmas.Bool.{and_parts, ltb-true}
use Rattle.lone.specs.Forms.{another}

pub another_is : (boards me board : ℕ) → another boards me board ≡ true → (board < boards) × (eqb board me ≡ false)
another_is boards me board h =
    let a = and_parts (nat_lt board boards) (not (eqb board me)) h in
    (ltb-true board boards a.0, grind (arith, a.1))
