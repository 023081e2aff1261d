-- A call asks its questions in order; the first that is answered no refuses it with its number.
use Rattle.std.specs.Prelude.{ℕ, Bool, cond, ◌&&◌, List, [], ◌∷◌, Some, None, Ok, Err, Option, Result, nat_le}
use Rattle.wire.specs.declared.fault.Fault.{Fault}
use Rattle.wire.specs.Faults.{number}

-- the number of the first question that is answered no
abbrev pub first_no : List (ℕ × Bool) → Option ℕ
first_no [] = None
first_no (q ∷ qs) = cond q.1 (first_no qs) (Some q.0)

-- the number that a call is refused with
abbrev pub refusal : {T : Type 0} → Result T Fault → Option ℕ
refusal (Ok x) = None
refusal (Err e) = Some (number e)

-- n is one of low to high
abbrev pub inside : ℕ → ℕ → ℕ → Bool
inside low high n = nat_le low n && nat_le n high
