use Rattle.std.proofs.Common.{◌≡◌, ◌≤◌, ◌++◌, length, drop}
use Rattle.script.specs.Digits.{digits}
use Rattle.script.proofs.digits.write_number.Given as goal

-- the digits still to come, and those written
abbrev pub invariant-loop-i : goal.invariant-loop-i
invariant-loop-i l = (digits l.base l.i l.rest ++ drop l.i l.out ≡ digits l.base (length l.initial.out) l.n)
    × (l.i ≤ length l.out)
