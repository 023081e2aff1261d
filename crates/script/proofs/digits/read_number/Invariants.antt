use Rattle.std.proofs.Common.{◌≡◌, ◌^◌, ◌<◌, drop}
use Rattle.script.specs.Digits.{base_number, numeral, numeral_after}
use Rattle.script.proofs.digits.read_number.Given as goal

abbrev pub invariant-loop-c : goal.invariant-loop-c
invariant-loop-c l = (numeral_after (base_number l.base) l.n (drop l.c-index l.text)
    ≡ numeral (base_number l.base) l.text) × (l.n < base_number l.base ^ l.c-index)
