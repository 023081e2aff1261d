use Rattle.std.proofs.Common.{length, arith}
use Rattle.script.specs.Digits.{base_number}
use Rattle.script.proofs.Numerals.{fits_more}
use Rattle.script.proofs.digits.read_number.Goals as goal

pub append-n-requires : goal.append-n-requires
append-n-requires c =
    fits_more (base_number c.args.base) c.loop-c.n c.in_ok-digit.field-0 c.loop-c.c-index (length c.args.text.now)
    c.requires (omega arith) c.loop-c.invariant.1 c.in_ok-digit.ensures.bound
