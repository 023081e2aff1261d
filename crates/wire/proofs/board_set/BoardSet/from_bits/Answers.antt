use Rattle.std.proofs.Common.{Bool, false, List, ap, rules}
use Rattle.wire.specs.BoardBits.{bit, set_of_bits}
use Rattle.wire.proofs.FromFn.{made}
use Rattle.wire.proofs.board_set.BoardSet.from_bits.Goals as goal

pub returns : goal.returns
unfolding set_of_bits
returns c = ap (λ (ms : List Bool). record { members = ms }) (made _ _ (bit c.args.bits) 16 (λ i y q lt m. let n = m.met in search rules) c.from_fn.result false c.from_fn.ensures.items)
