use Rattle.wire.proofs.BoardBits.{Counted}
use Rattle.wire.proofs.board_set.BoardSet.to_bits.Given as goal

abbrev pub invariant-loop-member : goal.invariant-loop-member
invariant-loop-member l = Counted l.self.members l.member-iterator.iter.rest.now l.bits
