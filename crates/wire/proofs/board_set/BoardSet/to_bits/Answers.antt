use Rattle.std.proofs.Common.{◌≡◌, length, rules}
use Rattle.wire.proofs.BoardBits.{counted_room}
use Rattle.wire.proofs.board_set.BoardSet.to_bits.Goals as goal

pub with_lowest-bits-requires : goal.with_lowest-bits-requires
with_lowest-bits-requires c =
    let l : length c.args.self.now.members ≡ 16 = search rules in
    counted_room c.args.self.now.members _ _ c.in-Some.member.now c.loop-member.bits l c.in-Some.ensures.steps c.loop-member.invariant
