use Rattle.std.proofs.Common.{◌≤◌, arith}
use Rattle.std.proofs.lemmas.List.{length-take}
use Rattle.script.proofs.Streams.{forgotten}
use Rattle.script.proofs.hand.Hand.forget.Goals as goal

pub returns : goal.returns
returns c =
    let h = c.args.self.now in
    let inside : c.args.count ≤ h.len = omega (arith, length-take h.len h.chars, c.requires) in
    rw c.copy_within.ensures.after (forgotten h.chars c.args.count h.len inside (omega (arith, h.room, h.inside)))
