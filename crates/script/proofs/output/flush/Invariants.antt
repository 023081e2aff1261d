use Rattle.std.specs.Io.KnownBytes.{Keeps}
use Rattle.script.proofs.output.flush.Given as goal

-- what was written stays
abbrev pub invariant-loop : goal.invariant-loop
invariant-loop g l = Keeps (g.W.Write.contents l.initial.output) (g.W.Write.contents l.output)
