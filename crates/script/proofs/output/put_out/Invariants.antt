use Rattle.std.proofs.Common.{◌≤◌, length, take}
use Rattle.std.specs.Io.KnownBytes.{Appends}
use Rattle.script.proofs.output.put_out.Given as goal

-- the first characters are written
abbrev pub invariant-loop : goal.invariant-loop
invariant-loop g l = record {
  put : Appends (g.W.Write.contents l.initial.output) (g.W.Write.contents l.output) (take l.at l.chars);
  inside : l.at ≤ length l.chars;
}
