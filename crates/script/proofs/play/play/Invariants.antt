use Rattle.std.proofs.Common.{◌≡◌, ◌<◌, false, length}
use Rattle.script.specs.Players.{has_ended, play_of}
use Rattle.script.specs.Streams.{at_hand}
use Rattle.script.proofs.Progress.{Progress}
use Rattle.script.proofs.play.play.Given as goal

-- all whole records that were read are answered, and the play is not over
abbrev pub invariant-loop : goal.invariant-loop
invariant-loop g l = record {
  so : Progress (g.W.Write.contents l.initial.output) (g.R.Read.remaining l.initial.input) (g.W.Write.contents l.output)
      (g.R.Read.remaining l.input) (play_of l.session.player) (at_hand l.session.hand);
  hand : length (at_hand l.session.hand) < 16;
  going : has_ended (play_of l.session.player) ≡ false;
}
