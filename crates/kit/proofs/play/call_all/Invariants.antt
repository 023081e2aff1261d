use Rattle.std.proofs.Common.{◌≡◌, take, drop}
use Rattle.kit.specs.Plays.{AnsweredFrom}
use Rattle.kit.proofs.play.call_all.Given as goal

-- the turns so far have their answers, and the others are as they were
abbrev pub invariant-loop-turn : goal.invariant-loop-turn
invariant-loop-turn g l = record {
  answered : AnsweredFrom g.L.Link.limit g.L.Link.waiting g.L.Choice.joins g.L.Choice.chooses l.initial.kit
      (take l.turn-index l.fn.turns) (take l.turn-index l.turns) l.kit;
  rest : drop l.turn-index l.turns ≡ drop l.turn-index l.fn.turns;
}
