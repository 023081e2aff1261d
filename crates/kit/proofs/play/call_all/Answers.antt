use Rattle.std.proofs.Common.{rules, arith}
use Rattle.kit.proofs.Playing.{others_stay, none_answered, one_more_answered}
use Rattle.kit.proofs.play.call_all.Goals as goal

pub loop-turn-init : goal.loop-turn-init
loop-turn-init g c = record {
  answered =
      none_answered g.L.Link.limit g.L.Link.waiting g.L.Choice.joins g.L.Choice.chooses c.args.kit.now c.args.turns.now;
  rest = search rules;
}

pub loop-turn-preserved : goal.loop-turn-preserved
loop-turn-preserved g c =
    let turn = c.carry_out.new.turn in
    let so_far = c.loop-turn in
    let made = c.carry_out in
    let given = one_more_answered g.L.Link.limit g.L.Link.waiting g.L.Choice.joins g.L.Choice.chooses c.args.kit.now
    so_far.kit made.new.kit c.args.turns.now so_far.turns so_far.turn-index _ turn
    (omega (arith, c.loop-turn-test.true))
    (search rules) so_far.invariant.rest so_far.invariant.answered made.ensures.call made.ensures.answer in
    record {
      answered = given;
      rest = others_stay c.args.turns.now so_far.turns so_far.turn-index turn so_far.invariant.rest;
    }
