use Rattle.std.proofs.Common.{sym, subst, Some, Ok}
use Rattle.script.proofs.Turns.{placed_turns}
use Rattle.script.specs.Benches.{Ready}
use Rattle.script.specs.Turns.{Turns}
use Rattle.script.specs.declared.answer.Answer.TheVariants as answer
use Rattle.script.specs.declared.bench.Bench.TheVariants.{Loading}
use Rattle.script.specs.declared.call.Call.TheVariants as asked
use Rattle.script.proofs.turn.place.Goals as goal

pub returns : goal.returns
returns c =
    let done = c.in_ok-place.ensures in
    subst (λ b. Turns (Some (asked.Place c.args.address c.args.word)) b (Ok (answer.Placed c.args.address c.args.word))
    (Loading c.place.new.self)) (sym c.in-Loading.is)
    (placed_turns c.in-Loading.kit c.place.new.self c.args.address c.args.word (subst Ready c.in-Loading.is c.requires)
    done.refused done.placed.0 done.placed.1)
