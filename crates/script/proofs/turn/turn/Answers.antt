use Rattle.std.proofs.Common.{rules}
use Rattle.script.proofs.Turns.{unread}
use Rattle.script.specs.Records.{form}
use Rattle.script.proofs.turn.turn.Goals as goal

pub returns-in_err-plan : goal.returns-in_err-plan
returns-in_err-plan c =
    unread c.args.bench.now (form c.args.text.now) _ c.from_residual.result c.requires c.in_err-plan.ensures.refused
    (search rules)
