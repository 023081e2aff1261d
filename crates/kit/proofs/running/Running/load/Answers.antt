use Rattle.std.proofs.Common.{rules, refl}
use Rattle.board.specs.Outboxes.{posts}
use Rattle.kit.proofs.Runs.{loaded, not_loaded}
use Rattle.kit.proofs.SameKits.{same_kit}
use Rattle.kit.proofs.running.Running.load.Goals as goal

pub returns-in_err-ask_access : goal.returns-in_err-ask_access
returns-in_err-ask_access g c =
    not_loaded g.L.Link.limit g.L.Link.waiting g.L.Choice.joins g.L.Choice.chooses c.args.board c.args.address
    c.ask_access.result c.from_residual.result _ _ _ c.ask_access.ensures c.in_err-ask_access.was
    (search rules) (same_kit _ _ refl refl refl refl)

pub returns : goal.returns
returns g c =
    loaded g.L.Link.limit g.L.Link.waiting g.L.Choice.joins g.L.Choice.chooses c.args.board c.args.address _ _ (posts c.load-answer.new.out) _ (search rules) (search rules) (search rules) (search rules) (search rules)
