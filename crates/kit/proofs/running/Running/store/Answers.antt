use Rattle.std.proofs.Common.{rules, refl}
use Rattle.board.specs.Outboxes.{posts}
use Rattle.kit.proofs.Runs.{stored, not_stored}
use Rattle.kit.proofs.SameKits.{same_kit}
use Rattle.kit.proofs.running.Running.store.Goals as goal

pub returns-in_err-ask_access : goal.returns-in_err-ask_access
returns-in_err-ask_access g c =
    not_stored g.L.Link.limit g.L.Link.waiting g.L.Choice.joins g.L.Choice.chooses c.args.board c.args.address
    c.ask_access.result c.from_residual.result _ _ _ c.ask_access.ensures c.in_err-ask_access.was
    (search rules) (same_kit _ _ refl refl refl refl) c.args.word

pub returns : goal.returns
returns g c =
    stored g.L.Link.limit g.L.Link.waiting g.L.Choice.joins g.L.Choice.chooses c.args.board c.args.address c.args.word _ _ (posts c.store-answer.new.out) _ (search rules) (search rules) (search rules) (search rules) (search rules)
