use Rattle.std.proofs.Common.{rules, refl}
use Rattle.board.specs.Outboxes.{posts}
use Rattle.kit.proofs.Runs.{arrived, not_arrived, quiet}
use Rattle.kit.proofs.SameKits.{same_kit}
use Rattle.kit.proofs.running.Running.deliver.Goals as goal

pub returns-in_default : goal.returns-in_default
returns-in_default g c =
    quiet g.L.Link.limit g.L.Link.waiting g.L.Choice.joins g.L.Choice.chooses c.args.pick _ _
    (search rules) (search rules) refl refl (λ e. same_kit _ _ refl e refl refl)

pub returns-in_err-ask_arrival : goal.returns-in_err-ask_arrival
returns-in_err-ask_arrival g c =
    not_arrived g.L.Link.limit g.L.Link.waiting g.L.Choice.joins g.L.Choice.chooses c.args.pick _ _ c.in-Some.message c.take.new.self (search rules) (search rules) refl
    c.ask_arrival.result c.from_residual.result _ c.ask_arrival.ensures.refused c.in_err-ask_arrival.was (search rules) refl refl

pub returns : goal.returns
returns g c =
    arrived g.L.Link.limit g.L.Link.waiting g.L.Choice.joins g.L.Choice.chooses c.args.pick _ _ c.in-Some.message c.take.new.self (search rules) (search rules) refl
    (posts c.arrive-arrival.new.out) _ (search rules) (search rules) (search rules) (search rules)
