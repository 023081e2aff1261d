use Rattle.trials.proofs.WholeKits.{whole}
use Rattle.trials.proofs.quiet.deliver_over_row.Goals as goal

pub returns : goal.returns
returns g c quiet = whole _ _ _ _ (λ s t pick chosen. chosen.1) c.args.pick c.deliver.result _ _ c.deliver.ensures quiet
