use Rattle.trials.proofs.WholeKits.{same_cap, whole}
use Rattle.trials.proofs.quiet.deliver_over_cap.Goals as goal

pub returns : goal.returns
returns g c quiet =
    whole _ _ _ _ (λ s t pick chosen. same_cap s t chosen.0.1 chosen.1) c.args.pick c.deliver.result _ _
    c.deliver.ensures quiet
