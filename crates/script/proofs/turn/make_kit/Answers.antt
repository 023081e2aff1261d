use Rattle.std.proofs.Common.{◌∙◌}
use Rattle.script.proofs.Turns.{made_over}
use Rattle.script.proofs.turn.make_kit.Goals as goal

pub returns-clause-refused : goal.returns-clause-refused
returns-clause-refused c =
    let made = c.in_ok-link.ensures.made in
    c.new-2.ensures.refused ∙ made_over c.in_ok-link.link made.1 made.2 c.args.plan.boards c.args.plan.pages
