use Rattle.std.proofs.Common.{rules}
use Rattle.kit.proofs.Playing.{plays_turns}
use Rattle.kit.proofs.play.play.Goals as goal

pub returns-clause-played : goal.returns-clause-played
returns-clause-played g c =
    plays_turns g.L.Link.limit g.L.Link.waiting g.L.Choice.joins g.L.Choice.chooses c.args.boards c.args.pages
    c.args.link c.args.words.now c.args.turns.now _ c.in_ok-kit.kit _ (search rules) (search rules) (search rules)
