use Rattle.std.proofs.Common.{rules}
use Rattle.kit.proofs.Runs.{begins}
use Rattle.kit.proofs.loading.Loading.start.Goals as goal

pub returns-clause-begins : goal.returns-clause-begins
returns-clause-begins g c boards pages words loaded =
    (loaded.may_begin, begins g.L.Link.limit g.L.Link.waiting boards pages (g.L.Link.limit c.args.self.link) words c.new.result (search rules) (search rules) (search rules) (search rules))
