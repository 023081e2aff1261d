use Rattle.kit.proofs.WorkedCases.{worked_cases}
use Rattle.kit.proofs.laws.worked_cases.Goals as goal

pub returns : goal.returns
returns g c = worked_cases g.L.Link.limit g.L.Link.waiting g.L.Choice.joins g.L.Choice.chooses
