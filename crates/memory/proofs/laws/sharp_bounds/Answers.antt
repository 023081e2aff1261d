use Rattle.memory.proofs.LeastBounds.{bounds_are_least}
use Rattle.memory.proofs.laws.sharp_bounds.Goals as goal

pub returns-clause-least : goal.returns-clause-least
returns-clause-least c = bounds_are_least
