use Rattle.memory.proofs.OneMemory.{is_willing}
use Rattle.memory.proofs.laws.one_memory.Goals as goal

pub returns-clause-willing : goal.returns-clause-willing
returns-clause-willing c = is_willing
