use Rattle.memory.proofs.WrongHistories.{wrong_histories_are_told}
use Rattle.memory.proofs.laws.wrong_histories.Goals as goal

pub returns-clause-told : goal.returns-clause-told
returns-clause-told c = wrong_histories_are_told
