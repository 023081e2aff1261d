use Rattle.script.proofs.Echoes.{echoed, whole_lines}
use Rattle.script.proofs.laws.listings_are_lines.Goals as goal

pub returns-clause-echoed : goal.returns-clause-echoed
returns-clause-echoed c = echoed

pub returns-clause-lines : goal.returns-clause-lines
returns-clause-lines c = whole_lines
