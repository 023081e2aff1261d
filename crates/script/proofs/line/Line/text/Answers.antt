use Rattle.script.specs.Lines.{text}
use Rattle.script.proofs.line.Line.text.Goals as goal

-- each part is written in its own digits, so the whole line computes
pub returns : goal.returns
unfolding text
returns c = rw (c.write_number-3.ensures, c.write_eight.ensures, c.write_number-2.ensures, c.write_number.ensures)
