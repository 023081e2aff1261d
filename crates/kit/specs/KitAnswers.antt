-- The answers of the code's calls, as the answers of a kit.
use Rattle.std.specs.Prelude.{Some, None, Ok, Err, Option, Result}
use Rattle.wire.specs.declared.fault.Fault.{Fault}
use Rattle.board.specs.declared.answer.AccessAnswer.{AccessAnswer}
use Rattle.board.specs.declared.answer.Arrival.{Arrival}
use Rattle.memory.specs.declared.answer.Answer.{Answer}
use Rattle.memory.specs.declared.answer.Answer.TheVariants.{Accessed, Arrived, Quiet}

abbrev pub accessed : Result AccessAnswer Fault → Result Answer Fault
accessed (Ok answer) = Ok (Accessed answer)
accessed (Err fault) = Err fault

-- a delivery without an arrival is quiet
abbrev pub delivered : Result (Option Arrival) Fault → Result Answer Fault
delivered (Ok None) = Ok Quiet
delivered (Ok (Some arrival)) = Ok (Arrived arrival)
delivered (Err fault) = Err fault
