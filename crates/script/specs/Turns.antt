-- What one record makes of the bench.
use Rattle.std.specs.Prelude.{◌≡◌, List, Some, Option, Result, IfOk, OnErr}
use Rattle.wire.specs.Questions.{first_no, refusal}
use Rattle.wire.specs.declared.fault.Fault.{Fault}
use Rattle.wire.specs.declared.message.Message.{Message}
use Rattle.script.specs.Benches.{bench_of, Ready}
use Rattle.script.specs.Plays as plays
use Rattle.script.specs.Options.{◌>>=◌}
use Rattle.script.specs.declared.answer.Answer.{Answer}
use Rattle.script.specs.declared.bench.Bench.{Bench}
use Rattle.script.specs.declared.call.Call.{Call}

-- the call that the record asks for, if it has its form, is carried out with this answer, or refused, and nothing
-- changes
pub record Turns (call : Option Call) (before : Bench) (result : Result Answer Fault) (after : Bench) : Type 0 where
  pub refused : refusal result ≡ first_no (plays.record_questions (bench_of before) call)
  pub done : IfOk result (λ answer. (posted : List Message)
      × ((call >>= plays.carried_out (bench_of before))
      ≡ Some (record { answer = answer; posted = posted; bench = bench_of after })))
  pub kept : OnErr result (after ≡ before)
  pub ready : Ready after
