-- The opened count: how many accesses were opened, in 32 bits, stopping at the largest.
use Rattle.std.specs.Prelude.{ℕ, ◌+◌, min, [], ◌∷◌, Ok, Err, Result}
use Rattle.wire.specs.declared.fault.Fault.{Fault}
use Rattle.board.specs.declared.answer.AccessAnswer.TheVariants.{Answered, Opened}
use Rattle.memory.specs.declared.answer.Answer.{Answer}
use Rattle.memory.specs.declared.answer.Answer.TheVariants.{Accessed, Arrived, Quiet}
use Rattle.memory.specs.Histories.{History}

-- how many accesses an answer opens, and how many those of a history opened
abbrev pub opened_by : Result Answer Fault → ℕ
opened_by (Ok (Accessed (Answered word))) = 0
opened_by (Ok (Accessed Opened)) = 1
opened_by (Ok (Arrived arrival)) = 0
opened_by (Ok Quiet) = 0
opened_by (Err fault) = 0

abbrev pub openings : History → ℕ
openings [] = 0
openings (e ∷ h) = opened_by e.answer + openings h

abbrev pub counted : ℕ → ℕ
counted n = min n 4294967295

-- the count after one more answer
abbrev pub opened_after : ℕ → Result Answer Fault → ℕ
opened_after n (Ok (Accessed (Answered word))) = n
opened_after n (Ok (Accessed Opened)) = counted (n + 1)
opened_after n (Ok (Arrived arrival)) = n
opened_after n (Ok Quiet) = n
opened_after n (Err fault) = n
