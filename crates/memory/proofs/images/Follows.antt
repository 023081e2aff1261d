-- What is kept between a history's ledger, a running kit and the model, and what an event leaves of it.
use Rattle.std.proofs.Common.{◌≡◌, ℕ, ◌+◌, ◌-◌, ◌*◌, ◌≤◌, List, Result, refl, arith}
use Rattle.wire.specs.declared.fault.Fault.{Fault}
use Rattle.wire.specs.declared.message.Message.{Message}
use Rattle.memory.specs.Calls.{Running}
use Rattle.memory.specs.Histories.{IsDelivery}
use Rattle.memory.specs.Ledgers as specs
use Rattle.memory.specs.OneMemory.{AnswerIsRight}
use Rattle.memory.specs.declared.answer.Answer.{Answer}
use Rattle.memory.specs.declared.call.Call.{Call}
use Rattle.memory.proofs.kept.KitKept.{Kept, left_of}
use Rattle.memory.proofs.kept.EqualMessages.{same_mail}
use Rattle.memory.proofs.model.Ledgers.{Ledger}
use Rattle.memory.proofs.model.Kit.{Kit}
use Rattle.memory.proofs.images.Images.{W}
use Rattle.memory.proofs.images.Ledgers.{Agrees, counts_on}
use Rattle.memory.proofs.images.Matches.{Matches}

-- the model follows the kit, and its ledger that of the history; so much work is left
pub record Follows (n p : ℕ) (l : specs.Ledger) (s : Running) (work : ℕ) : Type 0 where
  pub machine : Kit W
  pub told : Ledger W
  pub kept : Kept same_mail n told machine
  pub matches : Matches n p s machine
  pub agrees : Agrees n p l s told
  pub room : n * n + 16 ≤ s.limit
  pub left : work ≡ left_of kept

abbrev pub entered_by : specs.Ledger → Call → Result Answer Fault → List Message → specs.Ledger
entered_by l call answer posted = specs.entered l (record { call = call; answer = answer; posted = posted })

-- the ledger where nothing is posted or delivered, and no access opens, finishes or is answered
abbrev pub still : specs.Ledger → specs.Ledger
still l = record { array = l.array; pending = l.pending; requests = λ c. l.requests c + 0; waiting = l.waiting - 0 + 0 }

pub still_follows : {n p : ℕ} {l : specs.Ledger} {s : Running} {work : ℕ} → Follows n p l s work → Follows n p (still l) s work
still_follows {n} {l = l} {s = s} f = record {
  machine = f.machine;
  told = f.told;
  kept = f.kept;
  matches = f.matches;
  agrees = record {
    words = f.agrees.words;
    counts = λ b. counts_on n s.kit s.kit b (l.requests b) (f.told.passed b) (l.requests b + 0) (f.told.passed b) (omega arith) refl (λ h. h) (f.agrees.counts b);
    pending = f.agrees.pending;
    none_else = f.agrees.none_else;
    waiting = omega (arith, f.agrees.waiting);
  };
  room = f.room;
  left = f.left;
}

-- after an event the model still follows, its answer was right, and a delivery took from the work
pub record GoesOn (n p : ℕ) (l : specs.Ledger) (work : ℕ) (call : Call) (answer : Result Answer Fault) (posted : List Message) (t : Running) : Type 0 where
  pub work_left : ℕ
  pub follows : Follows n p (entered_by l call answer posted) t work_left
  pub right : AnswerIsRight l (entered_by l call answer posted) call answer
  pub works : IsDelivery call → work_left ≤ work - 1
