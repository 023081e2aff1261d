-- Each call that belongs where it stands is told.
use Rattle.std.proofs.Common.{◌≡◌, ℕ, Bool, true, false, List, [], ◌∷◌, Some, None, Ok, Err, Option, refl, ap, sym, subst, nat_lt}
use Rattle.std.proofs.lemmas.Option.{same_Some}
use Rattle.wire.specs.Questions.{first_no}
use Rattle.wire.specs.Faults.{number}
use Rattle.wire.specs.declared.fault.Fault.{Fault}
use Rattle.wire.specs.declared.fault.Fault.TheVariants.{NoSuchBoard, NoSuchAddress, AccessOpen}
use Rattle.wire.specs.declared.message.Message.{Message}
use Rattle.memory.specs.Kits.{Kit, board_at}
use Rattle.memory.specs.declared.answer.Answer.{Answer as KitAnswer}
use Rattle.memory.specs.declared.call.Call.{Call as KitCall}
use Rattle.memory.specs.declared.call.Call.TheVariants.{Load, Store, Deliver}
use Rattle.lone.specs.Sizes.{has_address}
use Rattle.board.specs.Stages.{is_idle}
use Rattle.script.specs.Choosing.{Taken, taken}
use Rattle.script.specs.Plays.{Bench, no_kit, loading, running, accepted, refused, decided, outcome_of, belongs, run_questions, ran, after_delivery}
use Rattle.script.specs.Laws.{EveryCallIsTold}
use Rattle.script.specs.Sessions.{access_fault, refused_with, history_of, IsTold}
use Rattle.script.specs.declared.answer.Answer.TheVariants.{Ran}
use Rattle.script.specs.declared.call.Call.TheVariants.{Run}
use Rattle.script.specs.declared.call.LinkKind.{LinkKind}

-- a refusal with the number of a fault that accesses have is told
fault_told : (call : KitCall) (fault : Fault) → access_fault (number fault) ≡ Some fault →
    IsTold (Some (Run call)) (refused (number fault)) call
fault_told call fault e =
    record {
      event = record { call = call; answer = Err fault; posted = [] };
      one = ap (λ f. history_of (refused_with call f)) e;
      of_call = refl;
      told = refl;
    }

-- an access of a kit is refused with a number of its own questions
by_questions : (a b c : Bool) (call : KitCall) (n : ℕ) → first_no ((1, a) ∷ (2, b) ∷ (3, c) ∷ []) ≡ Some n →
    IsTold (Some (Run call)) (refused n) call
by_questions false b c call n q =
    subst (λ m. IsTold (Some (Run call)) (refused m) call) (same_Some 1 n q) (fault_told call NoSuchBoard refl)
by_questions true false c call n q =
    subst (λ m. IsTold (Some (Run call)) (refused m) call) (same_Some 2 n q) (fault_told call NoSuchAddress refl)
by_questions true true false call n q =
    subst (λ m. IsTold (Some (Run call)) (refused m) call) (same_Some 3 n q) (fault_told call AccessOpen refl)
by_questions true true true call n q = let never : None ≡ Some n = q in absurd (cc)

refusal_told : (k : Kit) (call : KitCall) (n : ℕ) → first_no (run_questions k call) ≡ Some n →
    IsTold (Some (Run call)) (refused n) call
refusal_told k (Load board address) n q =
    by_questions (nat_lt board k.boards) (has_address k.pages address) (is_idle (board_at k board).state.stage)
    (Load board address) n q
refusal_told k (Store board address word) n q =
    by_questions (nat_lt board k.boards) (has_address k.pages address) (is_idle (board_at k board).state.stage)
    (Store board address word) n q
refusal_told k (Deliver pick) n q = let never : None ≡ Some n = q in absurd (cc)

-- a call that is carried out is answered, and told by its answer
answer_told : (call : KitCall) (a : KitAnswer) (posted : List Message) (bench : Bench) →
    IsTold (Some (Run call)) (accepted (record { answer = Ran call a; posted = posted; bench = bench })) call
answer_told call a posted bench =
    record {
      event = record { call = call; answer = Ok a; posted = posted };
      one = refl;
      of_call = refl;
      told = refl;
    }

done_told : (link : LinkKind) (k : Kit) (row : List Message) (call : KitCall) →
    IsTold (Some (Run call)) (accepted (ran link k row call)) call
done_told link k row (Load board address) = answer_told (Load board address) _ _ _
done_told link k row (Store board address word) = answer_told (Store board address word) _ _ _
done_told link k row (Deliver pick) = by (taken link pick row)
  where
    call : KitCall
    call = Deliver pick

    by : (t : Option Taken) → IsTold (Some (Run call)) (accepted (after_delivery link k call t)) call
    by None = answer_told call _ _ _
    by (Some t) = answer_told call _ _ _

told_either_way : (link : LinkKind) (k : Kit) (row : List Message) (call : KitCall) (q : Option ℕ) →
    first_no (run_questions k call) ≡ q → IsTold (Some (Run call)) (decided q (Some (ran link k row call))) call
told_either_way link k row call None e = done_told link k row call
told_either_way link k row call (Some n) e = refusal_told k call n e

call_told : (s : Bench) (call : KitCall) → belongs s (Run call) ≡ true →
    IsTold (Some (Run call)) (outcome_of s (Some (Run call))) call
call_told no_kit call h = cc
call_told (loading link k) call h = told_either_way link k [] call (first_no (run_questions k call)) refl
call_told (running link k row) call h = told_either_way link k row call (first_no (run_questions k call)) refl

pub every_call_is_told : EveryCallIsTold
every_call_is_told s r call f h = subst (λ c. IsTold c (outcome_of s c) call) (sym f) (call_told s call h)
