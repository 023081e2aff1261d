-- What the bench refuses, a kit over a link refuses with the same number.
use Rattle.std.proofs.Common.{◌≡◌, ℕ, Bool, true, false, cond, List, [], ◌∷◌, Some, None, Err, Option, eqb, refl, ap, ◌∙◌, sym, subst, option_and_then}
use Rattle.std.proofs.lemmas.Bool.{eqb-true}
use Rattle.std.proofs.lemmas.Option.{same_Some}
use Rattle.wire.specs.Questions.{first_no}
use Rattle.wire.specs.Faults.{number}
use Rattle.wire.proofs.Questions.{refused_before}
use Rattle.wire.specs.declared.fault.Fault.{Fault}
use Rattle.wire.specs.declared.fault.Fault.TheVariants.{NoSuchBoard, NoSuchAddress, AccessOpen}
use Rattle.wire.specs.declared.message.Message.{Message}
use Rattle.memory.specs.Calls.{DoesCall, room}
use Rattle.memory.specs.Kits.{Kit, start_kit}
use Rattle.memory.specs.Placements.{after_placing}
use Rattle.memory.specs.declared.placement.Placement.{Placement}
use Rattle.memory.specs.declared.call.Call.{Call as KitCall}
use Rattle.memory.specs.declared.call.Call.TheVariants.{Load, Store, Deliver}
use Rattle.script.specs.Benches.{over_link}
use Rattle.script.specs.Plays.{no_kit, Done, refused, decided, carried_out, record_questions, access_questions, run_questions}
use Rattle.script.specs.Sessions.{access_fault, refused_with, refusal_of}
use Rattle.script.specs.declared.call.Call.{Call}
use Rattle.script.specs.declared.call.Call.TheVariants.{Kit as MakeKit, Place, Run}

pub fault_is : (n : ℕ) (f : Fault) → access_fault n ≡ Some f → number f ≡ n
fault_is n f e = one (eqb n 1) refl
  where
    three : (b : Bool) → eqb n 3 ≡ b → cond b (Some AccessOpen) None ≡ Some f → number f ≡ n
    three true q h = let same : AccessOpen ≡ f = same_Some _ f h in ap number (sym same) ∙ sym (eqb-true n 3 q)
    three false q h = let never : None ≡ Some f = h in absurd (cc)

    two : (b : Bool) → eqb n 2 ≡ b → cond b (Some NoSuchAddress) (cond (eqb n 3) (Some AccessOpen) None) ≡ Some f →
        number f ≡ n
    two true q h = let same : NoSuchAddress ≡ f = same_Some _ f h in ap number (sym same) ∙ sym (eqb-true n 2 q)
    two false q h = three (eqb n 3) refl h

    one_of : (b : Bool) → eqb n 1 ≡ b →
        cond b (Some NoSuchBoard) (cond (eqb n 2) (Some NoSuchAddress) (cond (eqb n 3) (Some AccessOpen) None))
        ≡ Some f →
        number f ≡ n
    one_of true q h = let same : NoSuchBoard ≡ f = same_Some _ f h in ap number (sym same) ∙ sym (eqb-true n 1 q)
    one_of false q h = two (eqb n 2) refl h

    one : (b : Bool) → eqb n 1 ≡ b → number f ≡ n
    one b q = one_of (eqb n 1) refl e

-- a call that belongs is refused with the number of a question of its own
pub was_refused : (q : Option ℕ) (d : Done) (n : ℕ) → decided q (Some d) ≡ refused n → q ≡ Some n
was_refused (Some m) d n h = cc
was_refused None d n h = cc

-- no access is refused before a kit is made, but as one that does not belong
pub no_deed : (c : Option Call) (n : ℕ) →
    decided (first_no (record_questions no_kit c)) (option_and_then (carried_out no_kit) c) ≡ refused n →
    refusal_of c n ≡ []
no_deed None n q = refl
no_deed (Some (MakeKit plan)) n q = refl
no_deed (Some (Place address word)) n q = refl
no_deed (Some (Run call)) n q = let late : 18 ≡ n = cc in subst (λ m. refused_with call (access_fault m) ≡ []) late refl

-- a kit refuses an access, and stays as it was
pub refused_does : (k : Kit) (row : List Message) (call : KitCall) (fault : Fault) →
    first_no (run_questions k call) ≡ Some (number fault) →
    DoesCall call (over_link k row) (Err fault) [] (over_link k row)
refused_does k row (Load board address) fault q =
    (sym (refused_before (access_questions k board address) (room (over_link k row)) (number fault) q), (refl, refl))
refused_does k row (Store board address word) fault q =
    (sym (refused_before (access_questions k board address) (room (over_link k row)) (number fault) q), (refl, refl))
refused_does k row (Deliver pick) fault q = let never : None ≡ Some (number fault) = q in absurd (cc)

-- what is asked of a call does not depend on the words that were placed
same_asked : (n p : ℕ) (words : List Placement) (board address : ℕ) →
    access_questions (after_placing n p words) board address ≡ access_questions (start_kit n p) board address
same_asked n p [] board address = refl
same_asked n p (w ∷ ws) board address = same_asked n p ws board address

pub same_run : (n p : ℕ) (v w : List Placement) (call : KitCall) →
    first_no (run_questions (after_placing n p v) call) ≡ first_no (run_questions (after_placing n p w) call)
same_run n p v w (Load board address) =
    ap first_no (same_asked n p v board address ∙ sym (same_asked n p w board address))
same_run n p v w (Store board address word) =
    ap first_no (same_asked n p v board address ∙ sym (same_asked n p w board address))
same_run n p v w (Deliver pick) = refl
