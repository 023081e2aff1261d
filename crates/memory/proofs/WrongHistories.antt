-- Wrong histories are told.
use Rattle.std.proofs.lemmas.Option.{none-some}
use Rattle.std.proofs.Common.{◌≡◌, ℕ, ◌-◌, [], ◌∷◌, ◌++◌, Some, refl, ap, ◌∙◌, sym, subst, append_assoc, arith}
use Rattle.std.proofs.lemmas.Bool.Decides.{nat_tests}
use Rattle.memory.specs.declared.call.Call.TheVariants.{Load, Store}
use Rattle.memory.specs.Histories.{Event, History, load, kind_of, address_of}
use Rattle.memory.specs.Ledgers.{brought, entered, ledger}
use Rattle.memory.specs.OneMemory.{OneMemory, Right}
use Rattle.memory.specs.Placements.{Words}
use Rattle.memory.proofs.Entering.{ledger_push}
use Rattle.memory.specs.WrongHistories.{WordsAreTold, OpeningsAreTold, FinishesAreTold, AnswersAreTold, BoundsAreTold, WrongHistoriesAreTold, at_once, finishing}

the_same : {X : Type 0} (x y : X) → Some x ≡ Some y → x ≡ y
the_same x y h = cc

module _ (first : Words) (before : History) where
  -- what is right of the event that comes next, and of the one after it
  next : (n : ℕ) (e : Event) (later : History) → OneMemory n first (before ++ e ∷ later) → Right (n - 2) (ledger first before) e
  next n e later m = m.right before e later refl

  second : (n : ℕ) (d e : Event) (later : History) → OneMemory n first (before ++ d ∷ e ∷ later) → Right (n - 2) (entered (ledger first before) d) e
  second n d e later m =
      subst (λ l. Right (n - 2) l e) (ledger_push first before d) (m.right (before ++ d ∷ []) e later (sym (append_assoc before (d ∷ []) (e ∷ later))))

  words : WordsAreTold first before
  words = record {
    other_word = λ board address word posted wrong n later m. wrong (next n _ later m).answer;
    not_its_own = λ board address stored word posted wrong n later m. wrong (next n _ later m).answer;
    old_word = λ storer loader address newer older posted later_posted wrong n later m.
        wrong (grind (arith, nat_tests, (second n (at_once (Store storer address newer) newer posted) (at_once (Load loader address) older later_posted) later m).answer));
  }

  openings : OpeningsAreTold first before
  openings = record {
    load_over = λ board address access posted was n later m. none-some access (sym (sym was ∙ (next n _ later m).answer));
    store_over = λ board address word access posted was n later m. none-some access (sym (sym was ∙ (next n _ later m).answer));
  }

  finishes : FinishesAreTold first before
  finishes = record {
    none_open = λ pick f posted was n later m. let r = (next n (finishing pick f posted) later m).answer in none-some r.access (sym (sym r.was_open ∙ was));
    other_kind = λ pick f access posted was wrong n later m.
        let r = (next n (finishing pick f posted) later m).answer in wrong (r.same_kind ∙ ap kind_of (the_same r.access access (sym r.was_open ∙ was)));
    other_address = λ pick f access posted was wrong n later m.
        let r = (next n (finishing pick f posted) later m).answer in wrong (r.same_address ∙ ap address_of (the_same r.access access (sym r.was_open ∙ was)));
    other_word = λ pick f access posted was wrong n later m.
        let r = (next n (finishing pick f posted) later m).answer in wrong (r.array_word ∙ ap (brought (ledger first before).array) (the_same r.access access (sym r.was_open ∙ was)));
    other_hops = λ pick f posted wrong n later m. wrong (next n (finishing pick f posted) later m).answer.times_passed;
    finished_twice = λ pick next f posted later_posted n later m.
        let r = (second n (finishing pick f posted) (finishing next f later_posted) later m).answer in
        none-some r.access (sym (sym r.was_open ∙ grind (arith, nat_tests)));
    old_word = λ storer address newer pick f posted later_posted was wrong n later m.
        let r = (second n (at_once (Store storer address newer) newer posted) (finishing pick f later_posted) later m).answer in
        let same : r.access ≡ load address = the_same r.access (load address) (sym r.was_open ∙ was) in
        wrong (r.array_word ∙ ap (brought (entered (ledger first before) (at_once (Store storer address newer) newer posted)).array) same ∙ grind (arith, nat_tests));
  }

  answers : AnswersAreTold first before
  answers = record {
    load_arrives = λ board address a posted n later m. (next n _ later m).answer;
    load_is_quiet = λ board address posted n later m. (next n _ later m).answer;
    store_arrives = λ board address word a posted n later m. (next n _ later m).answer;
    store_is_quiet = λ board address word posted n later m. (next n _ later m).answer;
    delivery_accesses = λ pick a posted n later m. (next n _ later m).answer;
  }

  bounds : BoundsAreTold first before
  bounds = record {
    passed_too_often = λ n board e later many m. omega (arith, (next n e later m).passes board, many);
    still_open = λ n board access deliveries later only enough was m. none-some access (sym (sym was ∙ m.in_time before deliveries later refl only enough board));
  }

pub wrong_histories_are_told : WrongHistoriesAreTold
wrong_histories_are_told first before = record { words = words first before; openings = openings first before; finishes = finishes first before; answers = answers first before; bounds = bounds first before }
