-- A kit that refuses every call keeps one memory, and is not willing.
use Rattle.std.proofs.lemmas.Option.{none-some}
use Rattle.std.proofs.Common.{◌≡◌, ℕ, ◌-◌, ◌*◌, ◌<◌, [], ◌∷◌, ◌++◌, None, refl, ◌∙◌, sym, subst, arith}
use Rattle.std.proofs.lemmas.Bool.{lt-ltb}
use Rattle.wire.specs.Faults.{number}
use Rattle.wire.specs.Questions.{first_no}
use Rattle.wire.specs.declared.fault.Fault.{Fault}
use Rattle.memory.specs.declared.call.Call.{Call}
use Rattle.memory.specs.declared.call.Call.TheVariants.{Load, Store, Deliver}
use Rattle.memory.specs.Histories.{History}
use Rattle.memory.specs.Ledgers.{Ledger, entered, entering, ledger, fresh}
use Rattle.memory.specs.OneMemory.{Right, NothingOpen}
use Rattle.memory.specs.Placements.{Words}
use Rattle.memory.specs.Willing.{questions_of}
use Rattle.memory.specs.WrongHistories.{refused, AllRefused, RefusingIsOneMemory, RefusingIsNotWilling}

-- nothing is open, and nothing was passed on
record Idle (l : Ledger) : Type 0 where
  pub nothing_open : NothingOpen l
  pub none_passed : (board : ℕ) → l.requests board ≡ 0

begins_idle : (first : Words) → Idle (fresh first)
begins_idle first = record { nothing_open = λ board. refl; none_passed = λ board. refl }

still_idle : (l : Ledger) (c : Call) (f : Fault) → Idle l → Idle (entered l (refused c f))
still_idle l (Load board address) f i = record { nothing_open = i.nothing_open; none_passed = λ b. omega (arith, i.none_passed b) }
still_idle l (Store board address word) f i = record { nothing_open = i.nothing_open; none_passed = λ b. omega (arith, i.none_passed b) }
still_idle l (Deliver pick) f i = record { nothing_open = i.nothing_open; none_passed = λ b. omega (arith, i.none_passed b) }

idle_after : (l : Ledger) (h : History) → AllRefused h → Idle l → Idle (entering l h)
idle_after l [] a i = i
idle_after l (e ∷ h) a i = idle_after (entered l e) h a.1 (subst (λ e. Idle (entered l e)) (sym a.0.1) (still_idle l e.call a.0.0 i))

idle : (first : Words) (h : History) → AllRefused h → Idle (ledger first h)
idle first h a = idle_after (fresh first) h a (begins_idle first)

all_before : (before later : History) → AllRefused (before ++ later) → AllRefused before
all_before [] later a = tt
all_before (e ∷ before) later a = (a.0, all_before before later a.1)

all_later : (before later : History) → AllRefused (before ++ later) → AllRefused later
all_later [] later a = a
all_later (e ∷ before) later a = all_later before later a.1

refusal_is_right : (most : ℕ) (l : Ledger) (c : Call) (f : Fault) → Idle l → Right most l (refused c f)
refusal_is_right most l (Load board address) f i = record { answer = tt; passes = λ b. omega (arith, i.none_passed b) }
refusal_is_right most l (Store board address word) f i = record { answer = tt; passes = λ b. omega (arith, i.none_passed b) }
refusal_is_right most l (Deliver pick) f i = record { answer = tt; passes = λ b. omega (arith, i.none_passed b) }

pub refusing_is_one_memory : RefusingIsOneMemory
refusing_is_one_memory n first history a = record {
  right = λ before e later told.
      let b = subst AllRefused told a in
      let c = all_later before (e ∷ later) b in
      subst (λ e. Right (n - 2) (ledger first before) e) (sym c.0.1) (refusal_is_right (n - 2) (ledger first before) e.call c.0.0 (idle first before (all_before before (e ∷ later) b)));
  in_time = λ before deliveries later told only enough.
      (idle first (before ++ deliveries) (all_before (before ++ deliveries) later (subst AllRefused told a))).nothing_open;
}

-- where nothing is open, the questions of a board and an address of the kit are answered yes
not_refused : (n p board address : ℕ) (l : Ledger) → Idle l → board < n → address < 16 * p → first_no (questions_of n p l board address) ≡ None
not_refused n p board address l i b a = rw (lt-ltb board n b, lt-ltb address (16 * p) a, i.nothing_open board) refl

pub refusing_is_not_willing : RefusingIsNotWilling
refusing_is_not_willing = record {
  load = λ n p board address fault first before later all b a w.
      none-some (number fault) (sym ((w before _ later refl).asked ∙ not_refused n p board address (ledger first before) (idle first before all) b a));
  store = λ n p board address word fault first before later all b a w.
      none-some (number fault) (sym ((w before _ later refl).asked ∙ not_refused n p board address (ledger first before) (idle first before all) b a));
  delivery = λ n p pick fault first before later w. none-some (number fault) (sym (w before _ later refl).asked);
}
