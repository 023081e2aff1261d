-- What a history was seen to take, the bounds that it is within must allow.
use Rattle.std.proofs.Common.{◌≡◌, ℕ, zero, suc, ◌+◌, ◌-◌, ◌*◌, ◌≤◌, [], ◌∷◌, ◌++◌, length, refl, ap, ◌∙◌, sym, subst, inl, inr, arith}
use Rattle.std.proofs.lemmas.Bool.{cases_eq, cases_lt}
use Rattle.memory.specs.Histories.{History}
use Rattle.memory.specs.LeastBounds.{PassesThroughAll, AllAreNeeded, BoundsAreLeast}
use Rattle.memory.specs.Ledgers.{Ledger, passed_on, open_accesses}
use Rattle.memory.specs.OneMemory.{OneMemoryWithin, NothingOpen}
use Rattle.memory.specs.Placements.{array}
use Rattle.memory.specs.Promises.{IsOneMemoryWithin}
use Rattle.memory.specs.Witnesses.{kept, PassedOn, TakesAll, OfSomeHistory, PassedOnIsSharp, DeliveriesAreSharp}
use Rattle.memory.proofs.Chains as chain
use Rattle.memory.proofs.Entering.{ledger_push}
use Rattle.memory.proofs.Playing.{history}
use Rattle.memory.proofs.Witnesses.{desk, may_begin, possible, waiting, waits, takes_all}

passed_within : (n most each times : ℕ) (h : History) → PassedOn times h → OneMemoryWithin n most each (array []) h → times ≤ most
passed_within n most each times h p m =
    let passes = (m.right p.before p.finish [] p.told).passes p.finished.board in
    let same = ap kept p.told ∙ ledger_push (array []) p.before p.finish in
    let count = sym p.passed ∙ ap (λ l. passed_on l p.finished.board) same in
    omega (arith, passes, count)

none_open : (n : ℕ) (l : Ledger) → NothingOpen l → open_accesses n l ≡ 0
none_open zero l none = refl
none_open (suc n) l none = rw (none n, none_open n l none) refl

takes_within : (n most each : ℕ) (h : History) → TakesAll n h → OneMemoryWithin n most each (array []) h → 3 * n - 4 ≤ each
takes_within n most each h t m = elim (cases_lt each (3 * n - 4)) [
  | inl few ↦
      let enough : each * open_accesses n (kept t.before) ≤ length t.deliveries = rw t.one_open (omega (arith, few, t.all_but_one.1)) in
      let none = none_open n (kept (t.before ++ t.deliveries)) (m.in_time t.before t.deliveries (t.last ∷ []) t.told t.all_but_one.0 enough) in
      absurd (omega (arith, none, t.still_open))
  | inr many ↦ many
]

-- In a kit of two boards a request has nobody to go through, so that this case stands by itself.
pub passes_through_all : PassesThroughAll
passes_through_all n low high = elim (cases_eq n 2) [
  | inl two ↦ subst (λ n. OfSomeHistory n (PassedOn (n - 2))) (sym two) (history (desk 2) waiting, waits, possible 2 waiting refl)
  | inr more ↦ chain.passes_through_all n (omega (arith, low, more)) high
]

pub all_are_needed : AllAreNeeded
all_are_needed n low high = elim (cases_eq n 2) [
  | inl two ↦ subst (λ n. OfSomeHistory n (TakesAll n)) (sym two) (history (desk 2) waiting, takes_all, possible 2 waiting refl)
  | inr more ↦ chain.all_are_needed n (omega (arith, low, more)) high
]

-- what holds of some history is within bounds that are promised
promised : (n : ℕ) → 1 ≤ n → n ≤ 16 → (Holds : History → Type 0) (w : OfSomeHistory n Holds) (most each : ℕ → ℕ) → IsOneMemoryWithin most each → OneMemoryWithin n (most n) (each n) (array []) w.0
promised n low high Holds w most each promise =
    let b = may_begin n low high in let r = w.2 (n * n + 16) b in promise n 1 (n * n + 16) [] b w.0 r.0 r.1

pub bounds_are_least : BoundsAreLeast
bounds_are_least most each promise n low high = elim (cases_eq n 1) [
  | inl one ↦ (omega (arith, one), omega (arith, one))
  | inr more ↦
      let two : 2 ≤ n = omega (arith, low, more) in
      let p = passes_through_all n two high in
      let t = all_are_needed n two high in (
        passed_within n (most n) (each n) (n - 2) p.0 p.1 (promised n low high (PassedOn (n - 2)) p most each promise),
        takes_within n (most n) (each n) t.0 t.1 (promised n low high (TakesAll n) t most each promise),
      )
]

pub passed_on_is_sharp : PassedOnIsSharp
passed_on_is_sharp promise = omega (arith, (bounds_are_least (λ n. n - 3) (λ n. 3 * n - 4) promise 3 (omega arith) (omega arith)).0)

pub deliveries_are_sharp : DeliveriesAreSharp
deliveries_are_sharp promise = omega (arith, (bounds_are_least (λ n. n - 2) (λ n. 3 * n - 5) promise 2 (omega arith) (omega arith)).1)
