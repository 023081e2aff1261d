-- A kit of 3 to 16 boards in which all others hold a copy, and each hints at the next: a store at the far end takes all that the promise allows.
use Rattle.std.proofs.Common.{◌≡◌, ℕ, zero, suc, ◌+◌, ◌-◌, ◌*◌, ◌<◌, ◌≤◌, Bool, true, false, ◌&&◌, ◌==◌, List, [], ◌∷◌, ◌++◌, length, map, replicate, Ok, refl, ap, ◌∙◌, sym, subst, inl, inr, arith, length-append}
use Rattle.std.proofs.lemmas.Bool.{and_parts, cases_eq, eqb-true}
use Rattle.std.proofs.lemmas.List.{length-replicate}
use Rattle.std.specs.List.{range_with_len}
use Rattle.board.specs.declared.answer.Arrival.TheVariants.{Moved, Finished}
use Rattle.wire.specs.declared.message.Message.{Message}
use Rattle.memory.specs.declared.answer.Answer.{Answer}
use Rattle.memory.specs.declared.answer.Answer.TheVariants.{Accessed, Arrived, Quiet}
use Rattle.memory.specs.declared.call.Call.{Call}
use Rattle.memory.specs.declared.call.Call.TheVariants.{Load, Store, Deliver}
use Rattle.memory.specs.Histories.{Event, History}
use Rattle.memory.specs.Ledgers.{Ledger, passed_on, open_accesses}
use Rattle.memory.specs.Witnesses.{kept, PassedOn, TakesAll, OfSomeHistory}
use Rattle.memory.proofs.Playing.{move, event_of, history, goes, after, history_append, length_history, only_deliveries}
use Rattle.memory.proofs.Witnesses.{desk, possible}

abbrev deliver : ℕ → ℕ → List Call
deliver times pick = replicate times (Deliver pick)

-- Board 1 stores. Boards 2 to n - 1 ask for copies, and board 0 passes on all that they ask before any is answered, so that each of them hints at the next, and the last at board 1.
-- Then board 0 asks, so that the last hints at board 0, and board 0 at board 1, the owner. Last, board 2 stores: its request has all the others to go through.
abbrev opened : ℕ → List Call
opened n =
    Store 1 3 42 ∷ deliver 2 0 ++ map (λ board. Load board 3) (range_with_len 2 (n - 2)) ++ deliver (n - 2) (n - 3) ++ deliver (3 * n - 7) 0 ++ Load 0 3 ∷ deliver 3 0 ++ Store 2 3 7 ∷ []

-- all deliveries that the store takes, but for the last
abbrev rest : ℕ → List Call
rest n = deliver (3 * n - 5) 0

abbrev almost : ℕ → List Call
almost n = opened n ++ rest n

abbrev whole : ℕ → List Call
whole n = almost n ++ Deliver 0 ∷ []

abbrev told : ℕ → List Call → History
told n cs = history (desk n) cs

-- the delivery that finishes the store
abbrev last : ℕ → Event
last n = let d = after (desk n) (almost n) in event_of (Deliver 0) (move d (Deliver 0))

-- a test that k numbers from 3 on pass
abbrev pass : (ℕ → Bool) → ℕ → Bool
pass test zero = true
pass test (suc k) = test (k + 3) && pass test k

each_passes : (test : ℕ → Bool) (k : ℕ) → pass test k ≡ true → (n : ℕ) → 3 ≤ n → n < k + 3 → test n ≡ true
each_passes test zero p n low high = absurd (omega (arith, low, high))
each_passes test (suc k) p n low high =
    let q = and_parts (test (k + 3)) (pass test k) p in
    elim (cases_eq n (k + 3)) [ inl e ↦ subst (λ n. test n ≡ true) (sym e) q.0 | inr d ↦ each_passes test k q.1 n low (omega (arith, high, d)) ]

one_more : (n : ℕ) (h : History) (e : Event) → 3 ≤ n → length h ≡ 3 * n - 5 → length (h ++ e ∷ []) ≡ 3 * n - 4
one_more n h e low count = omega (arith, low, count, length-append h (e ∷ []))

-- the answer finishes an access whose request was passed on so many times, as it says
abbrev passes : Ledger → ℕ → Answer → Bool
passes l times (Accessed a) = false
passes l times (Arrived (Moved board kind hops)) = false
passes l times (Arrived (Finished f)) = passed_on l f.board == times && f.hops == times
passes l times Quiet = false

finishes_passed : (times : ℕ) (h before : History) (pick : ℕ) (answer : Answer) (posted : List Message) →
    h ≡ before ++ record { call = Deliver pick; answer = Ok answer; posted = posted } ∷ [] → passes (kept h) times answer ≡ true → PassedOn times h
finishes_passed times h before pick (Accessed a) posted told p = let never : false ≡ true = p in absurd (cc)
finishes_passed times h before pick (Arrived (Moved board kind hops)) posted told p = let never : false ≡ true = p in absurd (cc)
finishes_passed times h before pick (Arrived (Finished f)) posted told p =
    let q = and_parts (passed_on (kept h) f.board == times) (f.hops == times) p in
    record { finished = f; before = before; finish = _; told = told; finishes = (tt, refl); passed = eqb-true (passed_on (kept h) f.board) times q.0; hops = eqb-true f.hops times q.1 }
finishes_passed times h before pick Quiet posted told p = let never : false ≡ true = p in absurd (cc)

module _ (n : ℕ) (low : 3 ≤ n) (high : n ≤ 16) where
  goes_through : goes (n * n) (desk n) (whole n) ≡ true
  goes_through = each_passes (λ n. goes (n * n) (desk n) (whole n)) 14 refl n low (omega arith)

  one_open : open_accesses n (kept (told n (opened n))) ≡ 1
  one_open = eqb-true _ 1 (each_passes (λ n. open_accesses n (kept (told n (opened n))) == 1) 14 refl n low (omega arith))

  still_open : open_accesses n (kept (told n (almost n))) ≡ 1
  still_open = eqb-true _ 1 (each_passes (λ n. open_accesses n (kept (told n (almost n))) == 1) 14 refl n low (omega arith))

  none_open : open_accesses n (kept (told n (whole n))) ≡ 0
  none_open = eqb-true _ 0 (each_passes (λ n. open_accesses n (kept (told n (whole n))) == 0) 14 refl n low (omega arith))

  told_almost : told n (almost n) ≡ told n (opened n) ++ history (after (desk n) (opened n)) (rest n)
  told_almost = history_append (desk n) (opened n) (rest n)

  told_whole : told n (whole n) ≡ told n (almost n) ++ last n ∷ []
  told_whole = history_append (desk n) (almost n) (Deliver 0 ∷ [])

  takes_all : TakesAll n (told n (whole n))
  takes_all = record {
    before = told n (opened n);
    deliveries = history (after (desk n) (opened n)) (rest n);
    last = last n;
    told = told_whole ∙ ap (λ h. h ++ last n ∷ []) told_almost;
    one_open = one_open;
    all_but_one = (only_deliveries (after (desk n) (opened n)) (3 * n - 5) 0, length_history (after (desk n) (opened n)) (rest n) ∙ length-replicate (3 * n - 5) (Deliver 0));
    still_open = subst (λ h. open_accesses n (kept h) ≡ 1) told_almost still_open;
    delivers = tt;
    all = one_more n _ _ low (length_history (after (desk n) (opened n)) (rest n) ∙ length-replicate (3 * n - 5) (Deliver 0));
    none_open = none_open;
  }

  passes_all : passes (kept (told n (whole n))) (n - 2) (move (after (desk n) (almost n)) (Deliver 0)).answer ≡ true
  passes_all = each_passes (λ n. passes (kept (told n (whole n))) (n - 2) (move (after (desk n) (almost n)) (Deliver 0)).answer) 14 refl n low (omega arith)

  passes_through : PassedOn (n - 2) (told n (whole n))
  passes_through = finishes_passed (n - 2) (told n (whole n)) (told n (almost n)) 0 _ _ told_whole passes_all

  pub all_are_needed : OfSomeHistory n (TakesAll n)
  all_are_needed = (told n (whole n), takes_all, possible n (whole n) goes_through)

  pub passes_through_all : OfSomeHistory n (PassedOn (n - 2))
  passes_through_all = (told n (whole n), passes_through, possible n (whole n) goes_through)
