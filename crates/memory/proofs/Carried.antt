-- Whatever the steps of a kit carry is carried along its histories, and so each of them is one memory, and that of a willing kit.
use Rattle.memory.proofs.Entering.{ledger_push}
use Rattle.std.proofs.Common.{◌≡◌, ℕ, ◌-◌, ◌*◌, ◌≤◌, [], ◌∷◌, ◌++◌, length, sym, refl, ap, subst, inl, inr, arith}
use Rattle.std.proofs.lemmas.List.{length_push}
use Rattle.memory.specs.Calls.{Running, Does}
use Rattle.memory.specs.Histories.{Event, History, IsDelivery, OnlyDeliveries}
use Rattle.memory.specs.Ledgers.{Ledger, entered, fresh, ledger, open_accesses}
use Rattle.memory.specs.OneMemory.{Right, NothingOpen, OneMemoryWithin}
use Rattle.memory.specs.Placements.{Words}
use Rattle.memory.specs.Reached.{Reached, started, onward}
use Rattle.memory.specs.Willing.{AnswersWillingly, Willing}
use Rattle.memory.proofs.Earlier.{earlier, happened}
use Rattle.memory.proofs.Splits.{split_push}

-- what is kept between ledger, state and the work left, step by step: enough for every history to be one memory, and a willing one
pub record Carries (n p most each : ℕ) (first : Words) (start : Running) (Kept : Ledger → Running → ℕ → Type 0) : Type 0 where
  pub begins : Kept (fresh first) start 0
  pub right : (l : Ledger) (s t : Running) (w : ℕ) (e : Event) → Kept l s w → Does s e t → Right most l e
  pub serves : (l : Ledger) (s t : Running) (w : ℕ) (e : Event) → Kept l s w → Does s e t → AnswersWillingly n p l e
  -- a delivery takes from the work left, while there is any
  pub goes_on : (l : Ledger) (s t : Running) (w : ℕ) (e : Event) → Kept l s w → Does s e t → (v : ℕ) × Kept (entered l e) t v × (IsDelivery e.call → v ≤ w - 1)
  pub bounded : (l : Ledger) (s : Running) (w : ℕ) → Kept l s w → w ≤ each * open_accesses n l
  pub rests : (l : Ledger) (s : Running) → Kept l s 0 → NothingOpen l

only_push : (h : History) (e : Event) → OnlyDeliveries (h ++ e ∷ []) → OnlyDeliveries h × IsDelivery e.call
only_push [] e only = (tt, only.0)
only_push (d ∷ h) e only = let r = only_push h e only.1 in ((only.0, r.0), r.1)

module _ {n p most each : ℕ} {first : Words} {start : Running} {Kept : Ledger → Running → ℕ → Type 0} (c : Carries n p most each first start Kept) where
  pub carried : {h : History} {s : Running} → Reached start h s → (w : ℕ) × Kept (ledger first h) s w
  carried started = (0, c.begins)
  carried (onward {h = g} {s} {t} e x y) =
      let k = carried x in
      let m = c.goes_on (ledger first g) s t k.0 e k.1 y in
      (m.0, rw (ledger_push first g e) m.1)

  -- deliveries alone leave less work, each by one
  less_left : {h : History} {s : Running} → Reached start h s → (before deliveries : History) → h ≡ before ++ deliveries → OnlyDeliveries deliveries →
      (w : ℕ) × Kept (ledger first h) s w × (w ≤ each * open_accesses n (ledger first before) - length deliveries)
  less_left started before deliveries split only = (0, c.begins, omega arith)
  less_left (onward {h = g} {s} {t} e x y) before deliveries split only = elim (split_push g before deliveries e split) [
    | inl q ↦
        let k = carried (onward e x y) in
        let under : k.0 ≤ each * open_accesses n (ledger first before) = subst (λ h. k.0 ≤ each * open_accesses n (ledger first h)) (sym q.1) (c.bounded _ t k.0 k.1) in
        (k.0, k.1, omega (arith, under, ap length q.0))
    | inr q ↦
        let earlier_only = only_push q.0 e (subst OnlyDeliveries q.1 only) in
        let k = less_left x before q.0 q.2 earlier_only.0 in
        let m = c.goes_on (ledger first g) s t k.0 e k.1 y in
        (m.0, rw (ledger_push first g e) m.1, omega (arith, k.2, m.2 earlier_only.1, ap length q.1, length_push q.0 e))
  ]

  -- so enough of them leave none, and nothing open
  all_answered : {h : History} {s : Running} → Reached start h s → (before deliveries : History) → h ≡ before ++ deliveries → OnlyDeliveries deliveries →
      each * open_accesses n (ledger first before) ≤ length deliveries → NothingOpen (ledger first h)
  all_answered {h} {s} x before deliveries split only enough =
      let k = less_left x before deliveries split only in
      let none : k.0 ≡ 0 = omega (arith, k.2, enough) in
      c.rests (ledger first h) s (subst (Kept (ledger first h) s) none k.1)

  pub one_memory_of : {h : History} {s : Running} → Reached start h s → OneMemoryWithin n most each first h
  one_memory_of x = record {
    right = λ before e later split.
        let i = happened x before e later split in
        let k = carried i.reached in
        c.right (ledger first before) i.at i.to k.0 e k.1 i.does;
    in_time = λ before deliveries later split. all_answered (earlier x (before ++ deliveries) later split).1 before deliveries refl;
  }

  pub willing_of : {h : History} {s : Running} → Reached start h s → Willing n p first h
  willing_of x before e later split =
      let i = happened x before e later split in
      let k = carried i.reached in
      c.serves (ledger first before) i.at i.to k.0 e k.1 i.does
