-- The work that is left: none is where nothing is open, and each open access has no more than its bound.
use Rattle.std.proofs.Common.{◌≡◌, ℕ, ◌-◌, ◌*◌, ◌<◌, ◌≤◌, Bool, true, sym, refl, ap, ◌∙◌, inl, inr, arith}
use Rattle.memory.proofs.model.Board.{Mail}
use Rattle.memory.proofs.model.Ledgers.{Ledger, is_open, opens_count}
use Rattle.memory.proofs.model.Invariant.{Inv}
use Rattle.memory.proofs.model.Kit.{absent, Stage, closed, Kit, op_by}
use Rattle.memory.proofs.model.Page.{Mark, Journey, home, asking, queued, copied, granted, clearing, Page, awaits, busy, far, rooted, is_clearing, mark_of, mark}
use Rattle.memory.proofs.model.Sums.{bit, sum_to}
use Rattle.memory.proofs.model.Weights.{weight, mark_weight}
use Rattle.memory.proofs.kept.KitKept.{Kept, left_of, shut_absent, open_journey}
use Rattle.memory.proofs.kept.Stages.{stage_cases, open_here, closed_home}
use Rattle.memory.proofs.kept.Sums.{sum_part, sum_times, sum_le}

-- an open access weighs something
clearing_heavy : (n y : ℕ) (m : ℕ → Mark) → y < n → awaits (m y) ≡ true → 0 < sum_to n (λ x. mark_weight (m x))
clearing_heavy n y m l e = let h = sum_part n y (λ x. mark_weight (m x)) l in let w : 0 < mark_weight (m y) = grind arith in omega arith

module _ {W : Type 0} (n : ℕ) (v : W) (p : Page W) (i : Inv n v p) where
  busy_heavy : (x : ℕ) (t : Journey W) → p.journey x ≡ t → busy t ≡ true → 0 < weight n t
  busy_heavy x home e b = absurd (grind arith)
  busy_heavy x (asking k u h) e b = let w = (i.core.ways.askers x (ap busy e)).bound in let f = ap far e in grind arith
  busy_heavy x (queued k u h) e b = let w = (i.core.ways.askers x (ap busy e)).bound in let f = ap far e in grind arith
  busy_heavy x (copied s h w) e b = omega arith
  busy_heavy x (granted s h c w) e b = omega arith
  busy_heavy x (clearing h m) e b =
      let o = i.core.holders in
      let r = o.only x (ap rooted e) in
      let at_root : p.journey p.root ≡ clearing h m = ap p.journey (sym r) ∙ e in
      let w = o.awaited (ap is_clearing at_root) in
      let same_mark : mark p w.0 ≡ m w.0 = ap (λ t. mark_of t w.0) at_root in
      clearing_heavy n w.0 m (o.marked w.0 w.1) (sym (ap awaits same_mark) ∙ w.1)

module _ {W : Type 0} {same : Mail W → Mail W → Bool} {n : ℕ} {l : Ledger W} {k : Kit W} (i : Kept same n l k) where
  abbrev here : ℕ → Journey W
  here x = (i.pages (k.board x).seat.page).journey x

  -- with no work left nothing is open
  pub none_left : left_of i ≡ 0 → (x : ℕ) → l.opens x ≡ absent
  none_left z x = elim (stage_cases (k.board x).seat.stage) [
    | inl c ↦ shut_absent i x c
    | inr ne ↦ absurd (
        let p = (k.board x).seat.page in
        let b = open_journey i x ne in
        let w = busy_heavy n (l.memory p) (i.pages p) (i.each p) x (here x) refl b in
        let s = sum_part n x (λ y. weight n (here y)) ((i.each p).core.ways.askers x b).in_range in
        omega arith)
  ]

  -- the work left is at most 3 n - 4 for each open access
  pub left_bound : left_of i ≤ (3 * n - 4) * opens_count n l
  left_bound = omega (arith, sum_le n (λ x. weight n (here x)) (λ x. (3 * n - 4) * bit (is_open (l.opens x))) (λ x _. each_bound x), sum_times n (3 * n - 4) (λ x. bit (is_open (l.opens x))))
    where
      just_open : (s : Stage) (p : ℕ) (f : W → W) → (s ≡ closed → ⊥) → is_open (op_by s p f) ≡ true
      just_open s p f ne = grind arith

      each_bound : (x : ℕ) → weight n (here x) ≤ (3 * n - 4) * bit (is_open (l.opens x))
      each_bound x = elim (stage_cases (k.board x).seat.stage) [
        | inl c ↦ let z = ap (weight n) (closed_home (here x) (i.told.stages x (k.board x).seat.page ∙ open_here (k.board x).seat (k.board x).seat.page refl ∙ c)) in omega arith
        | inr ne ↦ let z : bit (is_open (l.opens x)) ≡ 1 = ap (λ o. bit (is_open o)) (i.opens x) ∙ ap bit (just_open (k.board x).seat.stage (k.board x).seat.page (k.board x).seat.act ne) in
            let y : (3 * n - 4) * bit (is_open (l.opens x)) ≡ 3 * n - 4 = rw z (omega arith) in
            omega (arith, i.light (k.board x).seat.page x)
      ]
