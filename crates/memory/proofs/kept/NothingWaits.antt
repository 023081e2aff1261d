-- Where nothing waits on the link of a kit, nothing is open.
use Rattle.std.proofs.Common.{◌≡◌, ℕ, Bool, true, false, sym, refl, ap, ◌∙◌, inl, inr, arith}
use Rattle.wire.specs.Bags.{empty as no_mail}
use Rattle.memory.proofs.model.Board.{Mail, request, copy, grant, invalidate, acknowledge}
use Rattle.memory.proofs.model.Ledgers.{Ledger}
use Rattle.memory.proofs.model.Kit.{absent, Kit}
use Rattle.memory.proofs.model.Told.{on_link, times, Equality}
use Rattle.memory.proofs.model.Page.{Mark, unmarked, sent, deferred, acked, Journey, home, asking, queued, copied, granted, clearing, busy, silent, quiet_mark}
use Rattle.memory.proofs.model.Sums.{bit}
use Rattle.memory.proofs.kept.Below.{all_below_all}
use Rattle.memory.proofs.kept.KitKept.{Kept, shut_absent, open_journey}
use Rattle.memory.proofs.kept.NoDeadlock.{stuck}
use Rattle.memory.proofs.kept.Sets.{facts}
use Rattle.memory.proofs.kept.Stages.{stage_cases}

module _ {W : Type 0} (same : Mail W → Mail W → Bool) (law : Equality same) where
  -- no message of a page is on the link: so none of its journeys has one there
  silent_all : (n : ℕ) (j : ℕ → Journey W) → ((x : Mail W) → on_link same j x ≡ false) → (y : ℕ) (t : Journey W) → j y ≡ t → silent n t ≡ true
  silent_all n j h y home e = refl
  silent_all n j h y (asking k u g) e = absurd (let a = h (request k u y g) in let b = law.self (request k u y g) in grind (arith, facts))
  silent_all n j h y (queued k u g) e = refl
  silent_all n j h y (copied s g w) e = absurd (let a = h (copy s y g w) in let b = law.self (copy s y g w) in grind (arith, facts))
  silent_all n j h y (granted s g c w) e = absurd (let a = h (grant s y g c w) in let b = law.self (grant s y g c w) in grind (arith, facts))
  silent_all n j h y (clearing g m) e = all_below_all n (λ x. quiet_mark (m x)) (λ x l. by_mark x (m x) refl)
    where
      by_mark : (x : ℕ) (z : Mark) → m x ≡ z → quiet_mark (m x) ≡ true
      by_mark x unmarked is = ap quiet_mark is
      by_mark x sent is = absurd (let a = h (invalidate y x) in let b = law.self (invalidate y x) in grind (arith, facts))
      by_mark x deferred is = ap quiet_mark is
      by_mark x acked is = absurd (let a = h (acknowledge x y) in let b = law.self (acknowledge x y) in grind (arith, facts))

module _ {W : Type 0} {same : Mail W → Mail W → Bool} {n : ℕ} {l : Ledger W} {k : Kit W} (law : Equality same) (i : Kept same n l k) where
  pub quiet_none : k.link ≡ no_mail → (x : ℕ) → l.opens x ≡ absent
  quiet_none e x = elim (stage_cases (k.board x).seat.stage) [
    | inl c ↦ shut_absent i x c
    | inr ne ↦ absurd (
        let p = (k.board x).seat.page in
        let inv = i.each p in
        let b : busy ((i.pages p).journey x) ≡ true = open_journey i x ne in
        let none_on_link : (m : Mail W) → on_link same (i.pages p).journey m ≡ false = λ m. no_bit (on_link same (i.pages p).journey m) (sym (i.told.mails p m) ∙ ap (times same p m) e) in
        stuck n (l.memory p) (i.pages p) inv (λ y _. silent_all same law n (i.pages p).journey none_on_link y ((i.pages p).journey y) refl) x (inv.core.ways.askers x b).in_range b)
  ]
    where
      no_bit : (c : Bool) → bit c ≡ 0 → c ≡ false
      no_bit c e = grind arith
