-- Never do more messages wait than the limit.
use Rattle.std.proofs.Common.{ℕ, ◌≤◌, Some, None, Ok, Err, Option, Result, sym, subst, arith}
use Rattle.std.proofs.lemmas.Bool.Decides.{nat_tests}
use Rattle.wire.specs.Bags.{Bag, size}
use Rattle.wire.specs.Links.{Posted, Taken, unused, posting, taking, NeverOver}
use Rattle.wire.specs.declared.fault.Fault.{Fault}
use Rattle.wire.specs.declared.message.Message.{Message}

module _ {L : Type 0} (limit : L → ℕ) (waiting : L → Bag Message) where
  posted_within : (s t : L) (m : Message) (r : Result (Unit {0}) Fault) → size (waiting s) ≤ limit s → Posted limit waiting s m r t → size (waiting t) ≤ limit t
  posted_within s t m (Ok x) h p = let n = p.1.0.1 (λ _. 1) in let q = p.0 in grind (arith, nat_tests, p.1.1)
  posted_within s t m (Err e) h p = subst (λ (x : L). size (waiting x) ≤ limit x) (sym p.1) h

  taken_within : (s t : L) (r : Option Message) → size (waiting s) ≤ limit s → Taken limit waiting s r t → size (waiting t) ≤ limit t
  taken_within s t None h p = omega (arith, p.1.1 (λ _. 1))
  taken_within s t (Some m) h p = omega (arith, p.0.1 (λ _. 1), p.1)

  pub never_over : NeverOver limit waiting
  never_over s t e (unused _) = omega arith
  never_over s u e (posting _ t _ m r used p) = posted_within t u m r (never_over s t e used) p
  never_over s u e (taking _ t _ r used p) = taken_within t u r (never_over s t e used) p
