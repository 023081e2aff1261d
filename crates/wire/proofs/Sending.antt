-- Messages posted one after another.
use Rattle.std.proofs.Common.{◌≡◌, ℕ, ◌+◌, ◌<◌, List, [], ◌∷◌, ◌++◌, length, Ok, Err, Result, refl, ap, ◌∙◌, sym, subst, arith}
use Rattle.std.proofs.lemmas.Bool.Decides.{nat_tests}
use Rattle.wire.specs.Bags.{Bag, ◌&◌, ◌⊕◌, size}
use Rattle.wire.specs.Links.{Posted, Sent, InTurn}
use Rattle.wire.specs.declared.fault.Fault.{Fault}
use Rattle.wire.specs.declared.message.Message.{Message}
use Rattle.wire.proofs.Bags.{either_way}

-- the last of a list beside a bag
pub last_beside : {X : Type 0} (xs : List X) (x : X) (b : Bag X) → (xs ++ x ∷ []) ⊕ b ≡ x & (xs ⊕ b)
last_beside [] x b = refl
last_beside (y ∷ xs) x b = ap (λ c. y & c) (last_beside xs x b) ∙ either_way y x (xs ⊕ b)

pub size_beside : {X : Type 0} (xs : List X) (b : Bag X) → size (xs ⊕ b) ≡ length xs + size b
size_beside [] b = omega arith
size_beside (x ∷ xs) b = omega (arith, size_beside xs b)

module _ {L : Type 0} (limit : L → ℕ) (waiting : L → Bag Message) where
  -- where there is room, the next message is not refused
  pub not_refused : (ms : List Message) (s t u : L) (m : Message) (r : Result (Unit {0}) Fault) (f : Fault) → size (waiting s) + length ms < limit s → Sent limit waiting ms s t → Posted limit waiting t m r u → r ≡ Err f → ⊥
  not_refused ms s t u m (Ok x) f room e p h = let never : Ok x ≡ Err f = h in cc
  not_refused ms s t u m (Err g) f room e p h =
      let count = ap size e.0 ∙ size_beside ms (waiting s) in grind (arith, nat_tests, count, e.1, p.0, room)

  pub one_more_sent : (ms : List Message) (s t u : L) (m : Message) (r : Result (Unit {0}) Fault) (x : Unit {0}) → Sent limit waiting ms s t → Posted limit waiting t m r u → r ≡ Ok x → Sent limit waiting (ms ++ m ∷ []) s u
  one_more_sent ms s t u m (Ok y) x e p h = (p.1.0.0 ∙ ap (λ b. m & b) e.0 ∙ sym (last_beside ms m (waiting s)), p.1.1 ∙ e.1)
  one_more_sent ms s t u m (Err f) x e p h = let never : Err f ≡ Ok x = h in absurd (cc)

pub one_more_in_turn : {L : Type 0} (joins : L → Message → Result (Unit {0}) Fault → L → Type 0) (ms : List Message) (s t u : L) (m : Message) (r : Result (Unit {0}) Fault) (x : Unit {0}) → InTurn joins ms s t → joins t m r u → r ≡ Ok x → InTurn joins (ms ++ m ∷ []) s u
one_more_in_turn {L} joins [] s t u m r x e j h = (u, subst (λ (r : Result (Unit {0}) Fault). joins s m r u) h (subst (λ (y : L). joins y m r u) e j), refl)
one_more_in_turn joins (n ∷ ms) s t u m r x e j h = (e.0, e.1, one_more_in_turn joins ms e.0 t u m r x e.2 j h)
