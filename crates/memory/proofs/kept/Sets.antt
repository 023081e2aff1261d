-- Members of a copy set: of the empty one, and of one with a board put in or taken out; and the facts that the proofs about pages use.
use Rattle.std.proofs.Common.{◌≡◌, ℕ, zero, suc, Bool, false, cond, eqb, List, replicate, [], ◌∷◌, refl, arith}
use Rattle.std.proofs.lemmas.Bool.Decides.{leb_tells, eqb_tells}
use Rattle.memory.proofs.model.Sets.{has, put, nobody}

has_none_of : (n y : ℕ) → has (replicate n false) y ≡ false
unfolding has
has_none_of zero y = refl
has_none_of (suc n) zero = refl
has_none_of (suc n) (suc y) = has_none_of n y

pub has_none : (y : ℕ) → has nobody y ≡ false
unfolding nobody
has_none y = has_none_of 16 y

pub has_put : (c : List Bool) (a : ℕ) (v : Bool) (y : ℕ) → has (put c a v) y ≡ cond (eqb y a) v (has c y)
unfolding has put
has_put [] zero v zero = grind (arith, eqb_tells)
has_put [] zero v (suc y) = grind (arith, eqb_tells)
has_put [] (suc a) v zero = grind (arith, eqb_tells)
has_put [] (suc a) v (suc y) = grind (arith, eqb_tells, has_put [] a v y)
has_put (b ∷ c) zero v zero = grind (arith, eqb_tells)
has_put (b ∷ c) zero v (suc y) = grind (arith, eqb_tells)
has_put (b ∷ c) (suc a) v zero = grind (arith, eqb_tells)
has_put (b ∷ c) (suc a) v (suc y) = grind (arith, eqb_tells, has_put c a v y)

pub ruleset facts = (leb_tells, eqb_tells, has_put, has_none)
