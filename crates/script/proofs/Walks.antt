-- What stands for each outcome of records, when the first of them is taken apart.
use Rattle.std.proofs.Common.{◌≡◌, ℕ, Bool, true, false, cond, List, [], ◌∷◌, ◌++◌, refl, ap}
use Rattle.std.specs.List.{flat_map}
use Rattle.script.specs.Plays.{Bench, Outcome, outcome, after, ends, outcomes}

unless : {X : Type 0} (f : Outcome → List X) (b : Bool) (os : List Outcome) →
    flat_map f (cond b [] os) ≡ cond b [] (flat_map f os)
unless f true os = refl
unless f false os = refl

pub walk_more : {X : Type 0} (f : Outcome → List X) (s : Bench) (r : List ℕ) (rs : List (List ℕ)) →
    flat_map f (outcomes s (r ∷ rs))
    ≡ f (outcome s r) ++ cond (ends (outcome s r) r) [] (flat_map f (outcomes (after s (outcome s r)) rs))
walk_more f s r rs = ap (λ xs. f (outcome s r) ++ xs)
    (unless f (ends (outcome s r) r) (outcomes (after s (outcome s r)) rs))
