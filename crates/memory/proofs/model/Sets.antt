-- A set of boards, as a list of tests.
use Rattle.std.specs.Prelude.{ℕ, zero, suc, Bool, false, List, replicate, [], ◌∷◌}

abbrev pub Boards : Type 0
Boards = List Bool

unfoldable pub nobody : Boards
nobody = replicate 16 false

unfoldable pub has : List Bool → ℕ → Bool
has [] y = false
has (b ∷ c) zero = b
has (b ∷ c) (suc y) = has c y

unfoldable pub put : List Bool → ℕ → Bool → List Bool
put [] zero v = v ∷ []
put [] (suc y) v = false ∷ put [] y v
put (b ∷ c) zero v = v ∷ c
put (b ∷ c) (suc y) v = b ∷ put c y v
