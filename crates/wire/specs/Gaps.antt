-- An item is taken out of the first part of a table, and those behind it move up.
use Rattle.std.specs.Prelude.{ℕ, ◌-◌, List, ◌++◌, take, drop}
use Rattle.std.specs.List.{remove}

-- the first len without the one at place, and from the last of them on what stood there
abbrev pub closed : {X : Type 0} → List X → ℕ → ℕ → List X
closed xs len place = remove (take len xs) place ++ drop (len - 1) xs
