-- How many boards and pages there are.
use Rattle.std.specs.Prelude.{ℕ, ◌*◌, Bool, List, [], ◌∷◌, nat_lt}
use Rattle.wire.specs.Faults.{number}
use Rattle.wire.specs.Questions.{inside}
use Rattle.wire.specs.declared.fault.Fault.TheVariants.{BoardsOutOfRange, PagesOutOfRange}
use Rattle.lone.specs.declared.size.Size.{Size}

abbrev pub size_boards : Size → ℕ
size_boards s = s.boards

abbrev pub size_pages : Size → ℕ
size_pages s = s.pages

-- are there 1 to 16 boards, and 1 to 16 pages?
abbrev pub size_questions : ℕ → ℕ → List (ℕ × Bool)
size_questions boards pages =
    (number BoardsOutOfRange, inside 1 16 boards) ∷ (number PagesOutOfRange, inside 1 16 pages) ∷ []

-- is the address below 16 P?
abbrev pub has_address : ℕ → ℕ → Bool
has_address pages address = nat_lt address (16 * pages)
