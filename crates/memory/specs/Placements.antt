-- The memory that a kit starts with: the words that were placed, else zeros.
use Rattle.std.specs.Prelude.{◌≡◌, ℕ, ◌*◌, ◌<◌, ◌≤◌, List, [], ◌∷◌, slice_set}
use Rattle.memory.specs.Functions.{changed}
use Rattle.lone.specs.Tables.{word_at, with_word_at}
use Rattle.memory.specs.Kits.{Kit, table_of, start_kit}
use Rattle.memory.specs.declared.placement.Placement.{Placement}

-- an array of words, by their addresses
abbrev pub Words : Type 0
Words = ℕ → ℕ

-- what placements, the newest first, leave in an array of zeros
abbrev pub array : List Placement → Words
array [] x = 0
array (p ∷ ps) x = changed (array ps) p.address p.word x

-- a word is placed: it is written at board 0
abbrev pub placed : Kit → ℕ → ℕ → Kit
placed k address word = record { boards = k.boards; pages = k.pages; states = k.states; tables = slice_set k.tables 0 (with_word_at (table_of k 0) address word) }

-- a kit of n boards and p pages after placements, the newest first
abbrev pub after_placing : ℕ → ℕ → List Placement → Kit
after_placing n p [] = start_kit n p
after_placing n p (q ∷ qs) = placed (after_placing n p qs) q.address q.word

abbrev pub InRange : ℕ → List Placement → Type 0
InRange p [] = Unit {0}
InRange p (q ∷ qs) = (q.address < 16 * p) × InRange p qs

-- the words at board 0, which owns every page until the kit starts
abbrev pub memory : Kit → Words
memory k x = word_at (table_of k 0) x

-- a kit begins with the placed words, else zeros
abbrev pub PlacedWords : Type 0
PlacedWords = (n p : ℕ) (qs : List Placement) → p ≤ 16 → InRange p qs → (x : ℕ) → x < 16 * p → memory (after_placing n p qs) x ≡ array qs x
