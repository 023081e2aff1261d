-- A board's entry for one page.
use Rattle.std.specs.Prelude.{cond, List, ℕ, eqb, replicate, set}
use Rattle.wire.specs.BoardSets.{no_boards}
use Rattle.board.specs.declared.entry.PageEntry.{PageEntry}
use Rattle.board.specs.declared.entry.Access.TheVariants as access

-- the words of a page that nothing was stored in
abbrev pub zeros : List ℕ
zeros = replicate 16 0

-- at the start board 0 owns every page with access write; the others have access none and the hint 0
abbrev pub start_entry : ℕ → PageEntry
start_entry number = record { access = cond (eqb number 0) access.Write access.None; hint = 0; copies = no_boards; words = zeros }

-- the entry with a word put at a place in the page
abbrev pub with_word : PageEntry → ℕ → ℕ → PageEntry
with_word e place word = record { access = e.access; hint = e.hint; copies = e.copies; words = set e.words place word }
