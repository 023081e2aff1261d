-- Page tables.
use Rattle.std.specs.Prelude.{List, [], ℕ, get_or, set, replicate}
use Rattle.wire.specs.BoardSets.{marked}
use Rattle.board.specs.Addresses.{page_of, place_of}
use Rattle.board.specs.Entries.{start_entry, with_word}
use Rattle.board.specs.declared.entry.PageEntry.{PageEntry}
use Rattle.board.specs.declared.entry.Access.TheVariants as access

abbrev pub start_table : ℕ → List PageEntry
start_table number = replicate 16 (start_entry number)

-- what stands past a table
abbrev pub no_entry : PageEntry
no_entry = record { access = access.None; hint = 0; copies = marked []; words = [] }

abbrev pub entry_at : List PageEntry → ℕ → PageEntry
entry_at es page = get_or es page no_entry

abbrev pub word_at : List PageEntry → ℕ → ℕ
word_at es address = get_or (entry_at es (page_of address)).words (place_of address) 0

-- the table with a word put at an address
abbrev pub with_word_at : List PageEntry → ℕ → ℕ → List PageEntry
with_word_at es address word = set es (page_of address) (with_word (entry_at es (page_of address)) (place_of address) word)
