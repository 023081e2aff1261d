-- What is placed is what the memory holds.
use Rattle.std.proofs.Common.{◌≡◌, ℕ, ◌<◌, ◌≤◌, cond, eqb, List, [], ◌∷◌, length, sym, refl, ◌∙◌, subst, arith}
use Rattle.std.proofs.lemmas.List.{get_or-set_same, get_or-set_other, length-set, length-replicate, get_or-replicate}
use Rattle.std.proofs.lemmas.Bool.{cases_eq}
use Rattle.std.proofs.lemmas.Bool.Decides.{nat_tests}
use Rattle.board.specs.Entries.{start_entry}
use Rattle.board.specs.declared.entry.PageEntry.{PageEntry}
use Rattle.board.specs.Addresses.{page_of, place_of}
use Rattle.lone.specs.Tables.{start_table, entry_at, no_entry, word_at, with_word_at}
use Rattle.memory.specs.Kits.{table_of}
use Rattle.memory.specs.Placements.{placed, after_placing, InRange, PlacedWords}
use Rattle.memory.specs.declared.placement.Placement.{Placement}

-- sixteen pages of sixteen words
pub record Shaped (es : List PageEntry) : Type 0 where
  pub pages : length es ≡ 16
  pub words : (p : ℕ) → p < 16 → length (entry_at es p).words ≡ 16

shaped_start : (number : ℕ) → Shaped (start_table number)
shaped_start number = record { pages = length-replicate 16 (start_entry number); words = λ p h. rw (get_or-replicate 16 p (start_entry number) no_entry h) refl }

shaped_put : (es : List PageEntry) (a w : ℕ) → page_of a < 16 → Shaped es → Shaped (with_word_at es a w)
shaped_put es a w h s =
    record {
      pages = length-set es (page_of a) _ ∙ s.pages;
      words = λ p l. grind (arith, s.pages, s.words (page_of a) h, s.words p l, cases_eq p (page_of a), get_or-set_same, get_or-set_other, length-set);
    }

word_put : (es : List PageEntry) (a w x : ℕ) → page_of a < 16 → Shaped es → word_at (with_word_at es a w) x ≡ cond (eqb x a) w (word_at es x)
word_put es a w x h s = grind (arith, nat_tests, s.pages, s.words (page_of a) h, cases_eq (page_of x) (page_of a), cases_eq (place_of x) (place_of a), get_or-set_same, get_or-set_other)

pub some_tables : (n p : ℕ) (qs : List Placement) → length (after_placing n p qs).tables ≡ 16
some_tables n p [] = refl
some_tables n p (q ∷ qs) = search (some_tables n p qs, length-set)

pub placed_table : (n p : ℕ) (qs : List Placement) (a w : ℕ) → table_of (placed (after_placing n p qs) a w) 0 ≡ with_word_at (table_of (after_placing n p qs) 0) a w
placed_table n p qs a w = get_or-set_same (after_placing n p qs).tables 0 _ [] (omega (arith, some_tables n p qs))

pub shaped_placing : (n p : ℕ) (qs : List Placement) → p ≤ 16 → InRange p qs → Shaped (table_of (after_placing n p qs) 0)
shaped_placing n p [] l h = shaped_start 0
shaped_placing n p (q ∷ qs) l h =
    subst Shaped (sym (placed_table n p qs q.address q.word))
    (shaped_put (table_of (after_placing n p qs) 0) q.address q.word (omega (arith, h.0)) (shaped_placing n p qs l h.1))

pub placed_words : PlacedWords
placed_words n p [] l h x i = rw (get_or-replicate 16 (page_of x) (start_entry 0) no_entry (omega arith)) (get_or-replicate 16 (place_of x) 0 0 (omega arith))
placed_words n p (q ∷ qs) l h x i =
    rw (placed_table n p qs q.address q.word, word_put (table_of (after_placing n p qs) 0) q.address q.word x (omega (arith, h.0)) (shaped_placing n p qs l h.1), placed_words n p qs l h.1 x i) refl
