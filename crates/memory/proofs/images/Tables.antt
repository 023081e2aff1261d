-- A kit after a step of one board on one page.
use Rattle.std.proofs.Common.{◌≡◌, ℕ, ◌<◌, List, [], length, set, ap, ◌∙◌, inl, inr, arith}
use Rattle.std.proofs.lemmas.Bool.{cases_eq}
use Rattle.std.proofs.lemmas.List.{length-set, get_or-set_same, get_or-set_other}
use Rattle.board.specs.Boards.{BoardState, start_state}
use Rattle.board.specs.declared.entry.PageEntry.{PageEntry}
use Rattle.lone.specs.Lones.{after_step}
use Rattle.lone.specs.Tables.{entry_at, no_entry}
use Rattle.memory.specs.Kits.{Kit, state_at, table_of, board_at, with_board}

abbrev pub kit_after : Kit → ℕ → ℕ → BoardState → PageEntry → Kit
kit_after k board page state entry = with_board k board (after_step (board_at k board) page state entry)

-- sixteen boards of sixteen pages
pub record Shaped (k : Kit) : Type 0 where
  pub states : length k.states ≡ 16
  pub tables : length k.tables ≡ 16
  pub rows : (b : ℕ) → b < 16 → length (table_of k b) ≡ 16

module _ (k : Kit) (shape : Shaped k) (board page : ℕ) (inside : board < 16) (s : BoardState) (e : PageEntry) where
  abbrev new : Kit
  new = kit_after k board page s e

  pub state_here : state_at new board ≡ s
  state_here = get_or-set_same k.states board s (start_state board) (omega (arith, inside, shape.states))

  pub state_there : (b : ℕ) → (b ≡ board → ⊥) → state_at new b ≡ state_at k b
  state_there b ne = get_or-set_other k.states board b s (start_state b) ne

  pub table_here : table_of new board ≡ set (table_of k board) page e
  table_here = get_or-set_same k.tables board (set (table_of k board) page e) [] (omega (arith, inside, shape.tables))

  pub table_there : (b : ℕ) → (b ≡ board → ⊥) → table_of new b ≡ table_of k b
  table_there b ne = get_or-set_other k.tables board b (set (table_of k board) page e) [] ne

  pub board_here : board_at new board ≡ after_step (board_at k board) page s e
  board_here = ap (λ (x : BoardState). record { boards = k.boards; pages = k.pages; state = x; table = table_of new board }) state_here ∙ ap (λ (x : List PageEntry). record { boards = k.boards; pages = k.pages; state = s; table = x }) table_here

  pub board_there : (b : ℕ) → (b ≡ board → ⊥) → board_at new b ≡ board_at k b
  board_there b ne = ap (λ (x : BoardState). record { boards = k.boards; pages = k.pages; state = x; table = table_of new b }) (state_there b ne) ∙ ap (λ (x : List PageEntry). record { boards = k.boards; pages = k.pages; state = state_at k b; table = x }) (table_there b ne)

  pub entry_here : page < 16 → entry_at (table_of new board) page ≡ e
  entry_here l = ap (λ (t : List PageEntry). entry_at t page) table_here ∙ get_or-set_same (table_of k board) page e no_entry (omega (arith, l, shape.rows board inside))

  pub entry_beside : (r : ℕ) → (r ≡ page → ⊥) → entry_at (table_of new board) r ≡ entry_at (table_of k board) r
  entry_beside r ne = ap (λ (t : List PageEntry). entry_at t r) table_here ∙ get_or-set_other (table_of k board) page r e no_entry ne

  pub still_shaped : Shaped new
  still_shaped = record {
    states = length-set k.states board s ∙ shape.states;
    tables = length-set k.tables board (set (table_of k board) page e) ∙ shape.tables;
    rows = λ b l. elim (cases_eq b board) [
      | inl q ↦ ap (λ x. length (table_of new x)) q ∙ ap (λ (t : List PageEntry). length t) table_here ∙ length-set (table_of k board) page e ∙ shape.rows board inside
      | inr ne ↦ ap (λ (t : List PageEntry). length t) (table_there b ne) ∙ shape.rows b l
    ];
  }
