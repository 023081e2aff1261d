-- The boards of a kit have their form when it starts, and placing words keeps it.
use Rattle.std.proofs.Common.{◌≡◌, ℕ, ◌<◌, ◌≤◌, ◌&&◌, Ok, Err, Result, List, [], ◌∷◌, length, map, refl, ap, ◌∙◌, sym, subst, arith}
use Rattle.std.proofs.Math.ListN.{get_or-map}
use Rattle.std.proofs.Math.Seq.{map-set_same}
use Rattle.std.proofs.lemmas.List.{set-get_or, length-map, length-set, length-replicate}
use Rattle.std.proofs.lemmas.List.FromFn.{get_or-map-range_with_len}
use Rattle.std.specs.List.{list_all}
use Rattle.board.specs.Addresses.{page_of, place_of}
use Rattle.board.specs.Boards.{start_state}
use Rattle.board.specs.Entries.{start_entry, with_word}
use Rattle.board.specs.declared.entry.PageEntry.{PageEntry}
use Rattle.board.specs.declared.stage.Stage.{Stage}
use Rattle.board.specs.declared.stage.Stage.TheVariants.{Idle, LoadAsked, StoreAsked, Clearing}
use Rattle.lone.specs.Forms.{entry_form, stage_form, lone_form}
use Rattle.lone.specs.Lones.{Lone, start_lone}
use Rattle.lone.specs.Tables.{entry_at, no_entry, start_table, with_word_at}
use Rattle.lone.proofs.LoneForms.{start_form}
use Rattle.memory.specs.Kits.{Kit, start_kit, state_at, table_of, board_at, with_board}
use Rattle.memory.specs.Placements.{placed}
use Rattle.kit.proofs.Nodes.{form_kept}
use Rattle.wire.specs.declared.fault.Fault.{Fault}
use Rattle.kit.specs.Clusters.{node_state, node_entries, kit_of}
use Rattle.kit.specs.declared.cluster.Cluster.{Cluster}
use Rattle.kit.specs.Forms.{KitForm}
use Rattle.std.specs.Prelude.{MatchResult}

-- A board has its form whatever words are on its pages.
bare : PageEntry → PageEntry
bare e = record e { words = [] }

bare_entry : (es : List PageEntry) (page : ℕ) → entry_at (map bare es) page ≡ bare (entry_at es page)
unfolding bare
bare_entry es page = get_or-map bare es page no_entry

bare_all : (boards me : ℕ) (es : List PageEntry) → list_all (entry_form boards me) (map bare es) ≡ list_all (entry_form boards me) es
unfolding bare
bare_all boards me [] = refl
bare_all boards me (e ∷ es) = ap (λ x. entry_form boards me e && x) (bare_all boards me es)

bare_lone : Lone → Lone
bare_lone l = record l { table = map bare l.table }

bare_stage : (l : Lone) (stage : Stage) → stage_form (bare_lone l) stage ≡ stage_form l stage
unfolding bare bare_lone
bare_stage l Idle = refl
bare_stage l (LoadAsked load) = rw (bare_entry l.table (page_of load.address)) refl
bare_stage l (StoreAsked store) = rw (bare_entry l.table (page_of store.address)) refl
bare_stage l (Clearing clearing) = rw (bare_entry l.table (page_of clearing.store.address)) refl

bare_form : (l : Lone) → lone_form (bare_lone l) ≡ lone_form l
unfolding bare_lone
bare_form l = rw (bare_all l.boards l.state.number l.table, bare_stage l l.state.stage) refl

word_form : (l : Lone) (address word : ℕ) → lone_form (record l { table = with_word_at l.table address word }) ≡ lone_form l
unfolding bare bare_lone
word_form l address word =
    sym (bare_form (record l { table = with_word_at l.table address word }))
    ∙ ap (λ es. lone_form (record l { table = es })) (map-set_same bare l.table (page_of address) (with_word (entry_at l.table (page_of address)) (place_of address) word) no_entry refl)
    ∙ bare_form l

pub placed_form : (k : Kit) (address word : ℕ) → 0 < k.boards → 0 < length k.states → 0 < length k.tables → KitForm k → KitForm (placed k address word)
placed_form k address word some states tables form =
    let l = board_at k 0 in
    let l-after : Lone = record l { table = with_word_at l.table address word } in
    let f = form 0 some in
    let same : placed k address word ≡ with_board k 0 l-after = rw (set-get_or k.states 0 (start_state 0)) refl in
    subst KitForm (sym same) (form_kept k 0 l-after states tables form refl refl f.number (length-set l.table (page_of address) _ ∙ f.rows) (word_form l address word ∙ f.form))

pub starting_form : (n p : ℕ) → n ≤ 16 → KitForm (start_kit n p)
starting_form n p few board lt =
    let state : state_at (start_kit n p) board ≡ start_state board = get_or-map-range_with_len start_state 0 16 board board (start_state board) (omega (arith, lt, few)) (omega arith) in
    let table : table_of (start_kit n p) board ≡ start_table board = get_or-map-range_with_len start_table 0 16 board board [] (omega (arith, lt, few)) (omega arith) in
    let same : board_at (start_kit n p) board ≡ start_lone board n p = rw (state, table) refl in
    record { number = ap (λ x. x.number) state; rows = ap length table ∙ length-replicate 16 (start_entry board); form = ap lone_form same ∙ start_form board n p lt }

-- a place, accepted or refused
pub placed_still : (k after : Cluster) (address word : ℕ) (result : Result (Unit {0}) Fault) → length k.nodes ≡ 16 →
    MatchResult result (λ _. kit_of after ≡ placed (kit_of k) address word) (λ _. after ≡ k) → KitForm (kit_of k) → KitForm (kit_of after)
placed_still k after address word (Ok x) rows e form =
    subst KitForm (sym e) (placed_form (kit_of k) address word (omega (arith, k.size.boards_bounded)) (omega (arith, rows, length-map k.nodes node_state)) (omega (arith, rows, length-map k.nodes node_entries)) form)
placed_still k after address word (Err fault) rows e form = subst (λ x. KitForm (kit_of x)) (sym e) form
