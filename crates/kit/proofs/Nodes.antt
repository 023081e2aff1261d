-- A board's node beside the board of the kit, before a step of it and after.
use Rattle.std.proofs.Common.{◌≡◌, ℕ, ◌<◌, ◌≤◌, Bool, true, false, List, None, [], length, get_or, set, refl, ap, ◌∙◌, sym, subst, eqb, arith}
use Rattle.std.proofs.lemmas.Bool.{eqb-true, eqb-false}
use Rattle.std.proofs.lemmas.List.{map-set, get_or-map, length-map, get_or-set_same, get_or-set_other, length-set}
use Rattle.wire.specs.declared.message.Message.{Message}
use Rattle.board.specs.Boards.{BoardState, start_state}
use Rattle.board.specs.declared.entry.PageEntry.{PageEntry}
use Rattle.board.specs.Addresses.{page_of}
use Rattle.board.specs.Openings.{Opens, load, store}
use Rattle.board.specs.Outboxes.{outbox_room}
use Rattle.board.specs.declared.answer.AccessAnswer.{AccessAnswer}
use Rattle.wire.specs.Questions.{first_no}
use Rattle.lone.specs.Calls.{load_at, store_at, arrive_at}
use Rattle.lone.specs.LoneQuestions as lone
use Rattle.lone.specs.Tables.{entry_at}
use Rattle.board.specs.Steps.{Arrives, RoomToWait, arrive}
use Rattle.board.specs.declared.answer.Arrival.{Arrival}
use Rattle.lone.proofs.ArrivalForms.{arrived_kept, room_to_wait}
use Rattle.lone.proofs.LoneForms.{loaded_kept, stored_kept}
use Rattle.lone.specs.Calls.{Outcome}
use Rattle.lone.specs.Forms.{lone_form}
use Rattle.lone.specs.Lones.{Lone, after_step}
use Rattle.memory.specs.Kits.{Kit, board_at, with_board}
use Rattle.kit.proofs.Numbers.{number_loading, number_storing, number_arrived}
use Rattle.kit.specs.Clusters.{node_state, node_entries, kit_of}
use Rattle.kit.specs.Forms.{BoardForm, KitForm}
use Rattle.kit.specs.Steps.{Steps}
use Rattle.kit.specs.declared.cluster.Cluster.{Cluster}
use Rattle.kit.specs.declared.node.Node.{Node}

-- one board of a kit becomes another of its form
module _ (k : Kit) (i : ℕ) (l : Lone) (states : i < length k.states) (tables : i < length k.tables) where
  put_here : l.boards ≡ k.boards → l.pages ≡ k.pages → board_at (with_board k i l) i ≡ l
  put_here boards pages = rw (get_or-set_same k.states i l.state (start_state i) states, get_or-set_same k.tables i l.table [] tables, boards, pages) refl

  put_other : (board : ℕ) → eqb board i ≡ false → board_at (with_board k i l) board ≡ board_at k board
  put_other board other =
      rw (get_or-set_other k.states i board l.state (start_state board) (eqb-false board i other), get_or-set_other k.tables i board l.table [] (eqb-false board i other)) refl

  pub form_kept : KitForm k → l.boards ≡ k.boards → l.pages ≡ k.pages → l.state.number ≡ i → length l.table ≡ 16 → lone_form l ≡ true → KitForm (with_board k i l)
  form_kept form boards pages number rows good board lt = by (eqb board i) refl
    where
      same : board_at (with_board k i l) i ≡ l
      same = put_here boards pages

      by : (x : Bool) → eqb board i ≡ x → BoardForm (with_board k i l) board
      by true q =
          subst (λ b. BoardForm (with_board k i l) b) (sym (eqb-true board i q))
          (record { number = ap (λ x. x.state.number) same ∙ number; rows = ap (λ x. length x.table) same ∙ rows; form = ap lone_form same ∙ good })
      by false q =
          let kept = put_other board q in
          let f = form board lt in
          record { number = ap (λ x. x.state.number) kept ∙ f.number; rows = ap (λ x. length x.table) kept ∙ f.rows; form = ap lone_form kept ∙ f.form }

-- What the code reads is the board of the kit, and what it writes is that of the kit afterwards.

-- the node at i as a board by itself
abbrev pub lone_node : Cluster → Node → Lone
lone_node k n = record { boards = k.size.boards; pages = k.size.pages; state = node_state n; table = node_entries n }

-- the cluster with another node at i
abbrev pub with_node : Cluster → ℕ → Node → Cluster
with_node k i n = record { size = k.size; nodes = set k.nodes i n }

-- the board at i, and its entry of a page; d stands for what is past the boards
abbrev pub lone_here : Cluster → ℕ → Node → Lone
lone_here k i d = lone_node k (get_or k.nodes i d)

abbrev pub entry_here : Cluster → ℕ → Node → ℕ → PageEntry
entry_here k i d page = entry_at (node_entries (get_or k.nodes i d)) page

module _ (k : Cluster) (i : ℕ) (d : Node) (rows : length k.nodes ≡ 16) (there : i < k.size.boards) where
  pub inside : i < length k.nodes
  inside = let b = k.size.boards_bounded in omega (arith, rows, there, b)

  pub is_here : board_at (kit_of k) i ≡ lone_here k i d
  is_here = rw (get_or-map node_state k.nodes i d (start_state i) inside, get_or-map node_entries k.nodes i d [] inside) refl

  pub is_after : (n : Node) → kit_of (with_node k i n) ≡ with_board (kit_of k) i (lone_node k n)
  is_after n = rw (map-set node_state k.nodes i n, map-set node_entries k.nodes i n) refl

  module _ (form : KitForm (kit_of k)) where
    number_here : (lone_here k i d).state.number ≡ i
    number_here = ap (λ (x : Lone). x.state.number) (sym is_here) ∙ (form i there).number

    pub rows_here : length (lone_here k i d).table ≡ 16
    rows_here = ap (λ (x : Lone). length x.table) (sym is_here) ∙ (form i there).rows

    pub good_here : lone_form (lone_here k i d) ≡ true
    good_here = ap lone_form (sym is_here) ∙ (form i there).form

    -- a step of the board has this state and this entry of the page, and leaves the node n
    stepped : {A : Type 0} (o : Outcome A) (n : Node) (page : ℕ) (s : BoardState) (e : PageEntry) (posts : List Message) (answer : A) →
        o.board ≡ after_step (lone_here k i d) page s e → node_state n ≡ s → node_entries n ≡ set (lone_here k i d).table page e →
        posts ≡ o.posts → length posts ≤ outbox_room → answer ≡ o.answer → s.number ≡ (lone_here k i d).state.number → lone_form o.board ≡ true → Steps i o (kit_of k) (kit_of (with_node k i n)) posts answer
    stepped o n page s e posts answer same state entries posted few answered number good =
        let is_node : o.board ≡ lone_node k n = same ∙ rw (state, entries) refl in
        record {
          kit = is_after n ∙ ap (with_board (kit_of k) i) (sym is_node);
          posted = posted;
          few = few;
          answered = answered;
          form = subst KitForm (sym (is_after n))
              (form_kept (kit_of k) i (lone_node k n) (omega (arith, inside, length-map k.nodes node_state)) (omega (arith, inside, length-map k.nodes node_entries)) form refl refl
              (ap (λ (x : BoardState). x.number) state ∙ number ∙ number_here) (ap length entries ∙ length-set (lone_here k i d).table page e ∙ rows_here) (ap lone_form (sym is_node) ∙ good));
        }

    module _ (address page : ℕ) (is_page : page ≡ page_of address) (ok : first_no (lone.access_questions (board_at (kit_of k) i) address) ≡ None) (n : Node) (e : PageEntry) (posts : List Message) (answer : AccessAnswer)
        (entries : node_entries n ≡ set (lone_here k i d).table page e) (few : length posts ≤ outbox_room) where
      accepted_here : first_no (lone.access_questions (lone_here k i d) address) ≡ None
      accepted_here = ap (λ (x : Lone). first_no (lone.access_questions x address)) (sym is_here) ∙ ok

      pub loaded : Opens (load (lone_here k i d).state (entry_here k i d page) address) (node_state n) e posts answer → Steps i (load_at (board_at (kit_of k) i) address) (kit_of k) (kit_of (with_node k i n)) posts answer
      loaded opens =
          let o = load (lone_here k i d).state (entry_here k i d page) address in
          subst (λ x. Steps i (load_at x address) (kit_of k) (kit_of (with_node k i n)) posts answer) (sym is_here)
          (stepped (load_at (lone_here k i d) address) n page o.state o.entry posts answer (rw (sym is_page) refl) opens.0 (entries ∙ ap (set (lone_here k i d).table page) opens.1)
          (opens.2 ∙ rw (sym is_page) refl) few (opens.3 ∙ rw (sym is_page) refl) (number_loading (entry_here k i d page).access (lone_here k i d).state (entry_here k i d page) address)
          (loaded_kept (lone_here k i d) rows_here (omega (arith, k.size.pages_bounded)) good_here address accepted_here))

      pub stored : (word : ℕ) → Opens (store (lone_here k i d).state (entry_here k i d page) address word) (node_state n) e posts answer →
          Steps i (store_at (board_at (kit_of k) i) address word) (kit_of k) (kit_of (with_node k i n)) posts answer
      stored word opens =
          let o = store (lone_here k i d).state (entry_here k i d page) address word in
          subst (λ x. Steps i (store_at x address word) (kit_of k) (kit_of (with_node k i n)) posts answer) (sym is_here)
          (stepped (store_at (lone_here k i d) address word) n page o.state o.entry posts answer (rw (sym is_page) refl) opens.0 (entries ∙ ap (set (lone_here k i d).table page) opens.1)
          (opens.2 ∙ rw (sym is_page) refl) few (opens.3 ∙ rw (sym is_page) refl) (number_storing (entry_here k i d page).access (lone_here k i d).state (entry_here k i d page) address word)
          (stored_kept (lone_here k i d) rows_here (omega (arith, k.size.pages_bounded)) good_here address accepted_here word))

    -- a message arrives
    module _ (m : Message) (ok : first_no (lone.arrival_questions (board_at (kit_of k) i) m) ≡ None) where
      arrival_here : first_no (lone.arrival_questions (lone_here k i d) m) ≡ None
      arrival_here = ap (λ (x : Lone). first_no (lone.arrival_questions x m)) (sym is_here) ∙ ok

      pub room_here : RoomToWait m.kind (lone_here k i d).state.waiting
      room_here = room_to_wait (lone_here k i d) m rows_here (omega (arith, k.size.pages_bounded)) good_here arrival_here (omega (arith, k.size.boards_bounded))

      pub arrived : (n : Node) (e : PageEntry) (posts : List Message) (answer : Arrival) → node_entries n ≡ set (lone_here k i d).table m.page e → length posts ≤ outbox_room →
          Arrives (arrive (lone_here k i d).state (entry_here k i d m.page) m) m (lone_here k i d).state.number (node_state n) e posts answer →
          Steps i (arrive_at (board_at (kit_of k) i) m) (kit_of k) (kit_of (with_node k i n)) posts answer
      arrived n e posts answer entries few arrives =
          let o = arrive (lone_here k i d).state (entry_here k i d m.page) m in
          subst (λ x. Steps i (arrive_at x m) (kit_of k) (kit_of (with_node k i n)) posts answer) (sym is_here)
          (stepped (arrive_at (lone_here k i d) m) n m.page o.state o.entry posts answer refl arrives.0 (entries ∙ ap (set (lone_here k i d).table m.page) arrives.1)
          arrives.2 few arrives.3 (number_arrived (lone_here k i d).state (entry_here k i d m.page) m)
          (arrived_kept (lone_here k i d) m rows_here (omega (arith, k.size.pages_bounded)) good_here arrival_here))
