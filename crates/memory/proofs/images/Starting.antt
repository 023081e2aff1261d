-- The model follows a kit that just started.
use Rattle.std.proofs.Common.{◌≡◌, ℕ, ◌+◌, ◌*◌, ◌<◌, ◌≤◌, Bool, true, cond, List, [], ◌∷◌, map, length, get_or, refl, ap, ◌∙◌, sym, subst, inl, inr, arith}
use Rattle.std.proofs.lemmas.Bool.{cases_eq, ne_eqb}
use Rattle.std.proofs.lemmas.List.{length-replicate, get_or-replicate, get_or-set_same, get_or-set_other}
use Rattle.std.proofs.lemmas.List.FromFn.{get_or-map-range_with_len}
use Rattle.std.specs.List.{range_with_len}
use Rattle.wire.specs.BoardSets.{no_boards}
use Rattle.board.specs.Addresses.{page_of, place_of}
use Rattle.board.specs.Boards.{BoardState, start_state}
use Rattle.board.specs.Entries.{start_entry, with_word, zeros}
use Rattle.board.specs.declared.entry.Access.TheVariants as access
use Rattle.board.specs.declared.entry.PageEntry.{PageEntry}
use Rattle.lone.specs.Forms.{lone_form, stage_form}
use Rattle.lone.specs.Lones.{Lone, after_step}
use Rattle.lone.specs.Tables.{start_table, entry_at, no_entry, with_word_at}
use Rattle.lone.proofs.LoneForms.{lone_told, step_kept, start_form}
use Rattle.memory.specs.Kits.{Kit, state_at, table_of, board_at}
use Rattle.memory.specs.Ledgers.{fresh}
use Rattle.memory.specs.Placements.{InRange, array, after_placing}
use Rattle.memory.specs.declared.placement.Placement.{Placement}
use Rattle.memory.specs.Reached.{begun}
use Rattle.memory.proofs.Placing.{placed_table, shaped_placing, some_tables, placed_words}
use Rattle.memory.proofs.kept.Start.{start_kept, start_left}
use Rattle.memory.proofs.kept.EqualMessages.{same_mail}
use Rattle.memory.proofs.model.Board as model
use Rattle.memory.proofs.model.Calls as history
use Rattle.memory.proofs.model.Ledgers as ledgers
use Rattle.memory.proofs.model.Kit as kit
use Rattle.memory.proofs.model.Sets.{nobody}
use Rattle.board.specs.declared.stage.Stage.TheVariants.{Idle}
use Rattle.memory.proofs.images.Serving.{Full}
use Rattle.memory.proofs.images.Follows.{Follows}
use Rattle.memory.proofs.images.Images.{W, entry_image, SeatIs}
use Rattle.memory.proofs.images.Ledgers.{Agrees}
use Rattle.memory.proofs.images.Matches.{Sized, Matches}
use Rattle.memory.proofs.images.OpenAccesses.{pending_of, not_asked}
use Rattle.memory.proofs.images.Sets.{nobody_is}

-- placing changes words of board 0 alone
module _ (n p : ℕ) where
  boards_are : (qs : List Placement) → (after_placing n p qs).boards ≡ n
  boards_are [] = refl
  boards_are (q ∷ qs) = boards_are qs

  pages_are : (qs : List Placement) → (after_placing n p qs).pages ≡ p
  pages_are [] = refl
  pages_are (q ∷ qs) = pages_are qs

  states_are : (qs : List Placement) → (after_placing n p qs).states ≡ map start_state (range_with_len 0 16)
  states_are [] = refl
  states_are (q ∷ qs) = states_are qs

  state_is : (qs : List Placement) (b : ℕ) → b < 16 → state_at (after_placing n p qs) b ≡ start_state b
  state_is qs b l = ap (λ (x : List BoardState). get_or x b (start_state b)) (states_are qs) ∙ get_or-map-range_with_len start_state 0 16 b b (start_state b) l (omega arith)

  other_table : (qs : List Placement) (b : ℕ) → b < 16 → (b ≡ 0 → ⊥) → table_of (after_placing n p qs) b ≡ start_table b
  other_table [] b l ne = get_or-map-range_with_len start_table 0 16 b b [] l (omega arith)
  other_table (q ∷ qs) b l ne = get_or-set_other (after_placing n p qs).tables 0 b (with_word_at (table_of (after_placing n p qs) 0) q.address q.word) [] ne ∙ other_table qs b l ne

  -- board 0 owns every page
  abbrev Owned : PageEntry → Type 0
  Owned e = e ≡ record { access = access.Write; hint = 0; copies = no_boards; words = e.words }

  owned_put : (es : List PageEntry) (address word r : ℕ) → length es ≡ 16 → page_of address < 16 → ((x : ℕ) → x < 16 → Owned (entry_at es x)) → r < 16 → Owned (entry_at (with_word_at es address word) r)
  owned_put es address word r long l all lr = elim (cases_eq r (page_of address)) [
    | inl q ↦ subst Owned (sym (ap (entry_at (with_word_at es address word)) q ∙ get_or-set_same es (page_of address) (with_word (entry_at es (page_of address)) (place_of address) word) no_entry (omega (arith, long, l))))
        (ap (λ (e : PageEntry). with_word e (place_of address) word) (all (page_of address) l))
    | inr ne ↦ subst Owned (sym (get_or-set_other es (page_of address) r (with_word (entry_at es (page_of address)) (place_of address) word) no_entry ne)) (all r lr)
  ]

  owned : (qs : List Placement) → InRange p qs → p ≤ 16 → (r : ℕ) → r < 16 → Owned (entry_at (table_of (after_placing n p qs) 0) r)
  owned [] h l r lr = subst Owned (sym (get_or-replicate 16 r (start_entry 0) no_entry lr)) refl
  owned (q ∷ qs) h l r lr = subst (λ t. Owned (entry_at t r)) (sym (placed_table n p qs q.address q.word))
      (owned_put (table_of (after_placing n p qs) 0) q.address q.word r (shaped_placing n p qs l h.1).pages (omega (arith, h.0, l)) (owned qs h.1 l) lr)

  -- each board has its form
  owner_form : (qs : List Placement) → InRange p qs → p ≤ 16 → 0 < n → lone_form (board_at (after_placing n p qs) 0) ≡ true
  owner_form [] h l ln = start_form 0 n p ln
  owner_form (q ∷ qs) h l ln =
      let was = board_at (after_placing n p qs) 0 in
      let page = page_of q.address in
      let e = entry_at was.table page in
      let rows = (shaped_placing n p qs l h.1).pages in
      let form = owner_form qs h.1 l ln in
      let t = lone_told was rows form in
      let told = t.entries page (omega (arith, h.0, l)) in
      let kept = step_kept was rows form page was.state (with_word e (place_of q.address) q.word) refl (record { hint = told.hint; copies = told.copies; apart = told.apart; rest = told.rest }) t.waiting
      (idle was page (with_word e (place_of q.address) q.word) (ap (λ (x : BoardState). x.stage) (state_is qs 0 (omega arith))) (t.stage)) in
      ap (λ x. lone_form (record { boards = (after_placing n p qs).boards; pages = (after_placing n p qs).pages; state = was.state; table = x })) (placed_table n p qs q.address q.word) ∙ kept
    where
      idle : (x : Lone) (page : ℕ) (e : PageEntry) → x.state.stage ≡ Idle → stage_form x x.state.stage ≡ true → stage_form (after_step x page x.state e) x.state.stage ≡ true
      idle x page e q h = subst (λ st. stage_form x st ≡ true → stage_form (after_step x page x.state e) st ≡ true) (sym q) (λ h. h) h

  form_is : (qs : List Placement) → InRange p qs → p ≤ 16 → n ≤ 16 → (b : ℕ) → b < n → lone_form (board_at (after_placing n p qs) b) ≡ true
  form_is qs h l few b lb = elim (cases_eq b 0) [
    | inl q ↦ ap (λ x. lone_form (board_at (after_placing n p qs) x)) q ∙ owner_form qs h l (omega (arith, lb))
    | inr ne ↦
        let state = state_is qs b (omega (arith, lb, few)) in
        let table = other_table qs b (omega (arith, lb, few)) ne in
        ap (λ x. lone_form (record { boards = x; pages = (after_placing n p qs).pages; state = state_at (after_placing n p qs) b; table = table_of (after_placing n p qs) b })) (boards_are qs)
        ∙ ap (λ x. lone_form (record { boards = n; pages = x; state = state_at (after_placing n p qs) b; table = table_of (after_placing n p qs) b })) (pages_are qs)
        ∙ ap (λ (x : BoardState). lone_form (record { boards = n; pages = p; state = x; table = table_of (after_placing n p qs) b })) state
        ∙ ap (λ (x : List PageEntry). lone_form (record { boards = n; pages = p; state = start_state b; table = x })) table
        ∙ start_form b n p lb
  ]

  module _ (qs : List Placement) (inside : InRange p qs) (few_boards : n ≤ 16) (few_pages : p ≤ 16) (some : 0 < n) where
    abbrev k : Kit
    k = after_placing n p qs

    -- the words of each page, as board 0 has them
    abbrev pub words : ℕ → W
    words r = (entry_at (table_of k 0) r).words

    abbrev pub machine : kit.Kit W
    machine = history.first_kit zeros words

    rows : (b : ℕ) → b < 16 → length (table_of k b) ≡ 16
    rows b l = elim (cases_eq b 0) [
      | inl q ↦ ap (λ x. length (table_of k x)) q ∙ (shaped_placing n p qs few_pages inside).pages
      | inr ne ↦ ap (λ (x : List PageEntry). length x) (other_table qs b l ne) ∙ length-replicate 16 (start_entry b)
    ]

    sized : Sized n p k
    sized = record {
      boards = boards_are qs;
      pages = pages_are qs;
      few_boards = few_boards;
      few_pages = few_pages;
      shape = record { states = ap (λ (x : List BoardState). length x) (states_are qs); tables = some_tables n p qs; rows = rows };
      number = λ b l. ap (λ (x : BoardState). x.number) (state_is qs b l);
    }

    other_entry : (b r : ℕ) → b < 16 → r < 16 → (b ≡ 0 → ⊥) → entry_at (table_of k b) r ≡ start_entry b
    other_entry b r lb lr ne = ap (λ (x : List PageEntry). entry_at x r) (other_table qs b lb ne) ∙ get_or-replicate 16 r (start_entry b) no_entry lr

    abbrev first : ℕ → ℕ → model.Entry W
    first b r = (machine.board b).entry r

    other_image : (b r : ℕ) → (b ≡ 0 → ⊥) → first b r ≡ entry_image (start_entry b)
    other_image b r ne =
        ap (λ (x : Bool). record { access = cond x model.write model.none; hint = 0; copies = nobody; words = cond x (words r) zeros }) (ne_eqb b 0 ne)
        ∙ ap (λ (x : List Bool). record { access = model.none; hint = 0; copies = x; words = zeros }) nobody_is
        ∙ sym (ap (λ (x : Bool). entry_image (record { access = cond x access.Write access.None; hint = 0; copies = no_boards; words = zeros })) (ne_eqb b 0 ne))

    entries : (b r : ℕ) → b < n → r < p → first b r ≡ entry_image (entry_at (table_of k b) r)
    entries b r lb lr = elim (cases_eq b 0) [
      | inl q ↦ subst (λ x. first x r ≡ entry_image (entry_at (table_of k x) r)) (sym q)
          (ap (λ (x : List Bool). record { access = model.write; hint = 0; copies = x; words = words r }) nobody_is ∙ sym (ap entry_image (owned qs inside few_pages r (omega (arith, lr, few_pages)))))
      | inr ne ↦ other_image b r ne ∙ ap entry_image (sym (other_entry b r (omega (arith, lb, few_boards)) (omega (arith, lr, few_pages)) ne))
    ]

    full : (b r : ℕ) → b < n → r < p → Full (entry_at (table_of k b) r)
    full b r lb lr = elim (cases_eq b 0) [
      | inl q ↦ ap (λ x. length (entry_at (table_of k x) r).copies.members) q ∙ ap (λ (x : PageEntry). length x.copies.members) (owned qs inside few_pages r (omega (arith, lr, few_pages)))
      | inr ne ↦ ap (λ (x : PageEntry). length x.copies.members) (other_entry b r (omega (arith, lb, few_boards)) (omega (arith, lr, few_pages)) ne)
    ]

    matches : (limit : ℕ) → Matches n p (begun n p limit qs) machine
    matches limit = record {
      sized = sized;
      boards = record {
        form = form_is qs inside few_pages few_boards;
        full = full;
        seats = λ b l. subst (λ (x : BoardState). SeatIs x (machine.board b).seat) (sym (state_is qs b (omega (arith, l, few_boards)))) (record { stage = refl; waiting = refl });
        entries = entries;
      };
      link = refl;
      fit = record { none_unfit = refl };
    }

    agrees : (limit : ℕ) → Agrees n p (fresh (array qs)) (begun n p limit qs) (ledgers.first_ledger words)
    agrees limit = record {
      words = record {
        long = λ r l. (shaped_placing n p qs few_pages inside).words r (omega (arith, l, few_pages));
        same = λ x l. sym (placed_words n p qs few_pages inside x l);
      };
      counts = λ b. inr (refl, refl, λ l. ap (λ (x : BoardState). not_asked x.stage) (state_is qs b (omega (arith, l, few_boards))));
      pending = λ b l. sym (ap (λ (x : BoardState). pending_of x.stage) (state_is qs b (omega (arith, l, few_boards))));
      none_else = λ b l. refl;
      waiting = refl;
    }

    pub starts : (limit : ℕ) → n * n + 16 ≤ limit → Follows n p (fresh (array qs)) (begun n p limit qs) 0
    starts limit room = record {
      machine = machine;
      told = ledgers.first_ledger words;
      kept = start_kept same_mail n zeros words some;
      matches = matches limit;
      agrees = agrees limit;
      room = room;
      left = sym (start_left same_mail n zeros words some);
    }
