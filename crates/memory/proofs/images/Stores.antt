-- A store in a kit: answered rightly, and the model follows.
use Rattle.std.proofs.Common.{◌≡◌, ℕ, ◌+◌, ◌<◌, Bool, true, false, List, [], ◌∷◌, map, replicate, length, ◌⊎◌, cond, not, ◌||◌, None, Ok, refl, ap, ◌∙◌, sym, subst, inl, inr, arith}
use Rattle.wire.specs.Bags.{◌⊕◌}
use Rattle.wire.specs.Questions.{first_no}
use Rattle.board.specs.Addresses.{page_of}
use Rattle.board.specs.Boards.{BoardState}
use Rattle.board.specs.Openings as board
use Rattle.board.specs.Posts.{own_request, invalidates}
use Rattle.board.specs.declared.entry.Access.{Access as Kind}
use Rattle.board.specs.declared.entry.Access.TheVariants as access
use Rattle.board.specs.declared.entry.PageEntry.{PageEntry}
use Rattle.board.specs.declared.request.AccessKind.TheVariants as sort
use Rattle.board.specs.declared.stage.Stage.{Stage}
use Rattle.board.specs.declared.stage.Stage.TheVariants.{StoreAsked, Clearing}
use Rattle.lone.specs.LoneQuestions as lone
use Rattle.lone.specs.Tables.{entry_at}
use Rattle.memory.specs.Calls.{Running}
use Rattle.memory.specs.Histories.{store}
use Rattle.memory.specs.Kits.{state_at, table_of, board_at}
use Rattle.memory.specs.Ledgers as specs
use Rattle.memory.specs.declared.answer.Answer.TheVariants.{Accessed}
use Rattle.memory.specs.declared.call.Call.TheVariants.{Store}
use Rattle.memory.proofs.kept.KitKept.{left_of}
use Rattle.memory.proofs.kept.CallsKept.{does_kept}
use Rattle.memory.proofs.kept.Messages.{invalidates_ask}
use Rattle.memory.proofs.kept.EqualMessages.{same_law}
use Rattle.memory.proofs.model.Board as model
use Rattle.memory.proofs.model.Calls as history
use Rattle.memory.proofs.model.Ledgers as ledgers
use Rattle.memory.proofs.model.Kit as kit
use Rattle.memory.proofs.model.Page.{denies}
use Rattle.memory.proofs.images.Accesses as at
use Rattle.memory.proofs.images.Follows.{Follows, GoesOn}
use Rattle.memory.proofs.images.Images.{W, access_image, entry_image, put_word, post_image}
use Rattle.memory.proofs.images.OpenAccesses.{not_asked}
use Rattle.memory.proofs.images.Tables.{kit_after, state_here, state_there}
use Rattle.std.proofs.lemmas.Bool.{cases_eq, and_parts, eqb-true, eqb-false, true≢false}
use Rattle.wire.specs.BoardSets as sets
use Rattle.wire.specs.declared.board_set.BoardSet.{BoardSet}
use Rattle.board.specs.Serving.{owns}
use Rattle.lone.specs.Forms.{reads, writes}
use Rattle.lone.proofs.EntryForms.{EntryTold, owner_rest, writer_told}
use Rattle.memory.proofs.model.Board.{write}
use Rattle.memory.proofs.model.Sets.{has}
use Rattle.memory.proofs.images.Ledgers.{counts_on, put_agrees, pending_step}
use Rattle.memory.proofs.images.Sets.{has_is, nobody_is, empty_is, invalidates_are, on_page, no_member}

-- a set without members
emptied : (c : BoardSet) → length c.members ≡ 16 → sets.is_empty c ≡ true → c.members ≡ replicate 16 false
emptied c l h = no_member c.members h ∙ ap (λ (x : ℕ). replicate x false) l

readable : (a : Kind) → reads a ≡ true → denies (access_image a) ≡ false
readable access.None h = absurd (true≢false (sym h))
readable access.Read h = refl
readable access.Write h = refl

module _ {n p : ℕ} {l : specs.Ledger} {s : Running} {w : ℕ} (f : Follows n p l s w) (b address word : ℕ) (in_board : b < n) (ok : first_no (lone.access_questions (board_at s.kit b) address) ≡ None) where
  abbrev k : kit.Kit W
  k = f.machine

  abbrev page : ℕ
  page = page_of address

  abbrev st : BoardState
  st = state_at s.kit b

  abbrev e : PageEntry
  e = entry_at (table_of s.kit b) page

  abbrev after : board.Opening → Running
  after o = record { kit = kit_after s.kit b page o.state o.entry; limit = s.limit; waiting = o.posts ⊕ s.waiting }

  abbrev Goes : board.Opening → Type 0
  Goes o = GoesOn n p l w (Store b address word) (Ok (Accessed o.answer)) o.posts (after o)

  abbrev Opens : board.Opening → Type 0
  Opens = at.Opens f b address in_board ok

  image : (k.board b).entry page ≡ entry_image e
  image = at.entry_is f b address in_board ok

  the_access : (a : Kind) → e.access ≡ a → ((k.board b).entry page).access ≡ access_image a
  the_access a q = ap (λ (x : model.Entry W). x.access) image ∙ ap access_image q

  the_hint : owns st.number e ≡ true → e.hint ≡ b
  the_hint o = eqb-true e.hint st.number o ∙ at.number f b address in_board ok

  abbrev act : W → W
  act = put_word address word

  entry_told : EntryTold (board_at s.kit b).boards st.number e
  entry_told = at.entry_told f b address in_board ok

  below : sets.is_below e.copies n ≡ true
  below = subst (λ x. sets.is_below e.copies x ≡ true) f.matches.sized.boards entry_told.copies

  same_has : (y : ℕ) → has ((k.board b).entry page).copies y ≡ sets.has e.copies y
  same_has y = ap (λ (x : model.Entry W). has x.copies y) image ∙ has_is e.copies.members y

  none_is : kit.none_below n (has ((k.board b).entry page).copies) ≡ sets.is_empty e.copies
  none_is = empty_is e.copies n (has ((k.board b).entry page).copies) same_has below

  -- answered at once
  abbrev MayStore : Type 0
  MayStore = (((k.board b).entry page).access ≡ write) ⊎ ((((k.board b).entry page).hint ≡ b) × (denies ((k.board b).entry page).access ≡ false) × (kit.none_below n (has ((k.board b).entry page).copies) ≡ true))

  stored : owns st.number e ≡ true → sets.is_empty e.copies ≡ true → model.store_entry b (act ((k.board b).entry page).words) ≡ entry_image (board.written e address word)
  stored o c =
      ap (λ (x : model.Entry W). model.store_entry b (act x.words)) image
      ∙ ap (λ (x : List Bool). record { access = write; hint = b; copies = x; words = act e.words }) (nobody_is ∙ sym (emptied e.copies (at.full f b address in_board ok) c))
      ∙ ap (λ (x : ℕ). record { access = write; hint = x; copies = e.copies.members; words = act e.words }) (sym (the_hint o))

  now : MayStore → owns st.number e ≡ true → sets.is_empty e.copies ≡ true → Opens (board.put st e address word) → Goes (board.put st e address word)
  now may o c opens =
      let does = history.stores_now b page act in_board (at.shut f b address in_board ok) may in
      let kept = does_kept same_law f.kept does in
      let entry = board.written e address word in
      record {
        work_left = left_of kept.0;
        follows = record {
          machine = kit.becomes k b page (k.board b).seat (model.store_entry b (act ((k.board b).entry page).words)) [] k.link;
          told = ledgers.after f.told (history.call_store b page act) (history.answered kit.absent) [];
          kept = kept.0;
          matches = at.opening_matches f b address in_board ok (board.put st e address word) opens (k.board b).seat (model.store_entry b (act ((k.board b).entry page).words)) [] (at.seat_is f b address in_board ok) (stored o c) refl;
          agrees = record {
            words = put_agrees p address word l.array f.told.memory (at.in_page f b address in_board ok) f.agrees.words;
            counts = λ c. counts_on n s.kit (kit_after s.kit b page st entry) c (l.requests c) (f.told.passed c) (l.requests c + 0) (f.told.passed c + 0) (omega arith) (omega arith) (λ h. ap not_asked (same_stage c) ∙ h) (f.agrees.counts c);
            pending = pending_step n s.kit f.matches.sized.shape b page (at.room f b address in_board ok) st entry l.pending l.pending f.agrees.pending (f.agrees.pending b in_board) (λ c ne. refl);
            none_else = f.agrees.none_else;
            waiting = omega (arith, f.agrees.waiting);
          };
          room = f.room;
          left = refl;
        };
        right = refl;
        works = λ d. absurd d;
      }
    where
      same_stage : (c : ℕ) → (state_at (kit_after s.kit b page st (board.written e address word)) c).stage ≡ (state_at s.kit c).stage
      same_stage c = elim (cases_eq c b) [
        | inl q ↦ ap (λ x. (state_at (kit_after s.kit b page st (board.written e address word)) x).stage) q
            ∙ ap (λ (x : BoardState). x.stage) (state_here s.kit f.matches.sized.shape b page (at.room f b address in_board ok) st (board.written e address word)) ∙ ap (λ x. (state_at s.kit x).stage) (sym q)
        | inr ne ↦ ap (λ (x : BoardState). x.stage) (state_there s.kit f.matches.sized.shape b page (at.room f b address in_board ok) st (board.written e address word) c ne)
      ]

  -- opened: the copies are invalidated first
  abbrev clearing : Stage
  clearing = Clearing (record { store = record { address = address; word = word }; awaited = e.copies; hops = 0 })

  clears : owns st.number e ≡ true → sets.is_empty e.copies ≡ false → Opens (board.clearing_store st e address word) → Goes (board.clearing_store st e address word)
  clears o c opens =
      let entry = (k.board b).entry page in
      let mails : List (model.Mail W) = kit.invalidates n b entry.copies in
      let does = history.stores_clearing b page act in_board (at.shut f b address in_board ok) (ap (λ (x : model.Entry W). x.hint) image ∙ the_hint o) (none_is ∙ c) mails refl in
      let kept = does_kept same_law f.kept does in
      let seat = kit.opened_seat page (kit.clears 0) act (has entry.copies) in
      let same : map (on_page page) mails ≡ map post_image (invalidates st.number page e.copies) =
      ap (λ (x : model.Entry W). map (on_page page) (kit.invalidates n b x.copies)) image
      ∙ ap (λ x. map (on_page page) (kit.invalidates n x e.copies.members)) (sym (at.number f b address in_board ok))
      ∙ invalidates_are n st.number page e.copies f.matches.sized.few_boards below in
      record {
        work_left = left_of kept.0;
        follows = at.opened_follows f b address in_board ok (store address word) (kit.op_store page act) clearing (invalidates st.number page e.copies) mails seat kept.0 opens (refl, refl, refl, same_has) refl refl same
            (λ c _. invalidates_ask n b c entry.copies mails refl) (inr (invalidates_ask n b b entry.copies mails refl, refl));
        right = at.none_open f b address in_board ok;
        works = λ d. absurd d;
      }

  -- opened: the page is asked for
  abbrev asking : Stage
  asking = StoreAsked (record { address = address; word = word })

  later : owns st.number e ≡ false → Opens (board.asking_store st e address word) → Goes (board.asking_store st e address word)
  later o opens =
      let entry = (k.board b).entry page in
      let hint_is : entry.hint ≡ e.hint = ap (λ (x : model.Entry W). x.hint) image in
      let other : entry.hint ≡ b → ⊥ = λ q. eqb-false e.hint st.number o (sym hint_is ∙ q ∙ sym (at.number f b address in_board ok)) in
      let mails : List (model.Mail W) = model.request model.store entry.hint b 0 ∷ [] in
      let does = history.stores_later b page act in_board (at.shut f b address in_board ok) other mails refl in
      let kept = does_kept same_law f.kept does in
      let seat = kit.opened_seat page (kit.asked model.store) act (λ _. false) in
      let same = at.own_posts f b address in_board ok model.store sort.Store e.hint hint_is refl in
      record {
        work_left = left_of kept.0;
        follows = at.opened_follows f b address in_board ok (store address word) (kit.op_store page act) asking (own_request sort.Store st.number page e.hint ∷ []) mails seat kept.0 opens (refl, refl, refl) refl refl same
            (at.asks_none f b address in_board ok model.store entry.hint) (inl (at.asks_one f b address in_board ok model.store entry.hint));
        right = at.none_open f b address in_board ok;
        works = λ d. absurd d;
      }

  -- an owner has access
  owner_reads : owns st.number e ≡ true → denies ((k.board b).entry page).access ≡ false
  owner_reads o =
      let h = owner_rest (board_at s.kit b).boards st.number e entry_told o in
      ap denies (the_access e.access refl) ∙ readable e.access (and_parts (reads e.access) (not (writes e.access) || sets.is_empty e.copies) h).0

  by_owner : (c : Bool) → sets.is_empty e.copies ≡ c → owns st.number e ≡ true → let o = cond c (board.put st e address word) (board.clearing_store st e address word) in Opens o → Goes o
  by_owner true c o opens = now (inr (ap (λ (x : model.Entry W). x.hint) image ∙ the_hint o, owner_reads o, none_is ∙ c)) o c opens
  by_owner false c o opens = clears o c opens

  by_hint : (o : Bool) → owns st.number e ≡ o → let x = cond o (board.owner_store st e address word) (board.asking_store st e address word) in Opens x → Goes x
  by_hint true o opens = by_owner (sets.is_empty e.copies) refl o opens
  by_hint false o opens = later o opens

  by_access : (a : Kind) → e.access ≡ a → Opens (board.store_with a st e address word) → Goes (board.store_with a st e address word)
  by_access access.None q opens = by_hint (owns st.number e) refl opens
  by_access access.Read q opens = by_hint (owns st.number e) refl opens
  by_access access.Write q opens =
      let t = writer_told (board_at s.kit b).boards st.number e (ap writes q) entry_told in
      now (inl (the_access access.Write q)) t.0 t.1 opens

  pub goes_on : Goes (board.store st e address word)
  goes_on = by_access e.access refl (at.stores f b address in_board ok word)
