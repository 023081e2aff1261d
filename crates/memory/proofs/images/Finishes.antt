-- A delivery answers rightly, and the ledgers agree after it.
use Rattle.std.proofs.Common.{◌≡◌, ℕ, ◌+◌, ◌-◌, ◌*◌, ◌<◌, ◌≤◌, true, not, ◌&&◌, nat_lt, nat_le, List, get_or, Some, None, Ok, Option, refl, ap, ◌∙◌, sym, subst, arith}
use Rattle.std.proofs.lemmas.Bool.{and_parts, ltb-true}
use Rattle.memory.specs.Functions.{changed}
use Rattle.wire.specs.Bags.{Bag, ◌&◌, ◌⊕◌, size}
use Rattle.wire.specs.BoardSets.{is_empty, is_part}
use Rattle.wire.specs.Messages.{most_hops}
use Rattle.wire.proofs.Sending.{size_beside}
use Rattle.wire.specs.declared.message.Message.{Message}
use Rattle.board.specs.Addresses.{page_of, place_of}
use Rattle.board.specs.Boards.{BoardState}
use Rattle.board.specs.Serving.{owns}
use Rattle.board.specs.Steps.{answer_to}
use Rattle.board.specs.declared.answer.Finished.{Finished}
use Rattle.board.specs.declared.entry.PageEntry.{PageEntry}
use Rattle.board.specs.declared.request.AccessKind.TheVariants as sort
use Rattle.board.specs.declared.stage.Stage.{Stage}
use Rattle.board.specs.declared.stage.Stage.TheVariants.{Idle, LoadAsked, StoreAsked, Clearing}
use Rattle.lone.specs.Forms.{reads, deferred_form, stage_form}
use Rattle.lone.specs.Lones.{Lone}
use Rattle.lone.specs.Tables.{entry_at}
use Rattle.memory.specs.Calls.{Running}
use Rattle.memory.specs.Histories.{Access, load, store, kind_of, address_of}
use Rattle.memory.specs.Kits.{Kit, state_at, board_at}
use Rattle.memory.specs.Ledgers as specs
use Rattle.memory.specs.OneMemory.{FinishIsRight}
use Rattle.memory.specs.Placements.{Words}
use Rattle.memory.specs.declared.answer.Answer.TheVariants.{Arrived}
use Rattle.memory.specs.declared.call.Call.TheVariants.{Deliver}
use Rattle.memory.proofs.model.Board as model
use Rattle.memory.proofs.model.Calls.{call_deliver, said_of}
use Rattle.memory.proofs.model.Ledgers.{Ledger, after, Good, stored}
use Rattle.memory.proofs.model.Kit as kit
use Rattle.memory.proofs.model.Steps.{Answer, nothing, read_at, written_at}
use Rattle.memory.proofs.images.Arrivals.{AnswerIs}
use Rattle.memory.proofs.images.Images.{W, put_word, StageIs}
use Rattle.memory.proofs.kept.Sums.{changed_same, changed_other}
use Rattle.memory.proofs.images.Ledgers.{WordsAgree, Counts, Agrees, put_agrees, pending_step}
use Rattle.memory.proofs.images.OpenAccesses.{pending_of, OwnWord, WasOpen}
use Rattle.memory.proofs.images.Tables.{Shaped, kit_after}

-- the open access, in the model
abbrev pub op_image : Option Access → kit.Maybe (kit.Open W)
op_image None = kit.absent
op_image (Some (load address)) = kit.just (kit.op_load (page_of address))
op_image (Some (store address word)) = kit.just (kit.op_store (page_of address) (put_word address word))

pub op_is : (st : Stage) (seat : kit.Seat W) → StageIs st seat → kit.op_of seat ≡ op_image (pending_of st)
op_is Idle seat h = ap (λ x. kit.op_by x seat.page seat.act) h
op_is (LoadAsked a) seat h = ap (λ x. kit.op_by x seat.page seat.act) h.0 ∙ ap (λ x. kit.just (kit.op_load x)) h.1
op_is (StoreAsked a) seat h = ap (λ x. kit.op_by x seat.page seat.act) h.0 ∙ ap (λ x. kit.just (kit.op_store x seat.act)) h.1 ∙ ap (λ f. kit.just (kit.op_store (page_of a.address) f)) h.2
op_is (Clearing c) seat h = ap (λ x. kit.op_by x seat.page seat.act) h.0 ∙ ap (λ x. kit.just (kit.op_store x seat.act)) h.1 ∙ ap (λ f. kit.just (kit.op_store (page_of c.store.address) f)) h.2

-- an open access is on a page of the kit
inside : (l : Lone) (st : Stage) (access : Access) → stage_form l st ≡ true → pending_of st ≡ Some access → page_of (address_of access) < l.pages
inside l Idle access h e = absurd (let y : ◌≡◌ {A = ℕ} 0 1 = cc in omega arith)
inside l (LoadAsked a) access h e =
    let r = page_of a.address in
    let one = and_parts (nat_lt r l.pages && not (reads (entry_at l.table r).access)) (deferred_form l.boards l.state.number a.deferred) h in
    let two = and_parts (nat_lt r l.pages) (not (reads (entry_at l.table r).access)) one.0 in
    let same : load a.address ≡ access = cc in
    let at : page_of a.address ≡ page_of (address_of access) = ap (λ x. page_of (address_of x)) same in
    let lt = ltb-true r l.pages two.0 in omega (arith, at, lt)
inside l (StoreAsked a) access h e =
    let r = page_of a.address in
    let two = and_parts (nat_lt r l.pages) (not (owns l.state.number (entry_at l.table r))) h in
    let same : store a.address a.word ≡ access = cc in
    let at : page_of a.address ≡ page_of (address_of access) = ap (λ x. page_of (address_of x)) same in
    let lt = ltb-true r l.pages two.0 in omega (arith, at, lt)
inside l (Clearing c) access h e =
    let r = page_of c.store.address in
    let x = entry_at l.table r in
    let one = and_parts (nat_lt r l.pages && nat_le c.hops most_hops && owns l.state.number x && not (is_empty c.awaited)) (is_part c.awaited x.copies) h in
    let two = and_parts (nat_lt r l.pages && nat_le c.hops most_hops && owns l.state.number x) (not (is_empty c.awaited)) one.0 in
    let three = and_parts (nat_lt r l.pages && nat_le c.hops most_hops) (owns l.state.number x) two.0 in
    let four = and_parts (nat_lt r l.pages) (nat_le c.hops most_hops) three.0 in
    let same : store c.store.address c.store.word ≡ access = cc in
    let at : page_of c.store.address ≡ page_of (address_of access) = ap (λ x. page_of (address_of x)) same in
    let lt = ltb-true r l.pages four.0 in omega (arith, at, lt)

load_kind : (address word : ℕ) → sort.Load ≡ kind_of (store address word) → ⊥
load_kind address word e = let y : ◌≡◌ {A = ℕ} 0 1 = cc in omega arith

store_kind : (address : ℕ) → sort.Store ≡ kind_of (load address) → ⊥
store_kind address e = let y : ◌≡◌ {A = ℕ} 0 1 = cc in omega arith

module _ (n p : ℕ) (l : specs.Ledger) (s : Running) (ml : Ledger W) (ag : Agrees n p l s ml) (board page : ℕ) (few : n ≤ 16) (in_board : board < n) (shape : Shaped s.kit) (pages : s.kit.pages ≡ p)
    (form : stage_form (board_at s.kit board) (state_at s.kit board).stage ≡ true) (seat : kit.Seat W) (is : StageIs (state_at s.kit board).stage seat) (opens : ml.opens board ≡ kit.op_of seat) (number : (state_at s.kit board).number ≡ board) where
  abbrev st : BoardState
  st = state_at s.kit board

  opens_is : ml.opens board ≡ op_image (pending_of st.stage)
  opens_is = opens ∙ op_is st.stage seat is

  module _ (f : Finished) (w : WasOpen st st.stage f) (m : Message) (pick : ℕ) (mails : List (model.Mail W)) (posts : List Message) (same : (b : ℕ) → l.requests b + specs.requests_of b posts - 1 ≡ ml.passed b + kit.requests b mails) where
    here : f.board ≡ board
    here = w.here ∙ number

    pending : l.pending f.board ≡ Some w.access
    pending = ap l.pending here ∙ ag.pending board in_board ∙ w.pending

    opened : ml.opens f.board ≡ op_image (Some w.access)
    opened = ap ml.opens here ∙ opens_is ∙ ap op_image w.pending

    abbrev array_after : Words
    array_after = specs.answered_if l.array (l.pending f.board)

    abbrev passed_after : ℕ → ℕ
    passed_after b = l.requests b + specs.requests_of b posts - 1

    -- the answer that finishes an access
    right_by : (x : Access) (ans : Answer W) → w.access ≡ x → AnswerIs (Some f) ans → Good n ml call_deliver (said_of ans) mails → FinishIsRight l (passed_after f.board) f
    right_by x nothing q a g = absurd a
    right_by (store address word) (read_at b h ws) q a g = absurd (load_kind address word (sym a.2 ∙ w.same_kind ∙ ap kind_of q))
    right_by (load address) (written_at b h g0) q a g = absurd (store_kind address (sym a.2 ∙ w.same_kind ∙ ap kind_of q))
    right_by (load address) (read_at b h ws) q a g =
        let pg = g.0 in
        let both : kit.just (kit.op_load pg) ≡ kit.just (kit.op_load (page_of address)) = sym g.1 ∙ ap ml.opens a.0 ∙ opened ∙ ap (λ x. op_image (Some x)) q in
        let at : pg ≡ page_of address = cc in
        let at_address : f.address ≡ address = w.same_address ∙ ap address_of q in
        let lt : page_of address < p = subst (λ x. page_of (address_of x) < p) q (subst (λ x. page_of (address_of w.access) < x) pages (inside (board_at s.kit board) st.stage w.access form w.pending)) in
        let in_range : address < 16 * p = omega (arith, lt) in
        record {
          access = load address;
          was_open = pending ∙ ap Some q;
          same_kind = w.same_kind ∙ ap kind_of q;
          same_address = at_address;
          array_word = a.3 ∙ ap (λ v. get_or v (place_of f.address) 0) (g.2 ∙ ap ml.memory at) ∙ ap (λ v. get_or (ml.memory (page_of address)) (place_of v) 0) at_address ∙ sym (ag.words.same address in_range);
          times_passed = sym a.1 ∙ g.3 ∙ counted b a.0;
        }
      where
        counted : (b : ℕ) → b ≡ f.board → ml.passed b + kit.requests b mails ≡ passed_after f.board
        counted b e = ap (λ x. ml.passed x + kit.requests x mails) e ∙ sym (same f.board)
    right_by (store address word) (written_at b h g0) q a g = record {
      access = store address word;
      was_open = pending ∙ ap Some q;
      same_kind = w.same_kind ∙ ap kind_of q;
      same_address = w.same_address ∙ ap address_of q;
      array_word = subst (λ x. OwnWord x f.word) q w.own_word;
      times_passed = sym a.1 ∙ g.3 ∙ counted b a.0;
    }
      where
        counted : (b : ℕ) → b ≡ f.board → ml.passed b + kit.requests b mails ≡ passed_after f.board
        counted b e = ap (λ x. ml.passed x + kit.requests x mails) e ∙ sym (same f.board)

    pub right : (ans : Answer W) → AnswerIs (Some f) ans → Good n ml call_deliver (said_of ans) mails → FinishIsRight l (passed_after f.board) f
    right ans a g = right_by w.access ans refl a g

    -- the words afterwards
    words_by : (x : Access) (ans : Answer W) → w.access ≡ x → AnswerIs (Some f) ans → WordsAgree p array_after (after ml call_deliver (said_of ans) mails).memory
    words_by x nothing q a = absurd a
    words_by (load address) (read_at b h ws) q a =
        subst (λ v. WordsAgree p (specs.answered_if l.array v) (stored (ml.opens b) ml.memory)) (sym (pending ∙ ap Some q))
        (subst (λ v. WordsAgree p l.array (stored v ml.memory)) (sym (ap ml.opens a.0 ∙ opened ∙ ap (λ x. op_image (Some x)) q)) ag.words)
    words_by (store address word) (read_at b h ws) q a = absurd (load_kind address word (sym a.2 ∙ w.same_kind ∙ ap kind_of q))
    words_by (load address) (written_at b h g0) q a = absurd (store_kind address (sym a.2 ∙ w.same_kind ∙ ap kind_of q))
    words_by (store address word) (written_at b h g0) q a =
        let lt : page_of address < p = subst (λ x. page_of (address_of x) < p) q (subst (λ x. page_of (address_of w.access) < x) pages (inside (board_at s.kit board) st.stage w.access form w.pending)) in
        subst (λ v. WordsAgree p (specs.answered_if l.array v) (stored (ml.opens b) ml.memory)) (sym (pending ∙ ap Some q))
        (subst (λ v. WordsAgree p (specs.answered_if l.array (Some (store address word))) (stored v ml.memory)) (sym (ap ml.opens a.0 ∙ opened ∙ ap (λ x. op_image (Some x)) q)) (put_agrees p address word l.array ml.memory lt ag.words))

    counts_by : (k : Kit) (ans : Answer W) → AnswerIs (Some f) ans → ((b : ℕ) → Counts n k b (l.requests b + specs.requests_of b posts) (ml.passed b + kit.requests b mails)) →
        (b : ℕ) → Counts n k b (l.requests b + specs.requests_of b posts) ((after ml call_deliver (said_of ans) mails).passed b)
    counts_by k nothing a h = absurd a
    counts_by k (read_at c d ws) a h = h
    counts_by k (written_at c d g) a h = h

    -- the ledgers after an access is finished
    pub agrees : (ans : Answer W) → AnswerIs (Some f) ans → (state : BoardState) (entry : PageEntry) → ((b : ℕ) → Counts n (kit_after s.kit board page state entry) b (l.requests b + specs.requests_of b posts) (ml.passed b + kit.requests b mails)) → state.stage ≡ Idle → (rest : Bag Message) → s.waiting ≡ m & rest →
        Agrees n p (specs.entered l (record { call = Deliver pick; answer = Ok (Arrived (answer_to m st.number (Some f))); posted = posts }))
        (record { kit = kit_after s.kit board page state entry; limit = s.limit; waiting = posts ⊕ rest }) (after ml call_deliver (said_of ans) mails)
    agrees ans a state entry counts idle rest waited = record {
      words = words_by w.access ans refl a;
      counts = counts_by (kit_after s.kit board page state entry) ans a counts;
      pending = pending_step n s.kit shape board page (omega (arith, in_board, few)) state entry l.pending (changed l.pending f.board None) ag.pending
          (ap (changed l.pending f.board None) (sym here) ∙ changed_same l.pending f.board None ∙ sym (ap pending_of idle)) (λ b ne. changed_other l.pending f.board None b (λ q. ne (q ∙ here)));
      none_else = λ b lb. changed_other l.pending f.board None b (λ q. let e = q ∙ here in absurd (omega (arith, e, lb, in_board))) ∙ ag.none_else b lb;
      waiting = omega (arith, ag.waiting, ap size waited, size_beside posts rest);
    }

  -- and where none is
  pub moved_agrees : (m : Message) (pick : ℕ) (mails : List (model.Mail W)) (posts : List Message) → (ans : Answer W) → AnswerIs None ans →
      (state : BoardState) (entry : PageEntry) → ((b : ℕ) → Counts n (kit_after s.kit board page state entry) b (l.requests b + specs.requests_of b posts) (ml.passed b + kit.requests b mails)) → pending_of state.stage ≡ pending_of st.stage → (rest : Bag Message) → s.waiting ≡ m & rest →
      Agrees n p (specs.entered l (record { call = Deliver pick; answer = Ok (Arrived (answer_to m st.number None)); posted = posts }))
      (record { kit = kit_after s.kit board page state entry; limit = s.limit; waiting = posts ⊕ rest }) (after ml call_deliver (said_of ans) mails)
  moved_agrees m pick mails posts nothing a state entry counts still rest waited = record {
    words = ag.words;
    counts = counts;
    pending = pending_step n s.kit shape board page (omega (arith, in_board, few)) state entry l.pending l.pending ag.pending (ag.pending board in_board ∙ sym still) (λ b ne. refl);
    none_else = ag.none_else;
    waiting = omega (arith, ag.waiting, ap size waited, size_beside posts rest);
  }
  moved_agrees m pick mails posts (read_at b h ws) a state entry counts still rest waited = absurd a
  moved_agrees m pick mails posts (written_at b h g) a state entry counts still rest waited = absurd a
