-- A load or a store in a kit is one in the model.
use Rattle.std.proofs.Common.{◌≡◌, ℕ, ◌+◌, ◌-◌, ◌*◌, ◌<◌, ◌≤◌, Bool, true, ◌⊎◌, List, [], ◌∷◌, map, length, set, Some, None, refl, ap, ◌∙◌, sym, subst, inl, inr, arith}
use Rattle.std.proofs.lemmas.Bool.{cases_eq, ne_eqb, eq-eqb, ltb-true, true≢false}
use Rattle.std.proofs.lemmas.List.{set-get_or}
use Rattle.std.specs.List.{AllByRecursion as All}
use Rattle.memory.specs.Functions.{changed}
use Rattle.wire.specs.Bags.{◌⊕◌}
use Rattle.wire.specs.Questions.{first_no}
use Rattle.wire.proofs.Sending.{size_beside}
use Rattle.wire.specs.declared.message.Message.{Message}
use Rattle.board.specs.Addresses.{page_of}
use Rattle.board.specs.Boards.{BoardState, at_stage}
use Rattle.board.specs.Openings as board
use Rattle.board.specs.Posts as posts
use Rattle.board.specs.Stages.{is_idle}
use Rattle.board.specs.declared.entry.PageEntry.{PageEntry}
use Rattle.board.specs.declared.request.AccessKind.{AccessKind}
use Rattle.board.specs.declared.stage.Stage.{Stage}
use Rattle.board.specs.declared.stage.Stage.TheVariants.{Idle, LoadAsked, StoreAsked, Clearing}
use Rattle.lone.specs.Forms.{none_wait, lone_form, stage_form}
use Rattle.lone.specs.LoneQuestions as lone
use Rattle.lone.specs.Lones.{Lone, after_step}
use Rattle.lone.specs.PostLaws.{GoodPost}
use Rattle.lone.specs.Tables.{entry_at, no_entry}
use Rattle.lone.proofs.Accepting.{access_told}
use Rattle.lone.proofs.CallPosts.{load_posts, store_posts}
use Rattle.lone.proofs.EntryForms.{EntryTold}
use Rattle.lone.proofs.LoneForms.{LoneTold, lone_told, loaded_kept, stored_kept}
use Rattle.memory.specs.Calls.{Running}
use Rattle.memory.specs.Histories.{Access}
use Rattle.memory.specs.Kits.{Kit, state_at, table_of, board_at}
use Rattle.memory.specs.Ledgers as specs
use Rattle.memory.proofs.kept.Sums.{changed_same, changed_other}
use Rattle.memory.proofs.kept.KitKept.{Kept, left_of}
use Rattle.memory.proofs.kept.EqualMessages.{same_mail}
use Rattle.memory.proofs.model.Board as model
use Rattle.memory.proofs.model.Ledgers as ledgers
use Rattle.memory.proofs.model.Kit as kit
use Rattle.memory.proofs.model.Sums.{bit}
use Rattle.memory.proofs.images.Follows.{Follows}
use Rattle.memory.proofs.images.Images.{request_image, W, entry_image, post_image, StageIs, SeatIs}
use Rattle.memory.proofs.images.Ledgers.{Counts, Agrees, requests_are, pending_step}
use Rattle.memory.proofs.images.Matches.{Matches, stepped}
use Rattle.memory.proofs.images.OpenAccesses.{pending_of, not_asked}
use Rattle.memory.proofs.images.Posts as whole
use Rattle.memory.proofs.images.Serving.{Full}
use Rattle.memory.proofs.images.Sets.{on_page}
use Rattle.memory.proofs.images.Tables.{kit_after, state_here, state_there}

-- a step that changes nothing
pub unchanged : (k : Kit) (b r : ℕ) → kit_after k b r (state_at k b) (entry_at (table_of k b) r) ≡ k
unchanged k b r =
    ap (λ x. record { boards = k.boards; pages = k.pages; states = x; tables = set k.tables b (set (table_of k b) r (entry_at (table_of k b) r)) }) (set-get_or k.states b _)
    ∙ ap (λ x. record { boards = k.boards; pages = k.pages; states = k.states; tables = x }) (ap (set k.tables b) (set-get_or (table_of k b) r no_entry) ∙ set-get_or k.tables b [])

idle_is : (x : Stage) → is_idle x ≡ true → x ≡ Idle
idle_is Idle h = refl
idle_is (LoadAsked a) h = absurd (true≢false (sym h))
idle_is (StoreAsked a) h = absurd (true≢false (sym h))
idle_is (Clearing c) h = absurd (true≢false (sym h))

-- who may open an access at a board
module _ {n p : ℕ} {l : specs.Ledger} {s : Running} {w : ℕ} (f : Follows n p l s w) (b address : ℕ) (in_board : b < n) (ok : first_no (lone.access_questions (board_at s.kit b) address) ≡ None) where
  abbrev pub k : kit.Kit W
  k = f.machine

  abbrev pub page : ℕ
  page = page_of address

  abbrev pub it : Lone
  it = board_at s.kit b

  abbrev pub st : BoardState
  st = state_at s.kit b

  abbrev pub e : PageEntry
  e = entry_at (table_of s.kit b) page

  abbrev pub seat : kit.Seat W
  seat = (k.board b).seat

  pub few : n ≤ 16
  few = f.matches.sized.few_boards

  pub room : b < 16
  room = omega (arith, in_board, few)

  pub in_page : page < p
  in_page = let h = ltb-true address (16 * it.pages) (access_told it address ok).0 in omega (arith, h, f.matches.sized.pages)

  pub idle : st.stage ≡ Idle
  idle = idle_is st.stage (access_told it address ok).1

  pub number : st.number ≡ b
  number = f.matches.sized.number b room

  pub seat_is : SeatIs st seat
  seat_is = f.matches.boards.seats b in_board

  pub shut : seat.stage ≡ kit.closed
  shut = let h : StageIs Idle seat = rw idle at seat_is.stage in h

  pub form : lone_form it ≡ true
  form = f.matches.boards.form b in_board

  pub rows : length (table_of s.kit b) ≡ 16
  rows = f.matches.sized.shape.rows b room

  pub few_pages : it.pages ≤ 16
  few_pages = omega (arith, f.matches.sized.pages, f.matches.sized.few_pages)

  pub few_boards : it.boards ≤ 16
  few_boards = omega (arith, f.matches.sized.boards, few)

  pub told : LoneTold it
  told = lone_told it rows form

  pub entry_told : EntryTold it.boards it.state.number e
  entry_told = told.entries page (omega (arith, in_page, f.matches.sized.few_pages))

  pub none_waits : st.waiting ≡ []
  none_waits = empty st.waiting (let h : stage_form it Idle ≡ true = rw idle at told.stage in h)
    where
      empty : (rs : _) → none_wait rs ≡ true → rs ≡ []
      empty [] h = refl
      empty (r ∷ rs) h = absurd (true≢false (sym h))

  pub full : Full e
  full = f.matches.boards.full b page in_board in_page

  pub entry_is : (k.board b).entry page ≡ entry_image e
  entry_is = f.matches.boards.entries b page in_board in_page

  pub good_here : (ps : List Message) → All (GoodPost it.boards it.pages it.state.number) ps → All (GoodPost n p b) ps
  good_here ps h =
      subst (λ x. All (GoodPost n p x) ps) number
      (subst (λ x. All (GoodPost n x it.state.number) ps) f.matches.sized.pages (subst (λ x. All (GoodPost x it.pages it.state.number) ps) f.matches.sized.boards h))

  -- the ledger of an access that opens
  abbrev pub opened_ledger : Access → List Message → specs.Ledger
  opened_ledger x ps = record {
    array = l.array;
    pending = changed l.pending b (Some x);
    requests = λ board. changed l.requests b 0 board + specs.requests_of board ps;
    waiting = l.waiting - 0 + length ps;
  }

  abbrev pub state_after : BoardState → PageEntry → List Message → Running
  state_after state entry ps = record { kit = kit_after s.kit b page state entry; limit = s.limit; waiting = ps ⊕ s.waiting }

  -- the count of a request that was just posted, or of none; the others as they were
  opened_counts : (stage : Stage) (ps : List Message) (mails : List (model.Mail W)) → map (on_page page) mails ≡ map post_image ps → ((board : ℕ) → (board ≡ b → ⊥) → kit.requests board mails ≡ 0) →
      ((kit.requests b mails ≡ 1) ⊎ ((kit.requests b mails ≡ 0) × (not_asked stage ≡ true))) →
      (c : ℕ) → Counts n (kit_after s.kit b page (at_stage st stage) e) c (changed l.requests b 0 c + specs.requests_of c ps) (changed (ledgers.more_passed f.told mails) b (kit.requests b mails - 1) c)
  opened_counts stage ps mails same none_else mine c = elim (cases_eq c b) [
    | inl q ↦ subst (λ x. Counts n (kit_after s.kit b page (at_stage st stage) e) x (changed l.requests b 0 x + specs.requests_of x ps) (changed (ledgers.more_passed f.told mails) b (kit.requests b mails - 1) x)) (sym q) here
    | inr ne ↦ there ne
  ]
    where
      of : (x : ℕ) → specs.requests_of x ps ≡ kit.requests x mails
      of x = requests_are x page mails ps same

      at_b : changed l.requests b 0 b ≡ 0
      at_b = changed_same l.requests b 0

      up_b : changed (ledgers.more_passed f.told mails) b (kit.requests b mails - 1) b ≡ kit.requests b mails - 1
      up_b = changed_same (ledgers.more_passed f.told mails) b (kit.requests b mails - 1)

      stage_now : not_asked stage ≡ true → not_asked (state_at (kit_after s.kit b page (at_stage st stage) e) b).stage ≡ true
      stage_now h = ap (λ (x : BoardState). not_asked x.stage) (state_here s.kit f.matches.sized.shape b page room (at_stage st stage) e) ∙ h

      here : Counts n (kit_after s.kit b page (at_stage st stage) e) b (changed l.requests b 0 b + specs.requests_of b ps) (changed (ledgers.more_passed f.told mails) b (kit.requests b mails - 1) b)
      here = elim mine [
        | inl one ↦ inl (omega (arith, at_b, up_b, of b, one))
        | inr none ↦ inr (omega (arith, at_b, of b, none.0), omega (arith, up_b, none.0), λ _. stage_now none.1)
      ]

      there : (c ≡ b → ⊥) → Counts n (kit_after s.kit b page (at_stage st stage) e) c (changed l.requests b 0 c + specs.requests_of c ps) (changed (ledgers.more_passed f.told mails) b (kit.requests b mails - 1) c)
      there ne =
          let was = changed_other l.requests b 0 c ne in
          let up : changed (ledgers.more_passed f.told mails) b (kit.requests b mails - 1) c ≡ f.told.passed c + kit.requests c mails = changed_other (ledgers.more_passed f.told mails) b (kit.requests b mails - 1) c ne in
          let none = none_else c ne in
          elim (f.agrees.counts c) [
            | inl e ↦ inl (omega (arith, was, up, of c, none, e))
            | inr h ↦ inr (omega (arith, was, of c, none, h.0), omega (arith, up, none, h.1), λ lt. ap (λ (x : BoardState). not_asked x.stage) (state_there s.kit f.matches.sized.shape b page room (at_stage st stage) (entry_at (table_of s.kit b) page) c ne) ∙ h.2 lt)
          ]

  pub opened_agrees : (x : Access) (o : kit.Open W) (stage : Stage) (ps : List Message) (mails : List (model.Mail W)) → pending_of stage ≡ Some x → map (on_page page) mails ≡ map post_image ps →
      ((board : ℕ) → (board ≡ b → ⊥) → kit.requests board mails ≡ 0) →
      ((kit.requests b mails ≡ 1) ⊎ ((kit.requests b mails ≡ 0) × (not_asked stage ≡ true))) →
      Agrees n p (opened_ledger x ps) (state_after (at_stage st stage) e ps) (ledgers.opening f.told b o mails)
  opened_agrees x o stage ps mails pending same none_else mine = record {
    words = f.agrees.words;
    counts = λ c. opened_counts stage ps mails same none_else mine c;
    pending = pending_step n s.kit f.matches.sized.shape b page room (at_stage st stage) e l.pending (changed l.pending b (Some x)) f.agrees.pending (changed_same l.pending b (Some x) ∙ sym pending) (changed_other l.pending b (Some x));
    none_else = λ c lc. changed_other l.pending b (Some x) c (λ q. absurd (omega (arith, q, lc, in_board))) ∙ f.agrees.none_else c lc;
    waiting = omega (arith, f.agrees.waiting, size_beside ps s.waiting);
  }

  -- what holds of an opening, whatever it is
  pub record Opens (o : board.Opening) : Type 0 where
    pub number_is : o.state.number ≡ b
    pub form_is : lone_form (after_step it page o.state o.entry) ≡ true
    pub full_is : Full o.entry
    pub good_is : All (GoodPost n p b) o.posts
    pub whole_is : All whole.Whole o.posts

  pub loads : Opens (board.load st e address)
  loads =
      let w = whole.loaded st e full address in
      record {
        number_is = w.number ∙ number;
        form_is = loaded_kept it rows few_pages form address ok;
        full_is = w.entry;
        good_is = good_here (board.load st e address).posts (load_posts it rows few_boards few_pages form address ok);
        whole_is = w.posts_whole;
      }

  pub stores : (word : ℕ) → Opens (board.store st e address word)
  stores word =
      let w = whole.stored st e full address word in
      record {
        number_is = w.number ∙ number;
        form_is = stored_kept it rows few_pages form address ok word;
        full_is = w.entry;
        good_is = good_here (board.store st e address word).posts (store_posts it rows few_boards few_pages form address ok word);
        whole_is = w.posts_whole;
      }

  -- the kit after an opening is matched by the model after it
  pub opening_matches : (o : board.Opening) → Opens o → (x : kit.Seat W) (image : model.Entry W) (mails : List (model.Mail W)) → SeatIs o.state x → image ≡ entry_image o.entry → map (on_page page) mails ≡ map post_image o.posts →
      Matches n p (state_after o.state o.entry o.posts) (kit.becomes k b page x image mails k.link)
  opening_matches o h x image mails is same posts_are =
      stepped s k b page in_board in_page o.state o.entry x image f.matches.sized f.matches.boards
      (record { number = h.number_is; form = h.form_is; full = h.full_is; seat_is = is; entry_is = same; posts_are = posts_are; good = h.good_is; whole = h.whole_is })
      s.limit s.waiting k.link f.matches.link f.matches.fit

  -- a request of its own
  pub own_posts : (kd : model.Kind) (a : AccessKind) (hint : ℕ) → ((k.board b).entry page).hint ≡ hint → (on_page page (model.request kd hint st.number 0) ≡ post_image (posts.own_request a st.number page hint)) →
      map (on_page page) (model.request kd ((k.board b).entry page).hint b 0 ∷ []) ≡ map post_image (posts.own_request a st.number page hint ∷ [])
  own_posts kd a hint h same = ap (λ x. on_page page (model.request kd x b 0) ∷ []) h ∙ ap (λ x. on_page page (model.request kd hint x 0) ∷ []) (sym number) ∙ ap (λ x. x ∷ []) same

  pub asks_one : (kd : model.Kind) (t : ℕ) → kit.requests {W = W} b (model.request kd t b 0 ∷ []) ≡ 1
  asks_one kd t = ap (λ (x : Bool). bit x + 0) (eq-eqb b b refl)

  pub asks_none : (kd : model.Kind) (t c : ℕ) → (c ≡ b → ⊥) → kit.requests {W = W} c (model.request kd t b 0 ∷ []) ≡ 0
  asks_none kd t c ne = ap (λ (x : Bool). bit x + 0) (ne_eqb b c (λ q. ne (sym q)))

  -- an access that opened is followed
  pub opened_follows : (x : Access) (op : kit.Open W) (stage : Stage) (ps : List Message) (mails : List (model.Mail W)) (c : kit.Seat W) (kept : Kept same_mail n (ledgers.opening f.told b op mails) (kit.becomes k b page c ((k.board b).entry page) mails k.link)) →
      Opens (board.opened st e stage ps) → StageIs stage c → c.waiting ≡ [] → pending_of stage ≡ Some x → map (on_page page) mails ≡ map post_image ps →
      ((board : ℕ) → (board ≡ b → ⊥) → kit.requests board mails ≡ 0) → ((kit.requests b mails ≡ 1) ⊎ ((kit.requests b mails ≡ 0) × (not_asked stage ≡ true))) →
      Follows n p (opened_ledger x ps) (state_after (at_stage st stage) e ps) (left_of kept)
  opened_follows x op stage ps mails c kept opens is none pending same none_else mine = record {
    machine = kit.becomes k b page c ((k.board b).entry page) mails k.link;
    told = ledgers.opening f.told b op mails;
    kept = kept;
    matches = opening_matches (board.opened st e stage ps) opens c ((k.board b).entry page) mails (record { stage = is; waiting = none ∙ ap (map request_image) (sym none_waits) }) entry_is same;
    agrees = opened_agrees x op stage ps mails pending same none_else mine;
    room = f.room;
    left = refl;
  }

  -- it opened where none was open
  pub none_open : l.pending b ≡ None
  none_open = f.agrees.pending b in_board ∙ ap pending_of idle
