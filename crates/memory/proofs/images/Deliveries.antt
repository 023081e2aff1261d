-- A delivery in a kit is a delivery in the model.
use Rattle.std.proofs.Common.{◌≡◌, ℕ, ◌+◌, ◌<◌, ◌≤◌, Bool, true, not, cond, ◌&&◌, eqb, nat_lt, nat_le, List, [], ◌∷◌, None, refl, ap, ◌∙◌, sym, subst, inl, inr, arith}
use Rattle.std.proofs.lemmas.Bool.{cases_eq, true≢false, and_parts, and_from, eqb-true, eq-eqb, lt-ltb}
use Rattle.std.specs.List.{AllByRecursion as All}
use Rattle.wire.specs.Bags.{Bag, ◌&◌, ◌⊕◌}
use Rattle.wire.specs.BoardSets as sets
use Rattle.wire.specs.Questions.{first_no}
use Rattle.wire.proofs.Questions.{passed_before}
use Rattle.wire.specs.declared.message.Message.{Message}
use Rattle.wire.specs.Messages.{most_hops}
use Rattle.records.specs.Forms.{message_questions}
use Rattle.board.specs.Addresses.{page_of}
use Rattle.board.specs.Boards.{BoardState}
use Rattle.board.specs.Serving.{owns}
use Rattle.board.specs.Steps as board
use Rattle.board.specs.declared.entry.PageEntry.{PageEntry}
use Rattle.board.specs.declared.request.Request.{Request}
use Rattle.board.specs.declared.stage.ClearingStore.{ClearingStore}
use Rattle.board.specs.declared.stage.Stage.TheVariants.{Idle, LoadAsked, StoreAsked, Clearing}
use Rattle.lone.specs.Forms.{waiting_form, stage_form}
use Rattle.lone.specs.LoneQuestions as lone
use Rattle.lone.specs.Lones.{Lone}
use Rattle.lone.specs.PostLaws.{GoodPost}
use Rattle.lone.specs.Tables.{entry_at}
use Rattle.lone.proofs.ArrivalForms.{arrived_kept}
use Rattle.lone.proofs.CallPosts.{arrival_posts}
use Rattle.lone.proofs.Others.{another_is}
use Rattle.lone.proofs.WaitingForms.{first_told}
use Rattle.memory.specs.Calls.{Running}
use Rattle.memory.specs.Kits.{Kit, state_at, table_of, board_at}
use Rattle.memory.proofs.kept.KitKept.{Kept, left_of}
use Rattle.memory.proofs.kept.DeliveryKept.{delivered}
use Rattle.memory.proofs.kept.EqualMessages.{same_mail, same_law}
use Rattle.memory.proofs.model.Calls.{call_deliver, said_of}
use Rattle.memory.proofs.model.Ledgers.{Ledger, after, Good}
use Rattle.memory.proofs.model.Kit as kit
use Rattle.memory.proofs.model.Told as by_pages
use Rattle.memory.proofs.model.Steps.{Answer}
use Rattle.memory.proofs.model.Page.{busy, awaits, mark, mark_of}
use Rattle.memory.proofs.images.Accepts.{it, st, here, seat, taken, number_is, seat_is, arrives_is, rows, told, is_expected, clearing_rooted}
use Rattle.memory.proofs.images.Arrivals.{Fits, Replied, replied}
use Rattle.memory.proofs.images.Expected.{to_is}
use Rattle.memory.proofs.images.Hops.{few_hops, none_asked}
use Rattle.memory.proofs.images.Images.{W, entry_image, mail_image, post_image, map_bag, StageIs}
use Rattle.memory.proofs.images.Matches.{Matches, StepMatches, stepped}
use Rattle.memory.proofs.images.Fitting.{rest_fits}
use Rattle.memory.proofs.images.Posts.{arrived}
use Rattle.memory.proofs.images.Sets.{below_from}
use Rattle.memory.proofs.images.Tables.{kit_after, state_here, state_there}
use Rattle.memory.proofs.images.Ledgers.{Counts, requests_are}
use Rattle.memory.proofs.images.OpenAccesses.{not_asked, stays_unasked}
use Rattle.memory.specs.Ledgers.{requests_of}
use Rattle.memory.proofs.kept.Sets.{facts}
use Rattle.memory.proofs.model.Board as model
use Rattle.board.specs.declared.stage.Stage.{Stage}

askers_below : (n me : ℕ) → n ≤ 16 → (rs : List Request) → waiting_form n me rs ≡ true → All (λ (r : Request). r.asker < 16) rs
askers_below n me few [] h = tt
askers_below n me few (r ∷ rs) h = let f = first_told n me r rs h in let l = (another_is n me r.asker f.asker).0 in (omega (arith, l, few), askers_below n me few rs f.rest)

module _ {n p : ℕ} {ml : Ledger W} {k : kit.Kit W} {s : Running} (z : Kept same_mail n ml k) (mt : Matches n p s k) (m : Message) (rest : Bag Message) (waited : s.waiting ≡ m & rest) where
  abbrev mine : BoardState
  mine = st z mt m rest waited

  abbrev entry : PageEntry
  entry = here z mt m rest waited

  abbrev chair : kit.Seat W
  chair = seat z mt m rest waited

  abbrev lone_board : Lone
  lone_board = board_at s.kit m.to

  pub to_few : m.to < n
  to_few = (it z mt m rest waited).to

  pub page_few : m.page < p
  page_few = (it z mt m rest waited).page

  -- its receiver asks it nothing that it does not answer
  pub belongs : lone.belongs lone_board m ≡ true
  belongs =
      let f = it z mt m rest waited in
      let b = mt.sized.boards in
      let here_is = eq-eqb m.to lone_board.state.number (sym (number_is z mt m rest waited)) in
      let from = lt-ltb m.from lone_board.boards (omega (arith, f.from, b)) in
      let asker = lt-ltb m.asker lone_board.boards (omega (arith, f.asker, b)) in
      let copies = subst (λ x. sets.is_below m.copies x ≡ true) (sym b) f.copies in
      let page = lt-ltb m.page lone_board.pages (omega (arith, f.page, mt.sized.pages)) in
      and_from (eqb m.to lone_board.state.number && nat_lt m.from lone_board.boards && nat_lt m.asker lone_board.boards && sets.is_below m.copies lone_board.boards) (nat_lt m.page lone_board.pages)
      (and_from (eqb m.to lone_board.state.number && nat_lt m.from lone_board.boards && nat_lt m.asker lone_board.boards) (sets.is_below m.copies lone_board.boards)
      (and_from (eqb m.to lone_board.state.number && nat_lt m.from lone_board.boards) (nat_lt m.asker lone_board.boards) (and_from (eqb m.to lone_board.state.number) (nat_lt m.from lone_board.boards) here_is from) asker) copies) page

  pub accepted : first_no (lone.arrival_questions lone_board m) ≡ None
  accepted = passed_before (message_questions m) ((15, lone.belongs lone_board m) ∷ (16, lone.expects lone_board m) ∷ []) (it z mt m rest waited).form ∙ rw (belongs, is_expected z mt m rest waited) refl

  few_pages : lone_board.pages ≤ 16
  few_pages = omega (arith, mt.sized.pages, mt.sized.few_pages)

  few_boards : lone_board.boards ≤ 16
  few_boards = omega (arith, mt.sized.boards, mt.sized.few_boards)

  -- a clearing board
  module _ (c : ClearingStore) (q : mine.stage ≡ Clearing c) where
    clearing_form : stage_form lone_board (Clearing c) ≡ true
    clearing_form = rw q at (told z mt m rest waited).stage

    owns_it : owns mine.number (entry_at (table_of s.kit m.to) (page_of c.store.address)) ≡ true
    owns_it =
        let e = entry_at lone_board.table (page_of c.store.address) in
        let a = and_parts (nat_lt (page_of c.store.address) lone_board.pages && nat_le c.hops most_hops && owns lone_board.state.number e && not (sets.is_empty c.awaited)) (sets.is_part c.awaited e.copies) clearing_form in
        let b = and_parts (nat_lt (page_of c.store.address) lone_board.pages && nat_le c.hops most_hops && owns lone_board.state.number e) (not (sets.is_empty c.awaited)) a.0 in
        (and_parts (nat_lt (page_of c.store.address) lone_board.pages && nat_le c.hops most_hops) (owns lone_board.state.number e) b.0).1

    stage_is : StageIs (Clearing c) chair
    stage_is = rw q at (seat_is z mt m rest waited).stage

    awaited_below : (y : ℕ) → sets.has c.awaited y ≡ true → y < n
    awaited_below y h =
        let r = chair.page in
        let page = z.pages r in
        let o = (z.each r).core.holders in
        let on : kit.open_on chair r ≡ chair.stage = ap (λ (b : Bool). cond b chair.stage kit.closed) (eq-eqb r r refl) in
        let root : m.to ≡ page.root = o.only m.to (clearing_rooted z r (page.journey m.to) c.hops (z.told.stages m.to r ∙ on ∙ stage_is.0)) in
        let is : awaits (mark page y) ≡ true = ap (λ x. awaits (mark_of (page.journey x) y)) (sym root) ∙ sym (z.told.awaiting m.to y) ∙ stage_is.3 y ∙ h in
        o.marked y is

  fits : Fits n mine entry m chair
  fits =
      let f = it z mt m rest waited in
      let few = mt.sized.few_boards in
      record {
        few = few;
        is = seat_is z mt m rest waited;
        full = mt.boards.full m.to m.page f.to f.page;
        askers = askers_below lone_board.boards lone_board.state.number few_boards mine.waiting (told z mt m rest waited).waiting;
        asker = omega (arith, f.asker, few);
        copies = f.copies;
        whole = f.whole;
        awaited = λ c q. below_from c.awaited n (awaited_below c q);
        owner = λ c q at. eqb-true entry.hint mine.number (subst (λ r. owns mine.number (entry_at (table_of s.kit m.to) r) ≡ true) at (owns_it c q));
        expected = is_expected z mt m rest waited;
      }

  -- what the model replies
  pub reply : Replied m.page (board.arrive mine entry m) (kit.arrive n mine.number chair (entry_image entry) (mail_image m) (kit.open_on chair m.page))
  reply = replied n mine entry m chair fits

  abbrev pub mails : List (model.Mail W)
  mails = reply.mails

  abbrev pub says : Answer W
  says = reply.answer

  abbrev link_after : Bag (kit.Post W)
  link_after = map_bag post_image rest

  -- what is kept in the model
  abbrev pub Went : ℕ → Type 0
  Went b =
      (y : Kept same_mail n (after ml call_deliver (said_of reply.answer) reply.mails) (kit.becomes k b m.page reply.seat reply.entry reply.mails link_after))
      × Good n ml call_deliver (said_of reply.answer) reply.mails
      × (left_of y < left_of z)

  went_there : Went (kit.to (mail_image m))
  went_there = delivered same_law z m.page (mail_image m) link_after (taken z mt m rest waited) (kit.replies reply.seat reply.entry reply.mails reply.answer) (arrives_is z mt m rest waited ∙ reply.replied)

  pub went : Went m.to
  went = subst Went (to_is m.kind m) went_there

  -- and the kit is matched
  pub matched : StepMatches n p s.kit m.to m.page (board.arrive mine entry m).state (board.arrive mine entry m).entry (board.arrive mine entry m).posts reply.seat reply.entry reply.mails
  matched =
      let f = it z mt m rest waited in
      let t = arrived mine entry fits.full m f.whole in
      let v = ((went.0).each m.page) in
      record {
        number = t.number ∙ number_is z mt m rest waited;
        form = arrived_kept lone_board m (rows z mt m rest waited) few_pages (mt.boards.form m.to f.to) accepted;
        full = t.entry;
        seat_is = reply.seat_is;
        entry_is = reply.entry_is;
        posts_are = reply.posts_are (few_hops n mt.sized.few_boards _ (kit.becomes k m.to m.page reply.seat reply.entry reply.mails link_after) (went.0).pages (went.0).told m.page v reply.mails link_after refl);
        good = good_here (board.arrive mine entry m).posts (arrival_posts lone_board (rows z mt m rest waited) few_boards few_pages (mt.boards.form m.to f.to) m accepted);
        whole = t.posts_whole;
      }
    where
      good_here : (ps : List Message) → All (GoodPost lone_board.boards lone_board.pages lone_board.state.number) ps → All (GoodPost n p m.to) ps
      good_here ps h =
          subst (λ x. All (GoodPost n p x) ps) (number_is z mt m rest waited)
          (subst (λ x. All (GoodPost n x lone_board.state.number) ps) mt.sized.pages (subst (λ x. All (GoodPost x lone_board.pages lone_board.state.number) ps) mt.sized.boards h))

  pub matches_after : Matches n p
      (record { kit = kit_after s.kit m.to m.page (board.arrive mine entry m).state (board.arrive mine entry m).entry; limit = s.limit; waiting = (board.arrive mine entry m).posts ⊕ rest })
      (kit.becomes k m.to m.page reply.seat reply.entry reply.mails link_after)
  matches_after = stepped s k m.to m.page to_few page_few (board.arrive mine entry m).state (board.arrive mine entry m).entry reply.seat reply.entry mt.sized mt.boards matched s.limit rest link_after refl (rest_fits n p m rest s.waiting waited mt.fit)

  -- as often as a request was passed on it was posted, but for the first time
  stage_asked : (x : kit.Seat W) (r : ℕ) (d : model.Kind) → kit.asked d ≡ kit.open_on x r → x.stage ≡ kit.asked d
  stage_asked x r d h = grind (arith, facts)

  asked_not : (st : Stage) (x : kit.Seat W) (d : model.Kind) → StageIs st x → not_asked st ≡ true → x.stage ≡ kit.asked d → ⊥
  asked_not Idle x d is h e = let y : ◌≡◌ {A = ℕ} 0 1 = cc in omega arith
  asked_not (LoadAsked a) x d is h e = true≢false (sym h)
  asked_not (StoreAsked a) x d is h e = true≢false (sym h)
  asked_not (Clearing c) x d is h e = let y : ◌≡◌ {A = ℕ} 0 1 = (let q = is.0 in cc) in omega arith

  abbrev pub kit_now : Kit
  kit_now = kit_after s.kit m.to m.page (board.arrive mine entry m).state (board.arrive mine entry m).entry

  unasked_now : (b : ℕ) → b < n → not_asked (state_at s.kit b).stage ≡ true → not_asked (state_at kit_now b).stage ≡ true
  unasked_now b l h = elim (cases_eq b m.to) [
    | inl e ↦ ap (λ x. not_asked (state_at kit_now x).stage) e
        ∙ ap (λ (x : BoardState). not_asked x.stage) (state_here s.kit mt.sized.shape m.to m.page (omega (arith, to_few, mt.sized.few_boards)) (board.arrive mine entry m).state (board.arrive mine entry m).entry)
        ∙ stays_unasked mine entry m (ap (λ x. not_asked (state_at s.kit x).stage) (sym e) ∙ h)
    | inr ne ↦ ap (λ (x : BoardState). not_asked x.stage) (state_there s.kit mt.sized.shape m.to m.page (omega (arith, to_few, mt.sized.few_boards)) (board.arrive mine entry m).state (board.arrive mine entry m).entry b ne) ∙ h
  ]

  none_posted : (b : ℕ) → (b < n → not_asked (state_at s.kit b).stage ≡ true) → kit.requests b reply.mails ≡ 0
  none_posted b h =
      let y = went.0 in
      let now = kit.becomes k m.to m.page reply.seat reply.entry reply.mails link_after in
      none_asked n mt.sized.few_boards (_) now y.pages y.told m.page (y.each m.page) reply.mails link_after refl b (λ d u g j.
      let lb : b < n = ((y.each m.page).core.ways.askers b (ap busy j)).in_range in
      let seat = (now.board b).seat in
      let is = (matches_after.boards.seats b lb).stage in
      asked_not (state_at kit_now b).stage seat d is (unasked_now b lb (h lb)) (stage_asked seat m.page d (ap by_pages.stage_of (sym j) ∙ y.told.stages b m.page)))

  pub same_requests : (b : ℕ) → requests_of b (board.arrive mine entry m).posts ≡ kit.requests b reply.mails
  same_requests b = requests_are b m.page reply.mails (board.arrive mine entry m).posts matched.posts_are

  pub counts_after : (b r q : ℕ) → Counts n s.kit b r q → Counts n kit_now b (r + requests_of b (board.arrive mine entry m).posts) (q + kit.requests b reply.mails)
  counts_after b r q (inl e) = inl (omega (arith, e, same_requests b))
  counts_after b r q (inr h) = let none = none_posted b h.2 in inr (omega (arith, h.0, none, same_requests b), omega (arith, h.1, none), λ l. unasked_now b l (h.2 l))
