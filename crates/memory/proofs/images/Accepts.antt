-- No message that waits in a kit is refused by its receiver.
use Rattle.std.proofs.Common.{◌≡◌, ℕ, Bool, true, false, not, cond, ◌&&◌, eqb, nat_lt, List, [], length, is_some, Some, None, Option, refl, ap, ◌∙◌, sym, subst, inl, inr, arith}
use Rattle.std.proofs.lemmas.Bool.{and_parts, and_from, cases_eq, eqb-true, eq-eqb, ne_eqb, not_from_false, true≢false}
use Rattle.wire.specs.Bags.{Bag, ◌&◌}
use Rattle.wire.specs.declared.message.Message.{Message}
use Rattle.wire.specs.declared.message.Kind.{Kind}
use Rattle.wire.specs.declared.message.Kind.TheVariants.{ReadRequest, WriteRequest, Copy, Grant, Invalidate, Acknowledgement}
use Rattle.board.specs.Addresses.{page_of}
use Rattle.board.specs.Boards.{BoardState}
use Rattle.board.specs.Expected.{expects, expected, waits, new_asker, not_owned}
use Rattle.board.specs.Serving.{owns}
use Rattle.board.specs.Stages.{is_on}
use Rattle.board.specs.declared.entry.PageEntry.{PageEntry}
use Rattle.board.specs.declared.stage.OpenLoad.{OpenLoad}
use Rattle.board.specs.declared.stage.Stage.{Stage}
use Rattle.board.specs.declared.stage.Stage.TheVariants.{Idle, LoadAsked, StoreAsked, Clearing}
use Rattle.lone.specs.Forms.{reads, deferred_form, stage_form}
use Rattle.lone.specs.Tables.{entry_at}
use Rattle.lone.proofs.EntryForms.{no_access}
use Rattle.lone.proofs.LoneForms.{LoneTold, lone_told}
use Rattle.memory.specs.Calls.{Running}
use Rattle.memory.specs.Kits.{state_at, table_of, board_at}
use Rattle.memory.proofs.kept.Messages.{taken_on_link}
use Rattle.memory.proofs.kept.Delivered.{deliver_sim, request_is, invalidate_is}
use Rattle.memory.proofs.kept.KitKept.{Kept}
use Rattle.memory.proofs.kept.Roots.{own}
use Rattle.memory.proofs.kept.EqualMessages.{same_mail, same_law}
use Rattle.memory.proofs.kept.Sets.{facts}
use Rattle.memory.proofs.kept.DeliverySteps.{Sim}
use Rattle.memory.proofs.kept.Following.{reach_fixed}
use Rattle.memory.proofs.model.Board as model
use Rattle.memory.proofs.model.Ledgers.{Ledger}
use Rattle.memory.proofs.model.Invariant.{Inv}
use Rattle.memory.proofs.model.Kit as kit
use Rattle.memory.proofs.model.Told as by_pages
use Rattle.memory.proofs.model.Sums.{bit}
use Rattle.memory.proofs.model.Page.{Journey, home, asking, clearing, Mark, sent, Page, busy, rooted, awaits, queued_at, occ, mark, mark_of, place}
use Rattle.memory.proofs.images.Expected.{waits_none, to_is, copy_expected, grant_expected, acknowledgement_expected}
use Rattle.memory.proofs.images.Arrivals.{on_is}
use Rattle.memory.proofs.images.Images.{W, entry_image, mail_by, mail_image, post_image, map_bag, StageIs, SeatIs, deferral_image}
use Rattle.memory.proofs.images.Fitting.{Fitting, one_fits}
use Rattle.memory.proofs.images.Matches.{Matches}

on_its_page : (x : kit.Seat W) (p : ℕ) (d : model.Kind) → kit.asked d ≡ kit.open_on x p → p ≡ x.page
on_its_page x p d h = grind (arith, facts)

off_its_page : (x : kit.Seat W) (r : ℕ) → (r ≡ x.page → ⊥) → kit.open_on x r ≡ kit.closed
off_its_page x r ne = grind (arith, facts)

module _ {n : ℕ} {ml : Ledger W} {k : kit.Kit W} (z : Kept same_mail n ml k) (p : ℕ) where
  abbrev P : Page W
  P = z.pages p

  abbrev inv : Inv n (ml.memory p) (z.pages p)
  inv = z.each p

  -- a board asks another
  asks_another : (a u h : ℕ) (d : model.Kind) → P.journey a ≡ asking d u h → a ≡ u → ⊥
  asks_another a u h d e q =
      let asker = inv.core.ways.askers a (ap busy e) in
      let fixed : place (P.journey a) a (P.entry a).hint ≡ a = ap (λ t. place t a (P.entry a).hint) e ∙ sym q in
      let root : a ≡ P.root = reach_fixed fixed (inv.core.ways.tree a asker.in_range) in
      let at : P.journey P.root ≡ asking d u h = ap P.journey (sym root) ∙ e in
      let settled = inv.core.holders.settled in
      true≢false (sym (ap busy at) ∙ settled ∙ ap rooted at)

  -- and its request stands in no list
  asks_once : (a u v h r : ℕ) (d : model.Kind) → P.journey a ≡ asking d u h → queued_at v ((z.pages r).journey a) ≡ false
  asks_once a u v h r d e = elim (cases_eq r p) [
    | inl q ↦ ap (λ x. queued_at v ((z.pages x).journey a)) q ∙ ap (queued_at v) e
    | inr ne ↦ away ((z.pages r).journey a) (z.told.stages a r ∙ shut ne)
  ]
    where
      at : p ≡ (k.board a).seat.page
      at = on_its_page (k.board a).seat p d (ap by_pages.stage_of (sym e) ∙ z.told.stages a p)

      shut : (r ≡ p → ⊥) → kit.open_on (k.board a).seat r ≡ kit.closed
      shut ne = off_its_page (k.board a).seat r (λ q. ne (q ∙ sym at))

      away : (j : Journey W) → by_pages.stage_of j ≡ kit.closed → queued_at v j ≡ false
      away j h = grind arith

  listed : (a u v h : ℕ) (d : model.Kind) → P.journey a ≡ asking d u h → occ a (k.board v).seat.waiting ≡ 0
  listed a u v h d e =
      let seat = (k.board v).seat in
      let is : (z.pages seat.page).waits v ≡ seat.waiting = z.told.waitings v seat.page ∙ ap (λ (b : Bool). cond b seat.waiting []) (eq-eqb seat.page seat.page refl) in
      let l = (z.each seat.page).core.lists v a in
      let q = asks_once a u v h seat.page d e in
      sym (ap (occ a) is) ∙ l ∙ ap bit q

  -- who is to be told to drop its copy is not the owner
  told_is_other : (c x h : ℕ) (m : ℕ → Mark) → P.journey c ≡ clearing h m → m x ≡ sent → x ≡ P.root → ⊥
  told_is_other c x h m e s q =
      let root : c ≡ P.root = inv.core.holders.only c (ap rooted e) in
      let at : P.journey P.root ≡ clearing h m = ap P.journey (sym root) ∙ e in
      let marked : mark P P.root ≡ sent = ap (λ t. mark_of t P.root) at ∙ ap m (sym q) ∙ s in
      true≢false (sym (ap awaits marked) ∙ inv.core.holders.apart)

  told_mark : (c x h : ℕ) (m : ℕ → Mark) → P.journey c ≡ clearing h m → m x ≡ sent → mark P x ≡ sent
  told_mark c x h m e s =
      let root : c ≡ P.root = inv.core.holders.only c (ap rooted e) in
      let at : P.journey P.root ≡ clearing h m = ap P.journey (sym root) ∙ e in
      ap (λ t. mark_of t x) at ∙ s

  home_of : (j : Journey W) → by_pages.stage_of j ≡ kit.closed → j ≡ home
  home_of j h = grind arith

  pub clearing_rooted : (j : Journey W) (h : ℕ) → by_pages.stage_of j ≡ kit.clears h → rooted j ≡ true
  clearing_rooted j h e = grind arith

-- a message that is taken from the link of a kit
module _ {n p : ℕ} {ml : Ledger W} {k : kit.Kit W} {s : Running} (z : Kept same_mail n ml k) (mt : Matches n p s k) (m : Message) (rest : Bag Message) (waited : s.waiting ≡ m & rest) where
  abbrev Q : Page W
  Q = z.pages m.page

  abbrev pub it : Fitting n p m
  it = one_fits n p m rest s.waiting waited mt.fit

  abbrev pub st : BoardState
  st = state_at s.kit m.to

  abbrev pub here : PageEntry
  here = entry_at (table_of s.kit m.to) m.page

  abbrev pub seat : kit.Seat W
  seat = (k.board m.to).seat

  pub taken : k.link ≡ post_image m & map_bag post_image rest
  taken = mt.link ∙ ap (map_bag post_image) waited

  on_link : (x : model.Mail W) → mail_image m ≡ x → by_pages.mail_of (by_pages.owner x) (Q.journey (by_pages.owner x)) (by_pages.slot x) ≡ kit.just x
  on_link x q = subst (λ x. by_pages.mail_of (by_pages.owner x) (Q.journey (by_pages.owner x)) (by_pages.slot x) ≡ kit.just x) q
      (taken_on_link same_mail same_law m.page (mail_image m) k.link (map_bag post_image rest) Q.journey taken (z.told.mails m.page))

  abbrev sim : Sim same_mail n k z.pages m.page (mail_image m) (map_bag post_image rest)
  sim = deliver_sim same_mail same_law n (ml.memory m.page) k z.pages z.told m.page (z.each m.page) (map_bag post_image rest) (mail_image m) taken

  pub number_is : st.number ≡ m.to
  number_is = mt.sized.number m.to (omega (arith, it.to, mt.sized.few_boards))

  pub seat_is : SeatIs st seat
  seat_is = mt.boards.seats m.to it.to

  pub entry_is : (k.board m.to).entry m.page ≡ entry_image here
  entry_is = mt.boards.entries m.to m.page it.to it.page

  -- what the model does with it, as the board sees it
  pub arrives_is : kit.arrives n k m.page (mail_image m) ≡ kit.arrive n st.number seat (entry_image here) (mail_image m) (kit.open_on seat m.page)
  arrives_is =
      ap (λ b. kit.arrive n b (k.board b).seat ((k.board b).entry m.page) (mail_image m) (kit.open_on (k.board b).seat m.page)) (to_is m.kind m)
      ∙ ap (λ b. kit.arrive n b seat ((k.board m.to).entry m.page) (mail_image m) (kit.open_on seat m.page)) (sym number_is)
      ∙ ap (λ (e : model.Entry W). kit.arrive n st.number seat e (mail_image m) (kit.open_on seat m.page)) entry_is

  replies_not : {a : kit.Seat W} {b : model.Entry W} {c : List (model.Mail W)} {d : _} → kit.refused ≡ kit.replies a b c d → ⊥
  replies_not e = let y : ◌≡◌ {A = ℕ} 0 1 = cc in omega arith

  taken_in : (x : model.Mail W) → mail_image m ≡ x → kit.arrive n st.number seat (entry_image here) x (cond (is_on st.stage m.page) seat.stage kit.closed) ≡ kit.refused → ⊥
  taken_in x q bad =
      let at = on_is m.page st.stage seat seat_is.stage in
      let same = ap (λ (x : model.Mail W). kit.arrive n st.number seat (entry_image here) x (kit.open_on seat m.page)) q ∙ ap (kit.arrive n st.number seat (entry_image here) x) at in
      replies_not (sym bad ∙ sym same ∙ sym arrives_is ∙ sim.replied)

  pub rows : length (table_of s.kit m.to) ≡ 16
  rows = mt.sized.shape.rows m.to (omega (arith, it.to, mt.sized.few_boards))

  abbrev pub told : LoneTold (board_at s.kit m.to)
  told = lone_told (board_at s.kit m.to) rows (mt.boards.form m.to it.to)

  -- Requests.
  new_request : (d : model.Kind) → mail_image m ≡ model.request d m.to m.asker m.hops → new_asker st m ≡ true
  new_request d q =
      let e = request_is same_mail same_law n (ml.memory m.page) k z.pages z.told m.page (z.each m.page) (map_bag post_image rest) d m.to m.asker m.hops (Q.journey m.asker) (on_link (model.request d m.to m.asker m.hops) q) in
      let another : eqb m.asker st.number ≡ false = ne_eqb m.asker st.number (λ x. asks_another z m.page m.asker m.to m.hops d e (x ∙ number_is)) in
      let none : waits m.asker st.waiting ≡ false = waits_none m.asker st.waiting (sym (ap (occ m.asker) seat_is.waiting) ∙ listed z m.page m.asker m.to m.to m.hops d e) in
      and_from (not (eqb m.asker st.number)) (not (waits m.asker st.waiting)) (not_from_false (eqb m.asker st.number) another) (not_from_false (waits m.asker st.waiting) none)

  -- Invalidates.
  abbrev Told : Type 0
  Told = (h : ℕ) × (f : ℕ → Mark) × (Q.journey m.from ≡ clearing h f) × (f m.to ≡ sent)

  told_to : mail_image m ≡ model.invalidate m.from m.to → Told
  told_to q = invalidate_is same_mail same_law n (ml.memory m.page) k z.pages z.told m.page (z.each m.page) (map_bag post_image rest) m.from m.to (Q.journey m.from) (on_link (model.invalidate m.from m.to) q)

  abbrev mine : Bool
  mine = owns st.number here

  hint_is : mine ≡ true → (Q.entry m.to).hint ≡ m.to
  hint_is o = ap (λ (e : model.Entry W). e.hint) (sym (z.told.entries m.to m.page) ∙ entry_is) ∙ eqb-true here.hint st.number o ∙ number_is

  -- nothing is open there on the page
  shut : Told → is_on st.stage m.page ≡ false → mine ≡ true → ⊥
  shut t off o =
      let closed : kit.open_on seat m.page ≡ kit.closed = on_is m.page st.stage seat seat_is.stage ∙ ap (λ (b : Bool). cond b seat.stage kit.closed) off in
      let at : Q.journey m.to ≡ home = home_of z m.page (Q.journey m.to) (z.told.stages m.to m.page ∙ closed) in
      told_is_other z m.page m.from m.to t.0 t.1 t.2 t.3 (own n (ml.memory m.page) Q (z.each m.page).core m.to it.to at (hint_is o))

  stage_form_at : (x : Stage) → st.stage ≡ x → stage_form (board_at s.kit m.to) x ≡ true
  stage_form_at x q = rw q at told.stage

  open_there : Told → (x : Stage) → st.stage ≡ x → is_on x m.page ≡ true → mine ≡ true → ⊥
  open_there t Idle q on o = true≢false (sym on)
  open_there t (LoadAsked a) q on o =
      let l = board_at s.kit m.to in
      let h = stage_form_at (LoadAsked a) q in
      let a1 = and_parts (nat_lt (page_of a.address) l.pages && not (reads (entry_at l.table (page_of a.address)).access)) (deferred_form l.boards l.state.number a.deferred) h in
      let a2 = and_parts (nat_lt (page_of a.address) l.pages) (not (reads (entry_at l.table (page_of a.address)).access)) a1.0 in
      let at : page_of a.address ≡ m.page = eqb-true (page_of a.address) m.page on in
      let none : reads here.access ≡ false = subst (λ r. reads (entry_at l.table r).access ≡ false) at (unread (reads (entry_at l.table (page_of a.address)).access) a2.1) in
      true≢false (sym o ∙ no_access l.boards l.state.number here none (told.entries m.page (omega (arith, it.page, mt.sized.few_pages))))
    where
      unread : (b : Bool) → not b ≡ true → b ≡ false
      unread true h = sym h
      unread false h = refl
  open_there t (StoreAsked a) q on o =
      let l = board_at s.kit m.to in
      let h = stage_form_at (StoreAsked a) q in
      let a1 = and_parts (nat_lt (page_of a.address) l.pages) (not (owns l.state.number (entry_at l.table (page_of a.address)))) h in
      let at : page_of a.address ≡ m.page = eqb-true (page_of a.address) m.page on in
      let other : not mine ≡ true = subst (λ r. not (owns l.state.number (entry_at l.table r)) ≡ true) at a1.1 in
      true≢false (sym other ∙ ap not o)
  open_there t (Clearing c) q on o =
      let shown : kit.open_on seat m.page ≡ seat.stage = on_is m.page st.stage seat seat_is.stage ∙ ap (λ (x : Stage). cond (is_on x m.page) seat.stage kit.closed) q ∙ ap (λ (b : Bool). cond b seat.stage kit.closed) on in
      let stage : StageIs (Clearing c) seat = rw q at seat_is.stage in
      let root : m.to ≡ Q.root = (z.each m.page).core.holders.only m.to (clearing_rooted z m.page (Q.journey m.to) c.hops (z.told.stages m.to m.page ∙ shown ∙ stage.0)) in
      told_is_other z m.page m.from m.to t.0 t.1 t.2 t.3 root

  not_mine : Told → not_owned st here ≡ true
  not_mine t = by mine refl
    where
      on_or_off : (b : Bool) → is_on st.stage m.page ≡ b → mine ≡ true → ⊥
      on_or_off true q o = open_there t st.stage refl q o
      on_or_off false q o = shut t q o

      by : (b : Bool) → mine ≡ b → not mine ≡ true
      by true o = absurd (on_or_off (is_on st.stage m.page) refl o)
      by false o = ap not o

  -- none is deferred there yet
  none_deferred : Told → (a : OpenLoad) → st.stage ≡ LoadAsked a → eqb (page_of a.address) m.page ≡ true → is_some a.deferred ≡ false
  none_deferred t a q on =
      let stage : StageIs (LoadAsked a) seat = rw q at seat_is.stage in
      let at : seat.page ≡ m.page = stage.1 ∙ eqb-true (page_of a.address) m.page on in
      let marked : mark Q m.to ≡ sent = told_mark z m.page m.from m.to t.0 t.1 t.2 t.3 in
      let deferral : seat.deferral ≡ kit.absent = z.told.deferrals m.to ∙ ap (λ r. by_pages.deferral_of (mark (z.pages r) m.to) (z.pages r).root) at ∙ ap (λ x. by_pages.deferral_of x Q.root) marked in
      by a.deferred (sym stage.2 ∙ deferral)
    where
      by : (d : Option ℕ) → deferral_image d ≡ kit.absent → is_some d ≡ false
      by None h = refl
      by (Some c) h = absurd (let y : ◌≡◌ {A = ℕ} 0 1 = cc in omega arith)

  invalidate_expected : Told → (x : Stage) → st.stage ≡ x → expects x Invalidate st here m ≡ true
  invalidate_expected t Idle q = not_mine t
  invalidate_expected t (StoreAsked a) q = not_mine t
  invalidate_expected t (Clearing c) q = not_mine t
  invalidate_expected t (LoadAsked a) q = and_from (not_owned st here) (not (eqb (page_of a.address) m.page && is_some a.deferred)) (not_mine t) (by (eqb (page_of a.address) m.page) refl)
    where
      by : (b : Bool) → eqb (page_of a.address) m.page ≡ b → not (eqb (page_of a.address) m.page && is_some a.deferred) ≡ true
      by true o = rw (o, none_deferred t a q o) refl
      by false o = rw o refl

  -- whatever its kind
  by_kind : (x : Kind) → m.kind ≡ x → expects st.stage x st here m ≡ true
  by_kind ReadRequest q = new_request model.load (ap (λ (x : Kind). mail_by x m) q)
  by_kind WriteRequest q = new_request model.store (ap (λ (x : Kind). mail_by x m) q)
  by_kind Copy q = copy_expected n st here m seat seat_is st.stage refl (taken_in (model.copy m.from m.to m.hops m.words) (ap (λ (x : Kind). mail_by x m) q))
  by_kind Grant q = grant_expected n st here m seat seat_is st.stage refl (taken_in (model.grant m.from m.to m.hops m.copies.members m.words) (ap (λ (x : Kind). mail_by x m) q))
  by_kind Invalidate q = invalidate_expected (told_to (ap (λ (x : Kind). mail_by x m) q)) st.stage refl
  by_kind Acknowledgement q = acknowledgement_expected n st here m seat seat_is st.stage refl (taken_in (model.acknowledge m.from m.to) (ap (λ (x : Kind). mail_by x m) q))

  pub is_expected : expected st here m ≡ true
  is_expected = by_kind m.kind refl
