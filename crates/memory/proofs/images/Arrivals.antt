-- A message does in the model what it does at a board that expects it.
use Rattle.std.proofs.Common.{◌≡◌, ℕ, ◌<◌, ◌≤◌, Bool, true, false, cond, eqb, List, [], ◌∷◌, ◌++◌, map, replicate, length, get_or, Some, None, Option, refl, ap, ◌∙◌, sym, subst, arith}
use Rattle.std.proofs.lemmas.Bool.{and_parts, eqb-true, true≢false}
use Rattle.std.proofs.lemmas.Bool.Decides.{nat_tests}
use Rattle.std.specs.List.{AllByRecursion as All}
use Rattle.memory.specs.Functions.{changed}
use Rattle.wire.specs.BoardSets as sets
use Rattle.wire.specs.declared.message.Message.{Message}
use Rattle.wire.specs.declared.message.Kind.{Kind}
use Rattle.wire.specs.declared.message.Kind.TheVariants.{ReadRequest, WriteRequest, Copy, Grant, Invalidate, Acknowledgement}
use Rattle.board.specs.Addresses.{page_of, place_of}
use Rattle.board.specs.Boards.{BoardState, at_stage}
use Rattle.wire.proofs.BoardSets.{below_without}
use Rattle.board.specs.Posts.{acknowledgement}
use Rattle.board.specs.Expected.{expects, expected}
use Rattle.board.specs.Serving.{posts_for}
use Rattle.board.specs.Stages.{is_on}
use Rattle.board.specs.Steps as board
use Rattle.board.specs.declared.answer.Finished.{Finished}
use Rattle.board.specs.declared.entry.PageEntry.{PageEntry}
use Rattle.board.specs.declared.request.AccessKind.TheVariants as sort
use Rattle.board.specs.declared.request.Request.{Request}
use Rattle.board.specs.declared.stage.OpenLoad.{OpenLoad}
use Rattle.board.specs.declared.stage.OpenStore.{OpenStore}
use Rattle.board.specs.declared.stage.ClearingStore.{ClearingStore}
use Rattle.board.specs.declared.stage.Stage.{Stage}
use Rattle.board.specs.declared.stage.Stage.TheVariants.{Idle, LoadAsked, StoreAsked, Clearing}
use Rattle.memory.proofs.model.Board as model
use Rattle.memory.proofs.model.Kit.{closed, Seat, Reply, replies, invalidates, open_on, vacant, with_waiting, with_awaited, with_deferral, arrive, finish, finish_load}
use Rattle.memory.proofs.model.Sets.{has}
use Rattle.memory.proofs.model.Steps.{Answer, nothing, read_at, written_at}
use Rattle.memory.proofs.images.Images.{W, entry_image, kind_image, request_image, mail_by, mail_image, post_image, put_word, deferral_image, StageIs, SeatIs}
use Rattle.memory.proofs.images.Serving.{FewHops, Full, entry_served, mail_served, entries_served, mails_served}
use Rattle.memory.proofs.images.Sets.{has_is, nobody_is, empty_is, lacking_is, invalidates_are, on_page}
use Rattle.std.proofs.lemmas.List.{map-append}

-- what the model has of an access that finished
abbrev pub AnswerIs : Option Finished → Answer W → Type 0
AnswerIs None nothing = Unit {0}
AnswerIs None _ = ⊥
AnswerIs (Some f) nothing = ⊥
AnswerIs (Some f) (read_at a h w) = (a ≡ f.board) × (h ≡ f.hops) × (f.kind ≡ sort.Load) × (f.word ≡ get_or w (place_of f.address) 0)
AnswerIs (Some f) (written_at a h g) = (a ≡ f.board) × (h ≡ f.hops) × (f.kind ≡ sort.Store) × (g ≡ put_word f.address f.word)

-- the model replies what a board does in a step
pub record Replied (page : ℕ) (t : board.Step) (r : Reply W) : Type 0 where
  pub seat : Seat W
  pub entry : model.Entry W
  pub mails : List (model.Mail W)
  pub answer : Answer W
  pub replied : r ≡ replies seat entry mails answer
  pub seat_is : SeatIs t.state seat
  pub entry_is : entry ≡ entry_image t.entry
  pub answer_is : AnswerIs t.finished answer
  pub posts_are : All FewHops mails → map (on_page page) mails ≡ map post_image t.posts

-- a board and a message that it expects, and what the model has of the board
pub record Fits (n : ℕ) (s : BoardState) (e : PageEntry) (m : Message) (seat : Seat W) : Type 0 where
  pub few : n ≤ 16
  pub is : SeatIs s seat
  pub full : Full e
  pub askers : All (λ (r : Request). r.asker < 16) s.waiting
  pub asker : m.asker < 16
  pub copies : sets.is_below m.copies n ≡ true
  pub whole : length m.copies.members ≡ 16
  pub awaited : (c : ClearingStore) → s.stage ≡ Clearing c → sets.is_below c.awaited n ≡ true
  pub owner : (c : ClearingStore) → s.stage ≡ Clearing c → page_of c.store.address ≡ m.page → e.hint ≡ s.number
  pub expected : expected s e m ≡ true

eqb_swap : (x y : ℕ) → eqb x y ≡ eqb y x
eqb_swap x y = grind (arith, nat_tests)

-- the stage that the model sees on a page
pub on_is : (page : ℕ) (st : Stage) (seat : Seat W) → StageIs st seat → open_on seat page ≡ cond (is_on st page) seat.stage closed
on_is page Idle seat h = grind (arith, h)
on_is page (LoadAsked a) seat h = ap (λ (x : ℕ). cond (eqb page x) seat.stage closed) h.1 ∙ ap (λ (x : Bool). cond x seat.stage closed) (eqb_swap page (page_of a.address))
on_is page (StoreAsked a) seat h = ap (λ (x : ℕ). cond (eqb page x) seat.stage closed) h.1 ∙ ap (λ (x : Bool). cond x seat.stage closed) (eqb_swap page (page_of a.address))
on_is page (Clearing c) seat h = ap (λ (x : ℕ). cond (eqb page x) seat.stage closed) h.1 ∙ ap (λ (x : Bool). cond x seat.stage closed) (eqb_swap page (page_of c.store.address))

stage_waits : (st : Stage) (seat : Seat W) (r : model.Req) → StageIs st seat → StageIs st (with_waiting seat r)
stage_waits Idle seat r h = h
stage_waits (LoadAsked a) seat r h = h
stage_waits (StoreAsked a) seat r h = h
stage_waits (Clearing c) seat r h = h

all_behind : {X : Type 0} (P : X → Type 0) (xs ys : List X) → All P (xs ++ ys) → All P ys
all_behind P [] ys h = h
all_behind P (x ∷ xs) ys h = all_behind P xs ys h.1

module _ (n : ℕ) (s : BoardState) (e : PageEntry) (m : Message) (seat : Seat W) (f : Fits n s e m seat) where
  abbrev me : ℕ
  me = s.number

  abbrev E : model.Entry W
  E = entry_image e

  abbrev on : model.Mail W → Stage → Reply W
  on x st = arrive n me seat E x (cond (is_on st m.page) seat.stage closed)

  stage_at : (st : Stage) → s.stage ≡ st → StageIs st seat
  stage_at st q = rw q at f.is.stage

  -- Requests.
  joined : (k : model.Kind) (r : Request) → kind_image r.kind ≡ k → r.asker ≡ m.asker → r.hops ≡ m.hops → (st : Stage) → s.stage ≡ st → is_on st m.page ≡ true →
      Replied m.page (board.still (board.with_waiting s r) e) (arrive n me seat E (model.request k m.to m.asker m.hops) seat.stage)
  joined k r k_is a_is h_is st q o = record {
    seat = with_waiting seat (request_image r);
    entry = E;
    mails = [];
    answer = nothing;
    replied = open_stage st q o;
    seat_is = record { stage = stage_waits s.stage seat (request_image r) f.is.stage; waiting = ap (λ (x : List model.Req). x ++ request_image r ∷ []) f.is.waiting ∙ sym (map-append request_image s.waiting (r ∷ [])) };
    entry_is = refl;
    answer_is = tt;
    posts_are = λ _. refl;
  }
    where
      same : (x : model.Req) → x ≡ record { asker = m.asker; kind = k; hops = m.hops } → with_waiting seat x ≡ with_waiting seat (record { asker = m.asker; kind = k; hops = m.hops })
      same x q = ap (with_waiting seat) q

      it : request_image r ≡ record { asker = m.asker; kind = k; hops = m.hops }
      it = λ i. record { asker = a_is i; kind = k_is i; hops = h_is i }

      open_stage : (st : Stage) → s.stage ≡ st → is_on st m.page ≡ true → arrive n me seat E (model.request k m.to m.asker m.hops) seat.stage ≡ replies (with_waiting seat (request_image r)) E [] nothing
      open_stage Idle q o = absurd (true≢false (sym o))
      open_stage (LoadAsked a) q o = ap (arrive n me seat E (model.request k m.to m.asker m.hops)) (stage_at (LoadAsked a) q).0 ∙ sym (ap (λ (x : model.Req). replies (with_waiting seat x) E [] nothing) it)
      open_stage (StoreAsked a) q o = ap (arrive n me seat E (model.request k m.to m.asker m.hops)) (stage_at (StoreAsked a) q).0 ∙ sym (ap (λ (x : model.Req). replies (with_waiting seat x) E [] nothing) it)
      open_stage (Clearing c) q o = ap (arrive n me seat E (model.request k m.to m.asker m.hops)) (stage_at (Clearing c) q).0 ∙ sym (ap (λ (x : model.Req). replies (with_waiting seat x) E [] nothing) it)

  served : (k : model.Kind) → kind_image (board.asked_kind m.kind) ≡ k → Replied m.page (board.serve s e m) (arrive n me seat E (model.request k m.to m.asker m.hops) closed)
  served k k_is =
      let r = board.request_in m in
      let l : r.asker < length e.copies.members = omega (arith, f.asker, f.full) in
      record {
        seat = seat;
        entry = model.serve_entry me E (request_image r);
        mails = model.serve_mail me E (request_image r) ∷ [];
        answer = nothing;
        replied = ap (λ (x : model.Kind). arrive n me seat E (model.request x m.to m.asker m.hops) closed) (sym k_is);
        seat_is = f.is;
        entry_is = entry_served me m.page e r l;
        answer_is = tt;
        posts_are = λ few. ap (λ x. x ∷ []) (mail_served me m.page e r l few.0);
      }

  request : (k : model.Kind) → kind_image (board.asked_kind m.kind) ≡ k → (st : Stage) → s.stage ≡ st → Replied m.page (board.wait_or_serve st s e m) (on (model.request k m.to m.asker m.hops) st)
  request k k_is st q = by (is_on st m.page) refl
    where
      by : (b : Bool) → is_on st m.page ≡ b → Replied m.page (cond b (board.join s e m) (board.serve s e m)) (arrive n me seat E (model.request k m.to m.asker m.hops) (cond b seat.stage closed))
      by true o = joined k (board.request_in m) k_is refl refl st q o
      by false o = served k k_is

  -- The end of an access.
  closing : (fin : Finished) (x : PageEntry) (posted : List Message) (mails : List (model.Mail W)) (answer : Answer W) → Full x → AnswerIs (Some fin) answer → map (on_page m.page) mails ≡ map post_image posted →
      Replied m.page (board.close s m.page x posted fin) (replies (vacant seat) (model.serve_entries me (entry_image x) seat.waiting) (mails ++ model.serve_mails me (entry_image x) seat.waiting) answer)
  closing fin x posted mails answer full is first =
      let w = map request_image s.waiting in
      record {
        seat = vacant seat;
        entry = model.serve_entries me (entry_image x) w;
        mails = mails ++ model.serve_mails me (entry_image x) w;
        answer = answer;
        replied = ap (λ (z : List model.Req). replies (vacant seat) (model.serve_entries me (entry_image x) z) (mails ++ model.serve_mails me (entry_image x) z) answer) f.is.waiting;
        seat_is = record { stage = refl; waiting = refl };
        entry_is = entries_served me m.page s.waiting x full f.askers;
        answer_is = is;
        posts_are = λ few.
            map-append (on_page m.page) mails (model.serve_mails me (entry_image x) w)
            ∙ ap (λ z. z ++ map (on_page m.page) (model.serve_mails me (entry_image x) w)) first
            ∙ ap (λ z. map post_image posted ++ z) (mails_served me m.page s.waiting x full f.askers (all_behind FewHops mails (model.serve_mails me (entry_image x) w) few))
            ∙ sym (map-append post_image posted (posts_for me m.page x s.waiting));
      }

  copied : (load : OpenLoad) → s.stage ≡ LoadAsked load → eqb (page_of load.address) m.page ≡ true → Replied m.page (board.finish_load load s e m) (on (model.copy m.from m.to m.hops m.words) (LoadAsked load))
  copied load q o = let h = stage_at (LoadAsked load) q in rw (o, h.0, h.2) (by load.deferred)
    where
      by : (d : Option ℕ) → Replied m.page
          (board.close s m.page (board.entry_deferred d (board.with_copy e m)) (board.posts_deferred me m.page d) (record { board = me; kind = sort.Load; address = load.address; word = get_or m.words (place_of load.address) 0; hops = m.hops }))
          (finish_load me seat (model.got_copy E m.from m.words) m.hops m.words (deferral_image d))
      by None = closing _ (board.with_copy e m) [] [] (read_at me m.hops m.words) f.full (refl, refl, refl, refl) refl
      by (Some c) = closing _ (board.given_back (board.with_copy e m)) (acknowledgement me m.page c ∷ []) (model.acknowledge me c ∷ []) (read_at me m.hops m.words) f.full (refl, refl, refl, refl) refl

  abbrev finishing : ℕ → model.Entry W → (W → W) → Reply W
  finishing hops z g = replies (vacant seat) (model.serve_entries me z seat.waiting) (model.serve_mails me z seat.waiting) (written_at me hops g)

  finished : (st : OpenStore) (hops : ℕ) (x : PageEntry) → x.hint ≡ me → seat.act ≡ put_word st.address st.word → Replied m.page (board.finish_store st hops s m.page x) (finish me seat hops x.words)
  finished st hops x mine act =
      let stored : model.store_entry me (put_word st.address st.word x.words) ≡ entry_image (board.with_store x st) =
      ap (λ (z : List Bool). record { access = model.write; hint = me; copies = z; words = put_word st.address st.word x.words }) nobody_is
      ∙ ap (λ (z : ℕ). record { access = model.write; hint = z; copies = replicate 16 false; words = put_word st.address st.word x.words }) (sym mine) in
      let r = closing (record { board = me; kind = sort.Store; address = st.address; word = st.word; hops = hops }) (board.with_store x st) [] [] (written_at me hops (put_word st.address st.word)) refl (refl, refl, refl, refl) refl in
      subst (λ (g : W → W). Replied m.page (board.finish_store st hops s m.page x) (finishing hops (model.store_entry me (g x.words)) g)) (sym act)
      (subst (λ z. Replied m.page (board.finish_store st hops s m.page x) (finishing hops z (put_word st.address st.word))) (sym stored) r)

  granted : (store : OpenStore) → s.stage ≡ StoreAsked store → eqb (page_of store.address) m.page ≡ true → Replied m.page (board.take_ownership store s e m) (on (model.grant m.from m.to m.hops m.copies.members m.words) (StoreAsked store))
  granted store q o = let h = stage_at (StoreAsked store) q in rw (o, h.0, empty_is m.copies n (has m.copies.members) (has_is m.copies.members) f.copies) (by (sets.is_empty m.copies))
    where
      by : (b : Bool) → Replied m.page
          (cond b (board.finish_store store m.hops s m.page (board.with_grant me e m)) (board.clear store s (board.with_grant me e m) m))
          (cond b (finish me seat m.hops m.words) (replies (with_awaited seat m.hops (has m.copies.members)) (model.got_grant me m.copies.members m.words) (invalidates n me m.copies.members) nothing))
      by true = finished store m.hops (board.with_grant me e m) refl (stage_at (StoreAsked store) q).2
      by false = let h = stage_at (StoreAsked store) q in record {
        seat = with_awaited seat m.hops (has m.copies.members);
        entry = model.got_grant me m.copies.members m.words;
        mails = invalidates n me m.copies.members;
        answer = nothing;
        replied = refl;
        seat_is = record { stage = (refl, h.1, h.2, has_is m.copies.members); waiting = f.is.waiting };
        entry_is = refl;
        answer_is = tt;
        posts_are = λ _. invalidates_are n me m.page m.copies f.few f.copies;
      }

  -- Invalidations.
  gave_back : Replied m.page (board.give_back s e m) (replies seat (model.drop_entry E) (model.acknowledge me m.from ∷ []) nothing)
  gave_back = record {
    seat = seat;
    entry = model.drop_entry E;
    mails = model.acknowledge me m.from ∷ [];
    answer = nothing;
    replied = refl;
    seat_is = f.is;
    entry_is = refl;
    answer_is = tt;
    posts_are = λ _. refl;
  }

  deferred : (load : OpenLoad) → s.stage ≡ LoadAsked load → Replied m.page (board.defer_or_give_back load s e m) (on (model.invalidate m.from m.to) (LoadAsked load))
  deferred load q = by (eqb (page_of load.address) m.page)
    where
      by : (b : Bool) → Replied m.page (cond b (board.defer load s e m) (board.give_back s e m)) (arrive n me seat E (model.invalidate m.from m.to) (cond b seat.stage closed))
      by false = gave_back
      by true = let h = stage_at (LoadAsked load) q in subst (λ st. Replied m.page (board.defer load s e m) (arrive n me seat E (model.invalidate m.from m.to) st)) (sym h.0) (record {
        seat = with_deferral seat m.from;
        entry = E;
        mails = [];
        answer = nothing;
        replied = refl;
        seat_is = record { stage = (h.0, h.1, refl); waiting = f.is.waiting };
        entry_is = refl;
        answer_is = tt;
        posts_are = λ _. refl;
      })

  back_store : (store : OpenStore) → s.stage ≡ StoreAsked store → (b : Bool) → Replied m.page (board.give_back s e m) (arrive n me seat E (model.invalidate m.from m.to) (cond b seat.stage closed))
  back_store store q true = subst (λ st. Replied m.page (board.give_back s e m) (arrive n me seat E (model.invalidate m.from m.to) st)) (sym (stage_at (StoreAsked store) q).0) gave_back
  back_store store q false = gave_back

  back_clearing : (c : ClearingStore) → s.stage ≡ Clearing c → (b : Bool) → Replied m.page (board.give_back s e m) (arrive n me seat E (model.invalidate m.from m.to) (cond b seat.stage closed))
  back_clearing c q true = subst (λ st. Replied m.page (board.give_back s e m) (arrive n me seat E (model.invalidate m.from m.to) st)) (sym (stage_at (Clearing c) q).0) gave_back
  back_clearing c q false = gave_back

  -- Acknowledgements.
  counted : (c : ClearingStore) → s.stage ≡ Clearing c → eqb (page_of c.store.address) m.page ≡ true → sets.has c.awaited m.from ≡ true → Replied m.page (board.count_acknowledgement c s e m) (on (model.acknowledge m.from m.to) (Clearing c))
  counted c q o w =
      let h = stage_at (Clearing c) q in
      rw (o, h.0, h.3 m.from ∙ w, empty_is (sets.without_member c.awaited m.from) n (changed seat.awaited m.from false) (lacking_is c.awaited m.from seat.awaited h.3) (below_without c.awaited m.from n (f.awaited c q))) (by (sets.is_empty (sets.without_member c.awaited m.from)))
    where
      by : (b : Bool) → Replied m.page
          (cond b (board.finish_store c.store c.hops s m.page e) (board.still (at_stage s (Clearing (record c { awaited = sets.without_member c.awaited m.from }))) e))
          (cond b (finish me seat c.hops e.words) (replies (with_awaited seat c.hops (changed seat.awaited m.from false)) E [] nothing))
      by true = finished c.store c.hops e (f.owner c q (eqb-true (page_of c.store.address) m.page o)) (stage_at (Clearing c) q).2
      by false = let h = stage_at (Clearing c) q in record {
        seat = with_awaited seat c.hops (changed seat.awaited m.from false);
        entry = E;
        mails = [];
        answer = nothing;
        replied = refl;
        seat_is = record { stage = (refl, h.1, h.2, lacking_is c.awaited m.from seat.awaited h.3); waiting = f.is.waiting };
        entry_is = refl;
        answer_is = tt;
        posts_are = λ _. refl;
      }

  -- by stage and kind together
  by_kind : (st : Stage) (k : Kind) → s.stage ≡ st → m.kind ≡ k → expects st k s e m ≡ true → Replied m.page (board.arrives st k s e m) (on (mail_by k m) st)
  by_kind st ReadRequest q k x = request model.load (ap (λ (z : Kind). kind_image (board.asked_kind z)) k) st q
  by_kind st WriteRequest q k x = request model.store (ap (λ (z : Kind). kind_image (board.asked_kind z)) k) st q
  by_kind Idle Copy q k x = absurd (true≢false (sym x))
  by_kind (LoadAsked load) Copy q k x = copied load q x
  by_kind (StoreAsked store) Copy q k x = absurd (true≢false (sym x))
  by_kind (Clearing c) Copy q k x = absurd (true≢false (sym x))
  by_kind Idle Grant q k x = absurd (true≢false (sym x))
  by_kind (LoadAsked load) Grant q k x = absurd (true≢false (sym x))
  by_kind (StoreAsked store) Grant q k x = granted store q x
  by_kind (Clearing c) Grant q k x = absurd (true≢false (sym x))
  by_kind Idle Invalidate q k x = gave_back
  by_kind (LoadAsked load) Invalidate q k x = deferred load q
  by_kind (StoreAsked store) Invalidate q k x = back_store store q (is_on (StoreAsked store) m.page)
  by_kind (Clearing c) Invalidate q k x = back_clearing c q (is_on (Clearing c) m.page)
  by_kind Idle Acknowledgement q k x = absurd (true≢false (sym x))
  by_kind (LoadAsked load) Acknowledgement q k x = absurd (true≢false (sym x))
  by_kind (StoreAsked store) Acknowledgement q k x = absurd (true≢false (sym x))
  by_kind (Clearing c) Acknowledgement q k x = let p = and_parts (eqb (page_of c.store.address) m.page) (sets.has c.awaited m.from) x in counted c q p.0 p.1

  pub replied : Replied m.page (board.arrive s e m) (arrive n me seat E (mail_image m) (open_on seat m.page))
  replied = rw (on_is m.page s.stage seat f.is.stage) (by_kind s.stage m.kind refl refl f.expected)
