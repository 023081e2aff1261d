-- Every history of a kit is one memory, and that of a willing kit; nothing that it posts is refused.
use Rattle.std.proofs.Common.{◌≡◌, ℕ, zero, suc, ◌+◌, ◌-◌, ◌*◌, ◌<◌, ◌≤◌, nat_lt, nat_le, Bool, true, false, not, ◌&&◌, ◌⊎◌, List, [], ◌∷◌, Some, None, Ok, Err, Option, Result, refl, ap, ◌∙◌, sym, subst, inl, inr, arith}
use native.Mathlib.Nat.{mul-le-mul_left}
use Rattle.std.proofs.lemmas.Bool.{le-leb, lt-ltb, ltb-true, ltb-false}
use Rattle.wire.specs.Bags.{Bag, ◌&◌, size, ◌⊕◌}
use Rattle.wire.specs.Questions.{first_no, refusal}
use Rattle.wire.proofs.Questions.{yes, passed_before}
use Rattle.wire.specs.declared.fault.Fault.{Fault}
use Rattle.wire.specs.declared.message.Message.{Message}
use Rattle.records.specs.Forms.{message_questions}
use Rattle.board.specs.Stages.{is_idle}
use Rattle.board.specs.declared.stage.Stage.{Stage}
use Rattle.board.specs.declared.stage.Stage.TheVariants.{Idle, LoadAsked, StoreAsked, Clearing}
use Rattle.board.specs.declared.answer.AccessAnswer.{AccessAnswer}
use Rattle.lone.specs.Calls.{Outcome, load_at, store_at, arrive_at}
use Rattle.lone.specs.LoneQuestions as lone
use Rattle.lone.specs.Sizes.{has_address}
use Rattle.memory.specs.Calls.{Running, room, access_questions, arrival_questions, Answers, without, DoesCall}
use Rattle.memory.specs.Histories.{Access, load, store, IsDelivery}
use Rattle.memory.specs.Kits.{board_at, state_at, with_board}
use Rattle.memory.specs.Ledgers.{Ledger, is_open, open_accesses, passed_on}
use Rattle.memory.specs.OneMemory.{NothingOpen, AnswerIsRight}
use Rattle.memory.specs.Placements.{array}
use Rattle.memory.specs.declared.placement.Placement.{Placement}
use Rattle.memory.specs.Promises.{IsOneMemory, IsWilling, NeverRefuses}
use Rattle.memory.specs.Reached.{MayBegin, begun}
use Rattle.memory.specs.Willing.{QuietWhereNothingWaits, PostsNothing, questions, questions_of}
use Rattle.memory.specs.declared.answer.Answer.{Answer}
use Rattle.memory.specs.declared.answer.Answer.TheVariants.{Accessed, Arrived, Quiet}
use Rattle.memory.specs.declared.call.Call.{Call}
use Rattle.memory.specs.declared.call.Call.TheVariants.{Load, Store, Deliver}
use Rattle.memory.proofs.Carried.{Carries, carried, one_memory_of, willing_of}
use Rattle.memory.proofs.images.Accepts.{it, is_expected}
use Rattle.memory.proofs.images.Arriving.{arrives, quiet}
use Rattle.memory.proofs.images.Bags.{size_map}
use Rattle.memory.proofs.images.Deliveries.{to_few, belongs}
use Rattle.memory.proofs.images.Finishes.{op_image, op_is}
use Rattle.memory.proofs.images.Follows.{Follows, GoesOn, still, still_follows, entered_by}
use Rattle.memory.proofs.images.Images.{post_image}
use Rattle.memory.proofs.images.Ledgers.{counted}
use Rattle.memory.proofs.images.Loads as loads
use Rattle.memory.proofs.images.OpenAccesses.{pending_of}
use Rattle.memory.proofs.images.Starting.{starts}
use Rattle.memory.proofs.images.Stores as stores
use Rattle.memory.proofs.kept.WorkLeft.{left_bound, none_left}
use Rattle.memory.proofs.kept.FewWait.{link_bound}
use Rattle.memory.proofs.kept.EqualMessages.{same_law}
use Rattle.memory.proofs.model.Ledgers as ledgers
use Rattle.memory.proofs.model.Kit as kit
use Rattle.memory.proofs.model.Sums.{sum_to, bit}

-- where something is open in the model, it is so in the ledger
open_is : (o : Option Access) → ledgers.is_open (op_image o) ≡ is_open o
open_is None = refl
open_is (Some (load address)) = refl
open_is (Some (store address word)) = refl

none_is : (o : Option Access) → op_image o ≡ kit.absent → o ≡ None
none_is None h = refl
none_is (Some (load address)) h = let y : ◌≡◌ {A = ℕ} 0 1 = cc in absurd (omega arith)
none_is (Some (store address word)) h = let y : ◌≡◌ {A = ℕ} 0 1 = cc in absurd (omega arith)

idle_is : (st : Stage) → is_idle st ≡ not (is_open (pending_of st))
idle_is Idle = refl
idle_is (LoadAsked a) = refl
idle_is (StoreAsked a) = refl
idle_is (Clearing c) = refl

module _ {n p : ℕ} {l : Ledger} {s : Running} {w : ℕ} (f : Follows n p l s w) where
  -- What waits is little, so that there is room.
  few_wait : size s.waiting ≤ n * (n - 1)
  few_wait = omega (arith, link_bound same_law f.kept, ap size f.matches.link, size_map post_image s.waiting)

  has_room : (waiting : Bag Message) → size waiting ≤ size s.waiting → first_no (room (record { kit = s.kit; limit = s.limit; waiting = waiting })) ≡ None
  has_room waiting few =
      let squared = mul-le-mul_left n (let le : n - 1 ≤ n = omega arith in le) in
      let wide : nat_le (size waiting + 16) s.limit ≡ true = le-leb (size waiting + 16) s.limit (omega (arith, few, few_wait, squared, f.room)) in
      rw wide refl

  room_here : first_no (room s) ≡ None
  room_here = has_room s.waiting (omega arith)

  accepted : (m : Message) (rest : Bag Message) → s.waiting ≡ m & rest → first_no (arrival_questions (without s rest) m) ≡ None
  accepted m rest waited =
      let receiver = board_at s.kit m.to in
      let t = to_few f.kept f.matches m rest waited in
      let fit = it f.kept f.matches m rest waited in
      let there : nat_lt m.to s.kit.boards ≡ true = lt-ltb m.to s.kit.boards (omega (arith, t, f.matches.sized.boards)) in
      let count = ap size waited in
      passed_before (message_questions m) ((15, nat_lt m.to s.kit.boards && lone.belongs receiver m) ∷ (16, lone.expects receiver m) ∷ room (without s rest)) fit.form
      ∙ rw (there, belongs f.kept f.matches m rest waited, is_expected f.kept f.matches m rest waited) (has_room rest (omega (arith, count)))

  -- Questions of a load or a store: those of the history.
  same_open : (b address : ℕ) → b < n → first_no ((3, is_idle (state_at s.kit b).stage) ∷ room s) ≡ first_no ((3, not (is_open (l.pending b))) ∷ [])
  same_open b address lt = by (is_idle (state_at s.kit b).stage) refl
    where
      same : is_idle (state_at s.kit b).stage ≡ not (is_open (l.pending b))
      same = idle_is (state_at s.kit b).stage ∙ ap (λ o. not (is_open o)) (sym (f.agrees.pending b lt))

      by : (x : Bool) → is_idle (state_at s.kit b).stage ≡ x → first_no ((3, is_idle (state_at s.kit b).stage) ∷ room s) ≡ first_no ((3, not (is_open (l.pending b))) ∷ [])
      by true q = rw (q, sym same ∙ q) room_here
      by false q = rw (q, sym same ∙ q) refl

  asked_same : (b address : ℕ) → first_no (access_questions s b address) ≡ first_no (questions_of n p l b address)
  asked_same b address = rw (f.matches.sized.boards, f.matches.sized.pages) (by (nat_lt b n) refl)
    where
      in_range : (x : Bool) → b < n → first_no ((2, x) ∷ (3, is_idle (state_at s.kit b).stage) ∷ room s) ≡ first_no ((2, x) ∷ (3, not (is_open (l.pending b))) ∷ [])
      in_range true lt = same_open b address lt
      in_range false lt = refl

      by : (x : Bool) → nat_lt b n ≡ x →
          first_no ((1, nat_lt b n) ∷ (2, has_address p address) ∷ (3, is_idle (state_at s.kit b).stage) ∷ room s) ≡ first_no ((1, nat_lt b n) ∷ (2, has_address p address) ∷ (3, not (is_open (l.pending b))) ∷ [])
      by true q = rw q (in_range (has_address p address) (ltb-true b n q))
      by false q = rw q refl

  -- What an event leaves, and what is asked.
  pub record Fine (call : Call) (answer : Result Answer Fault) (posted : List Message) (t : Running) : Type 0 where
    pub goes_on : GoesOn n p l w call answer posted t
    pub asked : refusal answer ≡ first_no (questions n p l call)
    pub quiet_there : QuietWhereNothingWaits l answer
    pub posts : PostsNothing answer posted

  -- a refused load or store
  stays : (call : Call) (fault : Fault) → still l ≡ entered_by l call (Err fault) [] → AnswerIsRight l (entered_by l call (Err fault) []) call (Err fault) → (IsDelivery call → ⊥) → GoesOn n p l w call (Err fault) [] s
  stays call fault same right no_delivery = record { work_left = w; follows = subst (λ x. Follows n p x s w) same (still_follows f); right = right; works = λ d. absurd (no_delivery d) }

  -- who is not refused may open an access
  record May (b address : ℕ) : Type 0 where
    pub in_board : b < n
    pub ok : first_no (lone.access_questions (board_at s.kit b) address) ≡ None

  may : (b address : ℕ) → None ≡ first_no (access_questions s b address) → May b address
  may b address h =
      let it = board_at s.kit b in
      let two = (2, has_address it.pages address) ∷ (3, is_idle it.state.stage) ∷ room s in
      let one = yes 1 (nat_lt b s.kit.boards) two (sym h) in
      let a = yes 2 (has_address it.pages address) ((3, is_idle it.state.stage) ∷ room s) one.1 in
      let c = yes 3 (is_idle it.state.stage) (room s) a.1 in
      record {
        in_board = (let lt = ltb-true b s.kit.boards one.0 in omega (arith, lt, f.matches.sized.boards));
        ok = rw (a.0, c.0) refl;
      }

  not_refused : (fault : Fault) → refusal {T = Answer} (Err fault) ≡ None → ⊥
  not_refused fault h = let y : ◌≡◌ {A = ℕ} 0 1 = cc in omega arith

  -- a load or a store, refused or not
  access_fine : (call : Call) (b address : ℕ) (o : Outcome AccessAnswer) → questions n p l call ≡ questions_of n p l b address →
      (May b address → GoesOn n p l w call (Ok (Accessed o.answer)) o.posts (record { kit = with_board s.kit b o.board; limit = s.limit; waiting = o.posts ⊕ s.waiting })) →
      ((fault : Fault) → GoesOn n p l w call (Err fault) [] s) →
      (answer : Result Answer Fault) (posted : List Message) (t : Running) → Answers (access_questions s b address) Accessed b o s answer posted t → Fine call answer posted t
  access_fine call b address o same goes stays (Ok a) posted t d =
      subst (λ x. Fine call (Ok x) posted t) (sym d.1.0)
      (subst (λ x. Fine call (Ok (Accessed o.answer)) x t) (sym d.1.1)
      (subst (λ x. Fine call (Ok (Accessed o.answer)) o.posts x) (sym d.1.2)
      (record { goes_on = goes (may b address d.0); asked = d.0 ∙ asked_same b address ∙ ap first_no (sym same); quiet_there = tt; posts = tt })))
  access_fine call b address o same goes stays (Err fault) posted t d =
      subst (λ x. Fine call (Err fault) x t) (sym d.1.0)
      (subst (λ x. Fine call (Err fault) [] x) (sym d.1.1) (record { goes_on = stays fault; asked = d.0 ∙ asked_same b address ∙ ap first_no (sym same); quiet_there = tt; posts = refl }))

  arrival_fine : (pick : ℕ) (m : Message) (rest : Bag Message) → s.waiting ≡ m & rest → (answer : Result Answer Fault) (posted : List Message) (t : Running) →
      Answers (arrival_questions (without s rest) m) Arrived m.to (arrive_at (board_at s.kit m.to) m) (without s rest) answer posted t → Fine (Deliver pick) answer posted t
  arrival_fine pick m rest waited (Ok a) posted t d =
      let o = arrive_at (board_at s.kit m.to) m in
      subst (λ x. Fine (Deliver pick) (Ok x) posted t) (sym d.1.0)
      (subst (λ x. Fine (Deliver pick) (Ok (Arrived o.answer)) x t) (sym d.1.1)
      (subst (λ x. Fine (Deliver pick) (Ok (Arrived o.answer)) o.posts x) (sym d.1.2)
      (record { goes_on = arrives f pick m rest waited; asked = refl; quiet_there = (let c = ap size waited in omega (arith, c, f.agrees.waiting)); posts = tt })))
  arrival_fine pick m rest waited (Err fault) posted t d = absurd (not_refused fault (d.0 ∙ accepted m rest waited))

  deliveries_fine : (pick : ℕ) (answer : Result Answer Fault) (posted : List Message) (t : Running) → DoesCall (Deliver pick) s answer posted t → Fine (Deliver pick) answer posted t
  deliveries_fine pick answer posted t (inl q) =
      subst (λ x. Fine (Deliver pick) x posted t) (sym q.1)
      (subst (λ x. Fine (Deliver pick) (Ok Quiet) x t) (sym q.2)
      (subst (λ x. Fine (Deliver pick) (Ok Quiet) [] x) (sym q.3)
      (record { goes_on = quiet f pick q.0; asked = refl; quiet_there = f.agrees.waiting ∙ ap size q.0; posts = refl })))
  deliveries_fine pick answer posted t (inr d) = arrival_fine pick d.message d.rest d.waited answer posted t d.arrives

  pub fine : (call : Call) (answer : Result Answer Fault) (posted : List Message) (t : Running) → DoesCall call s answer posted t → Fine call answer posted t
  fine (Load b address) answer posted t d =
      access_fine (Load b address) b address (load_at (board_at s.kit b) address) refl (λ m. loads.goes_on f b address m.in_board m.ok) (λ fault. stays (Load b address) fault refl tt (λ d. d)) answer posted t d
  fine (Store b address word) answer posted t d =
      access_fine (Store b address word) b address (store_at (board_at s.kit b) address word) refl (λ m. stores.goes_on f b address word m.in_board m.ok) (λ fault. stays (Store b address word) fault refl tt (λ d. d)) answer posted t d
  fine (Deliver pick) answer posted t d = deliveries_fine pick answer posted t d

  -- The work that is left.
  counts_open : (m : ℕ) → m ≤ n → sum_to m (λ x. bit (ledgers.is_open (f.told.opens x))) ≡ open_accesses m l
  counts_open zero le = refl
  counts_open (suc m) le =
      let same : ledgers.is_open (f.told.opens m) ≡ is_open (l.pending m) = open_in_model m (omega (arith, le)) in
      omega (arith, ap bit same, counts_open m (omega (arith, le)))
    where
      open_in_model : (x : ℕ) → x < n → ledgers.is_open (f.told.opens x) ≡ is_open (l.pending x)
      open_in_model x lt =
          ap ledgers.is_open (f.kept.opens x ∙ op_is (state_at s.kit x).stage (f.machine.board x).seat (f.matches.boards.seats x lt).stage) ∙ open_is (pending_of (state_at s.kit x).stage) ∙ ap is_open (sym (f.agrees.pending x lt))

  bounded : w ≤ (3 * n - 4) * open_accesses n l
  bounded =
      let same : (3 * n - 4) * ledgers.opens_count n f.told ≡ (3 * n - 4) * open_accesses n l = ap (λ x. (3 * n - 4) * x) (counts_open n (omega arith)) in
      omega (arith, f.left, left_bound f.kept, same)

  rests : w ≡ 0 → NothingOpen l
  rests z b = elim (below_or_not (nat_lt b n) refl) [
    | inl lt ↦ f.agrees.pending b lt ∙ none_is (pending_of (state_at s.kit b).stage)
        (sym (f.kept.opens b ∙ op_is (state_at s.kit b).stage (f.machine.board b).seat (f.matches.boards.seats b lt).stage) ∙ none_left f.kept (sym f.left ∙ z) b)
    | inr le ↦ f.agrees.none_else b le
  ]
    where
      below_or_not : (x : Bool) → nat_lt b n ≡ x → (b < n) ⊎ (n ≤ b)
      below_or_not true q = inl (ltb-true b n q)
      below_or_not false q = inr (ltb-false b n q)

  few_passes : (board : ℕ) → passed_on l board ≤ n - 2
  few_passes board = omega (arith, counted n s.kit board (l.requests board) (f.told.passed board) (f.agrees.counts board), f.kept.bound board)

-- so each event is right and willing, and takes from the work
module _ (n p limit : ℕ) (placements : List Placement) (b : MayBegin n p limit placements) where
  pub carries : Carries n p (n - 2) (3 * n - 4) (array placements) (begun n p limit placements) (Follows n p)
  carries = record {
    begins = starts n p placements b.in_range b.boards b.pages b.some_boards limit b.room;
    right = λ l s t w e f d. let g = (fine f e.call e.answer e.posted t d).goes_on in record { answer = g.right; passes = few_passes g.follows };
    serves = λ l s t w e f d. let x = fine f e.call e.answer e.posted t d in record { asked = x.asked; quiet = x.quiet_there; posts = x.posts };
    goes_on = λ l s t w e f d. let g = (fine f e.call e.answer e.posted t d).goes_on in (g.work_left, g.follows, g.works);
    bounded = λ l s w f. bounded f;
    rests = λ l s f. rests f refl;
  }

pub is_one_memory : IsOneMemory
is_one_memory n p limit placements b h s r = one_memory_of (carries n p limit placements b) r

pub is_willing : IsWilling
is_willing n p limit placements b h s r = willing_of (carries n p limit placements b) r

pub never_refuses : NeverRefuses
never_refuses n p limit placements b h s r =
    let f = (carried (carries n p limit placements b) r).1 in
    record { few_wait = few_wait f; posts = room_here f; arrivals = accepted f }
