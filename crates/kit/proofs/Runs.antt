-- What a call does goes on every history that led to the kit.
use Rattle.std.proofs.Common.{◌≡◌, ℕ, ◌+◌, List, [], ◌∷◌, ◌++◌, Some, None, Ok, Err, Option, Result, refl, ap, ◌∙◌, sym, subst, inl, inr, arith}
use Rattle.wire.specs.Bags.{Bag, empty}
use Rattle.wire.specs.Links.{Sent, InTurn, Taken}
use Rattle.wire.specs.Questions.{first_no, refusal}
use Rattle.wire.specs.declared.fault.Fault.{Fault}
use Rattle.wire.specs.declared.message.Message.{Message}
use Rattle.board.specs.declared.answer.AccessAnswer.{AccessAnswer}
use Rattle.board.specs.declared.answer.AccessAnswer.TheVariants.{Answered, Opened}
use Rattle.board.specs.declared.answer.Arrival.{Arrival}
use Rattle.lone.specs.Calls.{Outcome, load_at, store_at, arrive_at}
use Rattle.memory.specs.Calls.{Answers, Delivers, DoesCall, access_questions, arrival_questions, without}
use Rattle.memory.specs.Histories.{History, Event}
use Rattle.memory.specs.Kits.{board_at}
use Rattle.memory.specs.Placements.{after_placing}
use Rattle.memory.specs.declared.placement.Placement.{Placement}
use Rattle.memory.specs.Reached.{MayBegin, begun, Reached, started, onward}
use Rattle.memory.specs.declared.answer.Answer.{Answer}
use Rattle.memory.specs.declared.answer.Answer.TheVariants.{Accessed, Arrived, Quiet}
use Rattle.memory.specs.declared.call.Call.TheVariants.{Load, Store, Deliver}
use Rattle.memory.proofs.OneMemory.{is_one_memory, is_willing, never_refuses}
use Rattle.kit.specs.Clusters.{kit_of, over}
use Rattle.kit.specs.KitAnswers.{accessed, delivered}
use Rattle.kit.specs.OpenedCount.{opened_by, openings, counted, opened_after}
use Rattle.kit.specs.Runs.{running_of, LeadsTo, Kept, GoesOn}
use Rattle.kit.specs.Steps.{Steps}
use Rattle.kit.specs.declared.running.Running.{Running}

openings_after : (h : History) (e : Event) → openings (h ++ e ∷ []) ≡ openings h + opened_by e.answer
openings_after [] e = omega arith
openings_after (x ∷ h) e = let again = openings_after h e in omega (arith, again)

counted_on : (n : ℕ) (answer : Result Answer Fault) → opened_after (counted n) answer ≡ counted (n + opened_by answer)
counted_on n (Ok (Accessed (Answered word))) = omega arith
counted_on n (Ok (Accessed Opened)) = omega arith
counted_on n (Ok (Arrived arrival)) = omega arith
counted_on n (Ok Quiet) = omega arith
counted_on n (Err fault) = omega arith

not_quiet : (answer : Arrival) → ◌≡◌ {A = Result Answer Fault} (Ok (Arrived answer)) (Ok Quiet) → ⊥
not_quiet answer e = cc

no_answer : (fault : Fault) → ◌≡◌ {A = Result Answer Fault} (Err fault) (Ok Quiet) → ⊥
no_answer fault e = cc

module _ {L : Type 0} (limit : L → ℕ) (waiting : L → Bag Message) where
  -- what a history leads to is kept
  pub kept_of : (n p first_limit : ℕ) (placements : List Placement) → MayBegin n p first_limit placements → (history : History) (r : Running L) → LeadsTo limit waiting n p first_limit placements history r →
      Kept limit waiting n p first_limit placements history r
  kept_of n p first_limit placements begins history r leads = record {
    leads = leads;
    one_memory = is_one_memory n p first_limit placements begins history (running_of limit waiting r) leads.reached;
    willing = is_willing n p first_limit placements begins history (running_of limit waiting r) leads.reached;
    not_refused = never_refuses n p first_limit placements begins history (running_of limit waiting r) leads.reached;
  }

  pub keeps : (e : Event) (r t : Running L) → DoesCall e.call (running_of limit waiting r) e.answer e.posted (running_of limit waiting t) → t.opened ≡ opened_after r.opened e.answer →
      (n p first_limit : ℕ) (placements : List Placement) → MayBegin n p first_limit placements → (history : History) → LeadsTo limit waiting n p first_limit placements history r →
      Kept limit waiting n p first_limit placements (history ++ e ∷ []) t
  keeps e r t does opened n p first_limit placements begins history leads = kept_of n p first_limit placements begins (history ++ e ∷ []) t (record {
    reached = onward e leads.reached does;
    opened = opened ∙ ap (λ x. opened_after x e.answer) leads.opened ∙ counted_on (openings history) e.answer ∙ ap counted (sym (openings_after history e));
  })

  -- a load or a store that is not refused
  access_answers : (board address : ℕ) (o : Outcome AccessAnswer) (r t : Running L) (posts : List Message) (answer : AccessAnswer) →
      first_no (access_questions (running_of limit waiting r) board address) ≡ None → Steps board o (kit_of r.cluster) (kit_of t.cluster) posts answer → Sent limit waiting posts r.link t.link →
      Answers (access_questions (running_of limit waiting r) board address) Accessed board o (running_of limit waiting r) (Ok (Accessed answer)) o.posts (running_of limit waiting t)
  access_answers board address o r t posts answer passed steps sent = (sym passed, (ap Accessed steps.answered, refl, rw (steps.kit, sent.0, sent.1, steps.posted) refl))

  -- one that is refused
  access_refused : (board address : ℕ) (o : Outcome AccessAnswer) (r t : Running L) (fault : Fault) → refusal {T = Answer} (Err fault) ≡ first_no (access_questions (running_of limit waiting r) board address) →
      running_of limit waiting t ≡ running_of limit waiting r → Answers (access_questions (running_of limit waiting r) board address) Accessed board o (running_of limit waiting r) (Err fault) [] (running_of limit waiting t)
  access_refused board address o r t fault asked same = (asked, (refl, same))

  module _ (joins : L → Message → Result (Unit {0}) Fault → L → Type 0) (chooses : L → ℕ → Option Message → L → Type 0) where
    pub loaded : (board address : ℕ) (r t : Running L) (posts : List Message) (answer : AccessAnswer) →
        first_no (access_questions (running_of limit waiting r) board address) ≡ None → Steps board (load_at (board_at (kit_of r.cluster) board) address) (kit_of r.cluster) (kit_of t.cluster) posts answer →
        Sent limit waiting posts r.link t.link → InTurn joins posts r.link t.link → t.opened ≡ opened_after r.opened (Ok (Accessed answer)) →
        GoesOn limit waiting joins chooses (Load board address) (Ok (Accessed answer)) r t
    loaded board address r t posts answer passed steps sent in_turn opened =
        let o = load_at (board_at (kit_of r.cluster) board) address in
        let does = access_answers board address o r t posts answer passed steps sent in
        record { posted = o.posts; does = does; link = subst (λ x. InTurn joins x r.link t.link) steps.posted in_turn; opened = opened; unchanged = tt; kept = keeps (record { call = Load board address; answer = Ok (Accessed answer); posted = o.posts }) r t does opened }

    pub stored : (board address word : ℕ) (r t : Running L) (posts : List Message) (answer : AccessAnswer) →
        first_no (access_questions (running_of limit waiting r) board address) ≡ None → Steps board (store_at (board_at (kit_of r.cluster) board) address word) (kit_of r.cluster) (kit_of t.cluster) posts answer →
        Sent limit waiting posts r.link t.link → InTurn joins posts r.link t.link → t.opened ≡ opened_after r.opened (Ok (Accessed answer)) →
        GoesOn limit waiting joins chooses (Store board address word) (Ok (Accessed answer)) r t
    stored board address word r t posts answer passed steps sent in_turn opened =
        let o = store_at (board_at (kit_of r.cluster) board) address word in
        let does = access_answers board address o r t posts answer passed steps sent in
        record { posted = o.posts; does = does; link = subst (λ x. InTurn joins x r.link t.link) steps.posted in_turn; opened = opened; unchanged = tt; kept = keeps (record { call = Store board address word; answer = Ok (Accessed answer); posted = o.posts }) r t does opened }

    -- the fault of a refused access rises
    module _ (board address : ℕ) (asked : Result (Unit {0}) Fault) (answer : Result AccessAnswer Fault) (fault : Fault) (r t : Running L)
        (asks : refusal asked ≡ first_no (access_questions (running_of limit waiting r) board address)) (was : asked ≡ Err fault) (rises : answer ≡ Err fault)
        (same : t ≡ r) where
      refused_asks : refusal {T = Answer} (Err fault) ≡ first_no (access_questions (running_of limit waiting r) board address)
      refused_asks = subst (λ x. refusal x ≡ first_no (access_questions (running_of limit waiting r) board address)) was asks

      pub not_loaded : GoesOn limit waiting joins chooses (Load board address) (accessed answer) r t
      not_loaded =
          let does = access_refused board address (load_at (board_at (kit_of r.cluster) board) address) r t fault refused_asks (ap (running_of limit waiting) same) in
          let opened = ap (λ x. x.opened) same in
          subst (λ x. GoesOn limit waiting joins chooses (Load board address) (accessed x) r t) (sym rises)
          (record { posted = []; does = does; link = ap (λ x. x.link) same; opened = opened; unchanged = same; kept = keeps (record { call = Load board address; answer = Err fault; posted = [] }) r t does opened })

      pub not_stored : (word : ℕ) → GoesOn limit waiting joins chooses (Store board address word) (accessed answer) r t
      not_stored word =
          let does = access_refused board address (store_at (board_at (kit_of r.cluster) board) address word) r t fault refused_asks (ap (running_of limit waiting) same) in
          let opened = ap (λ x. x.opened) same in
          subst (λ x. GoesOn limit waiting joins chooses (Store board address word) (accessed x) r t) (sym rises)
          (record { posted = []; does = does; link = ap (λ x. x.link) same; opened = opened; unchanged = same; kept = keeps (record { call = Store board address word; answer = Err fault; posted = [] }) r t does opened })

    -- A delivery takes the message m, and leaves the link u.
    module _ (pick : ℕ) (r t : Running L) (m : Message) (u : L) (taken : Taken limit waiting r.link (Some m) u) (chosen : chooses r.link pick (Some m) u) (opened : t.opened ≡ r.opened) where
      -- the kit without the message
      there : without (running_of limit waiting r) (waiting u) ≡ over (kit_of r.cluster) (limit u) (waiting u)
      there = rw taken.1 refl

      delivers : (answer : Result Answer Fault) (posts : List Message) →
          Answers (arrival_questions (over (kit_of r.cluster) (limit u) (waiting u)) m) Arrived m.to (arrive_at (board_at (kit_of r.cluster) m.to) m) (over (kit_of r.cluster) (limit u) (waiting u)) answer posts (running_of limit waiting t) →
          Delivers (running_of limit waiting r) answer posts (running_of limit waiting t)
      delivers answer posts arrives = record {
        message = m;
        rest = waiting u;
        waited = taken.0.0;
        arrives = subst (λ s. Answers (arrival_questions s m) Arrived m.to (arrive_at (board_at (kit_of r.cluster) m.to) m) s answer posts (running_of limit waiting t)) (sym there) arrives;
      }

      pub arrived : (posts : List Message) (answer : Arrival) → first_no (arrival_questions (over (kit_of r.cluster) (limit u) (waiting u)) m) ≡ None →
          Steps m.to (arrive_at (board_at (kit_of r.cluster) m.to) m) (kit_of r.cluster) (kit_of t.cluster) posts answer → Sent limit waiting posts u t.link → InTurn joins posts u t.link →
          GoesOn limit waiting joins chooses (Deliver pick) (Ok (Arrived answer)) r t
      unfolding delivers
      arrived posts answer passed steps sent in_turn =
          let o = arrive_at (board_at (kit_of r.cluster) m.to) m in
          let does = inr (delivers (Ok (Arrived answer)) o.posts (sym passed, (ap Arrived steps.answered, refl, rw (steps.kit, sent.0, sent.1, steps.posted) refl))) in
          record {
            posted = o.posts;
            does = does;
            link = (u, chosen, subst (λ x. InTurn joins x u t.link) steps.posted in_turn);
            opened = opened;
            unchanged = λ e. absurd (not_quiet answer e);
            kept = keeps (record { call = Deliver pick; answer = Ok (Arrived answer); posted = o.posts }) r t does opened;
          }

      -- the fault of a refused arrival rises
      pub not_arrived : (asked : Result (Unit {0}) Fault) (answer : Result (Option Arrival) Fault) (fault : Fault) →
          refusal asked ≡ first_no (arrival_questions (over (kit_of r.cluster) (limit u) (waiting u)) m) → asked ≡ Err fault → answer ≡ Err fault → kit_of t.cluster ≡ kit_of r.cluster → t.link ≡ u →
          GoesOn limit waiting joins chooses (Deliver pick) (delivered answer) r t
      unfolding delivers
      not_arrived asked answer fault asks was rises kit link =
          let asked_so = subst (λ x. refusal x ≡ first_no (arrival_questions (over (kit_of r.cluster) (limit u) (waiting u)) m)) was asks in
          let does = inr (delivers (Err fault) [] (asked_so, (refl, rw (kit, link) refl))) in
          subst (λ x. GoesOn limit waiting joins chooses (Deliver pick) (delivered x) r t) (sym rises)
          (record { posted = []; does = does; link = (u, chosen, link); opened = opened; unchanged = λ e. absurd (no_answer fault e); kept = keeps (record { call = Deliver pick; answer = Err fault; posted = [] }) r t does opened })

    -- nothing waits
    pub quiet : (pick : ℕ) (r t : Running L) → Taken limit waiting r.link None t.link →
        chooses r.link pick None t.link → kit_of t.cluster ≡ kit_of r.cluster →
        t.opened ≡ r.opened → (t.link ≡ r.link → t ≡ r) →
        GoesOn limit waiting joins chooses (Deliver pick) (Ok Quiet) r t
    quiet pick r t taken chosen kit opened whole =
        let same : running_of limit waiting t ≡ running_of limit waiting r =
        rw (kit, taken.0.0, taken.1.0, taken.2) refl in
        let does = inl (taken.0.0, refl, refl, same) in
        record {
          posted = [];
          does = does;
          link = chosen;
          opened = opened;
          unchanged = λ e. record { running = same; opened = opened; whole = whole };
          kept = keeps (record { call = Deliver pick; answer = Ok Quiet; posted = [] }) r t does opened;
        }

  -- a kit just started
  pub begins : (n p first_limit : ℕ) (placements : List Placement) (r : Running L) → kit_of r.cluster ≡ after_placing n p placements → limit r.link ≡ first_limit → waiting r.link ≡ empty → r.opened ≡ 0 →
      LeadsTo limit waiting n p first_limit placements [] r
  begins n p first_limit placements r kit same_limit none opened =
      let same : running_of limit waiting r ≡ begun n p first_limit placements = rw (kit, same_limit, none) refl in
      record { reached = subst (λ s. Reached (begun n p first_limit placements) [] s) (sym same) started; opened = opened }
