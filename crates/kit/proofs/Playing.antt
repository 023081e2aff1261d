-- Words placed one after another, calls carried out one upon the other, and what a kit that does both promises.
use Rattle.std.proofs.Common.{◌≡◌, ℕ, ◌+◌, ◌<◌, Bool, true, false, List, [], ◌∷◌, ◌++◌, map, Some, None, IsSomeAnd}
use Rattle.std.proofs.Common.{Ok, Err, Option, Result, length, take, drop, reverse, get_or, set, refl, ap, ◌∙◌, sym}
use Rattle.std.proofs.Common.{subst, arith}
use Rattle.std.proofs.lemmas.Bool.Decides.{nat_tests}
use Rattle.std.proofs.lemmas.Grind.{flat_map-append, reverse_onto, drop_more_same}
use Rattle.std.proofs.lemmas.List.{append_assoc, append-nil, map-append, reverse-append, take_more, take_more_set}
use Rattle.std.proofs.lemmas.List.{take-append-drop, get_or-drop, drop-set-lt}
use Rattle.wire.specs.Bags.{Bag, size}
use Rattle.wire.specs.Faults.{number}
use Rattle.wire.specs.Questions.{first_no, refusal, inside}
use Rattle.wire.specs.declared.fault.Fault.{Fault}
use Rattle.wire.specs.declared.message.Message.{Message}
use Rattle.wire.proofs.Questions.{yes, refused_before, passed_before}
use Rattle.lone.specs.Sizes.{has_address}
use Rattle.memory.specs.Histories.{History}
use Rattle.memory.specs.Kits.{Kit, start_kit}
use Rattle.memory.specs.Placements.{InRange, placed, after_placing}
use Rattle.memory.specs.Reached.{MayBegin}
use Rattle.memory.specs.declared.answer.Answer.{Answer}
use Rattle.memory.specs.declared.call.Call.{Call}
use Rattle.memory.specs.declared.placement.Placement.{Placement}
use Rattle.kit.proofs.Beginnings.{made_may}
use Rattle.kit.specs.KitQuestions.{making_questions, place_questions}
use Rattle.kit.specs.Plays.{placing_questions, setup_questions, calls_of, answers_in, Started, CarriedOut}
use Rattle.kit.specs.Plays.{nothing_yet, one_more, PlayedFrom, Plays, AnsweredFrom, PlaysTurns}
use Rattle.kit.specs.Runs.{LeadsTo, GoesOn}
use Rattle.kit.specs.declared.play.Turn.{Turn}
use Rattle.kit.specs.declared.running.Running.{Running}
use Rattle.kit.proofs.Empty.{nothing_in}
use Rattle.kit.proofs.Runs.{begins, kept_of}

-- the word at place i comes after those before it
module _ (words : List Placement) (i : ℕ) (none : Placement) (lt : i < length words) where
  one_more_asked : (p : ℕ) → placing_questions p (take (i + 1) words) ≡ placing_questions p (take i words) ++ place_questions p (get_or words i none).address
  one_more_asked p = ap (placing_questions p) (take_more words i none lt) ∙ flat_map-append (λ w. place_questions p w.address) (take i words) (get_or words i none ∷ [])

  asked_so_far : (p : ℕ) → first_no (placing_questions p (take i words)) ≡ None → first_no (placing_questions p (take (i + 1) words)) ≡ first_no (place_questions p (get_or words i none).address)
  asked_so_far p passed = ap first_no (one_more_asked p) ∙ passed_before (placing_questions p (take i words)) (place_questions p (get_or words i none).address) passed

  one_more_reversed : reverse (take (i + 1) words) ≡ get_or words i none ∷ reverse (take i words)
  one_more_reversed = ap reverse (take_more words i none lt) ∙ reverse-append (take i words) (get_or words i none ∷ [])

  pub one_more_passed : (p : ℕ) (r : Result (Unit {0}) Fault) (x : Unit {0}) → first_no (placing_questions p (take i words)) ≡ None → refusal r ≡ first_no (place_questions p (get_or words i none).address) → r ≡ Ok x →
      first_no (placing_questions p (take (i + 1) words)) ≡ None
  one_more_passed p r x passed asked was = asked_so_far p passed ∙ sym asked ∙ ap refusal was

  -- a word that is refused refuses them all
  pub one_refused : {T : Type 0} (p : ℕ) (r : Result (Unit {0}) Fault) (t : Result T Fault) (fault : Fault) → first_no (placing_questions p (take i words)) ≡ None → refusal r ≡ first_no (place_questions p (get_or words i none).address) → r ≡ Err fault → t ≡ Err fault →
      refusal t ≡ first_no (placing_questions p words)
  one_refused p r t fault passed asked was rises =
      let here = refused_before (placing_questions p (take (i + 1) words)) (placing_questions p (drop (i + 1) words)) (number fault) (asked_so_far p passed ∙ sym asked ∙ ap refusal was) in
      ap refusal rises ∙ sym here ∙ ap first_no (sym (flat_map-append (λ w. place_questions p w.address) (take (i + 1) words) (drop (i + 1) words)) ∙ ap (placing_questions p) (take-append-drop (i + 1) words))

  pub one_more_placed : (first k after : Kit) → ((n p : ℕ) → first ≡ start_kit n p → k ≡ after_placing n p (reverse (take i words))) → after ≡ placed k (get_or words i none).address (get_or words i none).word →
      (n p : ℕ) → first ≡ start_kit n p → after ≡ after_placing n p (reverse (take (i + 1) words))
  one_more_placed first k after before now n p starts =
      now ∙ ap (λ x. placed x (get_or words i none).address (get_or words i none).word) (before n p starts) ∙ ap (after_placing n p) (sym one_more_reversed)

-- words that are not refused are in range, in whatever order
all_in_range : (p : ℕ) (words others : List Placement) → first_no (placing_questions p words) ≡ None → InRange p others → InRange p (reverse words ++ others)
all_in_range p [] others passed inside = inside
all_in_range p (w ∷ ws) others passed inside =
    let first = yes 2 (has_address p w.address) (placing_questions p ws) passed in
    let same : reverse (w ∷ ws) ++ others ≡ reverse ws ++ w ∷ others = ap (λ x. x ++ others) (reverse_onto ws w []) ∙ append_assoc (reverse ws) (w ∷ []) others in
    subst (InRange p) (sym same) (all_in_range p ws (w ∷ others) first.1 (grind (arith, nat_tests, first.0), inside))

both_passed : (qs rs : List (ℕ × Bool)) → first_no (qs ++ rs) ≡ None → (first_no qs ≡ None) × (first_no rs ≡ None)
both_passed [] rs passed = (refl, passed)
both_passed ((n, true) ∷ qs) rs passed = both_passed qs rs passed
both_passed ((n, false) ∷ qs) rs passed = let never : Some n ≡ None = passed in absurd (cc)

-- a kit that passes the questions of its setup may begin, and its link is empty
may_begin : (n p limit count : ℕ) (words : List Placement) → first_no (setup_questions n p limit count words) ≡ None → MayBegin n p limit (reverse words) × (count ≡ 0)
may_begin n p limit count words passed =
    let both = both_passed (making_questions n p limit count) (placing_questions p words) passed in
    let made = made_may n p limit count both.0 in
    let may = made.0 in (
      record { some_boards = may.some_boards; boards = may.boards; some_pages = may.some_pages; pages = may.pages; room = may.room; in_range = subst (InRange p) (append-nil (reverse words)) (all_in_range p words [] both.1 tt) },
      made.1,
    )

-- the turns behind the one at place i stay as they were
pub others_stay : (before now : List Turn) (i : ℕ) (turn : Turn) → drop i now ≡ drop i before →
    drop (i + 1) (set now i turn) ≡ drop (i + 1) before
others_stay before now i turn rest = drop-set-lt (i + 1) now i turn (omega arith) ∙ drop_more_same now before i rest

module _ {L : Type 0} (limit : L → ℕ) (waiting : L → Bag Message) (joins : L → Message → Result (Unit {0}) Fault → L → Type 0) (chooses : L → ℕ → Option Message → L → Type 0) where
  one_more_played : (s t u : Running L) (calls : List Call) (answers : List (Result Answer Fault)) (call : Call)
      (answer : Result Answer Fault) → PlayedFrom limit waiting joins chooses s calls answers t →
      GoesOn limit waiting joins chooses call answer t u →
      PlayedFrom limit waiting joins chooses s (calls ++ call ∷ []) (answers ++ answer ∷ []) u
  one_more_played s t u calls answers call answer played on = record {
    history = played.history ++ record { call = call; answer = answer; posted = on.posted } ∷ [];
    calls_are = map-append (λ e. e.call) played.history _ ∙ ap (λ x. x ++ call ∷ []) played.calls_are;
    answers_are = map-append (λ e. e.answer) played.history _ ∙ ap (λ x. x ++ answer ∷ []) played.answers_are;
    carried_out = one_more call answer played.carried_out on;
  }

  -- no turn has its answer yet
  pub none_answered : (s : Running L) (before : List Turn) →
      AnsweredFrom limit waiting joins chooses s (take 0 before) (take 0 before) s
  none_answered s before = (
    [],
    record { same_calls = refl; answers_are = refl },
    record { history = []; calls_are = refl; answers_are = refl; carried_out = nothing_yet },
  )

  -- a turn that has its answer
  answer_of : (call : Call) (t u : Running L) (given : Option (Result Answer Fault)) →
      IsSomeAnd given (λ answer. GoesOn limit waiting joins chooses call answer t u) →
      (answer : Result Answer Fault) × (given ≡ Some answer) × GoesOn limit waiting joins chooses call answer t u
  answer_of call t u None none = absurd none
  answer_of call t u (Some answer) on = (answer, refl, on)

  -- the turn at place i is given its answer; those from there on are as they were
  pub one_more_answered : (s t u : Running L) (before now : List Turn) (i : ℕ) (none turn : Turn) →
      i < length now → length before ≡ length now → drop i now ≡ drop i before →
      AnsweredFrom limit waiting joins chooses s (take i before) (take i now) t → turn.call ≡ (get_or now i none).call →
      IsSomeAnd turn.answer (λ answer. GoesOn limit waiting joins chooses (get_or now i none).call answer t u) →
      AnsweredFrom limit waiting joins chooses s (take (i + 1) before) (take (i + 1) (set now i turn)) u
  one_more_answered s t u before now i none turn lt long rest (answers, answered, played) same_call given =
      let here = get_or now i none in
      let (answer, is, on) = answer_of here.call t u turn.answer given in
      let more = take_more_set now i turn lt in
      let same : get_or before i none ≡ here =
      sym (get_or_drop_0 before) ∙ ap (λ x. get_or x 0 none) (sym rest) ∙ get_or_drop_0 now in
      let was : calls_of (take (i + 1) before) ≡ calls_of (take i before) ++ here.call ∷ [] =
      ap calls_of (take_more before i none (omega (arith, long))) ∙ map-append (λ x. x.call) (take i before) _
      ∙ ap (λ (x : Turn). calls_of (take i before) ++ x.call ∷ []) same in (
        answers ++ answer ∷ [],
        record {
          same_calls =
              ap calls_of more ∙ map-append (λ x. x.call) (take i now) _
              ∙ ap (λ x. x ++ turn.call ∷ []) answered.same_calls
              ∙ ap (λ x. calls_of (take i before) ++ x ∷ []) same_call ∙ sym was;
          answers_are =
              ap answers_in more ∙ map-append (λ x. x.answer) (take i now) _
              ∙ ap (λ x. x ++ turn.answer ∷ []) answered.answers_are ∙ ap (λ x. map Some answers ++ x ∷ []) is
              ∙ sym (map-append Some answers (answer ∷ []));
        },
        subst (λ x. PlayedFrom limit waiting joins chooses s x (answers ++ answer ∷ []) u) (sym was)
            (one_more_played s t u (calls_of (take i before)) answers here.call answer played on),
      )
    where
      get_or_drop_0 : (xs : List Turn) → get_or (drop i xs) 0 none ≡ get_or xs i none
      get_or_drop_0 xs = get_or-drop i xs 0 none ∙ (let e : i + 0 ≡ i = omega arith in ap (λ k. get_or xs k none) e)

  leads_on : (n p first_limit : ℕ) (placements : List Placement) → MayBegin n p first_limit placements → {s r : Running L} {h : History} → LeadsTo limit waiting n p first_limit placements [] s → CarriedOut limit waiting joins chooses s h r →
      LeadsTo limit waiting n p first_limit placements h r
  leads_on n p first_limit placements may leads nothing_yet = leads
  leads_on n p first_limit placements may leads (one_more {h} call answer carried on) = (on.kept n p first_limit placements may h (leads_on n p first_limit placements may leads carried)).leads

  plays : (n p : ℕ) (link : L) (words : List Placement) (calls : List Call) (answers : List (Result Answer Fault))
      (s r : Running L) → first_no (setup_questions n p (limit link) (size (waiting link)) words) ≡ None →
      Started n p link words s → PlayedFrom limit waiting joins chooses s calls answers r → Plays limit waiting joins chooses n p link words calls answers r
  plays n p link words calls answers s r passed started played =
      let may = may_begin n p (limit link) (size (waiting link)) words passed in
      let leads = begins limit waiting n p (limit link) (reverse words) s started.placed (ap limit started.same_link) (ap waiting started.same_link ∙ nothing_in (waiting link) may.1) started.opened in
      record {
        may_begin = may.0;
        start = s;
        started = started;
        played = played;
        kept = kept_of limit waiting n p (limit link) (reverse words) may.0 played.history r (leads_on n p (limit link) (reverse words) may.0 leads played.carried_out);
      }

  pub plays_turns : (n p : ℕ) (link : L) (words : List Placement) (before after : List Turn) (s r : Running L) →
      first_no (setup_questions n p (limit link) (size (waiting link)) words) ≡ None → Started n p link words s →
      AnsweredFrom limit waiting joins chooses s before after r →
      PlaysTurns limit waiting joins chooses n p link words before after r
  plays_turns n p link words before after s r passed started (answers, answered, played) =
      (answers, answered, plays n p link words (calls_of before) answers s r passed started played)
