-- A kit on which at most one message waits has no choice: calls on it do what they do when they are played.
use Rattle.std.proofs.Common.{◌≡◌, ℕ, ◌*◌, ◌<◌, ◌≤◌, nat_le, Bool, true, ◌&&◌, List, [], ◌∷◌, ◌++◌, length, map, None, Ok, Err, Option, Result, refl, inl, inr, ap, ◌∙◌, sym, subst, arith}
use Rattle.std.proofs.lemmas.Bool.{and_parts, ltb-true, leb-true}
use Rattle.std.proofs.lemmas.List.{map-append}
use Rattle.std.proofs.lemmas.Option.{none-some}
use Rattle.wire.specs.Bags.{Bag, empty, bag, size}
use Rattle.wire.specs.Faults.{number}
use Rattle.wire.specs.Questions.{first_no}
use Rattle.wire.specs.declared.fault.Fault.{Fault}
use Rattle.wire.specs.declared.message.Message.{Message}
use Rattle.wire.proofs.Bags.{size_bag}
use Rattle.wire.proofs.Questions.{passed_before}
use Rattle.lone.specs.Calls.{Outcome, load_at, store_at, arrive_at}
use Rattle.memory.specs.Calls as calls
use Rattle.memory.specs.Calls.{Answers, Delivers, DoesCall, room, without, arrival_questions}
use Rattle.memory.specs.Histories.{Event, History}
use Rattle.memory.specs.Kits.{Kit, board_at, with_board}
use Rattle.memory.specs.declared.answer.Answer.{Answer}
use Rattle.memory.specs.declared.answer.Answer.TheVariants.{Accessed, Arrived}
use Rattle.memory.specs.declared.call.Call.{Call}
use Rattle.memory.specs.declared.call.Call.TheVariants.{Load, Store, Deliver}
use Rattle.memory.proofs.Playing.{Desk, running, move, turn, is_there, asks_access, asks_arrival, taken, goes, nothing_is, beside, has_room}
use Rattle.memory.proofs.Witnesses.{desk}
use Rattle.kit.specs.OpenedCount.{opened_after}
use Rattle.kit.specs.Runs.{running_of, GoesOn}
use Rattle.kit.specs.Plays.{CarriedOut, nothing_yet, one_more, PlayedFrom}
use Rattle.kit.specs.WorkedCases.{JustStarted}
use Rattle.kit.specs.declared.running.Running.{Running}
use Rattle.kit.proofs.OneItem.{only_one}

-- what is asked no more than what is answered yes is done
settled : {A : Type 0} (limit board : ℕ) (k : Kit) (messages : List Message) (asked : List (ℕ × Bool)) (says : A → Answer) (o : Outcome A) (answer : Result Answer Fault) (posted : List Message) (t : calls.Running) →
    17 ≤ limit → length messages ≤ 1 → first_no asked ≡ None →
    let s : calls.Running = record { kit = k; limit = limit; waiting = bag messages } in
    let m = turn asked says board o k messages in
    Answers (asked ++ room s) says board o s answer posted t → (answer ≡ Ok m.answer) × (t ≡ running limit m.after)
settled limit board k messages asked says o (Ok a) posted t r few none does =
    (ap Ok does.1.0, does.1.2 ∙ ap (λ b. record { kit = with_board k board o.board; limit = limit; waiting = b }) (sym (beside o.posts messages)))
settled limit board k messages asked says o (Err fault) posted t r few none does =
    absurd (none-some (number fault) (sym (does.0 ∙ passed_before asked (room (record { kit = k; limit = limit; waiting = bag messages })) none ∙ has_room limit 1 k (bag messages) r (omega (arith, size_bag messages, few)))))

-- whatever a delivery picks, it takes the one message that waits
abbrev first_pick : Call → Call
first_pick (Load board address) = Load board address
first_pick (Store board address word) = Store board address word
first_pick (Deliver pick) = Deliver 0

-- a delivery of the one message that waits
delivered : (limit : ℕ) (k : Kit) (messages : List Message) (answer : Result Answer Fault) (posted : List Message) (t : calls.Running) → 17 ≤ limit → length messages ≤ 1 → 0 < length messages →
    let d : Desk = record { kit = k; messages = messages } in
    first_no (move d (Deliver 0)).asked ≡ None → Delivers (running limit d) answer posted t → (answer ≡ Ok (move d (Deliver 0)).answer) × (t ≡ running limit (move d (Deliver 0)).after)
delivered limit k [] answer posted t r few some none does = absurd (omega (arith, some))
delivered limit k (x ∷ []) answer posted t r few some none does =
    let s = running limit (record { kit = k; messages = x ∷ [] }) in
    let e = only_one x does.message does.rest does.waited in
    let alone = subst (λ b. Answers (arrival_questions (without s b) does.message) Arrived does.message.to (arrive_at (board_at k does.message.to) does.message) (without s b) answer posted t) e.1 does.arrives in
    settled limit x.to k [] (asks_arrival (record { kit = k; messages = x ∷ [] }) x) Arrived (arrive_at (board_at k x.to) x) answer posted t r (omega arith) none
    (subst (λ m. Answers (arrival_questions (without s empty) m) Arrived m.to (arrive_at (board_at k m.to) m) (without s empty) answer posted t) e.0 alone)
delivered limit k (x ∷ y ∷ messages) answer posted t r few some none does = absurd (omega (arith, few))

some_waits : (messages : List Message) → 0 < length messages → bag messages ≡ empty → ⊥
some_waits messages some e = omega (arith, some, size_bag messages, ap size e)

-- any call
forced : (limit : ℕ) (d : Desk) (call : Call) (answer : Result Answer Fault) (posted : List Message) (t : calls.Running) → 17 ≤ limit → length d.messages ≤ 1 →
    is_there d (first_pick call) ≡ true → first_no (move d (first_pick call)).asked ≡ None → DoesCall call (running limit d) answer posted t →
    (answer ≡ Ok (move d (first_pick call)).answer) × (t ≡ running limit (move d (first_pick call)).after)
forced limit d (Load board address) answer posted t r few there none does =
    settled limit board d.kit d.messages (asks_access d board address) Accessed (load_at (board_at d.kit board) address) answer posted t r few none does
forced limit d (Store board address word) answer posted t r few there none does =
    settled limit board d.kit d.messages (asks_access d board address) Accessed (store_at (board_at d.kit board) address word) answer posted t r few none does
forced limit d (Deliver pick) answer posted t r few there none (inl quiet) = absurd (some_waits d.messages (ltb-true 0 (length d.messages) there) quiet.0)
forced limit d (Deliver pick) answer posted t r few there none (inr does) = delivered limit d.kit d.messages answer posted t r few (ltb-true 0 (length d.messages) there) none does

-- the answers of calls that are played
abbrev answers_of : Desk → List Call → List (Result Answer Fault)
answers_of d [] = []
answers_of d (c ∷ cs) = Ok (move d (first_pick c)).answer ∷ answers_of (move d (first_pick c)).after cs

-- the opened count after answers
abbrev opened_after_each : ℕ → List (Result Answer Fault) → ℕ
opened_after_each n [] = n
opened_after_each n (a ∷ rest) = opened_after_each (opened_after n a) rest

module _ {L : Type 0} (limit : L → ℕ) (waiting : L → Bag Message) (joins : L → Message → Result (Unit {0}) Fault → L → Type 0) (chooses : L → ℕ → Option Message → L → Type 0) where
  -- calls on r, one after another, have these answers, and leave t
  abbrev pub CallsGoOn : List Call → List (Result Answer Fault) → Running L → Running L → Type 0
  CallsGoOn [] [] r t = t ≡ r
  CallsGoOn (call ∷ calls) (answer ∷ answers) r t = (s : Running L) × GoesOn limit waiting joins chooses call answer r s × CallsGoOn calls answers s t
  CallsGoOn [] (answer ∷ answers) r t = ⊥
  CallsGoOn (call ∷ calls) [] r t = ⊥

  goes_more : (cs : List Call) (answers : List (Result Answer Fault)) (r s t : Running L) (c : Call) (a : Result Answer Fault) → CallsGoOn cs answers r s → GoesOn limit waiting joins chooses c a s t →
      CallsGoOn (cs ++ c ∷ []) (answers ++ a ∷ []) r t
  goes_more [] [] r s t c a on more = (t, subst (λ x. GoesOn limit waiting joins chooses c a x t) on more, refl)
  goes_more [] (b ∷ answers) r s t c a on more = absurd on
  goes_more (d ∷ cs) [] r s t c a on more = absurd on
  goes_more (d ∷ cs) (b ∷ answers) r s t c a on more = (on.0, on.1, goes_more cs answers on.0 s t c a on.2 more)

  as_calls : {r t : Running L} {h : History} → CarriedOut limit waiting joins chooses r h t → CallsGoOn (map (λ e. e.call) h) (map (λ e. e.answer) h) r t
  as_calls nothing_yet = refl
  as_calls {r} {t} (one_more {h} {s} call answer before on) =
      let e : Event = record { call = call; answer = answer; posted = on.posted } in
      subst (λ cs. CallsGoOn cs (map (λ e. e.answer) (h ++ e ∷ [])) r t) (sym (map-append (λ e. e.call) h (e ∷ [])))
      (subst (λ answers. CallsGoOn (map (λ e. e.call) h ++ call ∷ []) answers r t) (sym (map-append (λ e. e.answer) h (e ∷ [])))
      (goes_more (map (λ e. e.call) h) (map (λ e. e.answer) h) r s t call answer (as_calls before) on))

  -- calls on a kit that is as on the desk
  all_forced : (first_limit : ℕ) (d : Desk) (cs : List Call) (answers : List (Result Answer Fault)) (r t : Running L) → 17 ≤ first_limit → goes 1 d (map first_pick cs) ≡ true →
      running_of limit waiting r ≡ running first_limit d → CallsGoOn cs answers r t → answers ≡ answers_of d cs
  all_forced first_limit d [] [] r t room g same on = refl
  all_forced first_limit d [] (a ∷ answers) r t room g same on = absurd on
  all_forced first_limit d (c ∷ cs) [] r t room g same on = absurd on
  all_forced first_limit d (c ∷ cs) (a ∷ answers) r t room g same on =
      let m = move d (first_pick c) in
      let p = and_parts (taken 1 d (first_pick c)) (goes 1 m.after (map first_pick cs)) g in
      let q = and_parts (nat_le (length d.messages) 1 && is_there d (first_pick c)) _ p.0 in
      let w = and_parts (nat_le (length d.messages) 1) (is_there d (first_pick c)) q.0 in
      let s = on.0 in
      let does = subst (λ x. DoesCall c x a on.1.posted (running_of limit waiting s)) same on.1.does in
      let f = forced first_limit d c a on.1.posted (running_of limit waiting s) room (leb-true (length d.messages) 1 w.0) w.1 (nothing_is (first_no m.asked) q.1) does in
      let rest = all_forced first_limit m.after cs answers s t room p.1 f.1 on.2 in
      let first = f.0 in
      cc

  -- the opened count is told by the answers
  all_counted : (cs : List Call) (answers : List (Result Answer Fault)) (r t : Running L) → CallsGoOn cs answers r t → t.opened ≡ opened_after_each r.opened answers
  all_counted [] [] r t on = ap (λ x. x.opened) on
  all_counted [] (a ∷ answers) r t on = absurd on
  all_counted (c ∷ cs) [] r t on = absurd on
  all_counted (c ∷ cs) (a ∷ answers) r t on = all_counted cs answers on.0 t on.2 ∙ ap (λ n. opened_after_each n answers) on.1.opened

  -- calls on a kit just started
  pub played : (n : ℕ) (cs : List Call) (answers : List (Result Answer Fault)) (r t : Running L) →
      JustStarted limit waiting n 1 r → 1 ≤ n * n → goes 1 (desk n) (map first_pick cs) ≡ true →
      PlayedFrom limit waiting joins chooses r cs answers t → (answers ≡ answers_of (desk n) cs) × (t.opened ≡ opened_after_each 0 (answers_of (desk n) cs))
  played n cs answers r t k some g p =
      let on : CallsGoOn cs answers r t = subst (λ x. CallsGoOn x answers r t) p.calls_are (subst (λ x. CallsGoOn (map (λ e. e.call) p.history) x r t) p.answers_are (as_calls p.carried_out)) in
      let told = all_forced k.first_limit (desk n) cs answers r t (omega (arith, some, k.may_begin.room)) g k.begins on in
      (told, all_counted cs answers r t on ∙ ap (λ m. opened_after_each m answers) k.none_opened ∙ ap (opened_after_each 0) told)
