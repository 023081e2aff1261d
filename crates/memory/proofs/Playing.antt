-- Calls played on a kit: the waiting messages stand in a list, and a delivery takes the one at the place that it picks.
use Rattle.std.proofs.Common.{◌≡◌, ℕ, zero, suc, ◌+◌, ◌<◌, ◌≤◌, nat_lt, nat_le, Bool, true, false, ◌&&◌, List, [], ◌∷◌, ◌++◌, length, get_or, replicate, Some, None, Ok, Option, refl, inr, ap, ◌∙◌, sym, subst, append_assoc, arith}
use Rattle.records.specs.Forms.{message_questions}
use Rattle.std.proofs.lemmas.Bool.{and_parts, ltb-true, leb-true, le-leb}
use Rattle.std.proofs.lemmas.List.{append-nil}
use Rattle.std.specs.List.{remove}
use Rattle.wire.specs.Bags.{Bag, ◌&◌, ◌⊕◌, bag, size}
use Rattle.wire.specs.Messages.{blank}
use Rattle.wire.specs.Questions.{first_no}
use Rattle.wire.specs.declared.message.Message.{Message}
use Rattle.wire.proofs.Bags.{size_bag, bag_removed}
use Rattle.wire.proofs.Questions.{passed_before}
use Rattle.lone.specs.Calls.{Outcome, load_at, store_at, arrive_at}
use Rattle.lone.specs.LoneQuestions as lone
use Rattle.memory.specs.declared.call.Call.{Call}
use Rattle.memory.specs.declared.call.Call.TheVariants.{Load, Store, Deliver}
use Rattle.memory.specs.declared.answer.Answer.{Answer}
use Rattle.memory.specs.declared.answer.Answer.TheVariants.{Accessed, Arrived}
use Rattle.memory.specs.Calls.{Running, Does, Answers, room}
use Rattle.memory.specs.Histories.{Event, History, OnlyDeliveries}
use Rattle.memory.specs.Kits.{Kit, board_at, with_board}
use Rattle.memory.specs.Reached.{Reached, started, onward}

pub record Desk : Type 0 where
  pub kit : Kit
  pub messages : List Message

-- the same as a running kit
abbrev pub running : ℕ → Desk → Running
running limit d = record { kit = d.kit; limit = limit; waiting = bag d.messages }

-- what a call asks, but for room on the link, and what it does if nothing refuses it
pub record Move : Type 0 where
  pub asked : List (ℕ × Bool)
  pub answer : Answer
  pub posted : List Message
  pub after : Desk

abbrev pub turn : {A : Type 0} → List (ℕ × Bool) → (A → Answer) → ℕ → Outcome A → Kit → List Message → Move
turn asked says board o kit messages = record { asked = asked; answer = says o.answer; posted = o.posts; after = record { kit = with_board kit board o.board; messages = o.posts ++ messages } }

-- the message at the place that a delivery picks, and the others
abbrev pub picked : Desk → ℕ → Message
picked d pick = get_or d.messages pick blank

abbrev pub left : Desk → ℕ → List Message
left d pick = remove d.messages pick

abbrev pub is_there : Desk → Call → Bool
is_there d (Load board address) = true
is_there d (Store board address word) = true
is_there d (Deliver pick) = nat_lt pick (length d.messages)

abbrev pub asks_access : Desk → ℕ → ℕ → List (ℕ × Bool)
asks_access d board address = (1, nat_lt board d.kit.boards) ∷ lone.access_questions (board_at d.kit board) address

abbrev pub asks_arrival : Desk → Message → List (ℕ × Bool)
asks_arrival d m = message_questions m ++ (15, nat_lt m.to d.kit.boards && lone.belongs (board_at d.kit m.to) m) ∷ (16, lone.expects (board_at d.kit m.to) m) ∷ []

abbrev arrive : Desk → Message → List Message → Move
arrive d m rest = turn (asks_arrival d m) Arrived m.to (arrive_at (board_at d.kit m.to) m) d.kit rest

abbrev pub move : Desk → Call → Move
move d (Load board address) = turn (asks_access d board address) Accessed board (load_at (board_at d.kit board) address) d.kit d.messages
move d (Store board address word) = turn (asks_access d board address) Accessed board (store_at (board_at d.kit board) address word) d.kit d.messages
move d (Deliver pick) = arrive d (picked d pick) (left d pick)

abbrev pub event_of : Call → Move → Event
event_of c m = record { call = c; answer = Ok m.answer; posted = m.posted }

abbrev pub history : Desk → List Call → History
history d [] = []
history d (c ∷ cs) = event_of c (move d c) ∷ history (move d c).after cs

abbrev pub after : Desk → List Call → Desk
after d [] = d
after d (c ∷ cs) = after (move d c).after cs

abbrev is_nothing : Option ℕ → Bool
is_nothing None = true
is_nothing (Some n) = false

-- no call is refused, and never do more than so many messages wait
abbrev pub taken : ℕ → Desk → Call → Bool
taken most d c = nat_le (length d.messages) most && is_there d c && is_nothing (first_no (move d c).asked)

abbrev pub goes : ℕ → Desk → List Call → Bool
goes most d [] = true
goes most d (c ∷ cs) = taken most d c && goes most (move d c).after cs

pub nothing_is : (o : Option ℕ) → is_nothing o ≡ true → o ≡ None
nothing_is None h = refl
nothing_is (Some n) h = let never : false ≡ true = h in absurd (cc)

pub beside : {X : Type 0} (xs ys : List X) → bag (xs ++ ys) ≡ xs ⊕ bag ys
beside [] ys = refl
beside (x ∷ xs) ys = ap (λ b. x & b) (beside xs ys)

pub has_room : (limit most : ℕ) (k : Kit) (b : Bag Message) → most + 16 ≤ limit → size b ≤ most → first_no (room (record { kit = k; limit = limit; waiting = b })) ≡ None
has_room limit most k b r few = rw (le-leb (size b + 16) limit (omega (arith, r, few))) refl

-- a call that is asked no more than what is answered yes does its move
answers : {A : Type 0} (limit most board : ℕ) (k : Kit) (messages : List Message) (asked : List (ℕ × Bool)) (says : A → Answer) (o : Outcome A) →
    most + 16 ≤ limit → length messages ≤ most → first_no asked ≡ None →
    let s : Running = record { kit = k; limit = limit; waiting = bag messages } in
    let m = turn asked says board o k messages in
    Answers (asked ++ room s) says board o s (Ok m.answer) m.posted (running limit m.after)
answers limit most board k messages asked says o r few none =
    let s : Running = record { kit = k; limit = limit; waiting = bag messages } in (
      sym (passed_before asked (room s) none ∙ has_room limit most k (bag messages) r (omega (arith, size_bag messages, few))),
      (refl, refl, ap (λ b. record { kit = with_board k board o.board; limit = limit; waiting = b }) (beside o.posts messages)),
    )

fewer : (xs : List Message) (i : ℕ) → i < length xs → length (remove xs i) ≤ length xs
fewer xs i h = omega (arith, size_bag xs, size_bag (remove xs i), ap size (bag_removed xs i blank h))

does : (limit most : ℕ) (d : Desk) (c : Call) → most + 16 ≤ limit → length d.messages ≤ most → is_there d c ≡ true → first_no (move d c).asked ≡ None →
    Does (running limit d) (event_of c (move d c)) (running limit (move d c).after)
does limit most d (Load board address) r few there none =
    answers limit most board d.kit d.messages (asks_access d board address) Accessed (load_at (board_at d.kit board) address) r few none
does limit most d (Store board address word) r few there none =
    answers limit most board d.kit d.messages (asks_access d board address) Accessed (store_at (board_at d.kit board) address word) r few none
does limit most d (Deliver pick) r few there none =
    let i = ltb-true pick (length d.messages) there in
    let m = picked d pick in
    inr (record {
      message = m;
      rest = bag (left d pick);
      waited = bag_removed d.messages pick blank i;
      arrives = answers limit most m.to d.kit (left d pick) (asks_arrival d m) Arrived (arrive_at (board_at d.kit m.to) m) r (omega (arith, few, fewer d.messages pick i)) none;
    })

goes_on : (limit most : ℕ) (start : Running) (h : History) (d : Desk) (cs : List Call) → most + 16 ≤ limit → goes most d cs ≡ true →
    Reached start h (running limit d) → Reached start (h ++ history d cs) (running limit (after d cs))
goes_on limit most start h d [] r g reached = rw (append-nil h) reached
goes_on limit most start h d (c ∷ cs) r g reached =
    let p = and_parts (taken most d c) (goes most (move d c).after cs) g in
    let q = and_parts (nat_le (length d.messages) most && is_there d c) (is_nothing (first_no (move d c).asked)) p.0 in
    let w = and_parts (nat_le (length d.messages) most) (is_there d c) q.0 in
    let e = event_of c (move d c) in
    let step = does limit most d c r (leb-true (length d.messages) most w.0) w.1 (nothing_is (first_no (move d c).asked) q.1) in
    subst (λ g. Reached start g (running limit (after d (c ∷ cs)))) (append_assoc h (e ∷ []) (history (move d c).after cs))
    (goes_on limit most start (h ++ e ∷ []) (move d c).after cs r p.1 (onward e reached step))

-- calls that are not refused have their history
pub played : (limit most : ℕ) (d : Desk) (cs : List Call) → most + 16 ≤ limit → goes most d cs ≡ true → Reached (running limit d) (history d cs) (running limit (after d cs))
played limit most d cs r g = goes_on limit most (running limit d) [] d cs r g started

-- calls played one list after another
pub history_append : (d : Desk) (cs ds : List Call) → history d (cs ++ ds) ≡ history d cs ++ history (after d cs) ds
history_append d [] ds = refl
history_append d (c ∷ cs) ds = ap (λ h. event_of c (move d c) ∷ h) (history_append (move d c).after cs ds)

pub length_history : (d : Desk) (cs : List Call) → length (history d cs) ≡ length cs
length_history d [] = refl
length_history d (c ∷ cs) = omega (arith, length_history (move d c).after cs)

pub only_deliveries : (d : Desk) (times pick : ℕ) → OnlyDeliveries (history d (replicate times (Deliver pick)))
only_deliveries d zero pick = tt
only_deliveries d (suc times) pick = (tt, only_deliveries (move d (Deliver pick)).after times pick)
