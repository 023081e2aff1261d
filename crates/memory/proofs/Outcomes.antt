-- A call has an outcome, as each question has the number of a fault.
use Rattle.std.proofs.Common.{◌≡◌, ℕ, Bool, true, false, ◌⊎◌, List, [], ◌∷◌, Some, None, Ok, Err, refl, inl, inr, ap}
use mathlib.Core.HLevel.{is_prop→PathP}
use Rattle.wire.specs.Bags.{Bag, ◌&◌, ◌⊕◌, empty, either_order}
use Rattle.wire.specs.Faults.{number}
use Rattle.wire.specs.Questions.{first_no}
use Rattle.wire.specs.declared.fault.Fault.{Fault}
use Rattle.wire.specs.declared.fault.Fault.TheVariants.{NoSuchBoard, NoSuchAddress, AccessOpen, LinkFull, NoSuchKind, BadParties, PageOrHopsTooLarge, BrokenKindForm, DoesNotBelong, NotExpected}
use Rattle.wire.specs.declared.message.Message.{Message}
use Rattle.lone.specs.Calls.{Outcome, load_at, store_at, arrive_at}
use Rattle.memory.specs.declared.answer.Answer.{Answer}
use Rattle.memory.specs.declared.answer.Answer.TheVariants.{Accessed, Arrived, Quiet}
use Rattle.memory.specs.declared.call.Call.{Call}
use Rattle.memory.specs.declared.call.Call.TheVariants.{Load, Store, Deliver}
use Rattle.memory.specs.Calls.{Running, Answers, Delivers, DoesCall, access_questions, arrival_questions, without}
use Rattle.memory.specs.Kits.{board_at, with_board}
use Rattle.memory.specs.Outcomes.{HasOutcome, NothingIsStuck}

-- the number is that of a fault
abbrev OfFault : ℕ → Type 0
OfFault n = (f : Fault) × (number f ≡ n)

abbrev AllOfFaults : List (ℕ × Bool) → Type 0
AllOfFaults [] = Unit {0}
AllOfFaults (q ∷ qs) = OfFault q.0 × AllOfFaults qs

passed_or_refused : (qs : List (ℕ × Bool)) → AllOfFaults qs → (None ≡ first_no qs) ⊎ ((f : Fault) × (Some (number f) ≡ first_no qs))
passed_or_refused [] a = inl refl
passed_or_refused ((n, true) ∷ qs) a = passed_or_refused qs a.1
passed_or_refused ((n, false) ∷ qs) a = inr (a.0.0, ap Some a.0.1)

answered : {A : Type 0} (questions : List (ℕ × Bool)) (says : A → Answer) (board : ℕ) (o : Outcome A) (s : Running) → AllOfFaults questions → HasOutcome (Answers questions says board o s)
answered questions says board o s a = elim (passed_or_refused questions a) [
  | inl none ↦ (Ok (says o.answer), o.posts, record { kit = with_board s.kit board o.board; limit = s.limit; waiting = o.posts ⊕ s.waiting }, (none, (refl, refl, refl)))
  | inr f ↦ (Err f.0, [], s, (f.1, (refl, refl)))
]

access_faults : (s : Running) (board address : ℕ) → AllOfFaults (access_questions s board address)
access_faults s board address = ((NoSuchBoard, refl), ((NoSuchAddress, refl), ((AccessOpen, refl), ((LinkFull, refl), tt))))

arrival_faults : (s : Running) (m : Message) → AllOfFaults (arrival_questions s m)
arrival_faults s m = ((NoSuchKind, refl), ((BadParties, refl), ((PageOrHopsTooLarge, refl), ((BrokenKindForm, refl), ((DoesNotBelong, refl), ((NotExpected, refl), ((LinkFull, refl), tt)))))))

load_outcome : (s : Running) (board address : ℕ) → HasOutcome (DoesCall (Load board address) s)
load_outcome s board address = answered (access_questions s board address) Accessed board (load_at (board_at s.kit board) address) s (access_faults s board address)

store_outcome : (s : Running) (board address word : ℕ) → HasOutcome (DoesCall (Store board address word) s)
store_outcome s board address word = answered (access_questions s board address) Accessed board (store_at (board_at s.kit board) address word) s (access_faults s board address)

delivery_outcome : (s : Running) (m : Message) (rest : Bag Message) → s.waiting ≡ m & rest → HasOutcome (λ answer posted t. (d : Delivers s answer posted t) × (d.message ≡ m))
delivery_outcome s m rest w =
    let r = without s rest in
    let o = answered (arrival_questions r m) Arrived m.to (arrive_at (board_at s.kit m.to) m) r (arrival_faults r m) in
    (o.0, o.1, o.2, (record { message = m; rest = rest; waited = w; arrives = o.3 }, refl))

quiet_outcome : (s : Running) (pick : ℕ) → s.waiting ≡ empty → DoesCall (Deliver pick) s (Ok Quiet) [] s
quiet_outcome s pick w = inl (w, refl, refl, refl)

-- there is no bag that neither is empty nor has an item; which item is left open, as a bag has no order
abbrev EmptyOrNot : {X : Type 0} → Bag X → Type 0
EmptyOrNot {X} b = (b ≡ empty → ⊥) → ((x : X) (rest : Bag X) → b ≡ x & rest → ⊥) → ⊥

at_most_one : {X : Type 0} (b : Bag X) → IsProp (EmptyOrNot b)
at_most_one b f g = λ i none some. (let never : f none some ≡ g none some = absurd (f none some) in never i)

empty_or_not : {X : Type 0} (b : Bag X) → EmptyOrNot b
empty_or_not empty = λ none some. none refl
empty_or_not (x & b) = λ none some. some x b refl
empty_or_not (either_order x y b i) =
    is_prop→PathP (λ i. EmptyOrNot (either_order x y b i)) (λ j. at_most_one (either_order x y b j)) (λ none some. some x (y & b) refl) (λ none some. some y (x & b) refl) i

no_call_stuck : (s : Running) (call : Call) → (HasOutcome (DoesCall call s) → ⊥) → ⊥
no_call_stuck s (Load board address) h = h (load_outcome s board address)
no_call_stuck s (Store board address word) h = h (store_outcome s board address word)
no_call_stuck s (Deliver pick) h = empty_or_not s.waiting
    (λ w. h (Ok Quiet, [], s, quiet_outcome s pick w))
    (λ m rest w. let o = delivery_outcome s m rest w in h (o.0, o.1, o.2, inr o.3.0))

pub nothing_is_stuck : NothingIsStuck
nothing_is_stuck = record { loads = load_outcome; stores = store_outcome; deliveries = delivery_outcome; quiet = quiet_outcome; none_is_stuck = no_call_stuck }
