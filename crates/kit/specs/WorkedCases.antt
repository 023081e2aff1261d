-- Cases worked out by hand, which the definitions must agree with.
use Rattle.std.specs.Prelude.{◌≡◌, ℕ, ◌<◌, List, [], ◌∷◌, length, Some, None, Ok, Option, Result, slice_set}
use Rattle.wire.specs.Bags.{Bag, size}
use Rattle.wire.specs.Questions.{first_no, refusal}
use Rattle.wire.specs.Links.{Posted, Taken}
use Rattle.wire.specs.declared.fault.Fault.{Fault}
use Rattle.wire.specs.declared.message.Kind.{Kind}
use Rattle.wire.specs.declared.message.Kind.TheVariants.{ReadRequest, WriteRequest}
use Rattle.wire.specs.declared.message.Message.{Message}
use Rattle.records.specs.Layouts.{record_questions}
use Rattle.records.specs.WorkedRecords.{worked_record}
use Rattle.board.specs.declared.answer.AccessAnswer.TheVariants.{Answered, Opened}
use Rattle.board.specs.declared.answer.Arrival.TheVariants.{Moved, Finished}
use Rattle.board.specs.declared.request.AccessKind.{AccessKind}
use Rattle.board.specs.declared.request.AccessKind.TheVariants as kind
use Rattle.memory.specs.Reached.{MayBegin, begun}
use Rattle.memory.specs.declared.answer.Answer.{Answer}
use Rattle.memory.specs.declared.answer.Answer.TheVariants.{Accessed, Arrived}
use Rattle.memory.specs.declared.call.Call.{Call}
use Rattle.memory.specs.declared.call.Call.TheVariants.{Load, Store, Deliver}
use Rattle.kit.specs.KitQuestions.{making_questions, place_questions}
use Rattle.kit.specs.Plays.{PlayedFrom}
use Rattle.kit.specs.Runs.{running_of, opened_count, GoesOn}
use Rattle.kit.specs.declared.running.Running.{Running}

-- The answers of calls on a kit; the accesses are of address 0.

abbrev pub at_once : ℕ → Result Answer Fault
at_once word = Ok (Accessed (Answered word))

abbrev pub opens : Result Answer Fault
opens = Ok (Accessed Opened)

abbrev pub moves : ℕ → Kind → ℕ → Result Answer Fault
moves board kind hops = Ok (Arrived (Moved board kind hops))

abbrev pub finishes : ℕ → AccessKind → ℕ → ℕ → Result Answer Fault
finishes board kind word hops = Ok (Arrived (Finished (record { board = board; kind = kind; address = 0; word = word; hops = hops })))

module _ {L : Type 0} (limit : L → ℕ) (waiting : L → Bag Message) where
  -- a post, with its message, its answer and the links before and after
  pub record Post (before after : L) : Type 0 where
    pub message : Message
    pub answer : Result (Unit {0}) Fault
    pub posted : Posted limit waiting before message answer after

  -- a take, likewise
  pub record Take (before after : L) : Type 0 where
    pub answer : Option Message
    pub taken : Taken limit waiting before answer after

  -- a kit of n boards and p pages, just started over an empty link, with no words placed
  pub record JustStarted (n p : ℕ) (r : Running L) : Type 0 where
    pub first_limit : ℕ
    pub may_begin : MayBegin n p first_limit []
    pub begins : running_of limit waiting r ≡ begun n p first_limit []
    pub none_opened : opened_count r ≡ 0

module _ {L : Type 0} (limit : L → ℕ) (waiting : L → Bag Message) (joins : L → Message → Result (Unit {0}) Fault → L → Type 0) (chooses : L → ℕ → Option Message → L → Type 0) where
  -- on a kit of n boards and 16 pages that was just started, a call of one of its boards is refused so, or passes
  abbrev pub FirstCall : ℕ → ℕ → Call → Option ℕ → Type 0
  FirstCall n board call refused = (r t : Running L) (answer : Result Answer Fault) →
      JustStarted limit waiting n 16 r → board < n →
      GoesOn limit waiting joins chooses call answer r t → refusal answer ≡ refused

  pub record WorkedCases : Type 0 where
    -- a kit of 16 boards wants a link of limit 272
    pub limit_too_low : first_no (making_questions 16 16 271 0) ≡ Some 6
    pub limit_enough : first_no (making_questions 16 16 272 0) ≡ None
    -- 16 pages have the addresses 0 to 255: a word is placed there alone, and a board loads and stores there alone
    pub last_address : first_no (place_questions 16 255) ≡ None
    pub past_address : first_no (place_questions 16 256) ≡ Some 2
    pub loads_last : (n board : ℕ) → FirstCall n board (Load board 255) None
    pub loads_past : (n board : ℕ) → FirstCall n board (Load board 256) (Some 2)
    pub stores_last : (n board word : ℕ) → FirstCall n board (Store board 255 word) None
    pub stores_past : (n board word : ℕ) → FirstCall n board (Store board 256 word) (Some 2)
    -- a record has 80 bytes
    pub one_byte_short : (bs : List ℕ) → length bs ≡ 79 → first_no (record_questions bs) ≡ Some 10
    pub one_byte_over : (bs : List ℕ) → length bs ≡ 81 → first_no (record_questions bs) ≡ Some 10
    -- the worked record is accepted
    pub accepted : first_no (record_questions worked_record) ≡ None
    -- a record that is accepted is refused with 0 or 7 for its kind, with 15 for its hops, and with anything but zero in byte 8
    pub kind_too_low : (bs : List ℕ) → first_no (record_questions bs) ≡ None → first_no (record_questions (slice_set bs 0 0)) ≡ Some 11
    pub kind_too_high : (bs : List ℕ) → first_no (record_questions bs) ≡ None → first_no (record_questions (slice_set bs 0 7)) ≡ Some 11
    pub hops_too_many : (bs : List ℕ) → first_no (record_questions bs) ≡ None → first_no (record_questions (slice_set bs 5 15)) ≡ Some 13
    pub unused_byte : (bs : List ℕ) (b : ℕ) → 0 < b → first_no (record_questions bs) ≡ None → first_no (record_questions (slice_set bs 8 b)) ≡ Some 14
    -- on a link of limit 1 the second post is refused, and after a take it passes
    pub one_place : (a b c d e : L) → limit a ≡ 1 → size (waiting a) ≡ 0 → (first : Post limit waiting a b) (second : Post limit waiting b c) (take : Take limit waiting c d) (third : Post limit waiting d e) →
        (refusal first.answer ≡ None) × (refusal second.answer ≡ Some 9) × (refusal third.answer ≡ None)
    -- a take on an empty link says that nothing waits, and nothing waits afterwards; the limit stays
    pub nothing_waits : (a b : L) → size (waiting a) ≡ 0 → (take : Take limit waiting a b) →
        (take.answer ≡ None) × (size (waiting b) ≡ 0) × (limit b ≡ limit a)
    -- one board stores 5 and loads it: both are answered with 5 within their calls, and no access was opened
    pub one_board : (r t : Running L) (answers : List (Result Answer Fault)) → JustStarted limit waiting 1 1 r →
        PlayedFrom limit waiting joins chooses r (Store 0 0 5 ∷ Load 0 0 ∷ []) answers t →
        (answers ≡ at_once 5 ∷ at_once 5 ∷ []) × (opened_count t ≡ 0)
    -- of three boards, board 1 stores 5 and comes to own the page, and board 2, which still hints at board 0, loads it:
    -- board 0 passes the request on to board 1, so that the load finishes with hops 1, and two accesses were opened
    pub passed_on : (a b c d e : ℕ) (r t : Running L) (answers : List (Result Answer Fault)) →
        JustStarted limit waiting 3 1 r →
        PlayedFrom limit waiting joins chooses r (Store 1 0 5 ∷ Deliver a ∷ Deliver b ∷ Load 2 0 ∷ Deliver c ∷ Deliver d ∷ Deliver e ∷ []) answers t →
        (answers ≡ opens ∷ moves 0 WriteRequest 0 ∷ finishes 1 kind.Store 5 0 ∷ opens ∷ moves 0 ReadRequest 0 ∷ moves 1 ReadRequest 1 ∷ finishes 2 kind.Load 5 1 ∷ [])
        × (opened_count t ≡ 2)
