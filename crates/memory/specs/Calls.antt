-- What a call does to a running kit: on the board that it is about it does what it does on a board by itself, and the link's choice is all that is left open.
use Rattle.std.specs.Prelude.{◌≡◌, ℕ, Bool, ◌&&◌, ◌⊎◌, List, [], ◌∷◌, ◌++◌, Ok, Result, MatchResult, nat_lt}
use Rattle.wire.specs.Bags.{Bag, ◌&◌, ◌⊕◌, empty, size}
use Rattle.wire.specs.Faults.{number}
use Rattle.wire.specs.Links.{room_questions}
use Rattle.wire.specs.Questions.{first_no, refusal}
use Rattle.wire.specs.declared.fault.Fault.{Fault}
use Rattle.wire.specs.declared.fault.Fault.TheVariants.{NoSuchBoard, DoesNotBelong, NotExpected}
use Rattle.wire.specs.declared.message.Message.{Message}
use Rattle.records.specs.Forms.{message_questions}
use Rattle.board.specs.Outboxes.{outbox_room}
use Rattle.lone.specs.Calls.{Outcome, load_at, store_at, arrive_at}
use Rattle.lone.specs.LoneQuestions as lone
use Rattle.memory.specs.declared.call.Call.{Call}
use Rattle.memory.specs.declared.call.Call.TheVariants.{Load, Store, Deliver}
use Rattle.memory.specs.declared.answer.Answer.{Answer}
use Rattle.memory.specs.declared.answer.Answer.TheVariants.{Accessed, Arrived, Quiet}
use Rattle.memory.specs.Histories.{Event}
use Rattle.memory.specs.Kits.{Kit, board_at, with_board}

-- a kit over a link, of which there are the limit and the messages that wait
pub record Running : Type 0 where
  pub kit : Kit
  pub limit : ℕ
  pub waiting : Bag Message

-- is there room on the link for all that a board may post?
abbrev pub room : Running → List (ℕ × Bool)
room s = room_questions s.limit (size s.waiting) outbox_room

-- a load or a store: is there such a board, does it take the access, and is there room?
abbrev pub access_questions : Running → ℕ → ℕ → List (ℕ × Bool)
access_questions s board address =
    (number NoSuchBoard, nat_lt board s.kit.boards) ∷ lone.access_questions (board_at s.kit board) address ++ room s

-- a message that was taken from the link: has it its form, does it belong to the board that it is addressed to, is it expected there, and is there room?
abbrev pub arrival_questions : Running → Message → List (ℕ × Bool)
arrival_questions s m =
    let receiver = board_at s.kit m.to in
    message_questions m ++ (number DoesNotBelong, nat_lt m.to s.kit.boards && lone.belongs receiver m)
    ∷ (number NotExpected, lone.expects receiver m) ∷ room s

-- the first question that is answered no refuses the call, and nothing changes from s
-- else the board becomes, the call answers, and the messages that join those that wait are, what the outcome has
abbrev pub Answers : {A : Type 0} → List (ℕ × Bool) → (A → Answer) → ℕ → Outcome A → Running → Result Answer Fault → List Message → Running → Type 0
Answers questions says board o s answer posted t =
    (refusal answer ≡ first_no questions)
    × MatchResult answer
    (λ a. (a ≡ says o.answer) × (posted ≡ o.posts) × (t ≡ record { kit = with_board s.kit board o.board; limit = s.limit; waiting = o.posts ⊕ s.waiting }))
    (λ _. (posted ≡ []) × (t ≡ s))

-- nothing waits
abbrev pub IsQuiet : Running → Result Answer Fault → List Message → Running → Type 0
IsQuiet s answer posted t = (s.waiting ≡ empty) × (answer ≡ Ok Quiet) × (posted ≡ []) × (t ≡ s)

abbrev pub without : Running → Bag Message → Running
without s rest = record { kit = s.kit; limit = s.limit; waiting = rest }

-- One of the waiting messages, whichever, is taken from the link, and arrives at the board that it is addressed to.
-- One that is refused has left the link all the same; in no kit is one refused.
pub record Delivers (s : Running) (answer : Result Answer Fault) (posted : List Message) (t : Running) : Type 0 where
  pub message : Message
  pub rest : Bag Message
  pub waited : s.waiting ≡ message & rest
  pub arrives : Answers (arrival_questions (without s rest) message) Arrived message.to (arrive_at (board_at s.kit message.to) message) (without s rest) answer posted t

abbrev pub DoesCall : Call → Running → Result Answer Fault → List Message → Running → Type 0
DoesCall (Load board address) s answer posted t = Answers (access_questions s board address) Accessed board (load_at (board_at s.kit board) address) s answer posted t
DoesCall (Store board address word) s answer posted t = Answers (access_questions s board address) Accessed board (store_at (board_at s.kit board) address word) s answer posted t
DoesCall (Deliver pick) s answer posted t = IsQuiet s answer posted t ⊎ Delivers s answer posted t

-- the event is one that may happen at s, and leaves t
abbrev pub Does : Running → Event → Running → Type 0
Does s e t = DoesCall e.call s e.answer e.posted t
