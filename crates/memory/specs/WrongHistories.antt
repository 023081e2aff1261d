-- Histories that are not one memory, whatever came before; and one that is, of a kit that is not willing.
use Rattle.std.specs.Prelude.{◌≡◌, ℕ, ◌-◌, ◌*◌, ◌<◌, ◌≤◌, List, [], ◌∷◌, ◌++◌, length, Some, None, Ok, Err}
use Rattle.wire.specs.declared.fault.Fault.{Fault}
use Rattle.wire.specs.declared.message.Message.{Message}
use Rattle.board.specs.declared.answer.AccessAnswer.{AccessAnswer}
use Rattle.board.specs.declared.answer.AccessAnswer.TheVariants.{Answered, Opened}
use Rattle.board.specs.declared.answer.Arrival.{Arrival}
use Rattle.board.specs.declared.answer.Arrival.TheVariants as arrival
use Rattle.board.specs.declared.answer.Finished.{Finished}
use Rattle.memory.specs.declared.call.Call.{Call}
use Rattle.memory.specs.declared.call.Call.TheVariants.{Load, Store, Deliver}
use Rattle.memory.specs.declared.answer.Answer.{Answer}
use Rattle.memory.specs.declared.answer.Answer.TheVariants.{Accessed, Arrived, Quiet}
use Rattle.memory.specs.Histories.{Event, History, Access, load, kind_of, address_of, OnlyDeliveries}
use Rattle.memory.specs.Ledgers.{brought, entered, ledger, passed_on, open_accesses}
use Rattle.memory.specs.OneMemory.{OneMemory}
use Rattle.memory.specs.Placements.{Words}
use Rattle.memory.specs.Willing.{Willing}

abbrev pub event : Call → Answer → List Message → Event
event call answer posted = record { call = call; answer = Ok answer; posted = posted }

-- a load or a store is answered at once with a word, a delivery finishes an access
abbrev pub at_once : Call → ℕ → List Message → Event
at_once call word posted = event call (Accessed (Answered word)) posted

abbrev pub opening : Call → List Message → Event
opening call posted = event call (Accessed Opened) posted

abbrev pub finishing : ℕ → Finished → List Message → Event
finishing pick f posted = event (Deliver pick) (Arrived (arrival.Finished f)) posted

-- after these events no kit keeps one memory if those happen, whatever follows
abbrev pub Wrong : Words → History → History → Type 0
Wrong first before those = (n : ℕ) (later : History) → OneMemory n first (before ++ (those ++ later)) → ⊥

-- a wrong word at once
pub record WordsAreTold (first : Words) (before : History) : Type 0 where
  -- a load is answered with another word than the array's, a store with another than its own
  pub other_word : (board address word : ℕ) (posted : List Message) → (word ≡ (ledger first before).array address → ⊥) → Wrong first before (at_once (Load board address) word posted ∷ [])
  pub not_its_own : (board address stored word : ℕ) (posted : List Message) → (word ≡ stored → ⊥) → Wrong first before (at_once (Store board address stored) word posted ∷ [])
  -- an old word, after the store of a newer one was answered
  pub old_word : (storer loader address newer older : ℕ) (posted later_posted : List Message) → (older ≡ newer → ⊥) →
      Wrong first before (at_once (Store storer address newer) newer posted ∷ at_once (Load loader address) older later_posted ∷ [])

-- an access that is opened where one is open
pub record OpeningsAreTold (first : Words) (before : History) : Type 0 where
  pub load_over : (board address : ℕ) (access : Access) (posted : List Message) → (ledger first before).pending board ≡ Some access → Wrong first before (opening (Load board address) posted ∷ [])
  pub store_over : (board address word : ℕ) (access : Access) (posted : List Message) → (ledger first before).pending board ≡ Some access → Wrong first before (opening (Store board address word) posted ∷ [])

-- a wrong finish
pub record FinishesAreTold (first : Words) (before : History) : Type 0 where
  -- no access of the board is open
  pub none_open : (pick : ℕ) (f : Finished) (posted : List Message) → (ledger first before).pending f.board ≡ None → Wrong first before (finishing pick f posted ∷ [])
  -- another kind or address than those of the access, or another word than it brings
  pub other_kind : (pick : ℕ) (f : Finished) (access : Access) (posted : List Message) → (ledger first before).pending f.board ≡ Some access → (f.kind ≡ kind_of access → ⊥) → Wrong first before (finishing pick f posted ∷ [])
  pub other_address : (pick : ℕ) (f : Finished) (access : Access) (posted : List Message) → (ledger first before).pending f.board ≡ Some access → (f.address ≡ address_of access → ⊥) → Wrong first before (finishing pick f posted ∷ [])
  pub other_word : (pick : ℕ) (f : Finished) (access : Access) (posted : List Message) → (ledger first before).pending f.board ≡ Some access → (f.word ≡ brought (ledger first before).array access → ⊥) → Wrong first before (finishing pick f posted ∷ [])
  -- other hops than the times that the request was passed on
  pub other_hops : (pick : ℕ) (f : Finished) (posted : List Message) → (f.hops ≡ passed_on (entered (ledger first before) (finishing pick f posted)) f.board → ⊥) → Wrong first before (finishing pick f posted ∷ [])
  -- the same access once more
  pub finished_twice : (pick next : ℕ) (f : Finished) (posted later_posted : List Message) → Wrong first before (finishing pick f posted ∷ finishing next f later_posted ∷ [])
  -- a load finishes with an old word, after the store of a newer one was answered
  pub old_word : (storer address newer pick : ℕ) (f : Finished) (posted later_posted : List Message) → (ledger first before).pending f.board ≡ Some (load address) → (f.word ≡ newer → ⊥) →
      Wrong first before (at_once (Store storer address newer) newer posted ∷ finishing pick f later_posted ∷ [])

-- an answer to another call
pub record AnswersAreTold (first : Words) (before : History) : Type 0 where
  pub load_arrives : (board address : ℕ) (a : Arrival) (posted : List Message) → Wrong first before (event (Load board address) (Arrived a) posted ∷ [])
  pub load_is_quiet : (board address : ℕ) (posted : List Message) → Wrong first before (event (Load board address) Quiet posted ∷ [])
  pub store_arrives : (board address word : ℕ) (a : Arrival) (posted : List Message) → Wrong first before (event (Store board address word) (Arrived a) posted ∷ [])
  pub store_is_quiet : (board address word : ℕ) (posted : List Message) → Wrong first before (event (Store board address word) Quiet posted ∷ [])
  pub delivery_accesses : (pick : ℕ) (a : AccessAnswer) (posted : List Message) → Wrong first before (event (Deliver pick) (Accessed a) posted ∷ [])

-- too much
pub record BoundsAreTold (first : Words) (before : History) : Type 0 where
  -- a request is passed on once too often
  pub passed_too_often : (n board : ℕ) (e : Event) (later : History) → n - 2 < passed_on (entered (ledger first before) e) board → OneMemory n first (before ++ e ∷ later) → ⊥
  -- an access is still open after enough deliveries
  pub still_open : (n board : ℕ) (access : Access) (deliveries later : History) → OnlyDeliveries deliveries → (3 * n - 4) * open_accesses n (ledger first before) ≤ length deliveries →
      (ledger first (before ++ deliveries)).pending board ≡ Some access → OneMemory n first (before ++ deliveries ++ later) → ⊥

pub record AllAreTold (first : Words) (before : History) : Type 0 where
  pub words : WordsAreTold first before
  pub openings : OpeningsAreTold first before
  pub finishes : FinishesAreTold first before
  pub answers : AnswersAreTold first before
  pub bounds : BoundsAreTold first before

abbrev pub WrongHistoriesAreTold : Type 0
WrongHistoriesAreTold = (first : Words) (before : History) → AllAreTold first before

-- A kit that refuses every call.

abbrev pub refused : Call → Fault → Event
refused call fault = record { call = call; answer = Err fault; posted = [] }

abbrev pub AllRefused : History → Type 0
AllRefused [] = Unit {0}
AllRefused (e ∷ h) = ((fault : Fault) × (e ≡ refused e.call fault)) × AllRefused h

-- it keeps one memory
abbrev pub RefusingIsOneMemory : Type 0
RefusingIsOneMemory = (n : ℕ) (first : Words) (history : History) → AllRefused history → OneMemory n first history

-- it is not willing: it must take a load or a store of its boards and addresses, and any delivery
pub record RefusingIsNotWilling : Type 0 where
  pub load : (n p board address : ℕ) (fault : Fault) (first : Words) (before later : History) → AllRefused before → board < n → address < 16 * p → Willing n p first (before ++ refused (Load board address) fault ∷ later) → ⊥
  pub store : (n p board address word : ℕ) (fault : Fault) (first : Words) (before later : History) → AllRefused before → board < n → address < 16 * p → Willing n p first (before ++ refused (Store board address word) fault ∷ later) → ⊥
  pub delivery : (n p pick : ℕ) (fault : Fault) (first : Words) (before later : History) → Willing n p first (before ++ refused (Deliver pick) fault ∷ later) → ⊥
