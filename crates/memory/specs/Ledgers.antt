-- The ledger: what anyone can work out from a history alone, without looking into the kit.
use Rattle.std.specs.Prelude.{ℕ, zero, suc, ◌+◌, ◌-◌, Bool, true, false, cond, ◌&&◌, List, [], ◌∷◌, length, Some, None, Ok, Err, Option, Result, ◌==◌}
use Rattle.memory.specs.Functions.{changed}
use Rattle.wire.specs.declared.fault.Fault.{Fault}
use Rattle.wire.specs.declared.message.Message.{Message}
use Rattle.wire.specs.declared.message.Kind.{Kind}
use Rattle.wire.specs.declared.message.Kind.TheVariants.{ReadRequest, WriteRequest}
use Rattle.memory.specs.declared.call.Call.{Call}
use Rattle.memory.specs.declared.call.Call.TheVariants.{Load, Store, Deliver}
use Rattle.memory.specs.declared.answer.Answer.{Answer}
use Rattle.memory.specs.declared.answer.Answer.TheVariants.{Accessed, Arrived, Quiet}
use Rattle.memory.specs.Histories.{Event, History, Access, load, store, Change, at_once, opens, finishes, nothing, change}
use Rattle.memory.specs.Placements.{Words}

pub record Ledger : Type 0 where
  -- the one memory: a word for each address
  pub array : Words
  -- each board's open access
  pub pending : ℕ → Option Access
  -- for each board, how many requests of its were posted since the call that last opened an access of it, that call included
  pub requests : ℕ → ℕ
  -- how many messages were posted and not yet delivered
  pub waiting : ℕ

-- The array takes each access when it is answered.

-- the word that an access is answered with
abbrev pub brought : Words → Access → ℕ
brought array (load address) = array address
brought array (store address word) = word

-- the array when an access has been answered
abbrev pub answered : Words → Access → Words
answered array (load address) = array
answered array (store address word) = changed array address word

abbrev pub answered_if : Words → Option Access → Words
answered_if array None = array
answered_if array (Some access) = answered array access

abbrev pub array_after : Ledger → Change → Words
array_after l (at_once board access) = answered l.array access
array_after l (opens board access) = l.array
array_after l (finishes board) = answered_if l.array (l.pending board)
array_after l nothing = l.array

-- An access is open from the call that opens it to the delivery that finishes it.

abbrev pub pending_after : Ledger → Change → ℕ → Option Access
pending_after l (at_once board access) = l.pending
pending_after l (opens board access) = changed l.pending board (Some access)
pending_after l (finishes board) = changed l.pending board None
pending_after l nothing = l.pending

-- Requests are counted from the call that opens an access on.

abbrev pub is_request : Kind → Bool
is_request ReadRequest = true
is_request WriteRequest = true
is_request _ = false

-- how many of the messages are requests with this asker
abbrev pub requests_of : ℕ → List Message → ℕ
requests_of board [] = 0
requests_of board (m ∷ ms) = cond (is_request m.kind && (m.asker == board)) 1 0 + requests_of board ms

-- the call that opens an access begins a new count
abbrev pub requests_before : Ledger → Change → ℕ → ℕ
requests_before l (at_once board access) = l.requests
requests_before l (opens board access) = changed l.requests board 0
requests_before l (finishes board) = l.requests
requests_before l nothing = l.requests

-- how often the request of a board's last opened access was passed on: each of its posts but the first
abbrev pub passed_on : Ledger → ℕ → ℕ
passed_on l board = l.requests board - 1

-- how many messages a call takes off the link
abbrev pub taken_off : Call → Result Answer Fault → ℕ
taken_off (Load board address) answer = 0
taken_off (Store board address word) answer = 0
taken_off (Deliver pick) (Ok (Accessed answer)) = 0
taken_off (Deliver pick) (Ok (Arrived arrival)) = 1
taken_off (Deliver pick) (Ok Quiet) = 0
taken_off (Deliver pick) (Err fault) = 1

-- the ledger with one more event entered
abbrev pub entered : Ledger → Event → Ledger
entered l e = record {
  array = array_after l (change e.call e.answer);
  pending = pending_after l (change e.call e.answer);
  requests = λ board. requests_before l (change e.call e.answer) board + requests_of board e.posted;
  waiting = l.waiting - taken_off e.call e.answer + length e.posted;
}

-- the ledger of a kit just started
abbrev pub fresh : Words → Ledger
fresh first = record { array = first; pending = λ _. None; requests = λ _. 0; waiting = 0 }

abbrev pub entering : Ledger → History → Ledger
entering l [] = l
entering l (e ∷ h) = entering (entered l e) h

abbrev pub ledger : Words → History → Ledger
ledger first h = entering (fresh first) h

abbrev pub is_open : Option Access → Bool
is_open None = false
is_open (Some access) = true

-- how many of n boards have an open access
abbrev pub open_accesses : ℕ → Ledger → ℕ
open_accesses zero l = 0
open_accesses (suc n) l = cond (is_open (l.pending n)) 1 0 + open_accesses n l
