-- Histories that a kit can have: they show that one memory is not kept by doing nothing, and that its bounds cannot be lowered.
use Rattle.std.specs.Prelude.{◌≡◌, ℕ, ◌-◌, ◌*◌, [], ◌∷◌, ◌++◌, length, Ok}
use Rattle.board.specs.declared.answer.AccessAnswer.TheVariants.{Answered}
use Rattle.board.specs.declared.answer.Arrival.TheVariants as arrival
use Rattle.board.specs.declared.answer.Finished.{Finished}
use Rattle.board.specs.declared.request.AccessKind.TheVariants as kind
use Rattle.memory.specs.declared.call.Call.TheVariants.{Store}
use Rattle.memory.specs.declared.answer.Answer.TheVariants.{Accessed, Arrived}
use Rattle.memory.specs.Calls.{Running}
use Rattle.memory.specs.Histories.{Event, History, IsDelivery, OnlyDeliveries}
use Rattle.memory.specs.Ledgers.{Ledger, ledger, passed_on, open_accesses}
use Rattle.memory.specs.Placements.{array}
use Rattle.memory.specs.Promises.{IsOneMemoryWithin}
use Rattle.memory.specs.Reached.{MayBegin, begun, Reached}

-- something holds of a history that every kit of n boards and one page can have, over whatever limit
abbrev pub OfSomeHistory : ℕ → (History → Type 0) → Type 0
OfSomeHistory n Holds = (history : History) × Holds history × ((limit : ℕ) → MayBegin n 1 limit [] → (s : Running) × Reached (begun n 1 limit []) history s)

-- a delivery finishes an access
abbrev pub Finishes : Finished → Event → Type 0
Finishes f e = IsDelivery e.call × (e.answer ≡ Ok (Arrived (arrival.Finished f)))

-- a board's store of a word is answered at once
abbrev pub StoresAtOnce : ℕ → ℕ → ℕ → Event → Type 0
StoresAtOnce board address word e = (e.call ≡ Store board address word) × (e.answer ≡ Ok (Accessed (Answered word)))

-- a board stores a word other than zero, and later the load of another board finishes with that word
pub record BringsFromAnother (history : History) : Type 0 where
  pub storer : ℕ
  pub word : ℕ
  pub finished : Finished
  pub before : History
  pub store : Event
  pub meanwhile : History
  pub finish : Event
  pub told : history ≡ before ++ store ∷ meanwhile ++ finish ∷ []
  pub stores : StoresAtOnce storer finished.address word store
  pub finishes : Finishes finished finish
  pub loads : finished.kind ≡ kind.Load
  pub brings : finished.word ≡ word
  pub other_board : storer ≡ finished.board → ⊥
  pub not_zero : word ≡ 0 → ⊥

abbrev pub BringsWhatAnotherStored : Type 0
BringsWhatAnotherStored = OfSomeHistory 2 BringsFromAnother

-- the ledger of a history that began with zeros
abbrev pub kept : History → Ledger
kept history = ledger (array []) history

-- an access finishes whose request was passed on so many times, as its answer says
pub record PassedOn (times : ℕ) (history : History) : Type 0 where
  pub finished : Finished
  pub before : History
  pub finish : Event
  pub told : history ≡ before ++ finish ∷ []
  pub finishes : Finishes finished finish
  pub passed : passed_on (kept history) finished.board ≡ times
  pub hops : finished.hops ≡ times

abbrev pub PassesOnOnce : Type 0
PassesOnOnce = OfSomeHistory 3 (PassedOn 1)

-- one access is open, and so it still is after all but one of as many deliveries as the promise asks for; the last finishes it
pub record TakesAll (n : ℕ) (history : History) : Type 0 where
  pub before : History
  pub deliveries : History
  pub last : Event
  pub told : history ≡ before ++ deliveries ++ last ∷ []
  pub one_open : open_accesses n (kept before) ≡ 1
  pub all_but_one : OnlyDeliveries deliveries × (length deliveries ≡ 3 * n - 5)
  pub still_open : open_accesses n (kept (before ++ deliveries)) ≡ 1
  pub delivers : IsDelivery last.call
  pub all : length (deliveries ++ last ∷ []) ≡ 3 * n - 4
  pub none_open : open_accesses n (kept history) ≡ 0

abbrev pub NeedsAllDeliveries : Type 0
NeedsAllDeliveries = OfSomeHistory 2 (TakesAll 2)

-- with one pass less, or with one delivery less for each open access, the promise is broken
abbrev pub PassedOnIsSharp : Type 0
PassedOnIsSharp = IsOneMemoryWithin (λ n. n - 3) (λ n. 3 * n - 4) → ⊥

abbrev pub DeliveriesAreSharp : Type 0
DeliveriesAreSharp = IsOneMemoryWithin (λ n. n - 2) (λ n. 3 * n - 5) → ⊥
