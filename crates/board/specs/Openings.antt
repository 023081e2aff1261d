-- What a load and a store do at a board on which no access is open, with the entry of the address's page.
use Rattle.std.specs.Prelude.{◌≡◌, ℕ, cond, List, [], ◌∷◌, None, get_or}
use Rattle.wire.specs.BoardSets.{is_empty}
use Rattle.wire.specs.declared.message.Message.{Message}
use Rattle.board.specs.declared.entry.PageEntry.{PageEntry}
use Rattle.board.specs.declared.entry.Access.{Access}
use Rattle.board.specs.declared.entry.Access.TheVariants as access
use Rattle.board.specs.declared.request.AccessKind.TheVariants.{Load, Store}
use Rattle.board.specs.declared.stage.Stage.{Stage}
use Rattle.board.specs.declared.stage.Stage.TheVariants.{LoadAsked, StoreAsked, Clearing}
use Rattle.board.specs.declared.answer.AccessAnswer.{AccessAnswer}
use Rattle.board.specs.declared.answer.AccessAnswer.TheVariants.{Answered, Opened}
use Rattle.board.specs.Addresses.{page_of, place_of}
use Rattle.board.specs.Boards.{BoardState, at_stage}
use Rattle.board.specs.Entries.{with_word}
use Rattle.board.specs.Posts.{own_request, invalidates}
use Rattle.board.specs.Serving.{owns}

pub record Opening : Type 0 where
  pub state : BoardState
  pub entry : PageEntry
  pub posts : List Message
  pub answer : AccessAnswer

-- the access is answered within the call
abbrev pub answered : BoardState → PageEntry → ℕ → Opening
answered s e word = record { state = s; entry = e; posts = []; answer = Answered word }

-- the access opens at a stage, and posts messages
abbrev pub opened : BoardState → PageEntry → Stage → List Message → Opening
opened s e stage posts = record { state = at_stage s stage; entry = e; posts = posts; answer = Opened }

-- a load with access read or write brings the word; else it asks for the page
abbrev pub load_with : Access → BoardState → PageEntry → ℕ → Opening
load_with access.None s e address = opened s e (LoadAsked (record { address = address; deferred = None })) (own_request Load s.number (page_of address) e.hint ∷ [])
load_with access.Read s e address = answered s e (get_or e.words (place_of address) 0)
load_with access.Write s e address = answered s e (get_or e.words (place_of address) 0)

abbrev pub load : BoardState → PageEntry → ℕ → Opening
load s e address = load_with e.access s e address

-- the word is put, with access write
abbrev pub written : PageEntry → ℕ → ℕ → PageEntry
written e address word = record (with_word e (place_of address) word) { access = access.Write }

abbrev pub put : BoardState → PageEntry → ℕ → ℕ → Opening
put s e address word = answered s (written e address word) word

-- an owner with copies out has them invalidated first
abbrev pub clearing_store : BoardState → PageEntry → ℕ → ℕ → Opening
clearing_store s e address word =
    opened s e (Clearing (record { store = record { address = address; word = word }; awaited = e.copies; hops = 0 })) (invalidates s.number (page_of address) e.copies)

abbrev pub owner_store : BoardState → PageEntry → ℕ → ℕ → Opening
owner_store s e address word = cond (is_empty e.copies) (put s e address word) (clearing_store s e address word)

-- any other board asks for the page
abbrev pub asking_store : BoardState → PageEntry → ℕ → ℕ → Opening
asking_store s e address word = opened s e (StoreAsked (record { address = address; word = word })) (own_request Store s.number (page_of address) e.hint ∷ [])

abbrev pub store_with : Access → BoardState → PageEntry → ℕ → ℕ → Opening
store_with access.Write s e address word = put s e address word
store_with access.None s e address word = cond (owns s.number e) (owner_store s e address word) (asking_store s e address word)
store_with access.Read s e address word = cond (owns s.number e) (owner_store s e address word) (asking_store s e address word)

abbrev pub store : BoardState → PageEntry → ℕ → ℕ → Opening
store s e address word = store_with e.access s e address word

-- the state, the entry, the outbox and the answer after an opening, whose outbox was empty before
abbrev pub Opens : Opening → BoardState → PageEntry → List Message → AccessAnswer → Type 0
Opens o state entry posts answer = (state ≡ o.state) × (entry ≡ o.entry) × (posts ≡ o.posts) × (answer ≡ o.answer)
