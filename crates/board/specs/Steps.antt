-- What a message does at a board, with the entry of the message's page.
use Rattle.std.specs.Prelude.{◌≡◌, ℕ, cond, List, [], ◌∷◌, ◌++◌, Some, None, Option, ◌==◌, ◌<◌, length, get_or}
use Rattle.wire.specs.BoardSets.{is_empty, no_boards, without_member}
use Rattle.wire.specs.declared.message.Message.{Message}
use Rattle.wire.specs.declared.message.Kind.{Kind}
use Rattle.wire.specs.declared.message.Kind.TheVariants.{ReadRequest, WriteRequest, Copy, Grant, Invalidate, Acknowledgement}
use Rattle.board.specs.declared.entry.PageEntry.{PageEntry}
use Rattle.board.specs.declared.entry.Access.TheVariants as access
use Rattle.board.specs.declared.request.AccessKind.{AccessKind}
use Rattle.board.specs.declared.request.AccessKind.TheVariants.{Load, Store}
use Rattle.board.specs.declared.request.Request.{Request}
use Rattle.board.specs.declared.stage.OpenLoad.{OpenLoad}
use Rattle.board.specs.declared.stage.OpenStore.{OpenStore}
use Rattle.board.specs.declared.stage.ClearingStore.{ClearingStore}
use Rattle.board.specs.declared.stage.Stage.{Stage}
use Rattle.board.specs.declared.stage.Stage.TheVariants.{Idle, LoadAsked, StoreAsked, Clearing}
use Rattle.board.specs.declared.answer.Finished.{Finished}
use Rattle.board.specs.declared.answer.Arrival.{Arrival}
use Rattle.board.specs.declared.answer.Arrival.TheVariants as arrival
use Rattle.board.specs.Addresses.{page_of, place_of}
use Rattle.board.specs.Boards.{BoardState, at_stage}
use Rattle.board.specs.Stages.{is_on}
use Rattle.board.specs.Entries.{with_word}
use Rattle.board.specs.Posts.{acknowledgement, invalidates}
use Rattle.board.specs.Serving.{served, entry_after, posts_for}

-- the board's state and the page's entry afterwards, the messages posted in their order, and the access that finished, if one did
pub record Step : Type 0 where
  pub state : BoardState
  pub entry : PageEntry
  pub posts : List Message
  pub finished : Option Finished

-- nothing happens
abbrev pub still : BoardState → PageEntry → Step
still s e = record { state = s; entry = e; posts = []; finished = None }

-- Requests.

abbrev pub asked_kind : Kind → AccessKind
asked_kind WriteRequest = Store
asked_kind _ = Load

-- the request that a message carries
abbrev pub request_in : Message → Request
request_in m = record { kind = asked_kind m.kind; asker = m.asker; hops = m.hops }

abbrev pub serve : BoardState → PageEntry → Message → Step
serve s e m = let v = served s.number m.page e (request_in m) in record { state = s; entry = v.entry; posts = v.post ∷ []; finished = None }

-- the request joins those that wait
abbrev pub with_waiting : BoardState → Request → BoardState
with_waiting s r = record s { waiting = s.waiting ++ r ∷ [] }

abbrev pub join : BoardState → PageEntry → Message → Step
join s e m = still (with_waiting s (request_in m)) e

-- a request for the page of the open access waits; any other is served
abbrev pub wait_or_serve : Stage → BoardState → PageEntry → Message → Step
wait_or_serve stage s e m = cond (is_on stage m.page) (join s e m) (serve s e m)

-- Invalidations.

-- the copy is given up, and the sender told; the hint does not change
abbrev pub given_back : PageEntry → PageEntry
given_back e = record e { access = access.None }

abbrev pub give_back : BoardState → PageEntry → Message → Step
give_back s e m = record { state = s; entry = given_back e; posts = acknowledgement s.number m.page m.from ∷ []; finished = None }

-- an invalidate is deferred while a load on its page is open
abbrev pub defer : OpenLoad → BoardState → PageEntry → Message → Step
defer load s e m = still (at_stage s (LoadAsked (record load { deferred = Some m.from }))) e

abbrev pub defer_or_give_back : OpenLoad → BoardState → PageEntry → Message → Step
defer_or_give_back load s e m = cond (page_of load.address == m.page) (defer load s e m) (give_back s e m)

-- The end of an access.

-- the access is over: the requests that wait are served in order, after what was posted before
abbrev pub close : BoardState → ℕ → PageEntry → List Message → Finished → Step
close s page e posted f = record {
  state = record s { stage = Idle; waiting = [] };
  entry = entry_after s.number page e s.waiting;
  posts = posted ++ posts_for s.number page e s.waiting;
  finished = Some f;
}

-- a copy has come
abbrev pub with_copy : PageEntry → Message → PageEntry
with_copy e m = record e { access = access.Read; hint = m.from; words = m.words }

-- a deferred invalidation is done
abbrev pub entry_deferred : Option ℕ → PageEntry → PageEntry
entry_deferred None e = e
entry_deferred (Some board) e = given_back e

abbrev pub posts_deferred : ℕ → ℕ → Option ℕ → List Message
posts_deferred me page None = []
posts_deferred me page (Some board) = acknowledgement me page board ∷ []

-- a copy finishes the load; then a deferred invalidation is done, and then the requests that wait are served
abbrev pub finish_load : OpenLoad → BoardState → PageEntry → Message → Step
finish_load load s e m =
    close s m.page (entry_deferred load.deferred (with_copy e m)) (posts_deferred s.number m.page load.deferred)
    (record { board = s.number; kind = Load; address = load.address; word = get_or m.words (place_of load.address) 0; hops = m.hops })

-- a store that finishes has access write, an empty copy set and its word
abbrev pub with_store : PageEntry → OpenStore → PageEntry
with_store e store = record (with_word e (place_of store.address) store.word) { access = access.Write; copies = no_boards }

abbrev pub finish_store : OpenStore → ℕ → BoardState → ℕ → PageEntry → Step
finish_store store hops s page e =
    close s page (with_store e store) [] (record { board = s.number; kind = Store; address = store.address; word = store.word; hops = hops })

-- a grant has come: the board owns the page
abbrev pub with_grant : ℕ → PageEntry → Message → PageEntry
with_grant me e m = record e { access = access.Read; hint = me; copies = m.copies; words = m.words }

abbrev pub clear : OpenStore → BoardState → PageEntry → Message → Step
clear store s e m = record {
  state = at_stage s (Clearing (record { store = store; awaited = m.copies; hops = m.hops }));
  entry = e;
  posts = invalidates s.number m.page m.copies;
  finished = None;
}

-- with an empty copy set the store finishes; else the copies are invalidated first
abbrev pub take_ownership : OpenStore → BoardState → PageEntry → Message → Step
take_ownership store s e m =
    cond (is_empty m.copies) (finish_store store m.hops s m.page (with_grant s.number e m)) (clear store s (with_grant s.number e m) m)

-- an acknowledgement ends the waiting for its sender; the last one finishes the store
abbrev pub count_acknowledgement : ClearingStore → BoardState → PageEntry → Message → Step
count_acknowledgement clearing s e m =
    let rest = without_member clearing.awaited m.from in
    cond (is_empty rest) (finish_store clearing.store clearing.hops s m.page e) (still (at_stage s (Clearing (record clearing { awaited = rest }))) e)

-- What a message does depends on the stage of the open access and on its kind together. A kind that fits no stage does nothing.
abbrev pub arrives : Stage → Kind → BoardState → PageEntry → Message → Step
arrives stage ReadRequest s e m = wait_or_serve stage s e m
arrives stage WriteRequest s e m = wait_or_serve stage s e m
arrives (LoadAsked load) Copy s e m = finish_load load s e m
arrives (StoreAsked store) Grant s e m = take_ownership store s e m
arrives (LoadAsked load) Invalidate s e m = defer_or_give_back load s e m
arrives _ Invalidate s e m = give_back s e m
arrives (Clearing clearing) Acknowledgement s e m = count_acknowledgement clearing s e m
arrives _ _ s e m = still s e

abbrev pub arrive : BoardState → PageEntry → Message → Step
arrive s e m = arrives s.stage m.kind s e m

-- the answer: the access that finished, or that the message moved
abbrev pub answer_to : Message → ℕ → Option Finished → Arrival
answer_to m board (Some f) = arrival.Finished f
answer_to m board None = arrival.Moved board m.kind m.hops

-- the state, the entry, the outbox and the finished access after a step, whose outbox was empty before
abbrev pub Steps : Step → BoardState → PageEntry → List Message → Option Finished → Type 0
Steps t state entry posts finished = (state ≡ t.state) × (entry ≡ t.entry) × (posts ≡ t.posts) × (finished ≡ t.finished)

-- the same with the answer of the board
abbrev pub Arrives : Step → Message → ℕ → BoardState → PageEntry → List Message → Arrival → Type 0
Arrives t m board state entry posts answer = (state ≡ t.state) × (entry ≡ t.entry) × (posts ≡ t.posts) × (answer ≡ answer_to m board t.finished)

-- a request may join those that wait
abbrev pub RoomToWait : Kind → List Request → Type 0
RoomToWait ReadRequest rs = length rs < 15
RoomToWait WriteRequest rs = length rs < 15
RoomToWait _ rs = Unit {0}
