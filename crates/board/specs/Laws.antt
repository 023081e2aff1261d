-- Laws above the rules of a board.
use Rattle.std.specs.Prelude.{◌≡◌, ℕ, true, false, ◌⊎◌, [], ◌∷◌, ◌++◌, length, Some}
use Rattle.std.specs.List.{AllByRecursion}
use Rattle.wire.specs.BoardSets.{no_boards}
use Rattle.wire.specs.declared.message.Message.{Message}
use Rattle.wire.specs.declared.message.Kind.TheVariants.{ReadRequest, WriteRequest, Copy, Grant, Invalidate}
use Rattle.board.specs.declared.answer.Finished.{Finished}
use Rattle.board.specs.declared.entry.PageEntry.{PageEntry}
use Rattle.board.specs.declared.entry.Access.TheVariants as access
use Rattle.board.specs.declared.request.AccessKind.TheVariants.{Store}
use Rattle.board.specs.declared.request.Request.{Request}
use Rattle.board.specs.declared.stage.OpenLoad.{OpenLoad}
use Rattle.board.specs.declared.stage.OpenStore.{OpenStore}
use Rattle.board.specs.declared.stage.Stage.TheVariants.{LoadAsked, StoreAsked}
use Rattle.board.specs.Addresses.{page_of}
use Rattle.board.specs.Boards.{BoardState}
use Rattle.board.specs.Posts.{acknowledgement}
use Rattle.board.specs.Serving.{owns, served, entry_after}
use Rattle.board.specs.Steps.{arrive, request_in}

abbrev pub IsRequest : Message → Type 0
IsRequest m = (m.kind ≡ ReadRequest) ⊎ (m.kind ≡ WriteRequest)

-- a board that does not own the page never serves: on a request it posts requests alone, and keeps its access, its copy set and its words
abbrev pub OthersPassOn : Type 0
OthersPassOn = (s : BoardState) (e : PageEntry) (m : Message) → IsRequest m → owns s.number e ≡ false →
    let t = arrive s e m in AllByRecursion IsRequest t.posts × (t.entry.access ≡ e.access) × (t.entry.copies ≡ e.copies) × (t.entry.words ≡ e.words)

-- where an owner serves another board, ownership stays with it beside a copy, or goes with the grant
abbrev pub OneOwner : Type 0
OneOwner = (me page : ℕ) (e : PageEntry) (r : Request) → owns me e ≡ true → (r.asker ≡ me → ⊥) →
    let v = served me page e r in ((v.post.kind ≡ Copy) × (owns me v.entry ≡ true)) ⊎ ((v.post.kind ≡ Grant) × (owns me v.entry ≡ false))

-- a request is served or kept, never both: a message is posted, or it waits
abbrev pub ServedOrKept : Type 0
ServedOrKept = (s : BoardState) (e : PageEntry) (m : Message) → IsRequest m →
    let t = arrive s e m in
    ((length t.posts ≡ 1) × (t.state.waiting ≡ s.waiting)) ⊎ ((t.posts ≡ []) × (t.state.waiting ≡ s.waiting ++ request_in m ∷ []))

-- a store that finishes leaves access write and an empty copy set, before those that wait are served
abbrev pub StoreFinishes : Type 0
StoreFinishes = (s : BoardState) (e : PageEntry) (m : Message) (f : Finished) → let t = arrive s e m in t.finished ≡ Some f → f.kind ≡ Store →
    (x : PageEntry) × (x.access ≡ access.Write) × (x.copies ≡ no_boards) × (t.entry ≡ entry_after s.number m.page x s.waiting)

-- an invalidate leaves the hint as it is
abbrev pub HintStays : Type 0
HintStays = (s : BoardState) (e : PageEntry) (m : Message) → m.kind ≡ Invalidate → (arrive s e m).entry.hint ≡ e.hint

-- while a load is open, no invalidate for its page is acknowledged
abbrev pub LoadsKeepCopies : Type 0
LoadsKeepCopies = (s : BoardState) (e : PageEntry) (m : Message) (load : OpenLoad) → s.stage ≡ LoadAsked load → page_of load.address ≡ m.page → m.kind ≡ Invalidate → (arrive s e m).posts ≡ []

-- while a store asks for its page, an invalidate is acknowledged at once, for that page too
abbrev pub StoresGiveCopiesBack : Type 0
StoresGiveCopiesBack = (s : BoardState) (e : PageEntry) (m : Message) (store : OpenStore) → s.stage ≡ StoreAsked store → m.kind ≡ Invalidate → (arrive s e m).posts ≡ acknowledgement s.number m.page m.from ∷ []
