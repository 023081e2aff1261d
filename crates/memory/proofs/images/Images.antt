-- What the model has of a board's state, of an entry, of a message and of those that wait.
use Rattle.std.specs.Prelude.{◌≡◌, ℕ, List, map, set, Some, None, Option}
use Rattle.wire.specs.Bags.{Bag, empty, ◌&◌, either_order}
use Rattle.wire.specs.BoardSets as sets
use Rattle.wire.specs.declared.message.Message.{Message}
use Rattle.wire.specs.declared.message.Kind.TheVariants as kind
use Rattle.wire.specs.declared.message.Kind
use Rattle.board.specs.Addresses.{page_of, place_of}
use Rattle.board.specs.Boards.{BoardState}
use Rattle.board.specs.declared.entry.PageEntry.{PageEntry}
use Rattle.board.specs.declared.entry.Access as board
use Rattle.board.specs.declared.entry.Access.TheVariants as access
use Rattle.board.specs.declared.request.AccessKind.{AccessKind}
use Rattle.board.specs.declared.request.AccessKind.TheVariants as by
use Rattle.board.specs.declared.request.Request.{Request}
use Rattle.board.specs.declared.stage.Stage as stages
use Rattle.board.specs.declared.stage.Stage.TheVariants as stage
use Rattle.memory.proofs.model.Board.{Access, none, read, write, Kind, load, store, Req, Entry, Mail, request, copy, grant, invalidate, acknowledge}
use Rattle.memory.proofs.model.Kit.{Maybe, absent, just, closed, asked, clears, Seat, Post}

-- the words of a page
abbrev pub W : Type 0
W = List ℕ

abbrev pub access_image : board.Access → Access
access_image access.None = none
access_image access.Read = read
access_image access.Write = write

abbrev pub kind_image : AccessKind → Kind
kind_image by.Load = load
kind_image by.Store = store

abbrev pub request_image : Request → Req
request_image r = record { asker = r.asker; kind = kind_image r.kind; hops = r.hops }

abbrev pub entry_image : PageEntry → Entry W
entry_image e = record { access = access_image e.access; hint = e.hint; copies = e.copies.members; words = e.words }

abbrev pub mail_by : Kind.Kind → Message → Mail W
mail_by kind.ReadRequest m = request load m.to m.asker m.hops
mail_by kind.WriteRequest m = request store m.to m.asker m.hops
mail_by kind.Copy m = copy m.from m.to m.hops m.words
mail_by kind.Grant m = grant m.from m.to m.hops m.copies.members m.words
mail_by kind.Invalidate m = invalidate m.from m.to
mail_by kind.Acknowledgement m = acknowledge m.from m.to

abbrev pub mail_image : Message → Mail W
mail_image m = mail_by m.kind m

abbrev pub post_image : Message → Post W
post_image m = record { page = m.page; mail = mail_image m }

-- each item of a bag
abbrev pub map_bag : {X Y : Type 0} → (X → Y) → Bag X → Bag Y
map_bag f empty = empty
map_bag f (x & b) = f x & map_bag f b
map_bag f (either_order x y b i) = either_order (f x) (f y) (map_bag f b) i

-- a store puts its word among those of the page
abbrev pub put_word : ℕ → ℕ → W → W
put_word address word ws = set ws (place_of address) word

abbrev pub deferral_image : Option ℕ → Maybe ℕ
deferral_image None = absent
deferral_image (Some board) = just board

-- what the model has of an open access
abbrev pub StageIs : stages.Stage → Seat W → Type 0
StageIs stage.Idle s = s.stage ≡ closed
StageIs (stage.LoadAsked a) s = (s.stage ≡ asked load) × (s.page ≡ page_of a.address) × (s.deferral ≡ deferral_image a.deferred)
StageIs (stage.StoreAsked a) s = (s.stage ≡ asked store) × (s.page ≡ page_of a.address) × (s.act ≡ put_word a.address a.word)
StageIs (stage.Clearing c) s = (s.stage ≡ clears c.hops) × (s.page ≡ page_of c.store.address) × (s.act ≡ put_word c.store.address c.store.word) × ((y : ℕ) → s.awaited y ≡ sets.has c.awaited y)

pub record SeatIs (b : BoardState) (s : Seat W) : Type 0 where
  pub stage : StageIs b.stage s
  pub waiting : s.waiting ≡ map request_image b.waiting
