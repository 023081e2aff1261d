-- The messages that a board posts.
use Rattle.std.specs.Prelude.{ℕ, ◌+◌, List, map, min}
use Rattle.wire.specs.BoardSets.{members, without_member}
use Rattle.wire.specs.Messages.{blank, most_hops}
use Rattle.wire.specs.declared.board_set.BoardSet.{BoardSet}
use Rattle.wire.specs.declared.message.Message.{Message}
use Rattle.wire.specs.declared.message.Kind.{Kind}
use Rattle.wire.specs.declared.message.Kind.TheVariants.{ReadRequest, WriteRequest, Copy, Grant, Invalidate, Acknowledgement}
use Rattle.board.specs.declared.entry.PageEntry.{PageEntry}
use Rattle.board.specs.declared.request.AccessKind.{AccessKind}
use Rattle.board.specs.declared.request.AccessKind.TheVariants.{Load, Store}
use Rattle.board.specs.declared.request.Request.{Request}

-- a message without words and without a copy set
abbrev pub plain : Kind → ℕ → ℕ → ℕ → ℕ → ℕ → Message
plain kind page from to asker hops = record blank { kind = kind; page = page; from = from; to = to; asker = asker; hops = hops }

-- a load asks by a read request, a store by a write request
abbrev pub asks_by : AccessKind → Kind
asks_by Load = ReadRequest
asks_by Store = WriteRequest

-- a board asks for a page: the request goes to its hint
abbrev pub own_request : AccessKind → ℕ → ℕ → ℕ → Message
own_request kind me page hint = plain (asks_by kind) page me hint me 0

-- a request is passed on to the hint, with hops one more, at most the most
abbrev pub request_on : ℕ → ℕ → ℕ → Request → Message
request_on me page hint r = plain (asks_by r.kind) page me hint r.asker (min most_hops (r.hops + 1))

-- a copy of the page for who asked for it
abbrev pub copy_for : ℕ → ℕ → PageEntry → Request → Message
copy_for me page e r = record (plain Copy page me r.asker r.asker r.hops) { words = e.words }

-- the page and its ownership for who asked for it, with the copy set less the asker
abbrev pub grant_for : ℕ → ℕ → PageEntry → Request → Message
grant_for me page e r = record (plain Grant page me r.asker r.asker r.hops) { copies = without_member e.copies r.asker; words = e.words }

abbrev pub invalidate : ℕ → ℕ → ℕ → Message
invalidate me page to = plain Invalidate page me to me 0

-- an invalidate to each member of a copy set, in rising order
abbrev pub invalidates : ℕ → ℕ → BoardSet → List Message
invalidates me page copies = map (invalidate me page) (members copies)

abbrev pub acknowledgement : ℕ → ℕ → ℕ → Message
acknowledgement me page to = plain Acknowledgement page me to to 0
