-- Which messages a board expects, by the stage of its open access and the message's kind together, with the entry of the message's page.
use Rattle.std.specs.Prelude.{ℕ, Bool, false, not, ◌&&◌, List, is_some, ◌==◌}
use Rattle.std.specs.List.{list_any}
use Rattle.wire.specs.BoardSets.{has}
use Rattle.wire.specs.declared.message.Message.{Message}
use Rattle.wire.specs.declared.message.Kind.{Kind}
use Rattle.wire.specs.declared.message.Kind.TheVariants.{ReadRequest, WriteRequest, Copy, Grant, Invalidate, Acknowledgement}
use Rattle.board.specs.declared.entry.PageEntry.{PageEntry}
use Rattle.board.specs.declared.request.Request.{Request}
use Rattle.board.specs.declared.stage.Stage.{Stage}
use Rattle.board.specs.declared.stage.Stage.TheVariants.{LoadAsked, StoreAsked, Clearing}
use Rattle.board.specs.Addresses.{page_of}
use Rattle.board.specs.Boards.{BoardState}
use Rattle.board.specs.Serving.{owns}

-- a request of this board waits
abbrev pub waits : ℕ → List Request → Bool
waits board rs = list_any (λ r. r.asker == board) rs

-- a request whose asker is another board, and has no request that waits
abbrev pub new_asker : BoardState → Message → Bool
new_asker s m = not (m.asker == s.number) && not (waits m.asker s.waiting)

-- an invalidate where the board does not own the page
abbrev pub not_owned : BoardState → PageEntry → Bool
not_owned s e = not (owns s.number e)

abbrev pub expects : Stage → Kind → BoardState → PageEntry → Message → Bool
expects _ ReadRequest s e m = new_asker s m
expects _ WriteRequest s e m = new_asker s m
expects (LoadAsked load) Copy s e m = page_of load.address == m.page
expects (StoreAsked store) Grant s e m = page_of store.address == m.page
expects (LoadAsked load) Invalidate s e m = not_owned s e && not (page_of load.address == m.page && is_some load.deferred)
expects _ Invalidate s e m = not_owned s e
expects (Clearing clearing) Acknowledgement s e m = page_of clearing.store.address == m.page && has clearing.awaited m.from
expects _ _ s e m = false

abbrev pub expected : BoardState → PageEntry → Message → Bool
expected s e m = expects s.stage m.kind s e m
