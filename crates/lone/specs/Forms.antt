-- What the fields of a lone board may hold together, whatever messages have come.
use Rattle.std.specs.Prelude.{ℕ, Bool, true, false, not, cond, ◌&&◌, ◌||◌, List, [], ◌∷◌, Some, None, Option, ◌==◌, nat_le, nat_lt}
use Rattle.std.specs.List.{list_all}
use Rattle.wire.specs.BoardSets.{has, is_empty, is_below, is_part}
use Rattle.wire.specs.Messages.{most_hops}
use Rattle.board.specs.declared.entry.PageEntry.{PageEntry}
use Rattle.board.specs.declared.entry.Access.{Access}
use Rattle.board.specs.declared.entry.Access.TheVariants as access
use Rattle.board.specs.declared.request.Request.{Request}
use Rattle.board.specs.declared.stage.Stage.{Stage}
use Rattle.board.specs.declared.stage.Stage.TheVariants.{Idle, LoadAsked, StoreAsked, Clearing}
use Rattle.board.specs.Addresses.{page_of}
use Rattle.board.specs.Expected.{waits}
use Rattle.board.specs.Serving.{owns}
use Rattle.lone.specs.Lones.{Lone}
use Rattle.lone.specs.Tables.{entry_at}

abbrev pub reads : Access → Bool
reads access.None = false
reads access.Read = true
reads access.Write = true

abbrev pub writes : Access → Bool
writes access.None = false
writes access.Read = false
writes access.Write = true

-- an owner has access, and access write only while no copies are out; only an owner has access write, or copies out
abbrev pub owner_form : PageEntry → Bool
owner_form e = reads e.access && (not (writes e.access) || is_empty e.copies)

abbrev pub other_form : PageEntry → Bool
other_form e = not (writes e.access) && is_empty e.copies

module _ (boards me : ℕ) where
  -- another of the boards
  abbrev pub another : ℕ → Bool
  another board = nat_lt board boards && not (board == me)

  abbrev pub entry_form : PageEntry → Bool
  entry_form e = nat_lt e.hint boards && is_below e.copies boards && not (has e.copies me) && cond (owns me e) (owner_form e) (other_form e)

  -- at most one request of each other board waits
  abbrev pub waiting_form : List Request → Bool
  waiting_form [] = true
  waiting_form (r ∷ rs) = another r.asker && nat_le r.hops most_hops && not (waits r.asker rs) && waiting_form rs

  -- a deferred invalidation is from another board
  abbrev pub deferred_form : Option ℕ → Bool
  deferred_form None = true
  deferred_form (Some board) = another board

abbrev pub none_wait : List Request → Bool
none_wait [] = true
none_wait (r ∷ rs) = false

-- the open access beside the entry of its page: a load is asked where access is none, a store where the page is not owned;
-- a clearing board owns the page, and awaits some of its copy set; requests wait under an open access alone
abbrev pub stage_form : Lone → Stage → Bool
stage_form l Idle = none_wait l.state.waiting
stage_form l (LoadAsked load) =
    nat_lt (page_of load.address) l.pages && not (reads (entry_at l.table (page_of load.address)).access) && deferred_form l.boards l.state.number load.deferred
stage_form l (StoreAsked store) =
    nat_lt (page_of store.address) l.pages && not (owns l.state.number (entry_at l.table (page_of store.address)))
stage_form l (Clearing clearing) =
    let e = entry_at l.table (page_of clearing.store.address) in
    nat_lt (page_of clearing.store.address) l.pages && nat_le clearing.hops most_hops && owns l.state.number e
    && not (is_empty clearing.awaited) && is_part clearing.awaited e.copies

abbrev pub lone_form : Lone → Bool
lone_form l =
    nat_lt l.state.number l.boards && list_all (entry_form l.boards l.state.number) l.table
    && waiting_form l.boards l.state.number l.state.waiting && stage_form l l.state.stage
