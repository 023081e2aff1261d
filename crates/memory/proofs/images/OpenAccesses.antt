-- What a step at a board does to its open access.
use Rattle.std.proofs.Common.{◌≡◌, ℕ, Bool, true, false, cond, eqb, Some, None, Option, refl, ap, ◌∙◌, sym}
use Rattle.std.proofs.lemmas.Bool.{true≢false}
use Rattle.wire.specs.BoardSets.{is_empty, without_member}
use Rattle.wire.specs.declared.message.Message.{Message}
use Rattle.wire.specs.declared.message.Kind.{Kind}
use Rattle.wire.specs.declared.message.Kind.TheVariants.{ReadRequest, WriteRequest, Copy, Grant, Invalidate, Acknowledgement}
use Rattle.board.specs.Addresses.{page_of}
use Rattle.board.specs.Boards.{BoardState, at_stage}
use Rattle.board.specs.Stages.{is_on}
use Rattle.board.specs.Steps as board
use Rattle.board.specs.declared.answer.Finished.{Finished}
use Rattle.board.specs.declared.entry.PageEntry.{PageEntry}
use Rattle.board.specs.declared.stage.OpenLoad.{OpenLoad}
use Rattle.board.specs.declared.stage.OpenStore.{OpenStore}
use Rattle.board.specs.declared.stage.ClearingStore.{ClearingStore}
use Rattle.board.specs.declared.stage.Stage.{Stage}
use Rattle.board.specs.declared.stage.Stage.TheVariants.{Idle, LoadAsked, StoreAsked, Clearing}
use Rattle.memory.specs.Histories.{Access, load, store, kind_of, address_of}

-- the open access
abbrev pub pending_of : Stage → Option Access
pending_of Idle = None
pending_of (LoadAsked a) = Some (load a.address)
pending_of (StoreAsked a) = Some (store a.address a.word)
pending_of (Clearing c) = Some (store c.store.address c.store.word)

-- no access is open that asked for its page and still waits for it
abbrev pub not_asked : Stage → Bool
not_asked Idle = true
not_asked (LoadAsked a) = false
not_asked (StoreAsked a) = false
not_asked (Clearing c) = true

-- a store is answered with its own word
abbrev pub OwnWord : Access → ℕ → Type 0
OwnWord (load address) word = Unit {0}
OwnWord (store address own) word = word ≡ own

-- an access that finished was the open one
pub record WasOpen (s : BoardState) (st : Stage) (f : Finished) : Type 0 where
  pub access : Access
  pub pending : pending_of st ≡ Some access
  pub same_kind : f.kind ≡ kind_of access
  pub same_address : f.address ≡ address_of access
  pub own_word : OwnWord access f.word
  pub here : f.board ≡ s.number

-- the open access stays so, or finishes
abbrev pub Goes : BoardState → Stage → board.Step → Option Finished → Type 0
Goes s st t None = pending_of t.state.stage ≡ pending_of st
Goes s st t (Some f) = WasOpen s st f × (t.state.stage ≡ Idle)

module _ (s : BoardState) (e : PageEntry) (m : Message) where
  abbrev GoesOn : Stage → board.Step → Type 0
  GoesOn st t = Goes s st t t.finished

  request : (st : Stage) → s.stage ≡ st → (b : Bool) → GoesOn st (cond b (board.join s e m) (board.serve s e m))
  request st q true = ap pending_of q
  request st q false = ap pending_of q

  copied : (a : OpenLoad) → GoesOn (LoadAsked a) (board.finish_load a s e m)
  copied a = (record { access = load a.address; pending = refl; same_kind = refl; same_address = refl; own_word = tt; here = refl }, refl)

  granted : (a : OpenStore) (b : Bool) → GoesOn (StoreAsked a) (cond b (board.finish_store a m.hops s m.page (board.with_grant s.number e m)) (board.clear a s (board.with_grant s.number e m) m))
  granted a true = (record { access = store a.address a.word; pending = refl; same_kind = refl; same_address = refl; own_word = refl; here = refl }, refl)
  granted a false = refl

  deferred : (a : OpenLoad) (b : Bool) → s.stage ≡ LoadAsked a → GoesOn (LoadAsked a) (cond b (board.defer a s e m) (board.give_back s e m))
  deferred a true q = refl
  deferred a false q = ap pending_of q

  counted : (c : ClearingStore) (b : Bool) → GoesOn (Clearing c)
      (cond b (board.finish_store c.store c.hops s m.page e) (board.still (at_stage s (Clearing (record c { awaited = without_member c.awaited m.from }))) e))
  counted c true = (record { access = store c.store.address c.store.word; pending = refl; same_kind = refl; same_address = refl; own_word = refl; here = refl }, refl)
  counted c false = refl

  by_kind : (st : Stage) (k : Kind) → s.stage ≡ st → GoesOn st (board.arrives st k s e m)
  by_kind st ReadRequest q = request st q (is_on st m.page)
  by_kind st WriteRequest q = request st q (is_on st m.page)
  by_kind (LoadAsked a) Copy q = copied a
  by_kind (StoreAsked a) Grant q = granted a (is_empty m.copies)
  by_kind (LoadAsked a) Invalidate q = deferred a (eqb (page_of a.address) m.page) q
  by_kind Idle Invalidate q = ap pending_of q
  by_kind (StoreAsked a) Invalidate q = ap pending_of q
  by_kind (Clearing c) Invalidate q = ap pending_of q
  by_kind (Clearing c) Acknowledgement q = counted c (is_empty (without_member c.awaited m.from))
  by_kind st _ q = ap pending_of q

  pub arrived : GoesOn s.stage (board.arrive s e m)
  arrived = by_kind s.stage m.kind refl

  -- no message makes a board ask
  unasked_counted : (c : ClearingStore) (b : Bool) →
      not_asked (cond b (board.finish_store c.store c.hops s m.page e) (board.still (at_stage s (Clearing (record c { awaited = without_member c.awaited m.from }))) e)).state.stage ≡ true
  unasked_counted c true = refl
  unasked_counted c false = refl

  unasked_request : (b : Bool) → not_asked s.stage ≡ true → not_asked (cond b (board.join s e m) (board.serve s e m)).state.stage ≡ true
  unasked_request true h = h
  unasked_request false h = h

  unasked_by : (st : Stage) (k : Kind) → s.stage ≡ st → not_asked st ≡ true → not_asked (board.arrives st k s e m).state.stage ≡ true
  unasked_by st ReadRequest q h = unasked_request (is_on st m.page) (ap not_asked q ∙ h)
  unasked_by st WriteRequest q h = unasked_request (is_on st m.page) (ap not_asked q ∙ h)
  unasked_by (LoadAsked a) k q h = absurd (true≢false (sym h))
  unasked_by (StoreAsked a) k q h = absurd (true≢false (sym h))
  unasked_by (Clearing c) Acknowledgement q h = unasked_counted c (is_empty (without_member c.awaited m.from))
  unasked_by Idle k q h = still_by k
    where
      still_by : (k : Kind) → not_asked (board.arrives Idle k s e m).state.stage ≡ true
      still_by ReadRequest = ap not_asked q
      still_by WriteRequest = ap not_asked q
      still_by Copy = ap not_asked q
      still_by Grant = ap not_asked q
      still_by Invalidate = ap not_asked q
      still_by Acknowledgement = ap not_asked q
  unasked_by (Clearing c) Copy q h = ap not_asked q
  unasked_by (Clearing c) Grant q h = ap not_asked q
  unasked_by (Clearing c) Invalidate q h = ap not_asked q

  pub stays_unasked : not_asked s.stage ≡ true → not_asked (board.arrive s e m).state.stage ≡ true
  stays_unasked h = unasked_by s.stage m.kind refl h
