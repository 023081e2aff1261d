-- A board keeps its number.
use Rattle.std.proofs.Common.{◌≡◌, ℕ, Bool, true, false, cond, ◌==◌, refl}
use Rattle.wire.specs.BoardSets.{is_empty, without_member}
use Rattle.wire.specs.declared.message.Message.{Message}
use Rattle.wire.specs.declared.message.Kind.{Kind}
use Rattle.wire.specs.declared.message.Kind.TheVariants.{ReadRequest, WriteRequest, Copy, Grant, Invalidate, Acknowledgement}
use Rattle.board.specs.declared.entry.PageEntry.{PageEntry}
use Rattle.board.specs.declared.entry.Access.{Access}
use Rattle.board.specs.declared.entry.Access.TheVariants as access
use Rattle.board.specs.declared.stage.Stage.{Stage}
use Rattle.board.specs.declared.stage.Stage.TheVariants.{Idle, LoadAsked, StoreAsked, Clearing}
use Rattle.board.specs.Addresses.{page_of}
use Rattle.board.specs.Boards.{BoardState}
use Rattle.board.specs.Openings.{Opening, load_with, store_with, owner_store, asking_store, put, clearing_store}
use Rattle.board.specs.Serving.{owns}
use Rattle.board.specs.Stages.{is_on}
use Rattle.board.specs.Steps.{Step, defer, give_back, arrives, arrive}

-- of two of which each keeps something, either does
either : {X : Type 0} (f : X → ℕ) (n : ℕ) (b : Bool) (x y : X) → f x ≡ n → f y ≡ n → f (cond b x y) ≡ n
either f n true x y p q = p
either f n false x y p q = q

pub number_loading : (a : Access) (s : BoardState) (e : PageEntry) (address : ℕ) → (load_with a s e address).state.number ≡ s.number
number_loading access.None s e address = refl
number_loading access.Read s e address = refl
number_loading access.Write s e address = refl

owner_number : (s : BoardState) (e : PageEntry) (address word : ℕ) → (owner_store s e address word).state.number ≡ s.number
owner_number s e address word = either (λ (o : Opening). o.state.number) s.number (is_empty e.copies) (put s e address word) (clearing_store s e address word) refl refl

pub number_storing : (a : Access) (s : BoardState) (e : PageEntry) (address word : ℕ) → (store_with a s e address word).state.number ≡ s.number
number_storing access.Write s e address word = refl
number_storing access.None s e address word = either (λ (o : Opening). o.state.number) s.number (owns s.number e) (owner_store s e address word) (asking_store s e address word) (owner_number s e address word) refl
number_storing access.Read s e address word = either (λ (o : Opening). o.state.number) s.number (owns s.number e) (owner_store s e address word) (asking_store s e address word) (owner_number s e address word) refl

number_arriving : (stage : Stage) (kind : Kind) (s : BoardState) (e : PageEntry) (m : Message) → (arrives stage kind s e m).state.number ≡ s.number
number_arriving stage ReadRequest s e m = either (λ (t : Step). t.state.number) s.number (is_on stage m.page) _ _ refl refl
number_arriving stage WriteRequest s e m = either (λ (t : Step). t.state.number) s.number (is_on stage m.page) _ _ refl refl
number_arriving (LoadAsked load) Copy s e m = refl
number_arriving (StoreAsked store) Grant s e m = either (λ (t : Step). t.state.number) s.number (is_empty m.copies) _ _ refl refl
number_arriving (LoadAsked load) Invalidate s e m = either (λ (t : Step). t.state.number) s.number (page_of load.address == m.page) (defer load s e m) (give_back s e m) refl refl
number_arriving Idle Invalidate s e m = refl
number_arriving (StoreAsked store) Invalidate s e m = refl
number_arriving (Clearing clearing) Invalidate s e m = refl
number_arriving (Clearing clearing) Acknowledgement s e m = either (λ (t : Step). t.state.number) s.number (is_empty (without_member clearing.awaited m.from)) _ _ refl refl
number_arriving _ _ s e m = refl

pub number_arrived : (s : BoardState) (e : PageEntry) (m : Message) → (arrive s e m).state.number ≡ s.number
number_arrived s e m = number_arriving s.stage m.kind s e m
