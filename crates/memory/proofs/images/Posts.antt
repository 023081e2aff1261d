-- What a board posts carries copy sets with room for sixteen, and the board keeps its number.
use Rattle.std.proofs.Common.{◌≡◌, ℕ, Bool, true, false, cond, eqb, List, [], ◌∷◌, map, get_or, length, Some, None, Option, refl, ◌∙◌}
use Rattle.std.proofs.lemmas.List.{length-set}
use Rattle.std.specs.List.{AllByRecursion as All}
use Rattle.wire.specs.BoardSets.{is_empty, without_member}
use Rattle.wire.specs.declared.message.Message.{Message}
use Rattle.wire.specs.declared.message.Kind.{Kind}
use Rattle.wire.specs.declared.message.Kind.TheVariants.{ReadRequest, WriteRequest, Copy, Grant, Invalidate, Acknowledgement}
use Rattle.board.specs.Addresses.{page_of, place_of}
use Rattle.board.specs.Boards.{BoardState, at_stage}
use Rattle.board.specs.Openings.{load, load_with, store, store_with, owner_store, asking_store, put, clearing_store}
use Rattle.board.specs.Posts.{invalidate, acknowledgement}
use Rattle.board.specs.Serving.{owns, served, served_by_owner, passed_on, posts_for}
use Rattle.board.specs.Stages.{is_on}
use Rattle.board.specs.Steps as board
use Rattle.board.specs.declared.entry.Access.{Access}
use Rattle.board.specs.declared.entry.Access.TheVariants as access
use Rattle.board.specs.declared.entry.PageEntry.{PageEntry}
use Rattle.board.specs.declared.request.AccessKind.{AccessKind}
use Rattle.board.specs.declared.request.AccessKind.TheVariants as sort
use Rattle.board.specs.declared.request.Request.{Request}
use Rattle.board.specs.declared.stage.Stage.{Stage}
use Rattle.board.specs.declared.stage.Stage.TheVariants.{Idle, LoadAsked, StoreAsked, Clearing}
use Rattle.lone.proofs.PostForms.{both_good}
use Rattle.memory.proofs.images.Serving.{Full, full_served, full_after}

abbrev pub Whole : Message → Type 0
Whole m = length m.copies.members ≡ 16

module _ (me page : ℕ) where
  by_owner : (k : AccessKind) (e : PageEntry) (r : Request) → Full e → Whole (served_by_owner k me page e r).post
  by_owner sort.Load e r f = refl
  by_owner sort.Store e r f = length-set e.copies.members r.asker false ∙ f

  served_whole : (e : PageEntry) (r : Request) → Full e → Whole (served me page e r).post
  served_whole e r f = by (owns me e)
    where
      by : (b : Bool) → Whole (cond b (served_by_owner r.kind me page e r) (passed_on me page e r)).post
      by true = by_owner r.kind e r f
      by false = refl

  all_whole : (rs : List Request) (e : PageEntry) → Full e → All Whole (posts_for me page e rs)
  all_whole [] e f = tt
  all_whole (r ∷ rs) e f = (served_whole e r f, all_whole rs (served me page e r).entry (full_served me page e r f))

  invalidates_whole : (bs : List ℕ) → All Whole (map (invalidate me page) bs)
  invalidates_whole [] = tt
  invalidates_whole (b ∷ bs) = (refl, invalidates_whole bs)

-- of the state, the entry and the posts after an opening or a step
pub record WholeStep (me : ℕ) (s : BoardState) (e : PageEntry) (posts : List Message) : Type 0 where
  pub number : s.number ≡ me
  pub entry : Full e
  pub posts_whole : All Whole posts

module _ (s : BoardState) (e : PageEntry) (full : Full e) where
  loaded_by : (a : Access) (address : ℕ) → let o = load_with a s e address in WholeStep s.number o.state o.entry o.posts
  loaded_by access.None address = record { number = refl; entry = full; posts_whole = (refl, tt) }
  loaded_by access.Read address = record { number = refl; entry = full; posts_whole = tt }
  loaded_by access.Write address = record { number = refl; entry = full; posts_whole = tt }

  pub loaded : (address : ℕ) → let o = load s e address in WholeStep s.number o.state o.entry o.posts
  loaded address = loaded_by e.access address

  owner_stored : (b : Bool) (address word : ℕ) → let o = cond b (put s e address word) (clearing_store s e address word) in WholeStep s.number o.state o.entry o.posts
  owner_stored true address word = record { number = refl; entry = full; posts_whole = tt }
  owner_stored false address word = record { number = refl; entry = full; posts_whole = invalidates_whole s.number (page_of address) _ }

  not_writing : (b : Bool) (address word : ℕ) → let o = cond b (owner_store s e address word) (asking_store s e address word) in WholeStep s.number o.state o.entry o.posts
  not_writing true address word = owner_stored (is_empty e.copies) address word
  not_writing false address word = record { number = refl; entry = full; posts_whole = (refl, tt) }

  stored_by : (a : Access) (address word : ℕ) → let o = store_with a s e address word in WholeStep s.number o.state o.entry o.posts
  stored_by access.None address word = not_writing (owns s.number e) address word
  stored_by access.Read address word = not_writing (owns s.number e) address word
  stored_by access.Write address word = record { number = refl; entry = full; posts_whole = tt }

  pub stored : (address word : ℕ) → let o = store s e address word in WholeStep s.number o.state o.entry o.posts
  stored address word = stored_by e.access address word

  module _ (m : Message) (whole : Whole m) where
    abbrev AfterStep : board.Step → Type 0
    AfterStep t = WholeStep s.number t.state t.entry t.posts

    closed : (page : ℕ) (x : PageEntry) (posted : List Message) (fin : _) → Full x → All Whole posted → AfterStep (board.close s page x posted fin)
    closed page x posted fin f w = record { number = refl; entry = full_after s.number page s.waiting x f; posts_whole = both_good Whole posted (posts_for s.number page x s.waiting) w (all_whole s.number page s.waiting x f) }

    copied : (d : Option ℕ) (fin : _) → AfterStep (board.close s m.page (board.entry_deferred d (board.with_copy e m)) (board.posts_deferred s.number m.page d) fin)
    copied None fin = closed m.page (board.with_copy e m) [] fin full tt
    copied (Some c) fin = closed m.page (board.given_back (board.with_copy e m)) (acknowledgement s.number m.page c ∷ []) fin full (refl, tt)

    request : (b : Bool) → AfterStep (cond b (board.join s e m) (board.serve s e m))
    request true = record { number = refl; entry = full; posts_whole = tt }
    request false = record { number = refl; entry = full_served s.number m.page e (board.request_in m) full; posts_whole = (served_whole s.number m.page e (board.request_in m) full, tt) }

    gave_back : AfterStep (board.give_back s e m)
    gave_back = record { number = refl; entry = full; posts_whole = (refl, tt) }

    deferred : (b : Bool) (a : _) → AfterStep (cond b (board.defer a s e m) (board.give_back s e m))
    deferred true a = record { number = refl; entry = full; posts_whole = tt }
    deferred false a = gave_back

    granted : (b : Bool) (a : _) → AfterStep (cond b (board.finish_store a m.hops s m.page (board.with_grant s.number e m)) (board.clear a s (board.with_grant s.number e m) m))
    granted true a = closed m.page (board.with_store (board.with_grant s.number e m) a) [] (record { board = s.number; kind = sort.Store; address = a.address; word = a.word; hops = m.hops }) refl tt
    granted false a = record { number = refl; entry = whole; posts_whole = invalidates_whole s.number m.page _ }

    counted : (b : Bool) (c : _) → AfterStep (cond b (board.finish_store c.store c.hops s m.page e) (board.still (at_stage s (Clearing (record c { awaited = without_member c.awaited m.from }))) e))
    counted true c = closed m.page (board.with_store e c.store) [] (record { board = s.number; kind = sort.Store; address = c.store.address; word = c.store.word; hops = c.hops }) refl tt
    counted false c = record { number = refl; entry = full; posts_whole = tt }

    by_kind : (st : Stage) (k : Kind) → AfterStep (board.arrives st k s e m)
    by_kind st ReadRequest = request (is_on st m.page)
    by_kind st WriteRequest = request (is_on st m.page)
    by_kind Idle Invalidate = gave_back
    by_kind (LoadAsked a) Invalidate = deferred (eqb (page_of a.address) m.page) a
    by_kind (StoreAsked a) Invalidate = gave_back
    by_kind (Clearing c) Invalidate = gave_back
    by_kind (LoadAsked a) Copy = copied a.deferred (record { board = s.number; kind = sort.Load; address = a.address; word = get_or m.words (place_of a.address) 0; hops = m.hops })
    by_kind (StoreAsked a) Grant = granted (is_empty m.copies) a
    by_kind (Clearing c) Acknowledgement = counted (is_empty (without_member c.awaited m.from)) c
    by_kind _ _ = record { number = refl; entry = full; posts_whole = tt }

    pub arrived : AfterStep (board.arrive s e m)
    arrived = by_kind s.stage m.kind
