-- The messages that a lone board posts in one call.
use Rattle.std.proofs.Common.{◌≡◌, ℕ, ◌*◌, ◌<◌, ◌≤◌, nat_lt, Bool, true, false, not, cond, ◌&&◌, ◌++◌, Some, None, Option, length, refl, ap, eqb, ◌==◌, arith}
use Rattle.std.proofs.lemmas.Bool.{and_parts, and_from, lt-ltb, ltb-true, leb-true, eqb-false, eq-eqb}
use Rattle.std.specs.List.{AllByRecursion}
use Rattle.wire.specs.BoardSets.{has, is_empty, without_member}
use Rattle.wire.specs.Questions.{first_no}
use Rattle.wire.specs.declared.message.Message.{Message}
use Rattle.wire.specs.declared.message.Kind.{Kind}
use Rattle.wire.specs.declared.message.Kind.TheVariants.{ReadRequest, WriteRequest, Copy, Grant, Invalidate, Acknowledgement}
use Rattle.board.specs.declared.entry.PageEntry.{PageEntry}
use Rattle.board.specs.declared.entry.Access.{Access}
use Rattle.board.specs.declared.entry.Access.TheVariants as access
use Rattle.board.specs.declared.request.AccessKind.TheVariants.{Load, Store}
use Rattle.board.specs.declared.stage.Stage.{Stage}
use Rattle.board.specs.declared.stage.Stage.TheVariants.{LoadAsked, StoreAsked, Clearing}
use Rattle.board.specs.declared.stage.OpenLoad.{OpenLoad}
use Rattle.board.specs.declared.stage.OpenStore.{OpenStore}
use Rattle.board.specs.declared.stage.ClearingStore.{ClearingStore}
use Rattle.board.specs.Addresses.{page_of}
use Rattle.board.specs.Boards.{at_stage}
use Rattle.board.specs.Expected.{expects, waits, new_asker}
use Rattle.board.specs.Openings.{load_with, store_with, put, owner_store, clearing_store, asking_store}
use Rattle.board.specs.Serving.{owns, posts_for}
use Rattle.board.specs.Stages.{is_on}
use Rattle.board.specs.Steps.{arrives, request_in, join, serve, defer, give_back, finish_store, clear, still, with_copy, with_grant, with_store, entry_deferred, posts_deferred}
use Rattle.lone.specs.Calls.{load_at, store_at, arrive_at}
use Rattle.lone.specs.Forms.{reads, deferred_form, lone_form}
use Rattle.lone.specs.LoneQuestions.{access_questions, arrival_questions}
use Rattle.lone.specs.Lones.{Lone}
use Rattle.lone.specs.PostLaws.{GoodPost}
use Rattle.lone.specs.Tables.{entry_at}
use Rattle.lone.proofs.Accepting.{access_told, Accepted}
use Rattle.lone.proofs.EntryForms.{EntryTold, no_access, store_kept}
use Rattle.lone.proofs.LoneForms.{lone_told}
use Rattle.lone.proofs.ArrivalForms.{is, entry, waiting, at, copied_told, granted, clearing_owns}
use Rattle.lone.proofs.PostForms.{own_good, acknowledgement_good, served_good, all_good, invalidates_good, both_good}

module _ (l : Lone) (rows : length l.table ≡ 16) (boards : l.boards ≤ 16) (pages : l.pages ≤ 16) (form : lone_form l ≡ true) where
  mine : l.state.number < l.boards
  mine = (lone_told l rows form).number

  module _ (address : ℕ) (ok : first_no (access_questions l address) ≡ None) where
    inside : page_of address < l.pages
    inside = let h = ltb-true address (16 * l.pages) (access_told l address ok).0 in omega (arith, h)

    here : EntryTold l.boards l.state.number (entry_at l.table (page_of address))
    here = (lone_told l rows form).entries (page_of address) (omega (arith, inside, pages))

    load_good : (a : Access) → (entry_at l.table (page_of address)).access ≡ a → AllByRecursion (GoodPost l.boards l.pages l.state.number) (load_with a l.state (entry_at l.table (page_of address)) address).posts
    load_good access.None e =
        let e0 = entry_at l.table (page_of address) in (
          own_good l.boards l.pages l.state.number (page_of address) boards pages mine inside Load e0.hint here.hint
              (eqb-false e0.hint l.state.number (no_access l.boards l.state.number e0 (ap reads e) here)),
          tt,
        )
    load_good access.Read e = tt
    load_good access.Write e = tt

    pub load_posts : AllByRecursion (GoodPost l.boards l.pages l.state.number) (load_at l address).posts
    load_posts = load_good (entry_at l.table (page_of address)).access refl

    owner_good : (word : ℕ) (b : Bool) → let e = entry_at l.table (page_of address) in AllByRecursion (GoodPost l.boards l.pages l.state.number) (cond b (put l.state e address word) (clearing_store l.state e address word)).posts
    owner_good word true = tt
    owner_good word false = invalidates_good l.boards l.pages l.state.number (page_of address) boards pages mine inside (entry_at l.table (page_of address)).copies here.copies here.apart

    not_writing : (word : ℕ) (b : Bool) → owns l.state.number (entry_at l.table (page_of address)) ≡ b →
        let e = entry_at l.table (page_of address) in AllByRecursion (GoodPost l.boards l.pages l.state.number) (cond b (owner_store l.state e address word) (asking_store l.state e address word)).posts
    not_writing word true o = owner_good word (is_empty (entry_at l.table (page_of address)).copies)
    not_writing word false o =
        let e = entry_at l.table (page_of address) in
        (own_good l.boards l.pages l.state.number (page_of address) boards pages mine inside Store e.hint here.hint (eqb-false e.hint l.state.number o), tt)

    store_good : (word : ℕ) (a : Access) → AllByRecursion (GoodPost l.boards l.pages l.state.number) (store_with a l.state (entry_at l.table (page_of address)) address word).posts
    store_good word access.Write = tt
    store_good word access.None = not_writing word (owns l.state.number (entry_at l.table (page_of address))) refl
    store_good word access.Read = not_writing word (owns l.state.number (entry_at l.table (page_of address))) refl

    pub store_posts : (word : ℕ) → AllByRecursion (GoodPost l.boards l.pages l.state.number) (store_at l address word).posts
    store_posts word = store_good word (entry_at l.table (page_of address)).access

  module _ (m : Message) (ok : first_no (arrival_questions l m) ≡ None) where
    it : Accepted l m
    it = is l m rows pages form ok

    paged : m.page < l.pages
    paged = it.page

    told : EntryTold l.boards l.state.number (entry_at l.table m.page)
    told = entry l m rows pages form ok

    wait_good : (e : PageEntry) → EntryTold l.boards l.state.number e → AllByRecursion (GoodPost l.boards l.pages l.state.number) (posts_for l.state.number m.page e l.state.waiting)
    wait_good e t = all_good l.boards l.pages l.state.number m.page boards pages mine paged e l.state.waiting (waiting l m rows pages form ok) t

    request_good : (b : Bool) → new_asker l.state m ≡ true → AllByRecursion (GoodPost l.boards l.pages l.state.number) (cond b (join l.state (entry_at l.table m.page) m) (serve l.state (entry_at l.table m.page) m)).posts
    request_good true n = tt
    request_good false n =
        let a = and_parts (not (eqb m.asker l.state.number)) (not (waits m.asker l.state.waiting)) n in (
          served_good l.boards l.pages l.state.number m.page boards pages mine paged (entry_at l.table m.page) (request_in m)
              (and_from (nat_lt m.asker l.boards) (not (eqb m.asker l.state.number)) (lt-ltb m.asker l.boards it.asker) a.0) (leb-true m.hops 14 it.hops) told,
          tt,
        )

    back_good : AllByRecursion (GoodPost l.boards l.pages l.state.number) (give_back l.state (entry_at l.table m.page) m).posts
    back_good = (acknowledgement_good l.boards l.pages l.state.number m.page boards pages mine paged m.from it.from, tt)

    defer_good : (load : OpenLoad) (b : Bool) → AllByRecursion (GoodPost l.boards l.pages l.state.number) (cond b (defer load l.state (entry_at l.table m.page) m) (give_back l.state (entry_at l.table m.page) m)).posts
    defer_good load true = tt
    defer_good load false = back_good

    deferred_good : (deferred : Option ℕ) → deferred_form l.boards l.state.number deferred ≡ true → AllByRecursion (GoodPost l.boards l.pages l.state.number) (posts_deferred l.state.number m.page deferred)
    deferred_good None d = tt
    deferred_good (Some board) d = (acknowledgement_good l.boards l.pages l.state.number m.page boards pages mine paged board d, tt)

    copy_good : (load : OpenLoad) → l.state.stage ≡ LoadAsked load → (page_of load.address == m.page) ≡ true →
        AllByRecursion (GoodPost l.boards l.pages l.state.number) (posts_deferred l.state.number m.page load.deferred ++ posts_for l.state.number m.page (entry_deferred load.deferred (with_copy (entry_at l.table m.page) m)) l.state.waiting)
    copy_good load same o =
        let stage = at l m rows pages form ok (LoadAsked load) same in
        let d = and_parts (nat_lt (page_of load.address) l.pages && not (reads (entry_at l.table (page_of load.address)).access)) (deferred_form l.boards l.state.number load.deferred) stage in
        both_good (GoodPost l.boards l.pages l.state.number) (posts_deferred l.state.number m.page load.deferred) _ (deferred_good load.deferred d.1) (wait_good _ (copied_told l m rows pages form ok load same o))

    grant_good : (store : OpenStore) (b : Bool) → m.kind ≡ Grant →
        let e = with_grant l.state.number (entry_at l.table m.page) m in AllByRecursion (GoodPost l.boards l.pages l.state.number) (cond b (finish_store store m.hops l.state m.page e) (clear store l.state e m)).posts
    grant_good store true kind =
        let e = with_grant l.state.number (entry_at l.table m.page) m in
        wait_good (with_store e store) (store_kept l.boards l.state.number e store (eq-eqb l.state.number l.state.number refl) (granted l m rows pages form ok kind))
    grant_good store false kind =
        let t = granted l m rows pages form ok kind in
        invalidates_good l.boards l.pages l.state.number m.page boards pages mine paged m.copies t.copies t.apart

    counted_good : (clearing : ClearingStore) (b : Bool) → l.state.stage ≡ Clearing clearing → (page_of clearing.store.address == m.page) ≡ true →
        AllByRecursion (GoodPost l.boards l.pages l.state.number) (cond b (finish_store clearing.store clearing.hops l.state m.page (entry_at l.table m.page))
        (still (at_stage l.state (Clearing (record clearing { awaited = without_member clearing.awaited m.from }))) (entry_at l.table m.page))).posts
    counted_good clearing true same o =
        let e = entry_at l.table m.page in
        wait_good (with_store e clearing.store) (store_kept l.boards l.state.number e clearing.store (clearing_owns l m rows pages form ok clearing same o) told)
    counted_good clearing false same o = tt

    arrival_good : (stage : Stage) (kind : Kind) → l.state.stage ≡ stage → m.kind ≡ kind → expects stage kind l.state (entry_at l.table m.page) m ≡ true → AllByRecursion (GoodPost l.boards l.pages l.state.number) (arrives stage kind l.state (entry_at l.table m.page) m).posts
    arrival_good stage ReadRequest s k x = request_good (is_on stage m.page) x
    arrival_good stage WriteRequest s k x = request_good (is_on stage m.page) x
    arrival_good (LoadAsked load) Copy s k x = copy_good load s x
    arrival_good (StoreAsked store) Grant s k x = grant_good store (is_empty m.copies) k
    arrival_good (LoadAsked load) Invalidate s k x = defer_good load (page_of load.address == m.page)
    arrival_good _ Invalidate s k x = back_good
    arrival_good (Clearing clearing) Acknowledgement s k x =
        counted_good clearing (is_empty (without_member clearing.awaited m.from)) s (and_parts (page_of clearing.store.address == m.page) (has clearing.awaited m.from) x).0
    arrival_good _ _ s k x = tt

    pub arrival_posts : AllByRecursion (GoodPost l.boards l.pages l.state.number) (arrive_at l m).posts
    arrival_posts = arrival_good l.state.stage m.kind refl refl it.expected
