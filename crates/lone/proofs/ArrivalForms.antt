-- The form of a lone board is kept by every message that it accepts.
use Rattle.std.proofs.Common.{◌≡◌, ℕ, ◌<◌, ◌≤◌, nat_le, nat_lt, Bool, true, false, not, cond, ◌&&◌, List, [], Some, None, length, set, refl, ap, ◌∙◌, sym, subst, eqb, ◌==◌, arith}
use Rattle.std.proofs.lemmas.Bool.{and_parts, and_from, not_from_false, lt-ltb, eqb-true, eq-eqb, true≢false}
use Rattle.std.proofs.lemmas.List.{set-get_or}
use Rattle.wire.specs.BoardSets.{has, is_empty, is_part, without_member}
use Rattle.wire.specs.Messages.{most_hops}
use Rattle.wire.specs.declared.message.Message.{Message}
use Rattle.wire.specs.declared.message.Kind.{Kind}
use Rattle.wire.specs.declared.message.Kind.TheVariants.{ReadRequest, WriteRequest, Copy, Grant, Invalidate, Acknowledgement}
use Rattle.wire.proofs.BoardSets.{part_same, part_without}
use Rattle.board.specs.declared.entry.PageEntry.{PageEntry}
use Rattle.board.specs.declared.stage.Stage.{Stage}
use Rattle.board.specs.declared.stage.Stage.TheVariants.{Idle, LoadAsked, StoreAsked, Clearing}
use Rattle.board.specs.declared.stage.OpenLoad.{OpenLoad}
use Rattle.board.specs.declared.stage.OpenStore.{OpenStore}
use Rattle.board.specs.declared.stage.ClearingStore.{ClearingStore}
use Rattle.board.specs.Addresses.{page_of}
use Rattle.board.specs.Boards.{BoardState, at_stage}
use Rattle.board.specs.Expected.{waits, new_asker, not_owned, expects}
use Rattle.board.specs.Openings.{load, store}
use Rattle.board.specs.Serving.{owns, served, entry_after}
use Rattle.board.specs.Stages.{is_on}
use Rattle.board.specs.Steps.{RoomToWait, arrives, request_in, with_waiting, join, serve, defer, finish_load, finish_store, clear, still, give_back, given_back, with_copy, with_grant, with_store, entry_deferred}
use Rattle.wire.specs.Questions.{first_no}
use Rattle.records.specs.Forms.{form_of}
use Rattle.lone.specs.Lones.{Lone, after_step}
use Rattle.lone.specs.Tables.{entry_at, no_entry}
use Rattle.lone.specs.LoneQuestions.{arrival_questions}
use Rattle.lone.specs.Calls.{arrive_at}
use Rattle.lone.specs.Forms.{reads, another, waiting_form, deferred_form, stage_form, lone_form}
use Rattle.lone.proofs.Others.{another_is}
use Rattle.lone.proofs.EntryForms.{EntryTold, served_kept, all_kept, back_kept, copy_kept, deferred_kept, store_kept, grant_kept}
use Rattle.lone.proofs.WaitingForms.{joined_kept, crowd}
use Rattle.lone.proofs.Accepting.{Accepted, accepted}
use Rattle.lone.proofs.LoneForms.{lone_told, step_kept, entry_put, entry_other}

abbrev is_load : Stage → Bool
is_load Idle = false
is_load (LoadAsked load) = true
is_load (StoreAsked store) = false
is_load (Clearing clearing) = false

module _ (l : Lone) (m : Message) (rows : length l.table ≡ 16) (pages : l.pages ≤ 16) (form : lone_form l ≡ true) (ok : first_no (arrival_questions l m) ≡ None) where
  pub is : Accepted l m
  is = accepted l m ok

  narrow : m.page < 16
  narrow = omega (arith, is.page, pages)

  pub entry : EntryTold l.boards l.state.number (entry_at l.table m.page)
  entry = (lone_told l rows form).entries m.page narrow

  pub waiting : waiting_form l.boards l.state.number l.state.waiting ≡ true
  waiting = (lone_told l rows form).waiting

  put_back : set l.table m.page (entry_at l.table m.page) ≡ l.table
  put_back = set-get_or l.table m.page no_entry

  -- the step of a call leaves a form
  abbrev Kept : BoardState → PageEntry → Type 0
  Kept s e = lone_form (after_step l m.page s e) ≡ true

  -- nothing is open afterwards
  closed_kept : (e : PageEntry) → EntryTold l.boards l.state.number e → Kept (record l.state { stage = Idle; waiting = [] }) (entry_after l.state.number m.page e l.state.waiting)
  closed_kept e t =
      step_kept l rows form m.page (record l.state { stage = Idle; waiting = [] }) (entry_after l.state.number m.page e l.state.waiting) refl
      (all_kept l.boards l.state.number m.page e l.state.waiting waiting t) refl refl

  -- Requests.

  joins : (stage : Stage) → is_on stage m.page ≡ true → stage_form l stage ≡ true → stage_form (record l { state = with_waiting l.state (request_in m) }) stage ≡ true
  joins Idle o h = absurd (true≢false (sym o))
  joins (LoadAsked load) o h = h
  joins (StoreAsked store) o h = h
  joins (Clearing clearing) o h = h

  -- an open access on another page
  apart : (stage : Stage) (e : PageEntry) → is_on stage m.page ≡ false → stage_form l stage ≡ true → stage_form (after_step l m.page l.state e) stage ≡ true
  apart Idle e o h = h
  apart (LoadAsked load) e o h =
      ap (λ (x : PageEntry). nat_lt (page_of load.address) l.pages && not (reads x.access) && deferred_form l.boards l.state.number load.deferred) (entry_other l rows form m.page (page_of load.address) e o) ∙ h
  apart (StoreAsked store) e o h =
      ap (λ (x : PageEntry). nat_lt (page_of store.address) l.pages && not (owns l.state.number x)) (entry_other l rows form m.page (page_of store.address) e o) ∙ h
  apart (Clearing clearing) e o h =
      ap (λ (x : PageEntry). nat_lt (page_of clearing.store.address) l.pages && nat_le clearing.hops most_hops && owns l.state.number x && not (is_empty clearing.awaited) && is_part clearing.awaited x.copies)
      (entry_other l rows form m.page (page_of clearing.store.address) e o) ∙ h

  request_kept : (stage : Stage) (b : Bool) → is_on stage m.page ≡ b → stage ≡ l.state.stage → new_asker l.state m ≡ true →
      let t = cond b (join l.state (entry_at l.table m.page) m) (serve l.state (entry_at l.table m.page) m) in Kept t.state t.entry
  request_kept stage b o same n =
      let a = and_parts (not (eqb m.asker l.state.number)) (not (waits m.asker l.state.waiting)) n in
      let asker : another l.boards l.state.number m.asker ≡ true = and_from (nat_lt m.asker l.boards) (not (eqb m.asker l.state.number)) (lt-ltb m.asker l.boards is.asker) a.0 in
      by b o asker a.1
    where
      by : (b : Bool) → is_on stage m.page ≡ b → another l.boards l.state.number m.asker ≡ true → not (waits m.asker l.state.waiting) ≡ true →
          let t = cond b (join l.state (entry_at l.table m.page) m) (serve l.state (entry_at l.table m.page) m) in Kept t.state t.entry
      by true o asker none =
          step_kept l rows form m.page (with_waiting l.state (request_in m)) (entry_at l.table m.page) refl entry
          (joined_kept l.boards l.state.number l.state.waiting (request_in m) waiting asker is.hops (grind (arith, none)))
          (ap (λ (t : List PageEntry). stage_form (record l { state = with_waiting l.state (request_in m); table = t }) l.state.stage) put_back
          ∙ subst (λ (g : Stage). stage_form (record l { state = with_waiting l.state (request_in m) }) g ≡ true) same
          (joins stage o (subst (λ (g : Stage). stage_form l g ≡ true) (sym same) (lone_told l rows form).stage)))
      by false o asker none =
          step_kept l rows form m.page l.state (served l.state.number m.page (entry_at l.table m.page) (request_in m)).entry refl
          (served_kept l.boards l.state.number m.page (entry_at l.table m.page) (request_in m) asker entry) waiting
          (subst (λ (g : Stage). stage_form (after_step l m.page l.state (served l.state.number m.page (entry_at l.table m.page) (request_in m)).entry) g ≡ true) same
          (apart stage _ o (subst (λ (g : Stage). stage_form l g ≡ true) (sym same) (lone_told l rows form).stage)))

  -- Invalidations.

  by_hint : (f : PageEntry → Bool) → ((e : PageEntry) → f (given_back e) ≡ f e) → (page : ℕ) → f (entry_at (set l.table m.page (given_back (entry_at l.table m.page))) page) ≡ f (entry_at l.table page)
  by_hint f g page = by (eqb page m.page) refl
    where
      by : (b : Bool) → eqb page m.page ≡ b → f (entry_at (set l.table m.page (given_back (entry_at l.table m.page))) page) ≡ f (entry_at l.table page)
      by true e =
          let q = eqb-true page m.page e in
          subst (λ (p : ℕ). f (entry_at (set l.table m.page (given_back (entry_at l.table m.page))) p) ≡ f (entry_at l.table p)) (sym q)
          (ap f (entry_put l rows form m.page (given_back (entry_at l.table m.page)) narrow) ∙ g (entry_at l.table m.page))
      by false e = ap f (entry_other l rows form m.page page (given_back (entry_at l.table m.page)) e)

  back : (stage : Stage) → is_load stage ≡ false → stage_form l stage ≡ true → stage_form (after_step l m.page l.state (given_back (entry_at l.table m.page))) stage ≡ true
  back Idle n h = h
  back (LoadAsked load) n h = absurd (true≢false n)
  back (StoreAsked store) n h = by_hint (λ x. nat_lt (page_of store.address) l.pages && not (owns l.state.number x)) (λ e. refl) (page_of store.address) ∙ h
  back (Clearing clearing) n h =
      by_hint (λ x. nat_lt (page_of clearing.store.address) l.pages && nat_le clearing.hops most_hops && owns l.state.number x && not (is_empty clearing.awaited) && is_part clearing.awaited x.copies) (λ e. refl)
      (page_of clearing.store.address) ∙ h

  back_kept_at : (stage : Stage) → stage ≡ l.state.stage → is_load stage ≡ false → not_owned l.state (entry_at l.table m.page) ≡ true → Kept l.state (given_back (entry_at l.table m.page))
  back_kept_at stage same n o =
      step_kept l rows form m.page l.state (given_back (entry_at l.table m.page)) refl (back_kept l.boards l.state.number (entry_at l.table m.page) (grind (arith, o)) entry) waiting
      (subst (λ (g : Stage). stage_form (after_step l m.page l.state (given_back (entry_at l.table m.page))) g ≡ true) same
      (back stage n (subst (λ (g : Stage). stage_form l g ≡ true) (sym same) (lone_told l rows form).stage)))

  -- what the stage tells, where the board is at it
  pub at : (stage : Stage) → l.state.stage ≡ stage → stage_form l stage ≡ true
  at stage same = subst (λ (g : Stage). stage_form l g ≡ true) same (lone_told l rows form).stage

  invalidated_kept : (load : OpenLoad) (b : Bool) → (page_of load.address == m.page) ≡ b → l.state.stage ≡ LoadAsked load → not_owned l.state (entry_at l.table m.page) ≡ true →
      let t = cond b (defer load l.state (entry_at l.table m.page) m) (give_back l.state (entry_at l.table m.page) m) in Kept t.state t.entry
  invalidated_kept load true o same n =
      let told = at (LoadAsked load) same in
      let first = nat_lt (page_of load.address) l.pages && not (reads (entry_at l.table (page_of load.address)).access) in
      let a = and_parts first (deferred_form l.boards l.state.number load.deferred) told in
      step_kept l rows form m.page (at_stage l.state (LoadAsked (record load { deferred = Some m.from }))) (entry_at l.table m.page) refl entry waiting
      (ap (λ (t : List PageEntry). stage_form (record l { state = at_stage l.state (LoadAsked (record load { deferred = Some m.from })); table = t }) (LoadAsked (record load { deferred = Some m.from }))) put_back
      ∙ and_from first (another l.boards l.state.number m.from) a.0 is.from)
  invalidated_kept load false o same n =
      step_kept l rows form m.page l.state (given_back (entry_at l.table m.page)) refl (back_kept l.boards l.state.number (entry_at l.table m.page) (grind (arith, n)) entry) waiting
      (subst (λ (g : Stage). stage_form (after_step l m.page l.state (given_back (entry_at l.table m.page))) g ≡ true) (sym same)
      (apart (LoadAsked load) (given_back (entry_at l.table m.page)) o (at (LoadAsked load) same)))

  -- The end of an access.

  -- the entry that a copy leaves before those that wait are served
  pub copied_told : (load : OpenLoad) → l.state.stage ≡ LoadAsked load → (page_of load.address == m.page) ≡ true → EntryTold l.boards l.state.number (entry_deferred load.deferred (with_copy (entry_at l.table m.page) m))
  copied_told load same o =
      let told = at (LoadAsked load) same in
      let a = and_parts (nat_lt (page_of load.address) l.pages && not (reads (entry_at l.table (page_of load.address)).access)) (deferred_form l.boards l.state.number load.deferred) told in
      let b = and_parts (nat_lt (page_of load.address) l.pages) (not (reads (entry_at l.table (page_of load.address)).access)) a.0 in
      let none = subst (λ (p : ℕ). not (reads (entry_at l.table p).access) ≡ true) (eqb-true (page_of load.address) m.page o) b.1 in
      let copy = copy_kept l.boards l.state.number (entry_at l.table m.page) m (grind (arith, none)) is.from entry in
      deferred_kept l.boards l.state.number load.deferred (with_copy (entry_at l.table m.page) m) (another_is l.boards l.state.number m.from is.from).1 copy

  copied_kept : (load : OpenLoad) → l.state.stage ≡ LoadAsked load → (page_of load.address == m.page) ≡ true →
      let t = finish_load load l.state (entry_at l.table m.page) m in Kept t.state t.entry
  copied_kept load same o = closed_kept (entry_deferred load.deferred (with_copy (entry_at l.table m.page) m)) (copied_told load same o)

  finished_kept : (e : PageEntry) (store : OpenStore) (hops : ℕ) → owns l.state.number e ≡ true → EntryTold l.boards l.state.number e →
      let t = finish_store store hops l.state m.page e in Kept t.state t.entry
  finished_kept e store hops o t = closed_kept (with_store e store) (store_kept l.boards l.state.number e store o t)

  -- the entry that a grant leaves
  pub granted : m.kind ≡ Grant → EntryTold l.boards l.state.number (with_grant l.state.number (entry_at l.table m.page) m)
  granted kind =
      let f = subst (λ (k : Kind). form_of k m ≡ true) kind is.form in
      let a = and_parts (not (has m.copies m.to)) (eqb m.asker m.to) f in
      let lacks = subst (λ (b : ℕ). not (has m.copies b) ≡ true) is.here a.0 in
      grant_kept l.boards l.state.number (entry_at l.table m.page) m (lone_told l rows form).number is.copies (grind (arith, lacks))

  owned_kept : (store : OpenStore) (b : Bool) → is_empty m.copies ≡ b → m.kind ≡ Grant → l.state.stage ≡ StoreAsked store → (page_of store.address == m.page) ≡ true →
      let e = with_grant l.state.number (entry_at l.table m.page) m in
      let t = cond b (finish_store store m.hops l.state m.page e) (clear store l.state e m) in Kept t.state t.entry
  owned_kept store true e kind same o = finished_kept (with_grant l.state.number (entry_at l.table m.page) m) store m.hops (eq-eqb l.state.number l.state.number refl) (granted kind)
  owned_kept store false e kind same o =
      let new = with_grant l.state.number (entry_at l.table m.page) m in
      let page = eqb-true (page_of store.address) m.page o in
      let there : entry_at (set l.table m.page new) (page_of store.address) ≡ new =
      subst (λ (p : ℕ). entry_at (set l.table m.page new) p ≡ new) (sym page) (entry_put l rows form m.page new narrow) in
      let inside = and_parts (nat_lt (page_of store.address) l.pages) (not (owns l.state.number (entry_at l.table (page_of store.address)))) (at (StoreAsked store) same) in
      step_kept l rows form m.page (at_stage l.state (Clearing (record { store = store; awaited = m.copies; hops = m.hops }))) new refl (granted kind) waiting
      (ap (λ (x : PageEntry). nat_lt (page_of store.address) l.pages && nat_le m.hops most_hops && owns l.state.number x && not (is_empty m.copies) && is_part m.copies x.copies) there
      ∙ and_from (nat_lt (page_of store.address) l.pages && nat_le m.hops most_hops && owns l.state.number new && not (is_empty m.copies)) (is_part m.copies m.copies)
      (and_from (nat_lt (page_of store.address) l.pages && nat_le m.hops most_hops && owns l.state.number new) (not (is_empty m.copies))
      (and_from (nat_lt (page_of store.address) l.pages && nat_le m.hops most_hops) (owns l.state.number new)
      (and_from (nat_lt (page_of store.address) l.pages) (nat_le m.hops most_hops) inside.0 is.hops) (eq-eqb l.state.number l.state.number refl)) (not_from_false (is_empty m.copies) e)) (part_same m.copies))

  -- what the form tells of a clearing board
  clearing_told : (clearing : ClearingStore) → l.state.stage ≡ Clearing clearing →
      let e = entry_at l.table (page_of clearing.store.address) in
      ((nat_lt (page_of clearing.store.address) l.pages && nat_le clearing.hops most_hops && owns l.state.number e) ≡ true) × (is_part clearing.awaited e.copies ≡ true)
  clearing_told clearing same =
      let e = entry_at l.table (page_of clearing.store.address) in
      let first = nat_lt (page_of clearing.store.address) l.pages && nat_le clearing.hops most_hops && owns l.state.number e in
      let p = and_parts (first && not (is_empty clearing.awaited)) (is_part clearing.awaited e.copies) (at (Clearing clearing) same) in
      ((and_parts first (not (is_empty clearing.awaited)) p.0).0, p.1)

  pub clearing_owns : (clearing : ClearingStore) → l.state.stage ≡ Clearing clearing → (page_of clearing.store.address == m.page) ≡ true → owns l.state.number (entry_at l.table m.page) ≡ true
  clearing_owns clearing same o =
      let own = and_parts (nat_lt (page_of clearing.store.address) l.pages && nat_le clearing.hops most_hops) (owns l.state.number (entry_at l.table (page_of clearing.store.address))) (clearing_told clearing same).0 in
      subst (λ (x : ℕ). owns l.state.number (entry_at l.table x) ≡ true) (eqb-true (page_of clearing.store.address) m.page o) own.1

  acknowledged_kept : (clearing : ClearingStore) (b : Bool) → is_empty (without_member clearing.awaited m.from) ≡ b → l.state.stage ≡ Clearing clearing → (page_of clearing.store.address == m.page) ≡ true →
      let t = cond b (finish_store clearing.store clearing.hops l.state m.page (entry_at l.table m.page))
      (still (at_stage l.state (Clearing (record clearing { awaited = without_member clearing.awaited m.from }))) (entry_at l.table m.page)) in
      Kept t.state t.entry
  acknowledged_kept clearing true empty same o = finished_kept (entry_at l.table m.page) clearing.store clearing.hops (clearing_owns clearing same o) entry
  acknowledged_kept clearing false empty same o =
      let told = clearing_told clearing same in
      let rest = without_member clearing.awaited m.from in
      let e = entry_at l.table (page_of clearing.store.address) in
      let first = nat_lt (page_of clearing.store.address) l.pages && nat_le clearing.hops most_hops && owns l.state.number e in
      let stage = Clearing (record clearing { awaited = rest }) in
      step_kept l rows form m.page (at_stage l.state stage) (entry_at l.table m.page) refl entry waiting
      (ap (λ (t : List PageEntry). stage_form (record l { state = at_stage l.state stage; table = t }) stage) put_back
      ∙ and_from (first && not (is_empty rest)) (is_part rest e.copies) (and_from first (not (is_empty rest)) told.0 (not_from_false (is_empty rest) empty)) (part_without clearing.awaited e.copies m.from told.1))

  arrival_kept_by : (stage : Stage) (kind : Kind) → l.state.stage ≡ stage → m.kind ≡ kind → expects stage kind l.state (entry_at l.table m.page) m ≡ true →
      let t = arrives stage kind l.state (entry_at l.table m.page) m in Kept t.state t.entry
  arrival_kept_by stage ReadRequest s k x = request_kept stage (is_on stage m.page) refl (sym s) x
  arrival_kept_by stage WriteRequest s k x = request_kept stage (is_on stage m.page) refl (sym s) x
  arrival_kept_by (LoadAsked load) Copy s k x = copied_kept load s x
  arrival_kept_by (StoreAsked store) Grant s k x = owned_kept store (is_empty m.copies) refl k s x
  arrival_kept_by (LoadAsked load) Invalidate s k x =
      invalidated_kept load (page_of load.address == m.page) refl s (and_parts (not_owned l.state (entry_at l.table m.page)) _ x).0
  arrival_kept_by Idle Invalidate s k x = back_kept_at Idle (sym s) refl x
  arrival_kept_by (StoreAsked store) Invalidate s k x = back_kept_at (StoreAsked store) (sym s) refl x
  arrival_kept_by (Clearing clearing) Invalidate s k x = back_kept_at (Clearing clearing) (sym s) refl x
  arrival_kept_by (Clearing clearing) Acknowledgement s k x =
      acknowledged_kept clearing (is_empty (without_member clearing.awaited m.from)) refl s (and_parts (page_of clearing.store.address == m.page) (has clearing.awaited m.from) x).0
  arrival_kept_by _ _ s k x = absurd (true≢false (sym x))

  pub arrived_kept : lone_form (arrive_at l m).board ≡ true
  arrived_kept = arrival_kept_by l.state.stage m.kind refl refl is.expected

  -- a request that is accepted finds room to wait
  pub room_to_wait : l.boards ≤ 16 → RoomToWait m.kind l.state.waiting
  room_to_wait narrow = by m.kind refl
    where
      room : new_asker l.state m ≡ true → length l.state.waiting < 15
      room n =
          let a = and_parts (not (eqb m.asker l.state.number)) (not (waits m.asker l.state.waiting)) n in
          let few = crowd l.boards l.state.number l.state.waiting m.asker waiting (lone_told l rows form).number (and_from (nat_lt m.asker l.boards) (not (eqb m.asker l.state.number)) (lt-ltb m.asker l.boards is.asker) a.0) (grind (arith, a.1)) in
          omega (arith, few, narrow)

      by : (kind : Kind) → m.kind ≡ kind → RoomToWait kind l.state.waiting
      by ReadRequest k = room (subst (λ (x : Kind). expects l.state.stage x l.state (entry_at l.table m.page) m ≡ true) k is.expected)
      by WriteRequest k = room (subst (λ (x : Kind). expects l.state.stage x l.state (entry_at l.table m.page) m ≡ true) k is.expected)
      by Copy k = tt
      by Grant k = tt
      by Invalidate k = tt
      by Acknowledgement k = tt
