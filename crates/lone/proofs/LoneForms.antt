-- The form of a lone board is kept by every call.
use Rattle.std.proofs.Common.{◌≡◌, ℕ, zero, suc, ◌*◌, ◌<◌, ◌≤◌, nat_lt, Bool, true, false, not, cond, ◌&&◌, List, [], ◌∷◌, None, length, set, get_or, replicate, refl, ap, ◌∙◌, sym, subst, eqb, arith}
use Rattle.std.proofs.lemmas.Bool.{and_parts, and_from, not_from_false, lt-ltb, ltb-true, eqb-false, true≢false}
use Rattle.std.proofs.lemmas.List.{get_or-set_same, get_or-set_other, set-get_or}
use Rattle.std.specs.List.{list_all}
use Rattle.wire.specs.BoardSets.{is_empty, is_part}
use Rattle.wire.proofs.BoardSets.{part_same}
use Rattle.board.specs.declared.entry.PageEntry.{PageEntry}
use Rattle.board.specs.declared.entry.Access.{Access}
use Rattle.board.specs.declared.entry.Access.TheVariants as access
use Rattle.board.specs.declared.stage.Stage.{Stage}
use Rattle.board.specs.declared.stage.Stage.TheVariants.{Idle, LoadAsked, StoreAsked, Clearing}
use Rattle.board.specs.Addresses.{page_of}
use Rattle.board.specs.Boards.{BoardState, at_stage, start_state}
use Rattle.board.specs.Openings.{load, load_with, store, store_with, put, owner_store, clearing_store, asking_store, written}
use Rattle.board.specs.Serving.{owns}
use Rattle.board.specs.Stages.{is_idle}
use Rattle.wire.specs.Questions.{first_no}
use Rattle.board.specs.Entries.{start_entry}
use Rattle.lone.specs.Lones.{Lone, after_step, start_lone}
use Rattle.lone.specs.Tables.{entry_at, no_entry, start_table}
use Rattle.lone.specs.LoneQuestions.{access_questions}
use Rattle.lone.specs.Calls.{load_at, store_at}
use Rattle.lone.specs.Forms.{reads, writes, entry_form, waiting_form, stage_form, lone_form}
use Rattle.lone.proofs.EntryForms.{EntryTold, told, kept, start_kept, written_kept, writer_told}
use Rattle.lone.proofs.Accepting.{access_told}

all_set : {X : Type 0} (p : X → Bool) (xs : List X) (i : ℕ) (y : X) → list_all p xs ≡ true → p y ≡ true → list_all p (set xs i y) ≡ true
all_set p [] i y h e = h
all_set p (x ∷ xs) zero y h e = and_from (p y) (list_all p xs) e (and_parts (p x) (list_all p xs) h).1
all_set p (x ∷ xs) (suc i) y h e = let a = and_parts (p x) (list_all p xs) h in and_from (p x) (list_all p (set xs i y)) a.0 (all_set p xs i y a.1 e)

all_at : {X : Type 0} (p : X → Bool) (xs : List X) (i : ℕ) (d : X) → i < length xs → list_all p xs ≡ true → p (get_or xs i d) ≡ true
all_at p [] i d l h = absurd (omega (arith, l))
all_at p (x ∷ xs) zero d l h = (and_parts (p x) (list_all p xs) h).0
all_at p (x ∷ xs) (suc i) d l h = all_at p xs i d (omega (arith, l)) (and_parts (p x) (list_all p xs) h).1

-- what the form tells, of tables of sixteen pages
pub record LoneTold (l : Lone) : Type 0 where
  pub number : l.state.number < l.boards
  pub entries : (page : ℕ) → page < 16 → EntryTold l.boards l.state.number (entry_at l.table page)
  pub waiting : waiting_form l.boards l.state.number l.state.waiting ≡ true
  pub stage : stage_form l l.state.stage ≡ true

module _ (l : Lone) (rows : length l.table ≡ 16) (form : lone_form l ≡ true) where
  parts : (nat_lt l.state.number l.boards ≡ true) × (list_all (entry_form l.boards l.state.number) l.table ≡ true) × (waiting_form l.boards l.state.number l.state.waiting ≡ true) × (stage_form l l.state.stage ≡ true)
  parts =
      let a = and_parts (nat_lt l.state.number l.boards && list_all (entry_form l.boards l.state.number) l.table && waiting_form l.boards l.state.number l.state.waiting) (stage_form l l.state.stage) form in
      let b = and_parts (nat_lt l.state.number l.boards && list_all (entry_form l.boards l.state.number) l.table) (waiting_form l.boards l.state.number l.state.waiting) a.0 in
      let c = and_parts (nat_lt l.state.number l.boards) (list_all (entry_form l.boards l.state.number) l.table) b.0 in
      (c.0, c.1, b.1, a.1)

  pub lone_told : LoneTold l
  lone_told = record {
    number = ltb-true l.state.number l.boards parts.0;
    entries = λ page h. told l.boards l.state.number (entry_at l.table page) (all_at (entry_form l.boards l.state.number) l.table page no_entry (omega (arith, rows, h)) parts.1);
    waiting = parts.2;
    stage = parts.3;
  }

  -- a step keeps the form where it keeps that of its entry, of those that wait and of the stage
  pub step_kept : (page : ℕ) (s : BoardState) (e : PageEntry) → s.number ≡ l.state.number → EntryTold l.boards s.number e → waiting_form l.boards s.number s.waiting ≡ true →
      stage_form (after_step l page s e) s.stage ≡ true → lone_form (after_step l page s e) ≡ true
  step_kept page s e same entry waiting stage =
      let number = subst (λ (x : ℕ). nat_lt x l.boards ≡ true) (sym same) parts.0 in
      let table = subst (λ (x : ℕ). list_all (entry_form l.boards x) l.table ≡ true) (sym same) parts.1 in
      let rest = all_set (entry_form l.boards s.number) l.table page e table (kept l.boards s.number e entry) in
      and_from (nat_lt s.number l.boards && list_all (entry_form l.boards s.number) (set l.table page e) && waiting_form l.boards s.number s.waiting) (stage_form (after_step l page s e) s.stage)
      (and_from (nat_lt s.number l.boards && list_all (entry_form l.boards s.number) (set l.table page e)) (waiting_form l.boards s.number s.waiting)
      (and_from (nat_lt s.number l.boards) (list_all (entry_form l.boards s.number) (set l.table page e)) number rest) waiting) stage

  -- the entry that a step put, and the others
  pub entry_put : (page : ℕ) (e : PageEntry) → page < 16 → entry_at (set l.table page e) page ≡ e
  entry_put page e h = get_or-set_same l.table page e no_entry (omega (arith, rows, h))

  pub entry_other : (page other : ℕ) (e : PageEntry) → eqb other page ≡ false → entry_at (set l.table page e) other ≡ entry_at l.table other
  entry_other page other e h = get_or-set_other l.table page other e no_entry (eqb-false other page h)

  -- a step that changes nothing
  pub nothing_kept : (page : ℕ) → lone_form (after_step l page l.state (entry_at l.table page)) ≡ true
  nothing_kept page = ap (λ (t : List PageEntry). lone_form (record l { table = t })) (set-get_or l.table page no_entry) ∙ form

-- Opening an access.
module _ (l : Lone) (rows : length l.table ≡ 16) (pages : l.pages ≤ 16) (form : lone_form l ≡ true) (address : ℕ) (ok : first_no (access_questions l address) ≡ None) where
  inside : page_of address < l.pages
  inside = let h = ltb-true address (16 * l.pages) (access_told l address ok).0 in omega (arith, h)

  entry : EntryTold l.boards l.state.number (entry_at l.table (page_of address))
  entry = (lone_told l rows form).entries (page_of address) (omega (arith, inside, pages))

  opened_kept : (stage : Stage) → stage_form (after_step l (page_of address) (at_stage l.state stage) (entry_at l.table (page_of address))) stage ≡ true →
      lone_form (after_step l (page_of address) (at_stage l.state stage) (entry_at l.table (page_of address))) ≡ true
  opened_kept stage h = step_kept l rows form (page_of address) (at_stage l.state stage) (entry_at l.table (page_of address)) refl entry (lone_told l rows form).waiting h

  same : entry_at (set l.table (page_of address) (entry_at l.table (page_of address))) (page_of address) ≡ entry_at l.table (page_of address)
  same = entry_put l rows form (page_of address) (entry_at l.table (page_of address)) (omega (arith, inside, pages))

  load_kept_by : (a : Access) → (entry_at l.table (page_of address)).access ≡ a →
      let o = load_with a l.state (entry_at l.table (page_of address)) address in lone_form (after_step l (page_of address) o.state o.entry) ≡ true
  load_kept_by access.None e =
      opened_kept (LoadAsked (record { address = address; deferred = None }))
      (and_from (nat_lt (page_of address) l.pages && not (reads (entry_at (set l.table (page_of address) (entry_at l.table (page_of address))) (page_of address)).access)) true
      (and_from (nat_lt (page_of address) l.pages) (not (reads (entry_at (set l.table (page_of address) (entry_at l.table (page_of address))) (page_of address)).access)) (lt-ltb (page_of address) l.pages inside)
      (ap (λ (x : PageEntry). not (reads x.access)) same ∙ ap (λ (x : Access). not (reads x)) e)) refl)
  load_kept_by access.Read e = nothing_kept l rows form (page_of address)
  load_kept_by access.Write e = nothing_kept l rows form (page_of address)

  pub loaded_kept : lone_form (load_at l address).board ≡ true
  loaded_kept = load_kept_by (entry_at l.table (page_of address)).access refl

  -- with the page by another name
  pub loaded_at : (page : ℕ) → page ≡ page_of address → let o = load l.state (entry_at l.table page) address in lone_form (after_step l page o.state o.entry) ≡ true
  loaded_at page e = subst (λ (p : ℕ). let o = load l.state (entry_at l.table p) address in lone_form (after_step l p o.state o.entry) ≡ true) (sym e) loaded_kept

  put_kept : (word : ℕ) → owns l.state.number (entry_at l.table (page_of address)) ≡ true → is_empty (entry_at l.table (page_of address)).copies ≡ true →
      let o = put l.state (entry_at l.table (page_of address)) address word in lone_form (after_step l (page_of address) o.state o.entry) ≡ true
  put_kept word o e =
      let new = written (entry_at l.table (page_of address)) address word in
      step_kept l rows form (page_of address) l.state new refl (written_kept l.boards l.state.number (entry_at l.table (page_of address)) address word o e entry) (lone_told l rows form).waiting
      (idle_kept l.state.stage (access_told l address ok).1 (lone_told l rows form).stage)
    where
      idle_kept : (stage : Stage) → is_idle stage ≡ true → stage_form l stage ≡ true → stage_form (after_step l (page_of address) l.state (written (entry_at l.table (page_of address)) address word)) stage ≡ true
      idle_kept Idle i h = h
      idle_kept (LoadAsked load) i h = absurd (true≢false (sym i))
      idle_kept (StoreAsked store) i h = absurd (true≢false (sym i))
      idle_kept (Clearing clearing) i h = absurd (true≢false (sym i))

  owner_kept : (word : ℕ) (b : Bool) → is_empty (entry_at l.table (page_of address)).copies ≡ b → owns l.state.number (entry_at l.table (page_of address)) ≡ true →
      let e = entry_at l.table (page_of address) in
      let o = cond b (put l.state e address word) (clearing_store l.state e address word) in lone_form (after_step l (page_of address) o.state o.entry) ≡ true
  owner_kept word true e o = put_kept word o e
  owner_kept word false e o =
      let here = entry_at l.table (page_of address) in
      let there = entry_at (set l.table (page_of address) here) (page_of address) in
      opened_kept (Clearing (record { store = record { address = address; word = word }; awaited = here.copies; hops = 0 }))
      (and_from (nat_lt (page_of address) l.pages && true && owns l.state.number there && not (is_empty here.copies)) (is_part here.copies there.copies)
      (and_from (nat_lt (page_of address) l.pages && true && owns l.state.number there) (not (is_empty here.copies))
      (and_from (nat_lt (page_of address) l.pages && true) (owns l.state.number there) (and_from (nat_lt (page_of address) l.pages) true (lt-ltb (page_of address) l.pages inside) refl) (ap (owns l.state.number) same ∙ o)) (not_from_false (is_empty here.copies) e))
      (ap (λ (x : PageEntry). is_part here.copies x.copies) same ∙ part_same here.copies))

  asking_kept : (word : ℕ) → owns l.state.number (entry_at l.table (page_of address)) ≡ false →
      let o = asking_store l.state (entry_at l.table (page_of address)) address word in lone_form (after_step l (page_of address) o.state o.entry) ≡ true
  asking_kept word o =
      let here = entry_at l.table (page_of address) in
      let there = entry_at (set l.table (page_of address) here) (page_of address) in
      opened_kept (StoreAsked (record { address = address; word = word }))
      (and_from (nat_lt (page_of address) l.pages) (not (owns l.state.number there)) (lt-ltb (page_of address) l.pages inside) (ap (λ (x : PageEntry). not (owns l.state.number x)) same ∙ not_from_false (owns l.state.number here) o))

  not_writing : (word : ℕ) (b : Bool) → owns l.state.number (entry_at l.table (page_of address)) ≡ b →
      let e = entry_at l.table (page_of address) in
      let o = cond b (owner_store l.state e address word) (asking_store l.state e address word) in lone_form (after_step l (page_of address) o.state o.entry) ≡ true
  not_writing word true o = owner_kept word (is_empty (entry_at l.table (page_of address)).copies) refl o
  not_writing word false o = asking_kept word o

  store_kept_by : (word : ℕ) (a : Access) → (entry_at l.table (page_of address)).access ≡ a →
      let o = store_with a l.state (entry_at l.table (page_of address)) address word in lone_form (after_step l (page_of address) o.state o.entry) ≡ true
  store_kept_by word access.Write e =
      let w = writer_told l.boards l.state.number (entry_at l.table (page_of address)) (ap writes e) entry in
      put_kept word w.0 w.1
  store_kept_by word access.None e = not_writing word (owns l.state.number (entry_at l.table (page_of address))) refl
  store_kept_by word access.Read e = not_writing word (owns l.state.number (entry_at l.table (page_of address))) refl

  pub stored_kept : (word : ℕ) → lone_form (store_at l address word).board ≡ true
  stored_kept word = store_kept_by word (entry_at l.table (page_of address)).access refl

  pub stored_at : (word page : ℕ) → page ≡ page_of address → let o = store l.state (entry_at l.table page) address word in lone_form (after_step l page o.state o.entry) ≡ true
  stored_at word page e = subst (λ (p : ℕ). let o = store l.state (entry_at l.table p) address word in lone_form (after_step l p o.state o.entry) ≡ true) (sym e) (stored_kept word)

-- a board as it starts
all_start : {X : Type 0} (p : X → Bool) (x : X) (n : ℕ) → p x ≡ true → list_all p (replicate n x) ≡ true
all_start p x zero h = refl
all_start p x (suc n) h = and_from (p x) (list_all p (replicate n x)) h (all_start p x n h)

pub start_form : (number boards pages : ℕ) → number < boards → lone_form (start_lone number boards pages) ≡ true
start_form number boards pages h =
    let entries = all_start (entry_form boards number) (start_entry number) 16 (kept boards number (start_entry number) (start_kept boards number h)) in
    and_from (nat_lt number boards && list_all (entry_form boards number) (start_table number) && true) true
    (and_from (nat_lt number boards && list_all (entry_form boards number) (start_table number)) true (and_from (nat_lt number boards) (list_all (entry_form boards number) (start_table number)) (lt-ltb number boards h) entries) refl) refl

-- what is equal has the form too
pub same_form : (l : Lone) (page : ℕ) (s t : BoardState) (e f : PageEntry) → s ≡ t → e ≡ f → lone_form (after_step l page t f) ≡ true → lone_form (after_step l page s e) ≡ true
same_form l page s t e f p q h =
    ap (λ (x : BoardState). lone_form (after_step l page x e)) p ∙ ap (λ (x : PageEntry). lone_form (after_step l page t x)) q ∙ h

pub start_same : (number boards pages : ℕ) (s : BoardState) (es : List PageEntry) → s ≡ start_state number → es ≡ start_table number → lone_form (start_lone number boards pages) ≡ true →
    lone_form (record { boards = boards; pages = pages; state = s; table = es }) ≡ true
start_same number boards pages s es p q h =
    ap (λ (x : BoardState). lone_form (record { boards = boards; pages = pages; state = x; table = es })) p
    ∙ ap (λ (x : List PageEntry). lone_form (record { boards = boards; pages = pages; state = start_state number; table = x })) q ∙ h
