-- The form of a page's entry is kept by the rules.
use Rattle.std.proofs.Common.{◌≡◌, ℕ, ◌<◌, nat_lt, Bool, true, false, not, cond, ◌&&◌, ◌||◌, List, [], ◌∷◌, Some, None, Option, refl, ap, ◌∙◌, sym, eqb, arith}
use Rattle.std.proofs.lemmas.Bool.{and_parts, and_from, not_from_false, lt-ltb, ltb-true, eqb-false, eqb-true, ne_eqb, eq-eqb, true≢false}
use Rattle.wire.specs.BoardSets.{has, is_empty, is_below}
use Rattle.wire.specs.declared.message.Message.{Message}
use Rattle.wire.proofs.BoardSets.{below_with, below_none, other_member, none_has}
use Rattle.board.specs.declared.entry.PageEntry.{PageEntry}
use Rattle.board.specs.declared.request.AccessKind.{AccessKind}
use Rattle.board.specs.declared.request.AccessKind.TheVariants.{Load, Store}
use Rattle.board.specs.declared.request.Request.{Request}
use Rattle.board.specs.declared.stage.OpenStore.{OpenStore}
use Rattle.board.specs.Entries.{start_entry}
use Rattle.board.specs.Openings.{written}
use Rattle.board.specs.Serving.{owns, shared, given_up, passed_on, served_by_owner, served, entry_after}
use Rattle.board.specs.Steps.{given_back, with_copy, entry_deferred, with_store, with_grant}
use Rattle.lone.proofs.Others.{another_is}
use Rattle.lone.proofs.WaitingForms.{first_told}
use Rattle.lone.specs.Forms.{reads, writes, another, owner_form, other_form, entry_form, waiting_form}

-- what the form tells
pub record EntryTold (boards me : ℕ) (e : PageEntry) : Type 0 where
  pub hint : e.hint < boards
  pub copies : is_below e.copies boards ≡ true
  pub apart : has e.copies me ≡ false
  pub rest : cond (owns me e) (owner_form e) (other_form e) ≡ true

module _ (boards me : ℕ) where
  pub told : (e : PageEntry) → entry_form boards me e ≡ true → EntryTold boards me e
  told e h =
      let a = and_parts (nat_lt e.hint boards && is_below e.copies boards && not (has e.copies me)) _ h in
      let b = and_parts (nat_lt e.hint boards && is_below e.copies boards) (not (has e.copies me)) a.0 in
      let c = and_parts (nat_lt e.hint boards) (is_below e.copies boards) b.0 in
      record { hint = ltb-true e.hint boards c.0; copies = c.1; apart = grind (arith, b.1); rest = a.1 }

  pub kept : (e : PageEntry) → EntryTold boards me e → entry_form boards me e ≡ true
  kept e t =
      and_from (nat_lt e.hint boards && is_below e.copies boards && not (has e.copies me)) _
      (and_from (nat_lt e.hint boards && is_below e.copies boards) (not (has e.copies me)) (and_from (nat_lt e.hint boards) (is_below e.copies boards) (lt-ltb e.hint boards t.hint) t.copies) (not_from_false (has e.copies me) t.apart))
      t.rest

  pub owner_rest : (e : PageEntry) → EntryTold boards me e → owns me e ≡ true → owner_form e ≡ true
  owner_rest e t o = sym (ap (λ (b : Bool). cond b (owner_form e) (other_form e)) o) ∙ t.rest

  pub other_rest : (e : PageEntry) → EntryTold boards me e → owns me e ≡ false → other_form e ≡ true
  other_rest e t o = sym (ap (λ (b : Bool). cond b (owner_form e) (other_form e)) o) ∙ t.rest

  pub as_owner : (e : PageEntry) → owns me e ≡ true → owner_form e ≡ true → cond (owns me e) (owner_form e) (other_form e) ≡ true
  as_owner e o h = ap (λ (b : Bool). cond b (owner_form e) (other_form e)) o ∙ h

  pub as_other : (e : PageEntry) → owns me e ≡ false → other_form e ≡ true → cond (owns me e) (owner_form e) (other_form e) ≡ true
  as_other e o h = ap (λ (b : Bool). cond b (owner_form e) (other_form e)) o ∙ h

  module _ (page : ℕ) where
    shared_kept : (e : PageEntry) (r : Request) → another boards me r.asker ≡ true → owns me e ≡ true → EntryTold boards me e → EntryTold boards me (shared me page e r).entry
    shared_kept e r h o t =
        let a = another_is boards me r.asker h in
        record {
          hint = t.hint;
          copies = below_with e.copies r.asker boards a.0 t.copies;
          apart = other_member e.copies r.asker me (λ q. eqb-false r.asker me a.1 (sym q)) ∙ t.apart;
          rest = as_owner (shared me page e r).entry o refl;
        }

    granted_kept : (e : PageEntry) (r : Request) → another boards me r.asker ≡ true → EntryTold boards me (given_up e r)
    granted_kept e r h =
        let a = another_is boards me r.asker h in
        record { hint = a.0; copies = below_none boards; apart = none_has me; rest = as_other (given_up e r) a.1 refl }

    passed_kept : (e : PageEntry) (r : Request) → another boards me r.asker ≡ true → owns me e ≡ false → EntryTold boards me e → EntryTold boards me (passed_on me page e r).entry
    passed_kept e r h o t =
        let a = another_is boards me r.asker h in
        record { hint = a.0; copies = t.copies; apart = t.apart; rest = as_other (passed_on me page e r).entry a.1 (other_rest e t o) }

    by_owner_kept : (kind : AccessKind) (e : PageEntry) (r : Request) → another boards me r.asker ≡ true → owns me e ≡ true → EntryTold boards me e → EntryTold boards me (served_by_owner kind me page e r).entry
    by_owner_kept Load e r h o t = shared_kept e r h o t
    by_owner_kept Store e r h o t = granted_kept e r h

    served_by : (b : Bool) (e : PageEntry) (r : Request) → owns me e ≡ b → another boards me r.asker ≡ true → EntryTold boards me e →
        EntryTold boards me (cond b (served_by_owner r.kind me page e r) (passed_on me page e r)).entry
    served_by true e r o h t = by_owner_kept r.kind e r h o t
    served_by false e r o h t = passed_kept e r h o t

    pub served_kept : (e : PageEntry) (r : Request) → another boards me r.asker ≡ true → EntryTold boards me e → EntryTold boards me (served me page e r).entry
    served_kept e r h t = served_by (owns me e) e r refl h t

    pub all_kept : (e : PageEntry) (rs : List Request) → waiting_form boards me rs ≡ true → EntryTold boards me e → EntryTold boards me (entry_after me page e rs)
    all_kept e [] w t = t
    all_kept e (r ∷ rs) w t =
        let f = first_told boards me r rs w in all_kept (served me page e r).entry rs f.rest (served_kept e r f.asker t)

  pub start_kept : me < boards → EntryTold boards me (start_entry me)
  start_kept l = record { hint = omega (arith, l); copies = below_none boards; apart = none_has me; rest = by (eqb me 0) refl }
    where
      by : (b : Bool) → eqb me 0 ≡ b → cond (owns me (start_entry me)) (owner_form (start_entry me)) (other_form (start_entry me)) ≡ true
      by true e = let o = eq-eqb 0 me (sym (eqb-true me 0 e)) in rw (e, o) refl
      by false e = let o = ne_eqb 0 me (λ q. eqb-false me 0 e (sym q)) in rw (e, o) refl

  pub back_kept : (e : PageEntry) → owns me e ≡ false → EntryTold boards me e → EntryTold boards me (given_back e)
  back_kept e o t = record { hint = t.hint; copies = t.copies; apart = t.apart; rest = as_other (given_back e) o (and_parts (not (writes e.access)) (is_empty e.copies) (other_rest e t o)).1 }

  -- where a board has no access, it is not the owner
  pub no_access : (e : PageEntry) → reads e.access ≡ false → EntryTold boards me e → owns me e ≡ false
  no_access e h t = by (owns me e) refl
    where
      by : (b : Bool) → owns me e ≡ b → owns me e ≡ false
      by true o = absurd (true≢false (sym (and_parts (reads e.access) (not (writes e.access) || is_empty e.copies) (owner_rest e t o)).0 ∙ h))
      by false o = o

  pub copy_kept : (e : PageEntry) (m : Message) → reads e.access ≡ false → another boards me m.from ≡ true → EntryTold boards me e → EntryTold boards me (with_copy e m)
  copy_kept e m h a t =
      let o = another_is boards me m.from a in
      record { hint = o.0; copies = t.copies; apart = t.apart; rest = as_other (with_copy e m) o.1 (and_parts (not (writes e.access)) (is_empty e.copies) (other_rest e t (no_access e h t))).1 }

  pub deferred_kept : (deferred : Option ℕ) (e : PageEntry) → owns me e ≡ false → EntryTold boards me e → EntryTold boards me (entry_deferred deferred e)
  deferred_kept None e o t = t
  deferred_kept (Some board) e o t = back_kept e o t

  pub store_kept : (e : PageEntry) (store : OpenStore) → owns me e ≡ true → EntryTold boards me e → EntryTold boards me (with_store e store)
  store_kept e store o t = record { hint = t.hint; copies = below_none boards; apart = none_has me; rest = as_owner (with_store e store) o refl }

  pub grant_kept : (e : PageEntry) (m : Message) → me < boards → is_below m.copies boards ≡ true → has m.copies me ≡ false → EntryTold boards me (with_grant me e m)
  grant_kept e m l b h = record { hint = l; copies = b; apart = h; rest = as_owner (with_grant me e m) (eq-eqb me me refl) refl }

  pub written_kept : (e : PageEntry) (address word : ℕ) → owns me e ≡ true → is_empty e.copies ≡ true → EntryTold boards me e → EntryTold boards me (written e address word)
  written_kept e address word o h t = record { hint = t.hint; copies = t.copies; apart = t.apart; rest = as_owner (written e address word) o h }

  -- who may write owns the page, and no copies are out
  pub writer_told : (e : PageEntry) → writes e.access ≡ true → EntryTold boards me e → (owns me e ≡ true) × (is_empty e.copies ≡ true)
  writer_told e h t = by (owns me e) refl
    where
      by : (b : Bool) → owns me e ≡ b → (owns me e ≡ true) × (is_empty e.copies ≡ true)
      by true o = (o, grind (arith, (and_parts (reads e.access) (not (writes e.access) || is_empty e.copies) (owner_rest e t o)).1, h))
      by false o = absurd (true≢false (sym (and_parts (not (writes e.access)) (is_empty e.copies) (other_rest e t o)).0 ∙ ap not h))
