-- A call on a kit keeps what is kept of it, and is answered rightly.
use Rattle.std.proofs.Common.{◌≡◌, ℕ, ◌<◌, Bool, true, false, ◌⊎◌, List, [], ◌∷◌, sym, refl, ap, ◌∙◌, subst, inl, inr, arith}
use Rattle.std.proofs.lemmas.Bool.{cases_eq}
use Rattle.memory.specs.Functions.{changed}
use Rattle.memory.proofs.model.Board.{write, load, store, Entry, Mail, request, store_entry}
use Rattle.memory.proofs.model.Calls.{Order, Said, Does, loads_now, loads_later, stores_now, stores_clearing, stores_later, delivers_it, delivers_none}
use Rattle.memory.proofs.model.Ledgers.{Ledger, after, Good}
use Rattle.memory.proofs.model.Kit.{asked, clears, Seat, Board, Kit, none_below, invalidates, becomes, opened_seat, op_load, op_store, op_of}
use Rattle.memory.proofs.model.Told.{Told, Equality}
use Rattle.memory.proofs.model.Page.{home, asking, clearing, denies, busy, far, marks}
use Rattle.memory.proofs.model.Sets.{has}
use Rattle.memory.proofs.model.Steps.{goes, stored_at, ask_load, ask_store, clear, MayStore, store_now}
use Rattle.memory.proofs.kept.AccessOpens.{free_is, undeferred, home_is, opened_kept, requests_self}
use Rattle.memory.proofs.kept.Below.{none_anywhere, none_false}
use Rattle.memory.proofs.kept.CallsTold.{ask_told, clear_told, now_told}
use Rattle.memory.proofs.kept.CopySets.{copies_in}
use Rattle.memory.proofs.kept.DeliveryKept.{delivered}
use Rattle.memory.proofs.kept.KitKept.{Kept, nothing_new}
use Rattle.memory.proofs.kept.Messages.{invalidates_ask}
use Rattle.memory.proofs.kept.NothingWaits.{quiet_none}
use Rattle.memory.proofs.kept.PageKept.{step_kept}
use Rattle.memory.proofs.kept.Roots.{own}
use Rattle.memory.proofs.kept.Sums.{changed_self_at, changed_same, changed_other, changed_both}

module _ {W : Type 0} {same : Mail W → Mail W → Bool} {n : ℕ} {l : Ledger W} {k : Kit W} (law : Equality same) (i : Kept same n l k) where
  copies_below : (b p : ℕ) → b < n → (i.pages p).journey b ≡ home → ((i.pages p).entry b).hint ≡ b → (y : ℕ) → has ((i.pages p).entry b).copies y ≡ true → y < n
  copies_below b p lt e q y c = (copies_in (i.each p).core b (own n (l.memory p) (i.pages p) (i.each p).core b lt e q) e y c).0

  may_do : (b p : ℕ) → b < n → (i.pages p).journey b ≡ home → (k.board b).entry p ≡ (i.pages p).entry b → (((k.board b).entry p).access ≡ write) ⊎ ((((k.board b).entry p).hint ≡ b) × (denies ((k.board b).entry p).access ≡ false) × (none_below n (has ((k.board b).entry p).copies) ≡ true)) → MayStore (i.pages p) b
  may_do b p lt h t (inl w) = inl (ap (λ (z : Entry W). z.access) (sym t) ∙ w)
  may_do b p lt h t (inr (q, a, c)) =
      let q' : ((i.pages p).entry b).hint ≡ b = ap (λ (z : Entry W). z.hint) (sym t) ∙ q in
      let c' : none_below n (has ((i.pages p).entry b).copies) ≡ true = ap (λ (z : Entry W). none_below n (has z.copies)) (sym t) ∙ c in
      inr (
        q',
        ap (λ (z : Entry W). denies z.access) (sym t) ∙ a,
        none_anywhere n (has ((i.pages p).entry b).copies) (copies_below b p lt h q') c',
      )

  pub does_kept : {c : Order W} {s : Said W} {ms : List (Mail W)} {j : Kit W} → Does n k c s ms j → Kept same n (after l c s ms) j × Good n l c s ms
  does_kept (loads_now b p lt shut a) =
      let t = i.told.entries b p in
      let has : denies ((i.pages p).entry b).access ≡ false = ap (λ (z : Entry W). denies z.access) (sym t) ∙ a in
      (nothing_new i, ap (λ (z : Entry W). z.words) t ∙ (i.each p).core.words.table b has)
  does_kept (loads_later b p lt shut a ms e) =
      let t = i.told.entries b p in
      let h = home_is law i b p shut in
      let e' = e ∙ ap (λ (z : Entry W). request load z.hint b 0 ∷ []) t in
      let told = ask_told same law n k i.pages i.told b p shut (free_is law i b p shut) (undeferred law i b p shut) load (λ w. w) in (
        opened_kept law i b p shut (op_load p) (asked load) (λ w. w) (λ _. false) ((k.board b).entry p) ms (asking load ((i.pages p).entry b).hint 0) refl
            (subst (λ z. Told same (becomes k b p (opened_seat p (asked load) (λ w. w) (λ _. false)) ((k.board b).entry p) z k.link) (changed i.pages p (goes (i.pages p) b (asking load ((i.pages p).entry b).hint 0)))) (sym e') told)
            (ask_load b lt h (ap (λ (z : Entry W). z.access) (sym t) ∙ a))
            refl (requests_self load _ b b ms e).0 (λ x. (requests_self load _ b x ms e).1),
        tt,
      )
  does_kept (stores_later b p f lt shut a ms e) =
      let t = i.told.entries b p in
      let h = home_is law i b p shut in
      let e' = e ∙ ap (λ (z : Entry W). request store z.hint b 0 ∷ []) t in
      let told = ask_told same law n k i.pages i.told b p shut (free_is law i b p shut) (undeferred law i b p shut) store f in (
        opened_kept law i b p shut (op_store p f) (asked store) f (λ _. false) ((k.board b).entry p) ms (asking store ((i.pages p).entry b).hint 0) refl
            (subst (λ z. Told same (becomes k b p (opened_seat p (asked store) f (λ _. false)) ((k.board b).entry p) z k.link) (changed i.pages p (goes (i.pages p) b (asking store ((i.pages p).entry b).hint 0)))) (sym e') told)
            (ask_store b lt h (λ q. a (ap (λ (z : Entry W). z.hint) t ∙ q)))
            refl (requests_self store _ b b ms e).0 (λ x. (requests_self store _ b x ms e).1),
        tt,
      )
  does_kept (stores_clearing b p f lt shut a more ms e) =
      let t = i.told.entries b p in
      let h = home_is law i b p shut in
      let q : ((i.pages p).entry b).hint ≡ b = ap (λ (z : Entry W). z.hint) (sym t) ∙ a in
      let y = none_false n (has ((k.board b).entry p).copies) more in
      let y_in : has ((i.pages p).entry b).copies y.0 ≡ true = ap (λ (z : Entry W). has z.copies y.0) (sym t) ∙ y.2 in
      let goal_page = goes (i.pages p) b (clearing 0 (marks ((i.pages p).entry b).copies)) in
      let told = clear_told same law n k i.pages i.told b p shut (free_is law i b p shut) (undeferred law i b p shut) f (copies_below b p lt h q) in
      let told' = subst (λ (z : Entry W). Told same (becomes k b p (opened_seat p (clears 0) f (has z.copies)) ((k.board b).entry p) (invalidates n b z.copies) k.link) (changed i.pages p goal_page)) (sym t) told in (
        opened_kept law i b p shut (op_store p f) (clears 0) f (has ((k.board b).entry p).copies) ((k.board b).entry p) ms (clearing 0 (marks ((i.pages p).entry b).copies)) refl
            (subst (λ z. Told same (becomes k b p (opened_seat p (clears 0) f (has ((k.board b).entry p).copies)) ((k.board b).entry p) z k.link) (changed i.pages p goal_page)) (sym e) told')
            (clear b y.0 lt h q y_in)
            refl (omega (arith, invalidates_ask n b b ((k.board b).entry p).copies ms e)) (λ x _. invalidates_ask n b x ((k.board b).entry p).copies ms e),
        tt,
      )
  does_kept (stores_now b p f lt shut may) =
      let t = i.told.entries b p in
      let h = home_is law i b p shut in
      let g = stored_at (i.pages p) b (f ((i.pages p).entry b).words) in
      let told = now_told same law n k i.pages i.told b p shut (free_is law i b p shut) (undeferred law i b p shut) (f ((i.pages p).entry b).words) in
      let told' = subst (λ (z : Entry W). Told same (becomes k b p (k.board b).seat (store_entry b (f z.words)) [] k.link) (changed i.pages p g)) (sym t) told in
      let inv = (step_kept (i.each p) {q = g} (store_now b f lt h (may_do b p lt h t may))).0 in
      let still : (r x : ℕ) → (changed i.pages p g r).journey x ≡ (i.pages r).journey x = λ r x. changed_both (λ r z. z.journey x ≡ (i.pages r).journey x) i.pages p g r (changed_self_at (i.pages p).journey b home (sym h) x) (λ _. refl) in
      let z : Board W = record { seat = (k.board b).seat; entry = changed (k.board b).entry p (store_entry b (f ((k.board b).entry p).words)) } in
      let seats : (x : ℕ) → (changed k.board b z x).seat ≡ (k.board x).seat = λ x. changed_both (λ x y. y.seat ≡ (k.board x).seat) k.board b z x refl (λ _. refl) in (
        record {
          pages = changed i.pages p g;
          told = told';
          each = λ r. elim (cases_eq r p) [
            | inl q ↦ rw (ap (changed i.pages p g) q ∙ changed_same i.pages p g, ap (changed l.memory p (f (l.memory p))) q ∙ changed_same l.memory p (f (l.memory p))) inv
            | inr q ↦ rw (changed_other i.pages p g r q, changed_other l.memory p (f (l.memory p)) r q) (i.each r)
          ];
          opens = λ x. i.opens x ∙ ap (λ y. op_of y) (sym (seats x));
          passed = λ x on.
              let y : (changed i.pages p g (changed k.board b z x).seat.page).journey x ≡ (i.pages (k.board x).seat.page).journey x = ap (λ (s : Seat W). (changed i.pages p g s.page).journey x) (seats x) ∙ still (k.board x).seat.page x in
              omega (arith, i.passed x (sym (ap busy y) ∙ on), ap far y);
          light = λ r x. rw (still r x) (i.light r x);
          bound = λ x. omega (arith, i.bound x);
        },
        tt,
      )
  does_kept (delivers_it p m rest r e is) = let d = delivered law i p m rest e r is in (d.0, d.1)
  does_kept (delivers_none e) = (nothing_new i, quiet_none law i e)
