-- An access that opens keeps what is kept of a kit.
use Rattle.std.proofs.Common.{◌≡◌, ℕ, ◌+◌, ◌-◌, ◌*◌, ◌≤◌, Bool, true, false, List, [], ◌∷◌, sym, refl, ap, ◌∙◌, inl, inr, arith}
use Rattle.std.proofs.lemmas.Bool.{cases_eq}
use Rattle.memory.specs.Functions.{changed}
use Rattle.memory.proofs.model.Board.{Kind, Entry, Mail, request}
use Rattle.memory.proofs.model.Ledgers.{Ledger, more_passed, opening}
use Rattle.memory.proofs.model.Invariant.{Inv}
use Rattle.memory.proofs.model.Kit.{just, Stage, closed, Board, Kit, becomes, opened_seat, requests, Open, op_by}
use Rattle.memory.proofs.model.Told.{Told, Equality}
use Rattle.memory.proofs.model.Page.{deferred, Journey, home, Page, busy, far, loading, mark}
use Rattle.memory.proofs.model.Steps.{goes, Call, opens}
use Rattle.memory.proofs.model.Weights.{weight}
use Rattle.memory.proofs.kept.CallsTold.{idle}
use Rattle.memory.proofs.kept.KitKept.{opens_changed, Kept}
use Rattle.memory.proofs.kept.PageKept.{step_kept}
use Rattle.memory.proofs.kept.Sets.{facts}
use Rattle.memory.proofs.kept.Sums.{changed_same, changed_other, changed_both}
use Rattle.memory.proofs.kept.WorkFalls.{call_opens}

pub requests_self : {W : Type 0} (d : Kind) (t b x : ℕ) (ms : List (Mail W)) → ms ≡ request d t b 0 ∷ [] → (requests b ms - 1 ≡ 0) × ((x ≡ b → ⊥) → requests x ms ≡ 0)
requests_self d t b x ms e = (grind (arith, facts, ap (requests b) e), λ ne. grind (arith, facts, ap (requests x) e))

module _ {W : Type 0} {same : Mail W → Mail W → Bool} {n : ℕ} {l : Ledger W} {k : Kit W} (law : Equality same) (i : Kept same n l k) (b p : ℕ) (shut : (k.board b).seat.stage ≡ closed) where
  abbrev P : Page W
  P = i.pages p

  pub free_is : (r : ℕ) → busy ((i.pages r).journey b) ≡ false → (i.pages r).waits b ≡ []
  free_is r = (i.each r).free b

  pub undeferred : mark (i.pages p) b ≡ deferred → loading ((i.pages p).journey b) ≡ true
  undeferred = (i.each p).core.holders.waiting b

  pub home_is : P.journey b ≡ home
  home_is = idle same law n k i.pages i.told b p shut free_is undeferred p

  pub opened_kept : (o : Open W) (st : Stage) (f : W → W) (c : ℕ → Bool) (e : Entry W) (ms : List (Mail W)) (j : Journey W) → op_by st p f ≡ just o → Told same (becomes k b p (opened_seat p st f c) e ms k.link) (changed i.pages p (goes P b j)) → Call n P (goes P b j) → far j ≡ 0 → requests b ms - 1 ≡ 0 → ((x : ℕ) → (x ≡ b → ⊥) → requests x ms ≡ 0) → Kept same n (opening l b o ms) (becomes k b p (opened_seat p st f c) e ms k.link)
  opened_kept o st f c e ms j op u call zero_far none_mine none_else =
      let inv = (step_kept (i.each p) {q = goes P b j} (opens call)).0 in
      let w = call_opens (i.each p) call in
      let z : Board W = record { seat = opened_seat p st f c; entry = changed (k.board b).entry p e } in
      record {
        pages = changed i.pages p (goes P b j);
        told = u;
        each = λ r. changed_both (λ r g. Inv n (l.memory r) g) i.pages p (goes P b j) r inv (λ _. i.each r);
        opens = opens_changed k b z l.opens (just o) op i.opens;
        passed = λ x. elim (cases_eq x b) [
          | inl q ↦ let s : changed k.board b z x ≡ z = ap (changed k.board b z) q ∙ changed_same k.board b z in
              let t : changed i.pages p (goes P b j) p ≡ goes P b j = changed_same i.pages p (goes P b j) in
              let y : (goes P b j).journey x ≡ j = ap (goes P b j).journey q ∙ changed_same P.journey b j in
              let v : changed (more_passed l ms) b (requests b ms - 1) x ≡ 0 = ap (changed (more_passed l ms) b (requests b ms - 1)) q ∙ changed_same (more_passed l ms) b (requests b ms - 1) ∙ none_mine in
              λ on. v ∙ sym (ap (λ (g : Board W). far ((changed i.pages p (goes P b j) g.seat.page).journey x)) s ∙ ap (λ (g : Page W). far (g.journey x)) t ∙ ap far y ∙ zero_far)
          | inr q ↦ let s : changed k.board b z x ≡ k.board x = changed_other k.board b z x q in
              let y : (r : ℕ) → (changed i.pages p (goes P b j) r).journey x ≡ (i.pages r).journey x = λ r. changed_both (λ r g. g.journey x ≡ (i.pages r).journey x) i.pages p (goes P b j) r (changed_other P.journey b j x q) (λ _. refl) in
              let yy : (changed i.pages p (goes P b j) (changed k.board b z x).seat.page).journey x ≡ (i.pages (k.board x).seat.page).journey x = ap (λ (g : Board W). (changed i.pages p (goes P b j) g.seat.page).journey x) s ∙ y (k.board x).seat.page in
              λ on. let v = i.passed x (sym (ap busy yy) ∙ on) in let none_x = none_else x q in
              changed_other (more_passed l ms) b (requests b ms - 1) x q ∙ (let d : l.passed x + requests x ms ≡ far ((i.pages (k.board x).seat.page).journey x) = omega arith in d) ∙ sym (ap far yy)
        ];
        light = λ r x. changed_both (λ r g. weight n (g.journey x) ≤ 3 * n - 4) i.pages p (goes P b j) r
            (elim (cases_eq x w.who) [ inl q ↦ rw q w.now | inr q ↦ rw (w.others x q) (i.light p x) ])
            (λ _. i.light r x);
        bound = λ x. elim (cases_eq x b) [
          | inl q ↦ let v : changed (more_passed l ms) b (requests b ms - 1) x ≡ 0 = ap (changed (more_passed l ms) b (requests b ms - 1)) q ∙ changed_same (more_passed l ms) b (requests b ms - 1) ∙ none_mine in omega (arith, v)
          | inr q ↦ let v : changed (more_passed l ms) b (requests b ms - 1) x ≡ more_passed l ms x = changed_other (more_passed l ms) b (requests b ms - 1) x q in omega (arith, v, i.bound x, none_else x q)
        ];
      }
