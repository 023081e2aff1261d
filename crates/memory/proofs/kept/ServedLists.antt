-- A request is served, and a whole waiting list is: what is kept of the page stays so.
use Rattle.std.proofs.Common.{◌≡◌, ℕ, true, false, List, [], refl, ap, ◌∙◌, inl, inr, arith}
use Rattle.std.proofs.lemmas.Bool.{cases_eq}
use Rattle.std.specs.List.{AllByRecursion as All}
use Rattle.memory.specs.Functions.{changed}
use Rattle.memory.proofs.model.Board.{load, store, Req}
use Rattle.memory.proofs.model.Invariant.{Core, Inv}
use Rattle.memory.proofs.model.Page.{home, queued, Page, busy, queued_at, occ}
use Rattle.memory.proofs.model.Steps.{Serves, passes, copies_it, grants, Serving, empty, one}
use Rattle.memory.proofs.model.Sums.{bit}
use Rattle.memory.proofs.kept.Requests.{passes_core, copies_core, grants_core}
use Rattle.memory.proofs.kept.Sets.{facts}
use Rattle.memory.proofs.kept.Waiting.{popped, others_told}

-- what one served request leaves as it was
pub record Served {W : Type 0} (n : ℕ) (v : W) (p : Page W) (u a : ℕ) (ws : ℕ → List Req) (q : Page W) : Type 0 where
  pub core : Core n v q
  pub still : q.journey u ≡ home
  pub others : (x : ℕ) → (x ≡ a → ⊥) → q.journey x ≡ p.journey x
  pub gone : busy (q.journey a) ≡ true
  pub lists : q.waits ≡ ws

module _ {W : Type 0} {n : ℕ} {v : W} {p : Page W} (i : Core n v p) (u a : ℕ) (ws : ℕ → List Req) (e : p.journey u ≡ home) (rest : (w b : ℕ) → occ b (ws w) ≡ bit (queued_at w (changed p.journey a home b))) (stays : (w : ℕ) → All (λ (r : Req). p.journey r.asker ≡ queued r.kind w r.hops) (ws w)) where
  pub serves_one : {q : Page W} → Serves p u a ws q → Served n v p u a ws q
  serves_one (passes k h at ne) = record { core = passes_core n v p i u a h k ws at e rest stays ne; still = grind (arith, facts); others = grind (arith, facts); gone = grind (arith, facts); lists = refl }
  serves_one (copies_it h at q) = record { core = copies_core n v p i u a h load ws at e rest stays refl q; still = grind (arith, facts); others = grind (arith, facts); gone = grind (arith, facts); lists = refl }
  serves_one (grants h at q) = record { core = grants_core n v p i u a h store ws at e rest stays refl q; still = grind (arith, facts); others = grind (arith, facts); gone = grind (arith, facts); lists = refl }

abbrev FreeBut : {W : Type 0} → Page W → ℕ → Type 0
FreeBut p u = (x : ℕ) → (x ≡ u → ⊥) → busy (p.journey x) ≡ false → p.waits x ≡ []

-- a board that has just finished serves its waiting list
pub serves_all : {W : Type 0} {n : ℕ} {v : W} (u : ℕ) {p s : Page W} → Core n v p → p.journey u ≡ home → FreeBut p u → Serving u p s → Inv n v s
serves_all u {p} i e free (empty none_left) = record { core = i; free = λ x idle. elim (cases_eq x u) [ inl q ↦ ap p.waits q ∙ none_left | inr q ↦ free x q idle ] }
serves_all {n = n} {v = v} u {p} i e free (one {q = q} r rest is this more) =
    let k = serves_one i u r.asker (changed p.waits u rest) e (popped i u r rest is) (others_told i u r rest is) this in
    serves_all u k.core k.still (λ x ne idle. grind (arith, facts, free x ne, k.others x, k.gone, ap (λ ws. ws x) k.lists)) more
