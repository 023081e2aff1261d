-- The requests that wait at boards: how often a board has one there, and that the others wait on when one journey changes.
use Rattle.std.proofs.Common.{◌≡◌, ℕ, ◌+◌, false, eqb, List, [], ◌∷◌, ◌++◌, ap, ◌∙◌, arith}
use Rattle.std.proofs.lemmas.Bool.Decides.{nat_tests}
use Rattle.std.specs.List.{AllByRecursion as All}
use Rattle.memory.specs.Functions.{changed}
use Rattle.memory.proofs.model.Board.{Req}
use Rattle.memory.proofs.model.Invariant.{Core}
use Rattle.memory.proofs.model.Page.{Journey, home, queued, Page, is_queued, queued_at, occ}
use Rattle.memory.proofs.model.Sums.{bit}
use Rattle.memory.proofs.kept.Sets.{facts}
use Rattle.memory.proofs.kept.Sums.{changed_other, changed_both}

pub occ_push : (b : ℕ) (a : Req) (xs : List Req) → occ b (xs ++ a ∷ []) ≡ occ b xs + bit (eqb a.asker b)
occ_push b a [] = omega arith
occ_push b a (x ∷ xs) = omega (arith, occ_push b a xs)

-- nobody called a among them: a's journey may change
pub others_stay : {W : Type 0} (j : ℕ → Journey W) (u a : ℕ) (t : Journey W) (xs : List Req) → occ a xs ≡ 0 → All (λ (r : Req). j r.asker ≡ queued r.kind u r.hops) xs → All (λ (r : Req). changed j a t r.asker ≡ queued r.kind u r.hops) xs
others_stay j u a t [] e h = tt
others_stay j u a t (r ∷ xs) e h =
    let ne : r.asker ≡ a → ⊥ = λ q. grind (arith, nat_tests) in
    (changed_other j a t r.asker ne ∙ h.0, others_stay j u a t xs (omega arith) h.1)

-- a board that waits nowhere: its journey may change
pub told_after : {W : Type 0} {n : ℕ} {v : W} {p : Page W} → Core n v p → (a : ℕ) (t : Journey W) → is_queued (p.journey a) ≡ false → (u : ℕ) → All (λ (r : Req). changed p.journey a t r.asker ≡ queued r.kind u r.hops) (p.waits u)
told_after {p = p} i a t out u = others_stay p.journey u a t (p.waits u) (grind (arith, facts, i.lists u a)) (i.told u)

-- the first of a waiting list, taken from it
pub popped : {W : Type 0} {n : ℕ} {v : W} {p : Page W} → Core n v p → (u : ℕ) (r : Req) (rest : List Req) → p.waits u ≡ r ∷ rest → (w b : ℕ) → occ b (changed p.waits u rest w) ≡ bit (queued_at w (changed p.journey r.asker home b))
popped {p = p} i u r rest e w b =
    let a = r.asker in grind (arith, facts, i.lists w b, i.lists w a, i.lists u b, i.lists u a, ap (occ b) e, ap (occ a) e)

pub others_told : {W : Type 0} {n : ℕ} {v : W} {p : Page W} → Core n v p → (u : ℕ) (r : Req) (rest : List Req) → p.waits u ≡ r ∷ rest → (w : ℕ) → All (λ (r : Req). p.journey r.asker ≡ queued r.kind w r.hops) (changed p.waits u rest w)
others_told {p = p} i u r rest e w = changed_both (λ y xs. All (λ (r : Req). p.journey r.asker ≡ queued r.kind y r.hops) xs) p.waits u rest w (rw e at (i.told u)).1 (λ ne. i.told w)
