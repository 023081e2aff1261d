-- A board's stage beside a page's journey: the board has an access open on the page exactly where its stage there is not closed.
use Rattle.std.proofs.Common.{◌≡◌, ℕ, true, ◌⊎◌, refl, inl, inr, arith}
use Rattle.memory.proofs.model.Kit.{just, Stage, closed, asked, clears, Seat, Open, open_on, op_by}
use Rattle.memory.proofs.model.Told.{stage_of}
use Rattle.memory.proofs.model.Page.{Journey, home, busy}
use Rattle.memory.proofs.kept.Sets.{facts}

pub stage_cases : (s : Stage) → (s ≡ closed) ⊎ (s ≡ closed → ⊥)
stage_cases closed = inl refl
stage_cases (asked k) = inr (λ e. grind arith)
stage_cases (clears h) = inr (λ e. grind arith)

pub closed_home : {W : Type 0} (j : Journey W) → stage_of j ≡ closed → j ≡ home
closed_home j e = grind arith

pub open_is_busy : {W : Type 0} (j : Journey W) (s : Stage) → stage_of j ≡ s → (s ≡ closed → ⊥) → busy j ≡ true
open_is_busy j s e ne = grind arith

pub busy_is_open : {W : Type 0} (j : Journey W) (s : Stage) → stage_of j ≡ s → busy j ≡ true → s ≡ closed → ⊥
busy_is_open j s e b c = grind arith

pub op_not_closed : {W : Type 0} (st : Stage) (p : ℕ) (f : W → W) (o : Open W) → op_by st p f ≡ just o → st ≡ closed → ⊥
op_not_closed st p f o e c = grind arith

-- on its own page, and on another
pub open_here : {W : Type 0} (s : Seat W) (p : ℕ) → s.page ≡ p → open_on s p ≡ s.stage
open_here s p e = grind (arith, facts)

pub off_page : {W : Type 0} (s : Seat W) (p : ℕ) → (s.page ≡ p → ⊥) → open_on s p ≡ closed
off_page s p ne = grind (arith, facts)
