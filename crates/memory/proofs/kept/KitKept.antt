-- What is kept of a kit and its ledger: the kit is told by its pages, and the ledger agrees with them; and the work that is left.
use Rattle.std.proofs.Common.{◌≡◌, ℕ, ◌-◌, ◌*◌, ◌≤◌, Bool, true, sym, refl, ap, ◌∙◌, inl, inr, arith, []}
use Rattle.std.proofs.lemmas.Bool.{cases_eq}
use Rattle.memory.specs.Functions.{changed}
use Rattle.memory.proofs.model.Board.{Mail}
use Rattle.memory.proofs.model.Ledgers.{Ledger, unchanged}
use Rattle.memory.proofs.model.Invariant.{Inv}
use Rattle.memory.proofs.model.Kit.{Maybe, absent, closed, Board, Kit, Open, op_by, op_of}
use Rattle.memory.proofs.model.Told.{Told}
use Rattle.memory.proofs.model.Page.{Page, busy, far}
use Rattle.memory.proofs.model.Sums.{sum_to}
use Rattle.memory.proofs.model.Weights.{weight}
use Rattle.memory.proofs.kept.Stages.{open_is_busy, open_here}
use Rattle.memory.proofs.kept.Sums.{changed_same, changed_other}

pub record Kept {W : Type 0} (same : Mail W → Mail W → Bool) (n : ℕ) (l : Ledger W) (k : Kit W) : Type 0 where
  pub pages : ℕ → Page W
  pub told : Told same k pages
  pub each : (p : ℕ) → Inv n (l.memory p) (pages p)
  pub opens : (x : ℕ) → l.opens x ≡ op_of (k.board x).seat
  pub passed : (x : ℕ) → busy ((pages (k.board x).seat.page).journey x) ≡ true → l.passed x ≡ far ((pages (k.board x).seat.page).journey x)
  pub light : (p x : ℕ) → weight n ((pages p).journey x) ≤ 3 * n - 4
  pub bound : (x : ℕ) → l.passed x ≤ n - 2

-- the work that is left: what all journeys weigh
abbrev pub left_of : {W : Type 0} {same : Mail W → Mail W → Bool} {n : ℕ} {l : Ledger W} {k : Kit W} → Kept same n l k → ℕ
left_of {n = n} {k = k} i = sum_to n (λ x. weight n ((i.pages (k.board x).seat.page).journey x))

-- an event that changes nothing
pub nothing_new : {W : Type 0} {same : Mail W → Mail W → Bool} {n : ℕ} {l : Ledger W} {k : Kit W} → Kept same n l k → Kept same n (unchanged l []) k
nothing_new {l = l} i = record { pages = i.pages; told = i.told; each = i.each; opens = i.opens; passed = λ x on. omega (arith, i.passed x on); light = i.light; bound = λ x. omega (arith, i.bound x) }

-- one board's open access changed
pub opens_changed : {W : Type 0} (k : Kit W) (b : ℕ) (z : Board W) (l : ℕ → Maybe (Open W)) (o : Maybe (Open W)) → op_of z.seat ≡ o → ((x : ℕ) → l x ≡ op_of (k.board x).seat) → (x : ℕ) → changed l b o x ≡ op_of (changed k.board b z x).seat
opens_changed k b z l o e is x = elim (cases_eq x b) [
  | inl w ↦ ap (changed l b o) w ∙ changed_same l b o ∙ sym e ∙ sym (ap (λ (g : Board _). op_of g.seat) (ap (changed k.board b z) w ∙ changed_same k.board b z))
  | inr w ↦ changed_other l b o x w ∙ is x ∙ sym (ap (λ (g : Board _). op_of g.seat) (changed_other k.board b z x w))
]

module _ {W : Type 0} {same : Mail W → Mail W → Bool} {n : ℕ} {l : Ledger W} {k : Kit W} (i : Kept same n l k) where
  pub shut_absent : (x : ℕ) → (k.board x).seat.stage ≡ closed → l.opens x ≡ absent
  shut_absent x c = i.opens x ∙ ap (λ z. op_by z (k.board x).seat.page (k.board x).seat.act) c

  pub open_journey : (x : ℕ) → ((k.board x).seat.stage ≡ closed → ⊥) → busy ((i.pages (k.board x).seat.page).journey x) ≡ true
  open_journey x ne = open_is_busy ((i.pages (k.board x).seat.page).journey x) (k.board x).seat.stage (i.told.stages x (k.board x).seat.page ∙ open_here (k.board x).seat (k.board x).seat.page refl) ne
