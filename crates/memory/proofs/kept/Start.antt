-- A kit that just started: what is kept holds of it, and no work is left.
use Rattle.std.proofs.Common.{◌≡◌, ℕ, ◌<◌, Bool, false, refl, arith}
use Rattle.std.proofs.lemmas.Bool.{both_ways}
use Rattle.memory.proofs.model.Board.{Mail}
use Rattle.memory.proofs.model.Calls.{first_kit}
use Rattle.memory.proofs.model.Ledgers.{first_ledger}
use Rattle.memory.proofs.model.Invariant.{Inv}
use Rattle.memory.proofs.model.Page.{start}
use Rattle.memory.proofs.kept.HintTree.{first_inv}
use Rattle.memory.proofs.kept.KitKept.{Kept, left_of}
use Rattle.memory.proofs.kept.Sets.{facts}
use Rattle.memory.proofs.kept.Sums.{sum_zero}

start_inv : {W : Type 0} (n : ℕ) (idle v : W) → 0 < n → Inv n v (start idle v)
start_inv n idle v l = record {
  core = record {
    ways = first_inv l;
    holders = grind (arith, facts);
    tables = grind (arith, facts);
    words = grind (arith, facts);
    told = λ u. tt;
    lists = grind (arith, facts);
  };
  free = λ u e. refl;
}

pub start_kept : {W : Type 0} (same : Mail W → Mail W → Bool) (n : ℕ) (idle : W) (v : ℕ → W) → 0 < n → Kept same n (first_ledger v) (first_kit idle v)
start_kept same n idle v l = record {
  pages = λ p. start idle (v p);
  told = record { entries = λ x p. refl; stages = λ x p. grind (arith, facts); awaiting = λ x y. refl; waitings = λ x p. grind (arith, facts); deferrals = λ x. refl; mails = λ p x. refl };
  each = λ p. start_inv n idle (v p) l;
  opens = λ x. refl;
  passed = λ x e. absurd (both_ways false refl e);
  light = λ p x. omega arith;
  bound = λ x. omega arith;
}

pub start_left : {W : Type 0} (same : Mail W → Mail W → Bool) (n : ℕ) (idle : W) (v : ℕ → W) (l : 0 < n) → left_of (start_kept same n idle v l) ≡ 0
unfolding start_kept
start_left same n idle v l = sum_zero n (λ x. 0) (λ x. refl)
