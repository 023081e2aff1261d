-- The ledger of a kit's calls and of what they say, and whether an answer is right by it.
use Rattle.std.specs.Prelude.{◌≡◌, ℕ, ◌+◌, ◌-◌, ◌≤◌, Bool, true, false, List}
use Rattle.memory.specs.Functions.{changed}
use Rattle.memory.proofs.model.Board.{Mail}
use Rattle.memory.proofs.model.Kit.{Maybe, absent, just, requests, Open, op_load, op_store}
use Rattle.memory.proofs.model.Sums.{sum_to, bit}
use Rattle.memory.proofs.model.Calls.{Order, call_load, call_store, call_deliver, Said, quiet, moved, opened, answered, finished}

-- what a history says: the memory, the open accesses and how often their requests were passed on
pub record Ledger (W : Type 0) : Type 0 where
  pub memory : ℕ → W
  pub opens : ℕ → Maybe (Open W)
  pub passed : ℕ → ℕ

module _ {W : Type 0} where
  abbrev pub stored : Maybe (Open W) → (ℕ → W) → ℕ → W
  stored absent mem = mem
  stored (just (op_load p)) mem = mem
  stored (just (op_store p f)) mem = changed mem p (f (mem p))

  abbrev pub more_passed : Ledger W → List (Mail W) → ℕ → ℕ
  more_passed l ms x = l.passed x + requests x ms

  abbrev pub opening : Ledger W → ℕ → Open W → List (Mail W) → Ledger W
  opening l b o ms = record { memory = l.memory; opens = changed l.opens b (just o); passed = changed (more_passed l ms) b (requests b ms - 1) }

  abbrev pub unchanged : Ledger W → List (Mail W) → Ledger W
  unchanged l ms = record { memory = l.memory; opens = l.opens; passed = more_passed l ms }

  abbrev pub after : Ledger W → Order W → Said W → List (Mail W) → Ledger W
  after l (call_load b p) opened ms = opening l b (op_load p) ms
  after l (call_load b p) quiet ms = unchanged l ms
  after l (call_load b p) moved ms = unchanged l ms
  after l (call_load b p) (answered w) ms = unchanged l ms
  after l (call_load b p) (finished a w h) ms = unchanged l ms
  after l (call_store b p f) opened ms = opening l b (op_store p f) ms
  after l (call_store b p f) quiet ms = unchanged l ms
  after l (call_store b p f) moved ms = unchanged l ms
  after l (call_store b p f) (answered w) ms = record { memory = changed l.memory p (f (l.memory p)); opens = l.opens; passed = more_passed l ms }
  after l (call_store b p f) (finished a w h) ms = unchanged l ms
  after l call_deliver (finished a w h) ms = record { memory = stored (l.opens a) l.memory; opens = changed l.opens a absent; passed = more_passed l ms }
  after l call_deliver quiet ms = unchanged l ms
  after l call_deliver moved ms = unchanged l ms
  after l call_deliver opened ms = unchanged l ms
  after l call_deliver (answered w) ms = unchanged l ms

  -- an event is right by the history before it
  abbrev pub RightEnd : ℕ → Ledger W → ℕ → Maybe W → ℕ → List (Mail W) → Type 0
  RightEnd n l a (just w) h ms = (p : ℕ) × (l.opens a ≡ just (op_load p)) × (w ≡ l.memory p) × (h ≡ l.passed a + requests a ms) × (h ≤ n - 2)
  RightEnd n l a absent h ms = (p : ℕ) × (f : W → W) × (l.opens a ≡ just (op_store p f)) × (h ≡ l.passed a + requests a ms) × (h ≤ n - 2)

  abbrev pub Good : ℕ → Ledger W → Order W → Said W → List (Mail W) → Type 0
  Good n l (call_load b p) (answered (just w)) ms = w ≡ l.memory p
  Good n l (call_load b p) (answered absent) ms = ⊥
  Good n l (call_load b p) opened ms = Unit {0}
  Good n l (call_load b p) quiet ms = ⊥
  Good n l (call_load b p) moved ms = ⊥
  Good n l (call_load b p) (finished a w h) ms = ⊥
  Good n l (call_store b p f) (answered absent) ms = Unit {0}
  Good n l (call_store b p f) (answered (just w)) ms = ⊥
  Good n l (call_store b p f) opened ms = Unit {0}
  Good n l (call_store b p f) quiet ms = ⊥
  Good n l (call_store b p f) moved ms = ⊥
  Good n l (call_store b p f) (finished a w h) ms = ⊥
  Good n l call_deliver (finished a w h) ms = RightEnd n l a w h ms
  Good n l call_deliver quiet ms = (x : ℕ) → l.opens x ≡ absent
  Good n l call_deliver moved ms = Unit {0}
  Good n l call_deliver opened ms = ⊥
  Good n l call_deliver (answered w) ms = ⊥

  abbrev pub first_ledger : (ℕ → W) → Ledger W
  first_ledger v = record { memory = v; opens = λ _. absent; passed = λ _. 0 }

  abbrev pub is_open : Maybe (Open W) → Bool
  is_open absent = false
  is_open (just o) = true

  abbrev pub opens_count : ℕ → Ledger W → ℕ
  opens_count n l = sum_to n (λ x. bit (is_open (l.opens x)))
