-- The tree of hints: following `next` from board to board, the trail of each request, and the four ways in which the hints change.
use Rattle.std.specs.Prelude.{◌≡◌, ℕ, ◌+◌, ◌<◌, ◌≤◌, Bool, true, false, ◌≢◌}
use Rattle.memory.specs.Functions.{changed}
use Rattle.memory.proofs.model.Sums.{count}

-- x reaches b by following f
pub data Reach (f : ℕ → ℕ) (b : ℕ) : ℕ → Type 0 where
  here : {x : ℕ} → x ≡ b → Reach f b x
  step : {x y : ℕ} → f x ≡ y → Reach f b y → Reach f b x

-- f with a's edge to u turned round, and a's own edge then leading to v
pub record Turned (f g : ℕ → ℕ) (a u v : ℕ) : Type 0 where
  pub was : f a ≡ u
  pub a_now : g a ≡ v
  pub u_now : g u ≡ a
  pub rest : (x : ℕ) → (x ≢ a) → (x ≢ u) → g x ≡ f x

pub record State : Type 0 where
  pub root : ℕ
  pub next : ℕ → ℕ
  pub asked : ℕ → Bool
  pub hops : ℕ → ℕ

-- the boards that a's request has been passed on by, h of them
pub record Trail (n : ℕ) (next : ℕ → ℕ) (a h : ℕ) : Type 0 where
  pub seen : ℕ → Bool
  pub many : count n seen ≡ h
  pub other : seen a ≡ false
  pub below : (x : ℕ) → seen x ≡ true → Reach next a x

pub record Asker (n : ℕ) (next : ℕ → ℕ) (a h : ℕ) : Type 0 where
  pub in_range : a < n
  pub trail : Trail n next a h
  pub bound : h + 2 ≤ n

pub record Inv (n : ℕ) (s : State) : Type 0 where
  pub root_in : s.root < n
  pub root_fix : s.next s.root ≡ s.root
  pub inside : (x : ℕ) → x < n → s.next x < n
  pub tree : (x : ℕ) → x < n → Reach s.next s.root x
  pub askers : (a : ℕ) → s.asked a ≡ true → Asker n s.next a (s.hops a)

abbrev pub opened : State → ℕ → State
opened s a = record { root = s.root; next = s.next; asked = changed s.asked a true; hops = changed s.hops a 0 }

abbrev pub passed_on : State → ℕ → ℕ → State
passed_on s a u = record { root = s.root; next = changed (changed s.next a (s.next u)) u a; asked = s.asked; hops = changed s.hops a (s.hops a + 1) }

abbrev pub granted : State → ℕ → State
granted s a = record { root = a; next = changed (changed s.next a a) s.root a; asked = s.asked; hops = s.hops }

abbrev pub closed : State → ℕ → State
closed s a = record { root = s.root; next = s.next; asked = changed s.asked a false; hops = changed s.hops a 0 }

abbrev pub first : State
first = record { root = 0; next = λ _. 0; asked = λ _. false; hops = λ _. 0 }
