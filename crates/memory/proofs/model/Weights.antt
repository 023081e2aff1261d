-- How many deliveries an open access may still take: the weight of its journey.
use Rattle.std.specs.Prelude.{◌≡◌, ℕ, ◌+◌, ◌-◌, ◌*◌, ◌<◌, ◌≤◌, cond, ◌≢◌}
use Rattle.memory.proofs.model.Board.{is_load}
use Rattle.memory.proofs.model.Page.{Mark, unmarked, sent, deferred, acked, Journey, home, asking, queued, copied, granted, clearing, Page}
use Rattle.memory.proofs.model.Sets.{has}
use Rattle.memory.proofs.model.Sums.{sum_to, count}

abbrev pub mark_weight : Mark → ℕ
mark_weight unmarked = 0
mark_weight sent = 2
mark_weight deferred = 1
mark_weight acked = 1

module _ {W : Type 0} where
  abbrev pub weight : ℕ → Journey W → ℕ
  weight n home = 0
  weight n (asking k u h) = cond (is_load k) (n - h) (3 * n - 4 - h)
  weight n (queued k u h) = cond (is_load k) (n - h) (3 * n - 4 - h) - 1
  weight n (copied s h w) = 1
  weight n (granted s h c w) = 1 + 2 * count n (has c)
  weight n (clearing h m) = sum_to n (λ x. mark_weight (m x))

  -- no journey gets heavier
  abbrev pub NoneHeavier : ℕ → Page W → Page W → Type 0
  NoneHeavier n p q = (x : ℕ) → weight n (q.journey x) ≤ weight n (p.journey x)

  -- and one gets lighter
  pub record Falls (n : ℕ) (p q : Page W) : Type 0 where
    pub never : NoneHeavier n p q
    pub who : ℕ
    pub who_in : who < n
    pub lighter : weight n (q.journey who) < weight n (p.journey who)

  -- one journey is new, and the others weigh what they did
  pub record Opens (n : ℕ) (p q : Page W) : Type 0 where
    pub who : ℕ
    pub now : weight n (q.journey who) ≤ 3 * n - 4
    pub others : (x : ℕ) → (x ≢ who) → q.journey x ≡ p.journey x
