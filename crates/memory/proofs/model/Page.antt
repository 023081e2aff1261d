-- One page: what each board's table says of it, and where each board's open access on it is.
use Rattle.std.specs.Prelude.{◌≡◌, ℕ, ◌+◌, Bool, true, false, cond, ◌⊎◌, List, [], ◌∷◌, ◌==◌}
use Rattle.memory.proofs.model.Board.{Access, none, read, write, Kind, is_load, Req, Entry}
use Rattle.memory.proofs.model.Sets.{has, Boards, nobody}
use Rattle.memory.proofs.model.Sums.{bit, all_below}
use Rattle.memory.proofs.model.Tree.{State}

pub data Mark : Type 0 where
  unmarked sent deferred acked : Mark

pub data Journey (W : Type 0) : Type 0 where
  home : Journey W
  asking : Kind → ℕ → ℕ → Journey W
  queued : Kind → ℕ → ℕ → Journey W
  copied : ℕ → ℕ → W → Journey W
  granted : ℕ → ℕ → Boards → W → Journey W
  clearing : ℕ → (ℕ → Mark) → Journey W

pub record Page (W : Type 0) : Type 0 where
  pub root : ℕ
  pub entry : ℕ → Entry W
  pub journey : ℕ → Journey W
  pub waits : ℕ → List Req

-- questions of one access, one mark, one journey
abbrev pub denies : Access → Bool
denies none = true
denies read = false
denies write = false

abbrev pub is_read : Access → Bool
is_read none = false
is_read read = true
is_read write = false

abbrev pub is_write : Access → Bool
is_write none = false
is_write read = false
is_write write = true

abbrev pub awaits : Mark → Bool
awaits unmarked = false
awaits sent = true
awaits deferred = true
awaits acked = true

-- a mark without a message on the link
abbrev pub quiet_mark : Mark → Bool
quiet_mark unmarked = true
quiet_mark sent = false
quiet_mark deferred = true
quiet_mark acked = false

abbrev pub hits : Mark → Bool
hits unmarked = false
hits sent = true
hits deferred = true
hits acked = false

module _ {W : Type 0} where
  abbrev pub busy : Journey W → Bool
  busy home = false
  busy (asking k u h) = true
  busy (queued k u h) = true
  busy (copied s h w) = true
  busy (granted s h c w) = true
  busy (clearing h m) = true

  abbrev pub place : Journey W → ℕ → ℕ → ℕ
  place home x t = t
  place (asking k u h) x t = u
  place (queued k u h) x t = u
  place (copied s h w) x t = s
  place (granted s h c w) x t = x
  place (clearing h m) x t = x

  abbrev pub far : Journey W → ℕ
  far home = 0
  far (asking k u h) = h
  far (queued k u h) = h
  far (copied s h w) = h
  far (granted s h c w) = h
  far (clearing h m) = h

  -- on its way to own the page, or owning it with an access open
  abbrev pub rooted : Journey W → Bool
  rooted home = false
  rooted (asking k u h) = false
  rooted (queued k u h) = false
  rooted (copied s h w) = false
  rooted (granted s h c w) = true
  rooted (clearing h m) = true

  abbrev pub is_clearing : Journey W → Bool
  is_clearing home = false
  is_clearing (asking k u h) = false
  is_clearing (queued k u h) = false
  is_clearing (copied s h w) = false
  is_clearing (granted s h c w) = false
  is_clearing (clearing h m) = true

  abbrev pub is_granted : Journey W → Bool
  is_granted home = false
  is_granted (asking k u h) = false
  is_granted (queued k u h) = false
  is_granted (copied s h w) = false
  is_granted (granted s h c w) = true
  is_granted (clearing h m) = false

  abbrev pub is_copied : Journey W → Bool
  is_copied home = false
  is_copied (asking k u h) = false
  is_copied (queued k u h) = false
  is_copied (copied s h w) = true
  is_copied (granted s h c w) = false
  is_copied (clearing h m) = false

  abbrev pub loading : Journey W → Bool
  loading home = false
  loading (asking k u h) = is_load k
  loading (queued k u h) = is_load k
  loading (copied s h w) = true
  loading (granted s h c w) = false
  loading (clearing h m) = false

  abbrev pub queued_at : ℕ → Journey W → Bool
  queued_at v home = false
  queued_at v (asking k u h) = false
  queued_at v (queued k u h) = u == v
  queued_at v (copied s h w) = false
  queued_at v (granted s h c w) = false
  queued_at v (clearing h m) = false

  abbrev pub is_queued : Journey W → Bool
  is_queued home = false
  is_queued (asking k u h) = false
  is_queued (queued k u h) = true
  is_queued (copied s h w) = false
  is_queued (granted s h c w) = false
  is_queued (clearing h m) = false

  abbrev pub mark_of : Journey W → ℕ → Mark
  mark_of home x = unmarked
  mark_of (asking k u h) x = unmarked
  mark_of (queued k u h) x = unmarked
  mark_of (copied s h w) x = unmarked
  mark_of (granted s h c w) x = unmarked
  mark_of (clearing h m) x = m x

  -- the boards that the ownership answers for: the copy set, on its way or at home, or who is yet to drop the page
  abbrev pub cover_of : Journey W → Boards → ℕ → Bool
  cover_of home c x = has c x
  cover_of (asking k u h) c x = has c x
  cover_of (queued k u h) c x = has c x
  cover_of (copied s h w) c x = has c x
  cover_of (granted s h d w) c x = has d x
  cover_of (clearing h m) c x = hits (m x)

  -- the words that a journey carries agree with v
  abbrev pub Carries : Journey W → W → Type 0
  Carries home v = Unit {0}
  Carries (asking k u h) v = Unit {0}
  Carries (queued k u h) v = Unit {0}
  Carries (copied s h w) v = w ≡ v
  Carries (granted s h c w) v = w ≡ v
  Carries (clearing h m) v = Unit {0}

  -- a journey with no message on the link
  abbrev pub silent : ℕ → Journey W → Bool
  silent n home = true
  silent n (asking k u h) = false
  silent n (queued k u h) = true
  silent n (copied s h w) = false
  silent n (granted s h c w) = false
  silent n (clearing h m) = all_below n (λ x. quiet_mark (m x))

  abbrev pub mark : Page W → ℕ → Mark
  mark p x = mark_of (p.journey p.root) x

  abbrev pub cover : Page W → ℕ → Bool
  cover p x = cover_of (p.journey p.root) (p.entry p.root).copies x

  -- who else may read the page, now or when its copy comes
  abbrev pub holder : Page W → ℕ → Bool
  holder p x = cond (is_copied (p.journey x)) true (cond (x == p.root) false (is_read (p.entry x).access))

  abbrev pub view : Page W → State
  view p = record {
    root = p.root;
    next = λ x. place (p.journey x) x (p.entry x).hint;
    asked = λ x. busy (p.journey x);
    hops = λ x. far (p.journey x);
  }

  -- the request of a board, of kind k, is at u, on its way or waiting there
  abbrev pub At : Journey W → Kind → ℕ → ℕ → Type 0
  At t k u h = (t ≡ asking k u h) ⊎ (t ≡ queued k u h)

  -- a page when a kit starts: board 0 owns it
  abbrev pub start : W → W → Page W
  start idle v = record { root = 0; entry = λ x. record { access = cond (x == 0) write none; hint = 0; copies = nobody; words = cond (x == 0) v idle }; journey = λ _. home; waits = λ _. [] }

-- how often a stands in a list
abbrev pub occ : ℕ → List Req → ℕ
occ a [] = 0
occ a (x ∷ xs) = bit (x.asker == a) + occ a xs

abbrev pub marks : Boards → ℕ → Mark
marks c x = cond (has c x) sent unmarked
