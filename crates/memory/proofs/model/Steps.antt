-- What may happen to a page: each step as the tables and journeys before and after it, and what it answers.
use Rattle.std.specs.Prelude.{◌≡◌, ℕ, ◌+◌, ◌-◌, ◌<◌, ◌≤◌, true, false, ◌⊎◌, List, [], ◌∷◌, ◌++◌, ◌≢◌}
use Rattle.memory.specs.Functions.{changed}
use Rattle.memory.proofs.model.Board.{none, write, Kind, load, store, Req, pass_entry, copy_entry, grant_entry, got_copy, drop_entry, store_entry, got_grant}
use Rattle.memory.proofs.model.Page.{Mark, unmarked, sent, deferred, acked, Journey, home, asking, queued, copied, granted, clearing, Page, denies, awaits, busy, loading, At, marks}
use Rattle.memory.proofs.model.Sets.{has, put, Boards}

-- what a step answers
pub data Answer (W : Type 0) : Type 0 where
  nothing : Answer W
  read_at : ℕ → ℕ → W → Answer W
  written_at : ℕ → ℕ → (W → W) → Answer W

module _ {W : Type 0} where
  -- the words of a page after a step
  abbrev pub fed : W → Answer W → W
  fed v nothing = v
  fed v (read_at a h w) = v
  fed v (written_at a h f) = f v

  -- a load brings the memory's words; no access was passed on more than n - 2 times
  abbrev pub Right : ℕ → W → Answer W → Type 0
  Right n v nothing = Unit {0}
  Right n v (read_at a h w) = (w ≡ v) × (h ≤ n - 2)
  Right n v (written_at a h f) = h ≤ n - 2

  -- one board's journey alone is changed
  abbrev pub goes : Page W → ℕ → Journey W → Page W
  goes p a t = record { root = p.root; entry = p.entry; journey = changed p.journey a t; waits = p.waits }

  -- a request of a, at u with nothing open there, is served: a's journey and u's table change
  abbrev pub passed_on : Page W → ℕ → ℕ → Kind → ℕ → (ℕ → List Req) → Page W
  passed_on p u a k h ws = record {
    root = p.root;
    entry = changed p.entry u (pass_entry (p.entry u) a);
    journey = changed p.journey a (asking k (p.entry u).hint (h + 1));
    waits = ws;
  }

  abbrev pub copied_to : Page W → ℕ → ℕ → ℕ → (ℕ → List Req) → Page W
  copied_to p u a h ws = record {
    root = p.root;
    entry = changed p.entry u (copy_entry (p.entry u) a);
    journey = changed p.journey a (copied u h (p.entry u).words);
    waits = ws;
  }

  abbrev pub granted_to : Page W → ℕ → ℕ → ℕ → (ℕ → List Req) → Page W
  granted_to p u a h ws = record {
    root = a;
    entry = changed p.entry u (grant_entry (p.entry u) a);
    journey = changed p.journey a (granted u h (put (p.entry u).copies a false) (p.entry u).words);
    waits = ws;
  }

  pub data Serves (p : Page W) (u a : ℕ) (ws : ℕ → List Req) : Page W → Type 0 where
    passes : (k : Kind) (h : ℕ) → At (p.journey a) k u h → ((p.entry u).hint ≢ u) → Serves p u a ws (passed_on p u a k h ws)
    copies_it : (h : ℕ) → At (p.journey a) load u h → (p.entry u).hint ≡ u → Serves p u a ws (copied_to p u a h ws)
    grants : (h : ℕ) → At (p.journey a) store u h → (p.entry u).hint ≡ u → Serves p u a ws (granted_to p u a h ws)

  -- the waiting list of u, in order, from its first on
  pub data Serving (u : ℕ) : Page W → Page W → Type 0 where
    empty : {p : Page W} → p.waits u ≡ [] → Serving u p p
    one : {p q s : Page W} (r : Req) (rest : List Req) → p.waits u ≡ r ∷ rest → Serves p u r.asker (changed p.waits u rest) q → Serving u q s → Serving u p s

  -- a's table after a copy, a deferred invalidation's drop, a finished store, a grant
  abbrev pub copy_came : Page W → ℕ → ℕ → W → Page W
  copy_came p a s w = record {
    root = p.root;
    entry = changed p.entry a (got_copy (p.entry a) s w);
    journey = changed p.journey a home;
    waits = p.waits;
  }

  abbrev pub copy_dropped : Page W → ℕ → ℕ → W → ℕ → ℕ → (ℕ → Mark) → Page W
  copy_dropped p a s w c g m = record {
    root = p.root;
    entry = changed p.entry a (drop_entry (got_copy (p.entry a) s w));
    journey = changed (changed p.journey c (clearing g (changed m a acked))) a home;
    waits = p.waits;
  }

  -- board a owns the page, writes it and has nothing open
  abbrev pub stored_at : Page W → ℕ → W → Page W
  stored_at p a w = record {
    root = p.root;
    entry = changed p.entry a (store_entry a w);
    journey = changed p.journey a home;
    waits = p.waits;
  }

  abbrev pub grant_came : Page W → ℕ → ℕ → Boards → W → Page W
  grant_came p a h c w = record {
    root = p.root;
    entry = changed p.entry a (got_grant a c w);
    journey = changed p.journey a (clearing h (marks c));
    waits = p.waits;
  }

  abbrev pub dropped : Page W → ℕ → ℕ → ℕ → (ℕ → Mark) → Page W
  dropped p x c h m = record {
    root = p.root;
    entry = changed p.entry x (drop_entry (p.entry x));
    journey = changed p.journey c (clearing h (changed m x acked));
    waits = p.waits;
  }

  abbrev pub joined : Page W → ℕ → ℕ → Kind → ℕ → Page W
  joined p a u k h = record {
    root = p.root;
    entry = p.entry;
    journey = changed p.journey a (queued k u h);
    waits = changed p.waits u (p.waits u ++ record { asker = a; kind = k; hops = h } ∷ []);
  }

  -- calls: what is answered at once, and what opens
  pub data Call (n : ℕ) (p : Page W) : Page W → Type 0 where
    ask_load : (a : ℕ) → a < n → p.journey a ≡ home → (p.entry a).access ≡ none → Call n p (goes p a (asking load (p.entry a).hint 0))
    ask_store : (a : ℕ) → a < n → p.journey a ≡ home → ((p.entry a).hint ≢ a) → Call n p (goes p a (asking store (p.entry a).hint 0))
    clear : (a y : ℕ) → a < n → p.journey a ≡ home → (p.entry a).hint ≡ a → has (p.entry a).copies y ≡ true → Call n p (goes p a (clearing 0 (marks (p.entry a).copies)))

  -- a store answered at once, by f on the page's words
  abbrev pub MayStore : Page W → ℕ → Type 0
  MayStore p a = ((p.entry a).access ≡ write) ⊎ (((p.entry a).hint ≡ a) × (denies (p.entry a).access ≡ false) × ((y : ℕ) → has (p.entry a).copies y ≡ false))

  -- deliveries that finish nothing
  pub data Move (p : Page W) : Page W → Type 0 where
    joins : (a u h : ℕ) (k : Kind) → p.journey a ≡ asking k u h → busy (p.journey u) ≡ true → Move p (joined p a u k h)
    served : {q : Page W} (a u h : ℕ) (k : Kind) → p.journey a ≡ asking k u h → p.journey u ≡ home → Serves p u a p.waits q → Move p q
    grant_in : (a s h y : ℕ) (c : Boards) (w : W) → p.journey a ≡ granted s h c w → has c y ≡ true → Move p (grant_came p a h c w)
    defers : (c x h : ℕ) (m : ℕ → Mark) → p.journey c ≡ clearing h m → m x ≡ sent → loading (p.journey x) ≡ true → Move p (goes p c (clearing h (changed m x deferred)))
    drops : (c x h : ℕ) (m : ℕ → Mark) → p.journey c ≡ clearing h m → m x ≡ sent → loading (p.journey x) ≡ false → Move p (dropped p x c h m)
    acks : (c x y h : ℕ) (m : ℕ → Mark) → p.journey c ≡ clearing h m → m x ≡ acked → awaits (m y) ≡ true → (y ≢ x) → Move p (goes p c (clearing h (changed m x unmarked)))

  -- a load that finishes at a, with the words w and h hops; p with it done, the waiting list not yet served
  pub data Loaded (p : Page W) (a h : ℕ) (w : W) : Page W → Type 0 where
    copy_in : (s : ℕ) → p.journey a ≡ copied s h w → ((c g : ℕ) (m : ℕ → Mark) → p.journey c ≡ clearing g m → m a ≢ deferred) → Loaded p a h w (copy_came p a s w)
    copy_then_drop : (s c g : ℕ) (m : ℕ → Mark) → p.journey a ≡ copied s h w → p.journey c ≡ clearing g m → m a ≡ deferred → Loaded p a h w (copy_dropped p a s w c g m)

  -- a store that finishes at a, on the words w and with h hops
  pub data Stores (p : Page W) (a h : ℕ) (w : W) : Type 0 where
    grant_free : (s : ℕ) (c : Boards) → p.journey a ≡ granted s h c w → ((y : ℕ) → has c y ≡ false) → Stores p a h w
    last_ack : (x : ℕ) (m : ℕ → Mark) → p.journey a ≡ clearing h m → m x ≡ acked → ((y : ℕ) → (y ≢ x) → m y ≡ unmarked) → w ≡ (p.entry a).words → Stores p a h w

  pub data Delivery (p : Page W) : Answer W → Page W → Type 0 where
    moves : {q : Page W} → Move p q → Delivery p nothing q
    loads : {q s : Page W} (a h : ℕ) (w : W) → Loaded p a h w q → Serving a q s → Delivery p (read_at a h w) s
    stores : {s : Page W} (a h : ℕ) (w : W) (f : W → W) → Stores p a h w → Serving a (stored_at p a (f w)) s → Delivery p (written_at a h f) s

  pub data Step (n : ℕ) (p : Page W) : Answer W → Page W → Type 0 where
    opens : {q : Page W} → Call n p q → Step n p nothing q
    load_now : (a : ℕ) → p.journey a ≡ home → denies (p.entry a).access ≡ false → Step n p (read_at a 0 (p.entry a).words) p
    store_now : (a : ℕ) (f : W → W) → a < n → p.journey a ≡ home → MayStore p a → Step n p (written_at a 0 f) (stored_at p a (f (p.entry a).words))
    delivers : {d : Answer W} {q : Page W} → Delivery p d q → Step n p d q
