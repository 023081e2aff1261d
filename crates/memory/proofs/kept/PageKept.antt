-- Every step of a page keeps what is kept of the page, and answers rightly.
use Rattle.std.proofs.Common.{◌≡◌, ℕ, ◌-◌, ◌<◌, ◌≤◌, true, false, ◌⊎◌, [], refl, ap, inl, inr, arith}
use Rattle.memory.proofs.model.Board.{load, store}
use Rattle.memory.proofs.model.Invariant.{Holders, Tables, Data, Core, Inv}
use Rattle.memory.proofs.model.Page.{Mark, deferred, Journey, home, asking, queued, copied, granted, clearing, Page, denies, is_write, busy, rooted, mark_of, holder}
use Rattle.memory.proofs.model.Steps.{stored_at, MayStore, Serving, empty, Call, ask_load, ask_store, clear, Move, joins, served, grant_in, defers, drops, acks, Loaded, copy_in, copy_then_drop, Stores, grant_free, last_ack, Answer, moves, loads, stores, Step, opens, load_now, store_now, delivers, fed, Right}
use Rattle.memory.proofs.kept.Invalidations.{defer_core, drop_core, ack_core}
use Rattle.memory.proofs.kept.PageAccesses.{ask_core, clear_core, stored_core}
use Rattle.memory.proofs.kept.Replies.{copy_core, copy_drop_core, grant_core}
use Rattle.memory.proofs.kept.Requests.{joined_core}
use Rattle.memory.proofs.kept.Roots.{no_access, no_owner, own}
use Rattle.memory.proofs.kept.ServedLists.{serves_one, serves_all}
use Rattle.memory.proofs.kept.Sets.{facts}

module _ {W : Type 0} {n : ℕ} {v : W} {p : Page W} (i : Inv n v p) where
  abbrev free : (u : ℕ) → busy (p.journey u) ≡ false → p.waits u ≡ []
  free = i.free

  abbrev core : Core n v p
  core = i.core

  abbrev o : Holders n p
  o = i.core.holders

  abbrev t : Tables n p
  t = i.core.tables

  abbrev d : Data v p
  d = i.core.words

  call_kept : {q : Page W} → Call n p q → Inv n v q
  call_kept (ask_load a l e is) = record { core = ask_core n v p core load a l e (no_access n v p core a e is) (λ _. is); free = λ u idle. grind (arith, facts, free u) }
  call_kept (ask_store a l e is) = record { core = ask_core n v p core store a l e (no_owner n v p core a e is) (λ e. grind arith); free = λ u idle. grind (arith, facts, free u) }
  call_kept (clear a y l e q c) = record { core = clear_core n v p core a y l e q c; free = λ u idle. grind (arith, facts, free u) }

  move_kept : {q : Page W} → Move p q → Inv n v q
  move_kept (joins a u h k e is) = record { core = joined_core n v p core a u h k e; free = λ x idle. grind (arith, facts, free x) }
  move_kept (served {q} a u h k e is this) =
      let s = serves_one core u a p.waits is (λ w b. grind (arith, facts, core.lists w b)) core.told this in
      record { core = s.core; free = λ x idle. grind (arith, facts, free x, s.others x, s.gone, ap (λ ws. ws x) s.lists) }
  move_kept (grant_in a s h y c w e is) = record { core = grant_core n v p core a s h y c w e is; free = λ u idle. grind (arith, facts, free u) }
  move_kept (defers c x h m e is k) = record { core = defer_core n v p core c x h m e is k; free = λ u idle. grind (arith, facts, free u) }
  move_kept (drops c x h m e is k) = record { core = drop_core n v p core c x h m e is k; free = λ u idle. grind (arith, facts, free u) }
  move_kept (acks c x y h m e is k ne) = record { core = ack_core n v p core c x y h m e is k ne; free = λ u idle. grind (arith, facts, free u) }

  -- who is marked deferred is so in some journey
  pub in_clearing : (t : Journey W) (x : ℕ) → mark_of t x ≡ deferred → (g : ℕ) × (m : ℕ → Mark) × (t ≡ clearing g m) × (m x ≡ deferred)
  in_clearing home x e = absurd (grind arith)
  in_clearing (asking k u h) x e = absurd (grind arith)
  in_clearing (queued k u h) x e = absurd (grind arith)
  in_clearing (copied s h w) x e = absurd (grind arith)
  in_clearing (granted s h c w) x e = absurd (grind arith)
  in_clearing (clearing g m) x e = (g, m, refl, e)

  pub loaded_core : (a h : ℕ) (w : W) {q : Page W} → Loaded p a h w q → Core n v q
  loaded_core a h w (copy_in s e ne) = copy_core n v p core a s h w e (λ k. let z = in_clearing (p.journey p.root) a k in ne p.root z.0 z.1 z.2 z.3)
  loaded_core a h w (copy_then_drop s c g m e k is) = copy_drop_core n v p core a s h c g m w e k is

  loaded_kept : (a h : ℕ) (w : W) {q s : Page W} → Loaded p a h w q → Serving a q s → Inv n v s
  loaded_kept a h w (copy_in s e ne) more = serves_all a (loaded_core a h w (copy_in s e ne)) (grind (arith, facts)) (λ x ne idle. grind (arith, facts, free x)) more
  loaded_kept a h w (copy_then_drop s c g m e k is) more = serves_all a (loaded_core a h w (copy_then_drop s c g m e k is)) (grind (arith, facts)) (λ x ne idle. grind (arith, facts, free x)) more

  loaded_right : (a h : ℕ) (w : W) {q : Page W} → Loaded p a h w q → (w ≡ v) × (h ≤ n - 2)
  loaded_right a h w (copy_in s e ne) = let b = (core.ways.askers a (ap busy e)).bound in (grind (arith, d.carried a), grind (arith, facts))
  loaded_right a h w (copy_then_drop s c g m e k is) = let b = (core.ways.askers a (ap busy e)).bound in (grind (arith, d.carried a), grind (arith, facts))

  -- who finishes a store is the root, with the memory's words, and nobody else holds the page
  pub record Ready (a h : ℕ) (w : W) : Type 0 where
    pub is_root : a ≡ p.root
    pub open_so : (p.journey a ≡ home) ⊎ (rooted (p.journey a) ≡ true)
    pub nobody : (x : ℕ) → holder p x ≡ false
    pub words : w ≡ v
    pub bound : h ≤ n - 2

  pub stores_ready : (a h : ℕ) (w : W) → Stores p a h w → Ready a h w
  stores_ready a h w (grant_free s c e is) =
      let r = o.only a (ap rooted e) in
      let b = (core.ways.askers a (ap busy e)).bound in
      record { is_root = r; open_so = inr (ap rooted e); nobody = λ x. grind (arith, facts, o.exact x, is x); words = grind (arith, d.carried a); bound = grind arith }
  stores_ready a h w (last_ack x m e is none_else same) =
      let r = o.only a (ap rooted e) in
      let b = (core.ways.askers a (ap busy e)).bound in
      record { is_root = r; open_so = inr (ap rooted e); nobody = λ y. grind (arith, facts, o.exact y, none_else y); words = grind (arith, d.table a, t.owner); bound = grind arith }

  now_ready : (a : ℕ) → a < n → p.journey a ≡ home → MayStore p a → Ready a 0 (p.entry a).words
  now_ready a l e (inl is) = let k = t.writer a (ap is_write is) in record { is_root = k.0; open_so = inl e; nobody = λ x. grind (arith, facts, o.exact x, t.alone a x); words = d.table a (ap denies is); bound = omega arith }
  now_ready a l e (inr (q, is, c)) = let k = own n v p core a l e q in record { is_root = k; open_so = inl e; nobody = λ x. grind (arith, facts, o.exact x, c x); words = d.table a is; bound = omega arith }

  pub ready_core : (a h : ℕ) (w : W) (f : W → W) → Ready a h w → Core n (f v) (stored_at p a (f w))
  ready_core a h w f k = stored_core n v p core a f w k.is_root k.open_so k.nobody k.words

  stored_inv : (a h : ℕ) (w : W) (f : W → W) {s : Page W} → Ready a h w → Serving a (stored_at p a (f w)) s → Inv n (f v) s
  stored_inv a h w f k more = serves_all a (ready_core a h w f k) (grind (arith, facts)) (λ x ne idle. grind (arith, facts, free x)) more

  stored_now : (a : ℕ) (f : W → W) → p.journey a ≡ home → Ready a 0 (p.entry a).words → Inv n (f v) (stored_at p a (f (p.entry a).words))
  stored_now a f e k = stored_inv a 0 (p.entry a).words f k (empty (free a (ap busy e)))

  -- what is kept and what is answered, step by step
  pub step_kept : {q : Page W} {d : Answer W} → Step n p d q → Inv n (fed v d) q × Right n v d
  step_kept (opens c) = (call_kept c, tt)
  step_kept (load_now a e is) = (i, (d.table a is, omega arith))
  step_kept (store_now a f l e may) = let k = now_ready a l e may in (stored_now a f e k, k.bound)
  step_kept (delivers (moves m)) = (move_kept m, tt)
  step_kept (delivers (loads a h w l more)) = (loaded_kept a h w l more, loaded_right a h w l)
  step_kept (delivers (stores a h w f k more)) = let r = stores_ready a h w k in (stored_inv a h w f r more, r.bound)
