-- Every message that waits is expected, and its delivery is a step of its page.
use Rattle.std.proofs.Common.{◌≡◌, ℕ, Bool, false, ◌⊎◌, refl, inl, inr, arith}
use Rattle.std.proofs.lemmas.Bool.{cases_Bool}
use Rattle.memory.specs.Functions.{changed}
use Rattle.wire.specs.Bags.{Bag}
use Rattle.memory.proofs.model.Board.{Kind, Mail, request, copy, grant, invalidate, acknowledge}
use Rattle.memory.proofs.model.Invariant.{Inv}
use Rattle.memory.proofs.model.Kit.{just, Post, Kit, none_below}
use Rattle.memory.proofs.model.Told.{mail_of, Told, Equality}
use Rattle.memory.proofs.model.Page.{Mark, unmarked, sent, deferred, acked, Journey, home, asking, queued, copied, granted, clearing, Page, busy, loading, mark}
use Rattle.memory.proofs.model.Sets.{has, Boards}
use Rattle.memory.proofs.kept.DeliverySteps.{Sim, Takes}
use Rattle.memory.proofs.kept.InvalidationsDelivered.{grant_sim, defer_sim, drop_sim, ack_sim}
use Rattle.memory.proofs.kept.LoadFinishes.{load_sim, load_drop_sim}
use Rattle.memory.proofs.kept.Messages.{taken_on_link}
use Rattle.memory.proofs.kept.RequestDelivered.{join_sim, served_sim}
use Rattle.memory.proofs.kept.Sets.{facts}
use Rattle.memory.proofs.kept.StoreFinishes.{grant_free_sim, last_ack_sim}

deferred_or : (m : Mark) → (m ≡ deferred) ⊎ (m ≡ deferred → ⊥)
deferred_or unmarked = inr (λ e. grind arith)
deferred_or sent = inr (λ e. grind arith)
deferred_or deferred = inl refl
deferred_or acked = inr (λ e. grind arith)

module _ {W : Type 0} (same : Mail W → Mail W → Bool) (law : Equality same) (n : ℕ) (v : W) (k : Kit W) (pages : ℕ → Page W) (t : Told same k pages) (p : ℕ) (i : Inv n v (pages p)) (rest : Bag (Post W)) where
  abbrev P : Page W
  P = pages p

  -- which journey a message belongs to
  pub request_is : (d : Kind) (u a h : ℕ) (g : Journey W) → mail_of a g a ≡ just (request d u a h) → g ≡ asking d u h
  request_is d u a h g e = grind (arith, facts)

  copy_is : (f a h : ℕ) (w : W) (g : Journey W) → mail_of a g a ≡ just (copy f a h w) → g ≡ copied f h w
  copy_is f a h w g e = grind (arith, facts)

  grant_is : (f a h : ℕ) (c : Boards) (w : W) (g : Journey W) → mail_of a g a ≡ just (grant f a h c w) → g ≡ granted f h c w
  grant_is f a h c w g e = grind (arith, facts)

  pub invalidate_is : (c x : ℕ) (g : Journey W) → mail_of c g x ≡ just (invalidate c x) → (h : ℕ) × (m : ℕ → Mark) × (g ≡ clearing h m) × (m x ≡ sent)
  invalidate_is c x (clearing h m) e = (h, m, refl, grind (arith, facts))
  invalidate_is c x home e = absurd (grind (arith, facts))
  invalidate_is c x (asking k u h) e = absurd (grind (arith, facts))
  invalidate_is c x (queued k u h) e = absurd (grind (arith, facts))
  invalidate_is c x (copied s h w) e = absurd (grind (arith, facts))
  invalidate_is c x (granted s h d w) e = absurd (grind (arith, facts))

  acknowledge_is : (c x : ℕ) (g : Journey W) → mail_of c g x ≡ just (acknowledge x c) → (h : ℕ) × (m : ℕ → Mark) × (g ≡ clearing h m) × (m x ≡ acked)
  acknowledge_is c x (clearing h m) e = (h, m, refl, grind (arith, facts))
  acknowledge_is c x home e = absurd (grind (arith, facts))
  acknowledge_is c x (asking k u h) e = absurd (grind (arith, facts))
  acknowledge_is c x (queued k u h) e = absurd (grind (arith, facts))
  acknowledge_is c x (copied s h w) e = absurd (grind (arith, facts))
  acknowledge_is c x (granted s h d w) e = absurd (grind (arith, facts))

  -- every message that waits is expected, and moves its page one step
  pub deliver_sim : (m : Mail W) → Takes k p m rest → Sim same n k pages p m rest
  deliver_sim (request d u a h) e =
      let at = request_is d u a h (P.journey a) (taken_on_link same law p (request d u a h) k.link rest P.journey e (t.mails p)) in
      elim (cases_Bool (busy (P.journey u))) [ inl b ↦ join_sim same law n k pages t p rest a u h d e at b | inr b ↦ served_sim same law n v k pages t p i rest a u h d e at (grind arith) ]
  deliver_sim (copy f a h w) e =
      let at = copy_is f a h w (P.journey a) (taken_on_link same law p (copy f a h w) k.link rest P.journey e (t.mails p)) in
      elim (deferred_or (mark P a)) [ inl b ↦ load_drop_sim same law n v k pages t p i rest a f h w e at b | inr b ↦ load_sim same law n v k pages t p i rest a f h w e at b ]
  deliver_sim (grant f a h c w) e =
      let at = grant_is f a h c w (P.journey a) (taken_on_link same law p (grant f a h c w) k.link rest P.journey e (t.mails p)) in
      elim (cases_Bool (none_below n (has c))) [ inl b ↦ grant_free_sim same law n v k pages t p i rest a f h c w e at b | inr b ↦ grant_sim same law n v k pages t p i rest a f h c w e at b ]
  deliver_sim (invalidate c x) e =
      let z = invalidate_is c x (P.journey c) (taken_on_link same law p (invalidate c x) k.link rest P.journey e (t.mails p)) in
      elim (cases_Bool (loading (P.journey x))) [ inl b ↦ defer_sim same law n v k pages t p i rest c x z.0 z.1 e z.2 z.3 b | inr b ↦ drop_sim same law n v k pages t p i rest c x z.0 z.1 e z.2 z.3 b ]
  deliver_sim (acknowledge x c) e =
      let z = acknowledge_is c x (P.journey c) (taken_on_link same law p (acknowledge x c) k.link rest P.journey e (t.mails p)) in
      elim (cases_Bool (none_below n (changed (k.board c).seat.awaited x false))) [ inl b ↦ last_ack_sim same law n v k pages t p i rest c x z.0 z.1 e z.2 z.3 b | inr b ↦ ack_sim same law n v k pages t p i rest c x z.0 z.1 e z.2 z.3 b ]
