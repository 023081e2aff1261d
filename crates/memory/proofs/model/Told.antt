-- What it is for a kit to be told by its pages: tables, open accesses, waiting lists, deferrals and messages.
use Rattle.std.specs.Prelude.{◌≡◌, ℕ, Bool, true, false, cond, ◌&&◌, [], ◌==◌}
use Rattle.wire.specs.Bags.{Bag, total}
use Rattle.memory.proofs.model.Board.{load, store, Mail, request, copy, grant, invalidate, acknowledge}
use Rattle.memory.proofs.model.Page.{Mark, unmarked, sent, deferred, acked, Journey, home, asking, queued, copied, granted, clearing, Page, awaits, mark_of, mark}
use Rattle.memory.proofs.model.Sums.{bit}
use Rattle.memory.proofs.model.Kit.{Maybe, absent, just, Stage, closed, asked, clears, Post, Kit, open_on}

-- x is what stands there
abbrev pub is_it : {X : Type 0} → (X → X → Bool) → X → Maybe X → Bool
is_it same x absent = false
is_it same x (just y) = same x y

abbrev pub deferral_of : Mark → ℕ → Maybe ℕ
deferral_of unmarked r = absent
deferral_of sent r = absent
deferral_of deferred r = just r
deferral_of acked r = absent

module _ {W : Type 0} where
  -- whose journey a message belongs to, and its place there
  abbrev pub owner : Mail W → ℕ
  owner (request k t a h) = a
  owner (copy f t h w) = t
  owner (grant f t h c w) = t
  owner (invalidate f t) = f
  owner (acknowledge f t) = t

  abbrev pub slot : Mail W → ℕ
  slot (request k t a h) = a
  slot (copy f t h w) = t
  slot (grant f t h c w) = t
  slot (invalidate f t) = t
  slot (acknowledge f t) = f

  abbrev pub mark_mail : ℕ → ℕ → Mark → Maybe (Mail W)
  mark_mail a s unmarked = absent
  mark_mail a s sent = just (invalidate a s)
  mark_mail a s deferred = absent
  mark_mail a s acked = just (acknowledge s a)

  abbrev pub mail_of : ℕ → Journey W → ℕ → Maybe (Mail W)
  mail_of a home s = absent
  mail_of a (asking k t h) s = cond (s == a) (just (request k t a h)) absent
  mail_of a (queued k t h) s = absent
  mail_of a (copied f h w) s = cond (s == a) (just (copy f a h w)) absent
  mail_of a (granted f h c w) s = cond (s == a) (just (grant f a h c w)) absent
  mail_of a (clearing h m) s = mark_mail a s (m s)

  abbrev pub stage_of : Journey W → Stage
  stage_of home = closed
  stage_of (asking k t h) = asked k
  stage_of (queued k t h) = asked k
  stage_of (copied f h w) = asked load
  stage_of (granted f h c w) = asked store
  stage_of (clearing h m) = clears h

  -- the messages of a page, by owner and place
  abbrev pub on_link : (Mail W → Mail W → Bool) → (ℕ → Journey W) → Mail W → Bool
  on_link same j x = is_it same x (mail_of (owner x) (j (owner x)) (slot x))

  abbrev pub times : (Mail W → Mail W → Bool) → ℕ → Mail W → Bag (Post W) → ℕ
  times same p x b = total (λ m. bit (p == m.page && same x m.mail)) b

  -- a kit is told by its pages: tables, open accesses, waiting lists, deferrals and messages
  pub record Told (same : Mail W → Mail W → Bool) (k : Kit W) (pages : ℕ → Page W) : Type 0 where
    pub entries : (x p : ℕ) → (k.board x).entry p ≡ (pages p).entry x
    pub stages : (x p : ℕ) → stage_of ((pages p).journey x) ≡ open_on (k.board x).seat p
    pub awaiting : (x y : ℕ) → (k.board x).seat.awaited y ≡ awaits (mark_of ((pages (k.board x).seat.page).journey x) y)
    pub waitings : (x p : ℕ) → (pages p).waits x ≡ cond (p == (k.board x).seat.page) (k.board x).seat.waiting []
    pub deferrals : (x : ℕ) → (k.board x).seat.deferral ≡ deferral_of (mark (pages (k.board x).seat.page) x) (pages (k.board x).seat.page).root
    pub mails : (p : ℕ) (x : Mail W) → times same p x k.link ≡ bit (on_link same (pages p).journey x)

-- a test of messages that says when they are equal
pub record Equality {W : Type 0} (same : Mail W → Mail W → Bool) : Type 0 where
  pub is : (x y : Mail W) → same x y ≡ true → x ≡ y
  pub self : (x : Mail W) → same x x ≡ true
