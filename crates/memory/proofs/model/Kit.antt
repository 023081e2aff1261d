-- A kit of boards over a bag of messages, and what a board does with a message.
use Rattle.std.specs.Prelude.{ℕ, zero, suc, ◌+◌, Bool, true, false, cond, List, [], ◌∷◌, ◌++◌, ◌==◌}
use Rattle.memory.specs.Functions.{changed}
use Rattle.wire.specs.Bags.{Bag, ◌&◌}
use Rattle.memory.proofs.model.Board.{Kind, load, store, is_load, Req, Entry, Mail, request, copy, grant, invalidate, acknowledge, got_copy, drop_entry, store_entry, got_grant, serve_entry, serve_mail, serve_entries, serve_mails}
use Rattle.memory.proofs.model.Sets.{has, Boards}
use Rattle.memory.proofs.model.Steps.{Answer, nothing, read_at, written_at}
use Rattle.memory.proofs.model.Sums.{bit}

pub data Maybe (X : Type 0) : Type 0 where
  absent : Maybe X
  just : X → Maybe X

pub data Stage : Type 0 where
  closed : Stage
  asked : Kind → Stage
  clears : ℕ → Stage

pub record Seat (W : Type 0) : Type 0 where
  pub page : ℕ
  pub stage : Stage
  pub act : W → W
  pub awaited : ℕ → Bool
  pub waiting : List Req
  pub deferral : Maybe ℕ

pub record Board (W : Type 0) : Type 0 where
  pub seat : Seat W
  pub entry : ℕ → Entry W

pub record Post (W : Type 0) : Type 0 where
  pub page : ℕ
  pub mail : Mail W

pub record Kit (W : Type 0) : Type 0 where
  pub board : ℕ → Board W
  pub link : Bag (Post W)

pub data Reply (W : Type 0) : Type 0 where
  refused : Reply W
  replies : Seat W → Entry W → List (Mail W) → Answer W → Reply W

abbrev pub none_below : ℕ → (ℕ → Bool) → Bool
none_below zero c = true
none_below (suc n) c = cond (c n) false (none_below n c)

abbrev pub asked_load : Stage → Bool
asked_load closed = false
asked_load (asked k) = is_load k
asked_load (clears h) = false

module _ {W : Type 0} where
  -- to each member of c below n, in rising order
  abbrev pub invalidates : ℕ → ℕ → Boards → List (Mail W)
  invalidates zero b c = []
  invalidates (suc n) b c = invalidates n b c ++ cond (has c n) (invalidate b n ∷ []) []

  abbrev pub open_on : Seat W → ℕ → Stage
  open_on s p = cond (p == s.page) s.stage closed

  abbrev pub vacant : Seat W → Seat W
  vacant s = record { page = s.page; stage = closed; act = s.act; awaited = λ _. false; waiting = []; deferral = absent }

  abbrev pub with_waiting : Seat W → Req → Seat W
  with_waiting s r = record { page = s.page; stage = s.stage; act = s.act; awaited = s.awaited; waiting = s.waiting ++ r ∷ []; deferral = s.deferral }

  abbrev pub with_deferral : Seat W → ℕ → Seat W
  with_deferral s c = record { page = s.page; stage = s.stage; act = s.act; awaited = s.awaited; waiting = s.waiting; deferral = just c }

  abbrev pub with_awaited : Seat W → ℕ → (ℕ → Bool) → Seat W
  with_awaited s h c = record { page = s.page; stage = clears h; act = s.act; awaited = c; waiting = s.waiting; deferral = s.deferral }

  -- a store that finishes
  abbrev pub finish : ℕ → Seat W → ℕ → W → Reply W
  finish b s h w =
      let e = store_entry b (s.act w) in
      replies (vacant s) (serve_entries b e s.waiting) (serve_mails b e s.waiting) (written_at b h s.act)

  abbrev pub finish_load : ℕ → Seat W → Entry W → ℕ → W → Maybe ℕ → Reply W
  finish_load b s e h w absent = replies (vacant s) (serve_entries b e s.waiting) (serve_mails b e s.waiting) (read_at b h w)
  finish_load b s e h w (just c) = replies (vacant s) (serve_entries b (drop_entry e) s.waiting) (acknowledge b c ∷ serve_mails b (drop_entry e) s.waiting) (read_at b h w)

  -- board b, with n boards in all: what a message on page p does, by its kind and the stage together
  abbrev pub arrive : ℕ → ℕ → Seat W → Entry W → Mail W → Stage → Reply W
  arrive n b s e (request k t a h) closed = let r : Req = record { asker = a; kind = k; hops = h } in replies s (serve_entry b e r) (serve_mail b e r ∷ []) nothing
  arrive n b s e (request k t a h) (asked j) = replies (with_waiting s (record { asker = a; kind = k; hops = h })) e [] nothing
  arrive n b s e (request k t a h) (clears g) = replies (with_waiting s (record { asker = a; kind = k; hops = h })) e [] nothing
  arrive n b s e (copy f t h w) closed = refused
  arrive n b s e (copy f t h w) (asked load) = finish_load b s (got_copy e f w) h w s.deferral
  arrive n b s e (copy f t h w) (asked store) = refused
  arrive n b s e (copy f t h w) (clears g) = refused
  arrive n b s e (grant f t h c w) closed = refused
  arrive n b s e (grant f t h c w) (asked load) = refused
  arrive n b s e (grant f t h c w) (asked store) = cond (none_below n (has c)) (finish b s h w) (replies (with_awaited s h (has c)) (got_grant b c w) (invalidates n b c) nothing)
  arrive n b s e (grant f t h c w) (clears g) = refused
  arrive n b s e (invalidate f t) st = cond (asked_load st) (replies (with_deferral s f) e [] nothing) (replies s (drop_entry e) (acknowledge b f ∷ []) nothing)
  arrive n b s e (acknowledge f t) closed = refused
  arrive n b s e (acknowledge f t) (asked k) = refused
  arrive n b s e (acknowledge f t) (clears h) =
      cond (s.awaited f)
      (cond (none_below n (changed s.awaited f false)) (finish b s h e.words) (replies (with_awaited s h (changed s.awaited f false)) e [] nothing))
      refused

  abbrev pub to : Mail W → ℕ
  to (request k t a h) = t
  to (copy f t h w) = t
  to (grant f t h c w) = t
  to (invalidate f t) = t
  to (acknowledge f t) = t

  -- board b's seat and entry of page p change, and messages go out
  abbrev pub post_all : ℕ → List (Mail W) → Bag (Post W) → Bag (Post W)
  post_all p [] l = l
  post_all p (m ∷ ms) l = post_all p ms (record { page = p; mail = m } & l)

  abbrev pub becomes : Kit W → ℕ → ℕ → Seat W → Entry W → List (Mail W) → Bag (Post W) → Kit W
  becomes k b p s e ms rest = record {
    board = changed k.board b (record { seat = s; entry = changed (k.board b).entry p e });
    link = post_all p ms rest;
  }

  -- what arrives at board b of a kit
  abbrev pub arrives : ℕ → Kit W → ℕ → Mail W → Reply W
  arrives n k p m = let b = k.board (to m) in arrive n (to m) b.seat (b.entry p) m (open_on b.seat p)

  -- board b opens an access on page p
  abbrev pub opened_seat : ℕ → Stage → (W → W) → (ℕ → Bool) → Seat W
  opened_seat p st f c = record { page = p; stage = st; act = f; awaited = c; waiting = []; deferral = absent }

  -- how many of these are requests of x
  abbrev pub asks_of : ℕ → Mail W → ℕ
  asks_of x (request k t a h) = bit (a == x)
  asks_of x (copy f t h w) = 0
  asks_of x (grant f t h c w) = 0
  asks_of x (invalidate f t) = 0
  asks_of x (acknowledge f t) = 0

  abbrev pub requests : ℕ → List (Mail W) → ℕ
  requests x [] = 0
  requests x (m ∷ ms) = asks_of x m + requests x ms

-- an open access, as its call gave it
pub data Open (W : Type 0) : Type 0 where
  op_load : ℕ → Open W
  op_store : ℕ → (W → W) → Open W

module _ {W : Type 0} where
  abbrev pub op_by : Stage → ℕ → (W → W) → Maybe (Open W)
  op_by closed p f = absent
  op_by (asked load) p f = just (op_load p)
  op_by (asked store) p f = just (op_store p f)
  op_by (clears h) p f = just (op_store p f)

  abbrev pub op_of : Seat W → Maybe (Open W)
  op_of s = op_by s.stage s.page s.act
