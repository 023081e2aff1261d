-- What it is for the delivery of a message to be a step of its page.
use Rattle.std.proofs.Common.{◌≡◌, ℕ, ◌+◌, Bool, true, false, List, ap, arith}
use Rattle.memory.specs.Functions.{changed}
use Rattle.wire.specs.Bags.{Bag, ◌&◌}
use Rattle.memory.proofs.model.Board.{Entry, Mail}
use Rattle.memory.proofs.model.Kit.{Maybe, absent, just, Stage, Seat, Post, Kit, replies, arrive, to, post_all, becomes, arrives, requests, op_load, op_store, op_of}
use Rattle.memory.proofs.model.Told.{stage_of, mail_of, is_it, on_link, times, Told, Equality}
use Rattle.memory.proofs.model.Page.{Journey, Page, busy, far}
use Rattle.memory.proofs.model.Steps.{Answer, nothing, read_at, written_at, Delivery}
use Rattle.memory.proofs.model.Sums.{bit}
use Rattle.memory.proofs.kept.Messages.{listed, cell_change, times_post}
use Rattle.memory.proofs.kept.Sets.{facts}

-- what a delivery tells of the open access of its board b, before and after, and of the hops
abbrev pub Tale : {W : Type 0} → Answer W → Seat W → Seat W → ℕ → ℕ → Page W → List (Mail W) → Type 0
Tale nothing s t b p g ms = op_of t ≡ op_of s
Tale (read_at a h w) s t b p g ms = (a ≡ b) × (op_of s ≡ just (op_load p)) × (op_of t ≡ absent) × (h ≡ far (g.journey a)) × (requests a ms ≡ 0)
Tale (written_at a h f) s t b p g ms = (a ≡ b) × (op_of s ≡ just (op_store p f)) × (op_of t ≡ absent) × (h ≡ far (g.journey a)) × (requests a ms ≡ 0)

-- p's message m is one of those that wait
abbrev pub Takes : {W : Type 0} → Kit W → ℕ → Mail W → Bag (Post W) → Type 0
Takes k p m rest = k.link ≡ record { page = p; mail = m } & rest

-- what a message does to a kit that its pages tell, as a step of its page
pub record Sim {W : Type 0} (same : Mail W → Mail W → Bool) (n : ℕ) (k : Kit W) (pages : ℕ → Page W) (p : ℕ) (m : Mail W) (rest : Bag (Post W)) : Type 0 where
  pub seat : Seat W
  pub entry : Entry W
  pub posts : List (Mail W)
  pub answer : Answer W
  pub page : Page W
  pub replied : arrives n k p m ≡ replies seat entry posts answer
  pub moved : Delivery (pages p) answer page
  pub same_page : seat.page ≡ (k.board (to m)).seat.page
  pub tale : Tale answer (k.board (to m)).seat seat (to m) p (pages p) posts
  pub hops : (x : ℕ) → busy (page.journey x) ≡ true → far (page.journey x) ≡ far ((pages p).journey x) + requests x posts
  pub calm : (x : ℕ) → busy (page.journey x) ≡ false → requests x posts ≡ 0
  pub told : Told same (becomes k (to m) p seat entry posts rest) (changed pages p page)

module _ {W : Type 0} (same : Mail W → Mail W → Bool) (law : Equality same) where
  pub replace : (j l : ℕ → Journey W) (o s : ℕ) (old new : Maybe (Mail W)) → mail_of o (j o) s ≡ old → mail_of o (l o) s ≡ new → ((a y : ℕ) → (a ≡ o → y ≡ s → ⊥) → mail_of a (l a) y ≡ mail_of a (j a) y) → (x : Mail W) → bit (on_link same l x) + bit (is_it same x old) ≡ bit (on_link same j x) + bit (is_it same x new)
  replace j l o s old new e d rest x = omega (arith, cell_change same law j l o s rest x, ap (λ c. bit (is_it same x c)) e, ap (λ c. bit (is_it same x c)) d)

module _ {W : Type 0} (same : Mail W → Mail W → Bool) (law : Equality same) (n : ℕ) (k : Kit W) (pages : ℕ → Page W) (t : Told same k pages) (p : ℕ) (rest : Bag (Post W)) where
  -- the messages after a delivery, from what its page's journeys say
  pub mails_after : (m : Mail W) (ms : List (Mail W)) (q : Page W) → Takes k p m rest → ((x : Mail W) → bit (on_link same q.journey x) + bit (same x m) ≡ bit (on_link same (pages p).journey x) + listed same x ms) → (r : ℕ) (x : Mail W) → times same r x (post_all p ms rest) ≡ bit (on_link same (changed pages p q r).journey x)
  mails_after m ms q e net r x =
      let a = times_post same law p r x ms rest in
      let b = ap (times same r x) e in
      let c = t.mails r x in
      let d = net x in
      grind (arith, facts)

module _ {W : Type 0} {same : Mail W → Mail W → Bool} {k : Kit W} {pages : ℕ → Page W} (t : Told same k pages) where
  -- what the board sees is what the page says
  pub arrives_is : (n p : ℕ) (m : Mail W) (st : Stage) → stage_of ((pages p).journey (to m)) ≡ st → arrives n k p m ≡ arrive n (to m) (k.board (to m)).seat ((pages p).entry (to m)) m st
  arrives_is n p m st e = let a = t.entries (to m) p in let b = t.stages (to m) p in cc

  -- a board has one access open at most: if its journey is on page p, it is on that page
  pub here_is : (p b : ℕ) → busy ((pages p).journey b) ≡ true → p ≡ (k.board b).seat.page
  here_is p b e = grind (arith, facts, t.stages b p)
