-- An access finishes and its board serves those that wait: the kit is told by its pages again.
use Rattle.std.proofs.Common.{◌≡◌, ℕ, ◌+◌, Bool, true, false, List, [], ap, arith}
use Rattle.memory.specs.Functions.{changed}
use Rattle.wire.specs.Bags.{Bag}
use Rattle.memory.proofs.model.Board.{Entry, Mail}
use Rattle.memory.proofs.model.Kit.{absent, closed, Post, Kit, vacant, becomes}
use Rattle.memory.proofs.model.Told.{stage_of, deferral_of, on_link, Told, Equality}
use Rattle.memory.proofs.model.Page.{Page, awaits, busy, mark_of, mark}
use Rattle.memory.proofs.model.Sums.{bit}
use Rattle.memory.proofs.kept.DeliverySteps.{mails_after, Takes, here_is}
use Rattle.memory.proofs.kept.Messages.{listed}
use Rattle.memory.proofs.kept.ServedTold.{Changes}
use Rattle.memory.proofs.kept.Sets.{facts}

module _ {W : Type 0} (same : Mail W → Mail W → Bool) (law : Equality same) (n : ℕ) (k : Kit W) (pages : ℕ → Page W) (t : Told same k pages) (p : ℕ) (rest : Bag (Post W)) where
  abbrev P : Page W
  P = pages p

  -- what finishes at a: the page before its waiting list is served, and after
  pub finish_told : (a : ℕ) (m : Mail W) (one_page q : Page W) (ent : Entry W) (posts ms : List (Mail W)) → Takes k p m rest → busy (P.journey a) ≡ true
      → ((x : ℕ) → (x ≡ a → ⊥) → one_page.entry x ≡ P.entry x)
      → ((x : ℕ) → stage_of (one_page.journey x) ≡ changed (λ x. stage_of (P.journey x)) a closed x)
      → ((x y : ℕ) → awaits (mark_of (one_page.journey x) y) ≡ changed (λ x. awaits (mark_of (P.journey x) y)) a false x)
      → ((x : ℕ) → deferral_of (mark one_page x) one_page.root ≡ changed (λ x. deferral_of (mark P x) P.root) a absent x)
      → ((x : ℕ) → q.waits x ≡ changed P.waits a [] x)
      → Changes same one_page q a ent absent ms
      → ((x : Mail W) → bit (on_link same q.journey x) + bit (same x m) ≡ bit (on_link same P.journey x) + listed same x posts)
      → Told same (becomes k a p (vacant (k.board a).seat) ent posts rest) (changed pages p q)
  finish_told a m o1 q ent posts ms e is entry1 stage1 marks1 deferral1 waits c net =
      let here = here_is t p a is in
      record {
        entries = λ x r. grind (arith, facts, t.entries x r, c.entry x, entry1 x);
        stages = λ x r. grind (arith, facts, t.stages x r, c.stage x, stage1 x);
        awaiting = λ x y. grind (arith, facts, t.awaiting x y, ap awaits (c.marks x y), marks1 x y);
        waitings = λ x r. grind (arith, facts, t.waitings x r, waits x);
        deferrals = λ x. grind (arith, facts, t.deferrals x, c.deferral x, deferral1 x);
        mails = mails_after same law n k pages t p rest m posts q e net;
      }
