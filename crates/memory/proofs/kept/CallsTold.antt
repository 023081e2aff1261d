-- After a call on a board with nothing open, the kit is told by its pages again.
use Rattle.std.proofs.Common.{◌≡◌, ℕ, ◌+◌, ◌<◌, Bool, true, false, List, [], ◌∷◌, ap, arith}
use Rattle.memory.specs.Functions.{changed}
use Rattle.memory.proofs.model.Board.{Kind, Mail, request, store_entry}
use Rattle.memory.proofs.model.Kit.{absent, just, closed, asked, clears, Kit, invalidates, post_all, becomes, opened_seat}
use Rattle.memory.proofs.model.Told.{slot, deferral_of, on_link, times, Told, Equality}
use Rattle.memory.proofs.model.Page.{deferred, home, asking, clearing, Page, busy, loading, mark, marks}
use Rattle.memory.proofs.model.Sets.{has}
use Rattle.memory.proofs.model.Steps.{goes, stored_at}
use Rattle.memory.proofs.model.Sums.{bit}
use Rattle.memory.proofs.kept.DeliverySteps.{replace}
use Rattle.memory.proofs.kept.Messages.{listed, times_post, invalidates_listed}
use Rattle.memory.proofs.kept.Sets.{facts}

module _ {W : Type 0} (same : Mail W → Mail W → Bool) (law : Equality same) (n : ℕ) (k : Kit W) (pages : ℕ → Page W) (t : Told same k pages) (b p : ℕ) (shut : (k.board b).seat.stage ≡ closed) (free : (r : ℕ) → busy ((pages r).journey b) ≡ false → (pages r).waits b ≡ []) (undeferred : mark (pages p) b ≡ deferred → loading ((pages p).journey b) ≡ true) where
  abbrev P : Page W
  P = pages p

  pub idle : (r : ℕ) → (pages r).journey b ≡ home
  idle r = let s = t.stages b r in grind (arith, facts)

  none_wait : (r : ℕ) → (pages r).waits b ≡ []
  none_wait r = free r (ap busy (idle r))

  not_awaited : deferral_of (mark P b) P.root ≡ absent
  not_awaited = let e = idle p in grind (arith, facts)

  posted : (ms : List (Mail W)) (q : Page W) → ((x : Mail W) → bit (on_link same q.journey x) ≡ bit (on_link same P.journey x) + listed same x ms) → (r : ℕ) (x : Mail W) → times same r x (post_all p ms k.link) ≡ bit (on_link same (changed pages p q r).journey x)
  posted ms q net r x = let a = times_post same law p r x ms k.link in let c = t.mails r x in let d = net x in grind (arith, facts)

  -- it asks
  pub ask_told : (d : Kind) (f : W → W) → Told same (becomes k b p (opened_seat p (asked d) f (λ _. false)) ((k.board b).entry p) (request d (P.entry b).hint b 0 ∷ []) k.link) (changed pages p (goes P b (asking d (P.entry b).hint 0)))
  ask_told d f =
      let e = idle p in
      let na = not_awaited in
      record {
        entries = λ x r. grind (arith, facts, t.entries x r);
        stages = λ x r. grind (arith, facts, t.stages x r, idle r);
        awaiting = λ x y. grind (arith, facts, t.awaiting x y);
        waitings = λ x r. grind (arith, facts, t.waitings x r, none_wait r);
        deferrals = λ x. grind (arith, facts, t.deferrals x);
        mails = posted (request d (P.entry b).hint b 0 ∷ []) (goes P b (asking d (P.entry b).hint 0))
            (λ x. omega (arith, replace same law P.journey (changed P.journey b (asking d (P.entry b).hint 0)) b b absent (just (request d (P.entry b).hint b 0)) (grind (arith, facts)) (grind (arith, facts)) (λ c y ne. grind (arith, facts)) x));
      }

  -- it owns the page and clears the copies of it
  pub clear_told : (f : W → W) → ((y : ℕ) → has (P.entry b).copies y ≡ true → y < n) → Told same (becomes k b p (opened_seat p (clears 0) f (has (P.entry b).copies)) ((k.board b).entry p) (invalidates n b (P.entry b).copies) k.link) (changed pages p (goes P b (clearing 0 (marks (P.entry b).copies))))
  clear_told f inside =
      let e = idle p in
      let na = not_awaited in
      let c = (P.entry b).copies in
      record {
        entries = λ x r. grind (arith, facts, t.entries x r);
        stages = λ x r. grind (arith, facts, t.stages x r, idle r);
        awaiting = λ x y. grind (arith, facts, t.awaiting x y);
        waitings = λ x r. grind (arith, facts, t.waitings x r, none_wait r);
        deferrals = λ x. grind (arith, facts, t.deferrals x);
        mails = posted (invalidates n b c) (goes P b (clearing 0 (marks c)))
            (λ x. let z = invalidates_listed same law n b c x in let i = inside (slot x) in grind (arith, facts));
      }

  -- it stores at once
  pub now_told : (w : W) → Told same (becomes k b p (k.board b).seat (store_entry b w) [] k.link) (changed pages p (stored_at P b w))
  now_told w =
      let e = idle p in
      let na = not_awaited in
      record {
        entries = λ x r. grind (arith, facts, t.entries x r);
        stages = λ x r. grind (arith, facts, t.stages x r, idle r);
        awaiting = λ x y. grind (arith, facts, t.awaiting x y);
        waitings = λ x r. grind (arith, facts, t.waitings x r, none_wait r);
        deferrals = λ x. grind (arith, facts, t.deferrals x);
        mails = posted [] (stored_at P b w) (λ x. grind (arith, facts));
      }
