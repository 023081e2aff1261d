-- The invalidations of a store: a grant with copies out sends them, each waits at a board that loads or is done, and acknowledgements but the last are counted.
use Rattle.std.proofs.Common.{◌≡◌, ℕ, ◌<◌, Bool, true, false, [], ◌∷◌, refl, ap, ◌∙◌, arith}
use Rattle.memory.specs.Functions.{changed}
use Rattle.wire.specs.Bags.{Bag}
use Rattle.memory.proofs.model.Board.{store, Mail, grant, invalidate, acknowledge, drop_entry, got_grant}
use Rattle.memory.proofs.model.Invariant.{Holders, Inv}
use Rattle.memory.proofs.model.Kit.{absent, just, asked, clears, Post, Kit, none_below, invalidates, with_deferral, with_awaited, asked_load}
use Rattle.memory.proofs.model.Told.{slot, stage_of, Told, Equality}
use Rattle.memory.proofs.model.Page.{Mark, unmarked, sent, deferred, acked, granted, clearing, Page, awaits, rooted, loading}
use Rattle.memory.proofs.model.Sets.{has, Boards}
use Rattle.memory.proofs.model.Steps.{goes, grant_came, dropped, grant_in, defers, drops, acks, nothing, moves}
use Rattle.memory.proofs.kept.Below.{none_false}
use Rattle.memory.proofs.kept.CopySets.{granted_in}
use Rattle.memory.proofs.kept.DeliverySteps.{Sim, replace, mails_after, Takes, arrives_is, here_is}
use Rattle.memory.proofs.kept.Messages.{invalidates_ask, not_owner, not_slot, invalidates_listed}
use Rattle.memory.proofs.kept.Sets.{facts}

module _ {W : Type 0} (same : Mail W → Mail W → Bool) (law : Equality same) (n : ℕ) (v : W) (k : Kit W) (pages : ℕ → Page W) (t : Told same k pages) (p : ℕ) (i : Inv n v (pages p)) (rest : Bag (Post W)) where
  abbrev P : Page W
  P = pages p

  abbrev o : Holders n P
  o = i.core.holders

  -- a grant, with copies out
  pub grant_sim : (a f h : ℕ) (c : Boards) (w : W) → Takes k p (grant f a h c w) rest → P.journey a ≡ granted f h c w → none_below n (has c) ≡ false → Sim same n k pages p (grant f a h c w) rest
  grant_sim a f h c w e at more =
      let root = o.only a (ap rooted at) in
      let here = here_is t p a (grind arith) in
      let y = none_false n (has c) more in
      let held : (x : ℕ) → has c x ≡ true → x < n = λ x is. (granted_in i.core a f h c w at x is).0 in
      record {
        seat = with_awaited (k.board a).seat h (has c);
        entry = got_grant a c w;
        posts = invalidates n a c;
        answer = nothing;
        page = grant_came P a h c w;
        replied = arrives_is t n p (grant f a h c w) (asked store) (ap stage_of at) ∙ grind (arith, facts);
        moved = moves (grant_in a f h y.0 c w at y.2);
        same_page = refl;
        tale = grind (arith, facts, t.stages a p);
        hops = λ x _. let z = invalidates_ask n a x c (invalidates {W = W} n a c) refl in grind (arith, facts);
        calm = λ x _. invalidates_ask n a x c (invalidates n a c) refl;
        told = record {
          entries = λ y r. grind (arith, facts, t.entries y r);
          stages = λ y r. grind (arith, facts, t.stages y r);
          awaiting = λ y z. grind (arith, facts, t.awaiting y z);
          waitings = λ y r. grind (arith, facts, t.waitings y r);
          deferrals = λ y. grind (arith, facts, t.deferrals y);
          mails = mails_after same law n k pages t p rest (grant f a h c w) (invalidates n a c) (grant_came P a h c w) e
              (λ x. let z = invalidates_listed same law n a c x in let b = held (slot x) in let g = not_owner same law x (grant f a h c w) in let s = not_slot same law x (grant f a h c w) in grind (arith, facts));
        };
      }

  -- an invalidation from c for x
  pub defer_sim : (c x h : ℕ) (m : ℕ → Mark) → Takes k p (invalidate c x) rest → P.journey c ≡ clearing h m → m x ≡ sent → loading (P.journey x) ≡ true → Sim same n k pages p (invalidate c x) rest
  defer_sim c x h m e at is open_load =
      let root = o.only c (ap rooted at) in
      let here = here_is t p x (grind arith) in
      let st : asked_load (stage_of (P.journey x)) ≡ true = grind arith in
      record {
        seat = with_deferral (k.board x).seat c;
        entry = P.entry x;
        posts = [];
        answer = nothing;
        page = goes P c (clearing h (changed m x deferred));
        replied = arrives_is t n p (invalidate c x) (stage_of (P.journey x)) refl ∙ grind (arith, facts);
        moved = moves (defers c x h m at is open_load);
        same_page = refl;
        tale = refl;
        hops = λ x _. grind (arith, facts);
        calm = λ x _. refl;
        told = record {
          entries = λ y r. grind (arith, facts, t.entries y r);
          stages = λ y r. grind (arith, facts, t.stages y r);
          awaiting = λ y z. grind (arith, facts, t.awaiting y z);
          waitings = λ y r. grind (arith, facts, t.waitings y r);
          deferrals = λ y. grind (arith, facts, t.deferrals y);
          mails = mails_after same law n k pages t p rest (invalidate c x) [] (goes P c (clearing h (changed m x deferred))) e
              (replace same law P.journey (changed P.journey c (clearing h (changed m x deferred))) c x (just (invalidate c x)) absent (grind (arith, facts)) (grind (arith, facts)) (λ b y ne. grind (arith, facts)));
        };
      }

  pub drop_sim : (c x h : ℕ) (m : ℕ → Mark) → Takes k p (invalidate c x) rest → P.journey c ≡ clearing h m → m x ≡ sent → loading (P.journey x) ≡ false → Sim same n k pages p (invalidate c x) rest
  drop_sim c x h m e at is other =
      let root = o.only c (ap rooted at) in
      let st : asked_load (stage_of (P.journey x)) ≡ false = grind arith in
      record {
        seat = (k.board x).seat;
        entry = drop_entry (P.entry x);
        posts = acknowledge x c ∷ [];
        answer = nothing;
        page = dropped P x c h m;
        replied = arrives_is t n p (invalidate c x) (stage_of (P.journey x)) refl ∙ grind (arith, facts);
        moved = moves (drops c x h m at is other);
        same_page = refl;
        tale = refl;
        hops = λ x _. grind (arith, facts);
        calm = λ x _. refl;
        told = record {
          entries = λ y r. grind (arith, facts, t.entries y r);
          stages = λ y r. grind (arith, facts, t.stages y r);
          awaiting = λ y z. grind (arith, facts, t.awaiting y z);
          waitings = λ y r. grind (arith, facts, t.waitings y r);
          deferrals = λ y. grind (arith, facts, t.deferrals y);
          mails = mails_after same law n k pages t p rest (invalidate c x) (acknowledge x c ∷ []) (dropped P x c h m) e
              (λ z. omega (arith, replace same law P.journey (changed P.journey c (clearing h (changed m x acked))) c x (just (invalidate c x)) (just (acknowledge x c)) (grind (arith, facts)) (grind (arith, facts)) (λ b y ne. grind (arith, facts)) z));
        };
      }

  pub ack_sim : (c x h : ℕ) (m : ℕ → Mark) → Takes k p (acknowledge x c) rest → P.journey c ≡ clearing h m → m x ≡ acked → none_below n (changed (k.board c).seat.awaited x false) ≡ false → Sim same n k pages p (acknowledge x c) rest
  ack_sim c x h m e at is more =
      let root = o.only c (ap rooted at) in
      let here = here_is t p c (grind arith) in
      let w = none_false n (changed (k.board c).seat.awaited x false) more in
      let y = w.0 in
      let y_in = w.2 in
      let aw = t.awaiting c y in
      let ax = t.awaiting c x in
      let ne : y ≡ x → ⊥ = λ q. grind (arith, facts) in
      let my : awaits (m y) ≡ true = grind (arith, facts) in
      record {
        seat = with_awaited (k.board c).seat h (changed (k.board c).seat.awaited x false);
        entry = P.entry c;
        posts = [];
        answer = nothing;
        page = goes P c (clearing h (changed m x unmarked));
        replied = arrives_is t n p (acknowledge x c) (clears h) (ap stage_of at) ∙ grind (arith, facts);
        moved = moves (acks c x y h m at is my ne);
        same_page = refl;
        tale = grind (arith, facts, t.stages c p);
        hops = λ x _. grind (arith, facts);
        calm = λ x _. refl;
        told = record {
          entries = λ y r. grind (arith, facts, t.entries y r);
          stages = λ y r. grind (arith, facts, t.stages y r);
          awaiting = λ y z. grind (arith, facts, t.awaiting y z);
          waitings = λ y r. grind (arith, facts, t.waitings y r);
          deferrals = λ y. grind (arith, facts, t.deferrals y);
          mails = mails_after same law n k pages t p rest (acknowledge x c) [] (goes P c (clearing h (changed m x unmarked))) e
              (replace same law P.journey (changed P.journey c (clearing h (changed m x unmarked))) c x (just (acknowledge x c)) absent (grind (arith, facts)) (grind (arith, facts)) (λ b y ne. grind (arith, facts)));
        };
      }
