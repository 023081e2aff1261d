-- A request arrives: it joins those that wait, where an access is open, or is served.
use Rattle.std.proofs.Common.{◌≡◌, ℕ, Bool, true, [], ◌∷◌, refl, ap, inl, arith}
use Rattle.memory.specs.Functions.{changed}
use Rattle.wire.specs.Bags.{Bag}
use Rattle.memory.proofs.model.Board.{Kind, Req, Entry, Mail, request, serve_entry, serve_mail}
use Rattle.memory.proofs.model.Invariant.{Inv}
use Rattle.memory.proofs.model.Kit.{absent, just, Stage, closed, asked, clears, Post, Kit, replies, arrive, Seat, open_on, with_waiting}
use Rattle.memory.proofs.model.Told.{mail_of, is_it, stage_of, Told, Equality}
use Rattle.memory.proofs.model.Page.{home, asking, queued, Page, busy}
use Rattle.memory.proofs.model.Steps.{served, nothing, moves, joined, joins}
use Rattle.memory.proofs.model.Sums.{bit}
use Rattle.memory.proofs.kept.DeliverySteps.{Sim, replace, mails_after, Takes, arrives_is}
use Rattle.memory.proofs.kept.ServedTold.{changes_calm, serve_told}
use Rattle.memory.proofs.kept.Sets.{facts}

module _ {W : Type 0} (same : Mail W → Mail W → Bool) (law : Equality same) (n : ℕ) (k : Kit W) (pages : ℕ → Page W) (t : Told same k pages) (p : ℕ) (rest : Bag (Post W)) where
  arrive_busy : (u a h : ℕ) (d : Kind) (s : Seat W) (e : Entry W) (st : Stage) → (st ≡ closed → ⊥) → arrive n u s e (request d u a h) st ≡ replies (with_waiting s (record { asker = a; kind = d; hops = h })) e [] nothing
  arrive_busy u a h d s e closed ne = absurd (ne refl)
  arrive_busy u a h d s e (asked j) ne = refl
  arrive_busy u a h d s e (clears g) ne = refl

  pub join_sim : (a u h : ℕ) (d : Kind) → Takes k p (request d u a h) rest → (pages p).journey a ≡ asking d u h → busy ((pages p).journey u) ≡ true → Sim same n k pages p (request d u a h) rest
  join_sim a u h d e at b =
      let s = (k.board u).seat in
      let st = t.stages u p in
      let on : open_on s p ≡ closed → ⊥ = λ q. grind (arith, facts) in
      let here_is : p ≡ s.page = grind (arith, facts) in
      record {
        seat = with_waiting s (record { asker = a; kind = d; hops = h });
        entry = (k.board u).entry p;
        posts = [];
        answer = nothing;
        page = joined (pages p) a u d h;
        replied = arrive_busy u a h d s ((k.board u).entry p) (open_on s p) on;
        moved = moves (joins a u h d at b);
        same_page = refl;
        tale = refl;
        hops = λ x _. grind (arith, facts);
        calm = λ x _. refl;
        told = record {
          entries = λ x r. grind (arith, facts, t.entries x r);
          stages = λ x r. grind (arith, facts, t.stages x r);
          awaiting = λ x y. grind (arith, facts, t.awaiting x y);
          waitings = λ x r. grind (arith, facts, t.waitings x r);
          deferrals = λ x. grind (arith, facts, t.deferrals x);
          mails = mails_after same law n k pages t p rest (request d u a h) [] (joined (pages p) a u d h) e (replace same law (pages p).journey (changed (pages p).journey a (queued d u h)) a a (just (request d u a h)) absent (grind (arith, facts)) (grind (arith, facts)) (λ b y ne. grind (arith, facts)));
        };
      }

module _ {W : Type 0} (same : Mail W → Mail W → Bool) (law : Equality same) (n : ℕ) (v : W) (k : Kit W) (pages : ℕ → Page W) (t : Told same k pages) (p : ℕ) (i : Inv n v (pages p)) (rest : Bag (Post W)) where
  abbrev P : Page W
  P = pages p

  pub served_sim : (a u h : ℕ) (d : Kind) → Takes k p (request d u a h) rest → P.journey a ≡ asking d u h → P.journey u ≡ home → Sim same n k pages p (request d u a h) rest
  served_sim a u h d e at free =
      let r : Req = record { asker = a; kind = d; hops = h } in
      let s = serve_told same law n v P i.core u r P.waits free (inl at) (λ w b. grind (arith, facts, i.core.lists w b)) i.core.told in
      let q = s.0 in
      let c = s.3 in
      let old : mail_of a (P.journey a) a ≡ just (request d u a h) = grind (arith, facts) in
      record {
        seat = (k.board u).seat;
        entry = serve_entry u (P.entry u) r;
        posts = serve_mail u (P.entry u) r ∷ [];
        answer = nothing;
        page = q;
        replied = arrives_is t n p (request d u a h) closed (ap stage_of free);
        moved = moves (served a u h d at free s.1);
        same_page = refl;
        tale = refl;
        hops = λ x _. c.hops x;
        calm = changes_calm c;
        told = record {
          entries = λ x r. grind (arith, facts, t.entries x r, c.entry x);
          stages = λ x r. grind (arith, facts, t.stages x r, c.stage x);
          awaiting = λ x y. grind (arith, facts, t.awaiting x y, c.marks x y);
          waitings = λ x r. grind (arith, facts, t.waitings x r, ap (λ w. w x) s.2);
          deferrals = λ x. grind (arith, facts, t.deferrals x, c.deferral x);
          mails = mails_after same law n k pages t p rest (request d u a h) (serve_mail u (P.entry u) r ∷ []) q e (λ x. omega (arith, c.net x, ap (λ z. bit (is_it same x z)) old));
        };
      }
