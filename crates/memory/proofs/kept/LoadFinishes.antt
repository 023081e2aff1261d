-- A copy arrives and finishes a load; an invalidation that waited for it is then done.
use Rattle.std.proofs.Common.{◌≡◌, ℕ, Bool, ◌∷◌, sym, refl, ap, ◌∙◌, arith}
use Rattle.memory.specs.Functions.{changed}
use Rattle.wire.specs.Bags.{Bag}
use Rattle.memory.proofs.model.Board.{load, Mail, copy, acknowledge, got_copy, drop_entry, serve_entries, serve_mails}
use Rattle.memory.proofs.model.Invariant.{Holders, Inv}
use Rattle.memory.proofs.model.Kit.{absent, just, asked, Post, Kit, replies, vacant, finish_load}
use Rattle.memory.proofs.model.Told.{stage_of, deferral_of, Told, Equality}
use Rattle.memory.proofs.model.Page.{Mark, unmarked, sent, deferred, acked, home, copied, clearing, Page, busy, far, rooted, mark}
use Rattle.memory.proofs.model.Steps.{copy_came, copy_dropped, Loaded, copy_in, copy_then_drop, read_at, loads}
use Rattle.memory.proofs.kept.DeliverySteps.{Sim, replace, Takes, arrives_is, here_is}
use Rattle.memory.proofs.kept.Finishing.{finish_told}
use Rattle.memory.proofs.kept.PageKept.{loaded_core, in_clearing}
use Rattle.memory.proofs.kept.ServedTold.{changes_calm, serve_list_told, done_asks, done_hops}
use Rattle.memory.proofs.kept.Sets.{facts}
use Rattle.memory.proofs.kept.Sums.{changed_same}

not_deferred : (m : Mark) (r : ℕ) → (m ≡ deferred → ⊥) → deferral_of m r ≡ absent
not_deferred unmarked r ne = refl
not_deferred sent r ne = refl
not_deferred deferred r ne = absurd (ne refl)
not_deferred acked r ne = refl

module _ {W : Type 0} (same : Mail W → Mail W → Bool) (law : Equality same) (n : ℕ) (v : W) (k : Kit W) (pages : ℕ → Page W) (t : Told same k pages) (p : ℕ) (i : Inv n v (pages p)) (rest : Bag (Post W)) where
  abbrev P : Page W
  P = pages p

  abbrev o : Holders n P
  o = i.core.holders

  -- a copy, and no invalidation waits
  pub load_sim : (a f h : ℕ) (w : W) → Takes k p (copy f a h w) rest → P.journey a ≡ copied f h w → (mark P a ≡ deferred → ⊥) → Sim same n k pages p (copy f a h w) rest
  load_sim a f h w e at ne =
      let b = ap busy at in
      let here = here_is t p a b in
      let rs = (k.board a).seat.waiting in
      let calm : (c g : ℕ) (m : ℕ → Mark) → P.journey c ≡ clearing g m → m a ≡ deferred → ⊥ = λ c g m is d. let r = o.only c (ap rooted is) in ne (grind arith) in
      let l : Loaded P a h w (copy_came P a f w) = copy_in f at calm in
      let q1 = copy_came P a f w in
      let ws : q1.waits a ≡ rs = grind (arith, facts, t.waitings a p) in
      let s = serve_list_told same law n v a rs q1 (loaded_core i a h w l) (changed_same P.journey a home) ws in
      let q = s.0 in
      let c = s.3 in
      let eu : q1.entry a ≡ got_copy (P.entry a) f w = changed_same P.entry a (got_copy (P.entry a) f w) in
      let df : (k.board a).seat.deferral ≡ absent = let d = t.deferrals a in let z = not_deferred (mark P a) P.root ne in grind (arith, facts) in
      record {
        seat = vacant (k.board a).seat;
        entry = serve_entries a (q1.entry a) rs;
        posts = serve_mails a (q1.entry a) rs;
        answer = read_at a h w;
        page = q;
        replied = arrives_is t n p (copy f a h w) (asked load) (ap stage_of at) ∙ ap (finish_load a (k.board a).seat (got_copy (P.entry a) f w) h w) df ∙ ap (λ z. replies (vacant (k.board a).seat) (serve_entries a z rs) (serve_mails a z rs) (read_at a h w)) (sym eu);
        moved = loads {s = q} a h w l s.1;
        same_page = refl;
        tale = (refl, grind (arith, facts, t.stages a p), refl, ap far (sym at), done_asks {q = q} c (changed_same P.journey a home));
        hops = λ x on. done_hops P {q = q} c (changed_same P.journey a home) (λ y ne. grind (arith, facts)) x on;
        calm = λ x off. changes_calm {q = q} c x off;
        told = finish_told same law n k pages t p rest a (copy f a h w) q1 q (serve_entries a (q1.entry a) rs) (serve_mails a (q1.entry a) rs) (serve_mails a (q1.entry a) rs) e b
            (λ x ne. grind (arith, facts))
            (λ x. grind (arith, facts))
            (λ x y. grind (arith, facts))
            (λ x. let z = not_deferred (mark P a) P.root ne in grind (arith, facts))
            s.2 c
            (λ x. omega (arith, c.net x, replace same law P.journey q1.journey a a (just (copy f a h w)) absent (grind (arith, facts)) (grind (arith, facts)) (λ b y ne. grind (arith, facts)) x));
      }

  -- a copy, and then the invalidation that waited
  pub load_drop_sim : (a f h : ℕ) (w : W) → Takes k p (copy f a h w) rest → P.journey a ≡ copied f h w → mark P a ≡ deferred → Sim same n k pages p (copy f a h w) rest
  load_drop_sim a f h w e at is =
      let b = ap busy at in
      let here = here_is t p a b in
      let rs = (k.board a).seat.waiting in
      let z = in_clearing i (P.journey P.root) a is in
      let r = P.root in
      let g = z.0 in
      let m = z.1 in
      let at_r = z.2 in
      let m_is = z.3 in
      let l : Loaded P a h w (copy_dropped P a f w r g m) = copy_then_drop f r g m at at_r m_is in
      let q1 = copy_dropped P a f w r g m in
      let ws : q1.waits a ≡ rs = grind (arith, facts, t.waitings a p) in
      let s = serve_list_told same law n v a rs q1 (loaded_core i a h w l) (changed_same (changed P.journey r (clearing g (changed m a acked))) a home) ws in
      let q = s.0 in
      let c = s.3 in
      let eu : q1.entry a ≡ drop_entry (got_copy (P.entry a) f w) = changed_same P.entry a (drop_entry (got_copy (P.entry a) f w)) in
      let df : (k.board a).seat.deferral ≡ just r = let d = t.deferrals a in grind (arith, facts) in
      let mid = changed P.journey r (clearing g (changed m a acked)) in
      let apart : r ≡ a → ⊥ = λ q. grind arith in
      record {
        seat = vacant (k.board a).seat;
        entry = serve_entries a (q1.entry a) rs;
        posts = acknowledge a r ∷ serve_mails a (q1.entry a) rs;
        answer = read_at a h w;
        page = q;
        replied = arrives_is t n p (copy f a h w) (asked load) (ap stage_of at) ∙ ap (finish_load a (k.board a).seat (got_copy (P.entry a) f w) h w) df ∙ ap (λ z. replies (vacant (k.board a).seat) (serve_entries a z rs) (acknowledge a r ∷ serve_mails a z rs) (read_at a h w)) (sym eu);
        moved = loads {s = q} a h w l s.1;
        same_page = refl;
        tale = (refl, grind (arith, facts, t.stages a p), refl, ap far (sym at), omega (arith, done_asks {q = q} c (changed_same mid a home)));
        hops = λ x on. omega (arith, done_hops P {q = q} c (changed_same mid a home) (λ y ne. grind (arith, facts)) x on);
        calm = λ x off. omega (arith, changes_calm {q = q} c x off);
        told = finish_told same law n k pages t p rest a (copy f a h w) q1 q (serve_entries a (q1.entry a) rs) (acknowledge a r ∷ serve_mails a (q1.entry a) rs) (serve_mails a (q1.entry a) rs) e b
            (λ x ne. grind (arith, facts))
            (λ x. grind (arith, facts))
            (λ x y. grind (arith, facts))
            (λ x. grind (arith, facts))
            s.2 c
            (λ x. omega (
              arith,
              c.net x,
              replace same law P.journey mid r a absent (just (acknowledge a r)) (grind (arith, facts)) (grind (arith, facts)) (λ b y ne. grind (arith, facts)) x,
              replace same law mid q1.journey a a (just (copy f a h w)) absent (grind (arith, facts)) (grind (arith, facts)) (λ b y ne. grind (arith, facts)) x,
            ));
      }
