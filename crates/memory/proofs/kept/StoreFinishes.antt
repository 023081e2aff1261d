-- A store finishes: a grant arrives with no copies out, or the last acknowledgement does.
use Rattle.std.proofs.Common.{◌≡◌, ℕ, ◌<◌, Bool, true, false, cond, [], sym, refl, ap, ◌∙◌, inl, inr, arith}
use Rattle.std.proofs.lemmas.Bool.{cases_eq, cases_Bool}
use Rattle.memory.specs.Functions.{changed}
use Rattle.wire.specs.Bags.{Bag}
use Rattle.memory.proofs.model.Board.{store, Mail, grant, acknowledge, store_entry, got_grant, serve_entries, serve_mails}
use Rattle.memory.proofs.model.Invariant.{Holders, Inv}
use Rattle.memory.proofs.model.Kit.{absent, just, asked, clears, Post, Kit, refused, replies, none_below, invalidates, vacant, with_awaited, finish}
use Rattle.memory.proofs.model.Told.{mail_of, stage_of, deferral_of, Told, Equality}
use Rattle.memory.proofs.model.Page.{Mark, unmarked, acked, home, granted, clearing, Page, awaits, busy, far, rooted, mark}
use Rattle.memory.proofs.model.Sets.{has, Boards, nobody}
use Rattle.memory.proofs.model.Steps.{stored_at, Stores, grant_free, last_ack, nothing, written_at, stores}
use Rattle.memory.proofs.kept.Below.{none_anywhere, none_true}
use Rattle.memory.proofs.kept.CopySets.{granted_in}
use Rattle.memory.proofs.kept.DeliverySteps.{Sim, replace, Takes, arrives_is, here_is}
use Rattle.memory.proofs.kept.Finishing.{finish_told}
use Rattle.memory.proofs.kept.PageKept.{ready_core, stores_ready}
use Rattle.memory.proofs.kept.ServedTold.{changes_calm, serve_list_told, done_asks, done_hops}
use Rattle.memory.proofs.kept.Sets.{facts}
use Rattle.memory.proofs.kept.Sums.{changed_same}

module _ {W : Type 0} (same : Mail W → Mail W → Bool) (law : Equality same) (n : ℕ) (v : W) (k : Kit W) (pages : ℕ → Page W) (t : Told same k pages) (p : ℕ) (i : Inv n v (pages p)) (rest : Bag (Post W)) where
  abbrev P : Page W
  P = pages p

  abbrev o : Holders n P
  o = i.core.holders

  -- a grant that leaves nobody to clear
  pub grant_free_sim : (a f h : ℕ) (c : Boards) (w : W) → Takes k p (grant f a h c w) rest → P.journey a ≡ granted f h c w → none_below n (has c) ≡ true → Sim same n k pages p (grant f a h c w) rest
  grant_free_sim a f h c w e at nobody_in =
      let b = ap busy at in
      let here = here_is t p a b in
      let root = o.only a (ap rooted at) in
      let act = (k.board a).seat.act in
      let rs = (k.board a).seat.waiting in
      let held : (x : ℕ) → has c x ≡ true → x < n = λ x is. (granted_in i.core a f h c w at x is).0 in
      let no : (y : ℕ) → has c y ≡ false = none_anywhere n (has c) held nobody_in in
      let l : Stores P a h w = grant_free f c at no in
      let q1 = stored_at P a (act w) in
      let ws : q1.waits a ≡ rs = grind (arith, facts, t.waitings a p) in
      let s = serve_list_told same law n (act v) a rs q1 (ready_core i a h w act (stores_ready i a h w l)) (changed_same P.journey a home) ws in
      let q = s.0 in
      let d = s.3 in
      let eu : q1.entry a ≡ store_entry a (act w) = changed_same P.entry a (store_entry a (act w)) in
      record {
        seat = vacant (k.board a).seat;
        entry = serve_entries a (q1.entry a) rs;
        posts = serve_mails a (q1.entry a) rs;
        answer = written_at a h act;
        page = q;
        replied = arrives_is t n p (grant f a h c w) (asked store) (ap stage_of at) ∙ ap (λ z. cond z (finish a (k.board a).seat h w) (replies (with_awaited (k.board a).seat h (has c)) (got_grant a c w) (invalidates n a c) nothing)) nobody_in ∙ ap (λ z. replies (vacant (k.board a).seat) (serve_entries a z rs) (serve_mails a z rs) (written_at a h act)) (sym eu);
        moved = stores {s = q} a h w act l s.1;
        same_page = refl;
        tale = (refl, grind (arith, facts, t.stages a p), refl, ap far (sym at), done_asks {q = q} d (changed_same P.journey a home));
        hops = λ x on. done_hops P {q = q} d (changed_same P.journey a home) (λ y ne. grind (arith, facts)) x on;
        calm = λ x off. changes_calm {q = q} d x off;
        told = finish_told same law n k pages t p rest a (grant f a h c w) q1 q (serve_entries a (q1.entry a) rs) (serve_mails a (q1.entry a) rs) (serve_mails a (q1.entry a) rs) e b
            (λ x ne. grind (arith, facts))
            (λ x. grind (arith, facts))
            (λ x y. grind (arith, facts))
            (λ x. grind (arith, facts))
            s.2 d
            (λ x. omega (arith, d.net x, replace same law P.journey q1.journey a a (just (grant f a h c w)) absent (grind (arith, facts)) (grind (arith, facts)) (λ b y ne. grind (arith, facts)) x));
      }

  last_deferral : (a x h : ℕ) (m : ℕ → Mark) (w : W) → P.journey a ≡ clearing h m → a ≡ P.root → m x ≡ acked → ((y : ℕ) → (y ≡ x → ⊥) → m y ≡ unmarked) → (y : ℕ) → deferral_of (mark (stored_at P a w) y) P.root ≡ changed (λ z. deferral_of (mark P z) P.root) a absent y
  last_deferral a x h m w at r is others y = let z = others y in elim (cases_eq y x) [ inl q ↦ grind (arith, facts) | inr q ↦ grind (arith, facts) ]

  last_cells : (a x h : ℕ) (m : ℕ → Mark) → P.journey a ≡ clearing h m → ((y : ℕ) → (y ≡ x → ⊥) → m y ≡ unmarked) → (b y : ℕ) → (b ≡ a → y ≡ x → ⊥) → mail_of b (changed P.journey a home b) y ≡ mail_of b (P.journey b) y
  last_cells a x h m at others b y ne = elim (cases_eq b a) [
    | inl q ↦ let z = others y (λ s. ne q s) in grind (arith, facts)
    | inr q ↦ grind (arith, facts)
  ]

  -- the last acknowledgement
  pub last_ack_sim : (a x h : ℕ) (m : ℕ → Mark) → Takes k p (acknowledge x a) rest → P.journey a ≡ clearing h m → m x ≡ acked → none_below n (changed (k.board a).seat.awaited x false) ≡ true → Sim same n k pages p (acknowledge x a) rest
  last_ack_sim a x h m e at is nobody =
      let b = ap busy at in
      let here = here_is t p a b in
      let root = o.only a (ap rooted at) in
      let act = (k.board a).seat.act in
      let rs = (k.board a).seat.waiting in
      let w = (P.entry a).words in
      let ax = t.awaiting a x in
      let others : (y : ℕ) → (y ≡ x → ⊥) → m y ≡ unmarked = λ y ne. elim (cases_Bool (awaits (m y))) [
        | inl q ↦ let l : y < n = grind (arith, o.marked y) in let z = none_true n (changed (k.board a).seat.awaited x false) nobody y l in let u = t.awaiting a y in grind (arith, facts)
        | inr q ↦ grind arith
      ] in
      let l : Stores P a h w = last_ack x m at is others refl in
      let q1 = stored_at P a (act w) in
      let ws : q1.waits a ≡ rs = grind (arith, facts, t.waitings a p) in
      let s = serve_list_told same law n (act v) a rs q1 (ready_core i a h w act (stores_ready i a h w l)) (changed_same P.journey a home) ws in
      let q = s.0 in
      let d = s.3 in
      let eu : q1.entry a ≡ store_entry a (act w) = changed_same P.entry a (store_entry a (act w)) in
      let aw : (k.board a).seat.awaited x ≡ true = grind (arith, facts) in
      record {
        seat = vacant (k.board a).seat;
        entry = serve_entries a (q1.entry a) rs;
        posts = serve_mails a (q1.entry a) rs;
        answer = written_at a h act;
        page = q;
        replied = arrives_is t n p (acknowledge x a) (clears h) (ap stage_of at)
            ∙ ap (λ z. cond z (cond (none_below n (changed (k.board a).seat.awaited x false)) (finish a (k.board a).seat h w) (replies (with_awaited (k.board a).seat h (changed (k.board a).seat.awaited x false)) (P.entry a) [] nothing)) refused) aw
            ∙ ap (λ z. cond z (finish a (k.board a).seat h w) (replies (with_awaited (k.board a).seat h (changed (k.board a).seat.awaited x false)) (P.entry a) [] nothing)) nobody
            ∙ ap (λ z. replies (vacant (k.board a).seat) (serve_entries a z rs) (serve_mails a z rs) (written_at a h act)) (sym eu);
        moved = stores {s = q} a h w act l s.1;
        same_page = refl;
        tale = (refl, grind (arith, facts, t.stages a p), refl, ap far (sym at), done_asks {q = q} d (changed_same P.journey a home));
        hops = λ x on. done_hops P {q = q} d (changed_same P.journey a home) (λ y ne. grind (arith, facts)) x on;
        calm = λ x off. changes_calm {q = q} d x off;
        told = finish_told same law n k pages t p rest a (acknowledge x a) q1 q (serve_entries a (q1.entry a) rs) (serve_mails a (q1.entry a) rs) (serve_mails a (q1.entry a) rs) e b
            (λ x ne. grind (arith, facts))
            (λ x. grind (arith, facts))
            (λ x y. grind (arith, facts))
            (last_deferral a x h m (act w) at root is others)
            s.2 d
            (λ y. omega (arith, d.net y, replace same law P.journey q1.journey a x (just (acknowledge x a)) absent (grind (arith, facts)) (grind (arith, facts)) (last_cells a x h m at others) y));
      }
