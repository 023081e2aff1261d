-- A board of a kit serves a request, or its whole waiting list, as its page does.
use Rattle.std.proofs.Common.{◌≡◌, ℕ, ◌+◌, Bool, true, false, List, [], ◌∷◌, refl, ap, ◌∙◌, inl, inr, arith}
use Rattle.std.proofs.lemmas.Bool.{cases_eq}
use Rattle.std.specs.List.{AllByRecursion as All}
use Rattle.memory.specs.Functions.{changed}
use Rattle.memory.proofs.model.Board.{Kind, load, store, Req, Entry, Mail, request, copy, grant, serve_entry, serve_mail, serve_entries, serve_mails}
use Rattle.memory.proofs.model.Invariant.{Core}
use Rattle.memory.proofs.model.Kit.{Maybe, absent, just, requests}
use Rattle.memory.proofs.model.Told.{mail_of, is_it, stage_of, deferral_of, on_link, Equality}
use Rattle.memory.proofs.model.Page.{Journey, home, asking, queued, copied, granted, Page, busy, far, queued_at, mark_of, mark, At, occ}
use Rattle.memory.proofs.model.Sets.{put}
use Rattle.memory.proofs.model.Steps.{passed_on, copied_to, granted_to, Serves, passes, copies_it, grants, Serving, empty, one}
use Rattle.memory.proofs.model.Sums.{bit}
use Rattle.memory.proofs.kept.DeliverySteps.{replace}
use Rattle.memory.proofs.kept.Messages.{listed}
use Rattle.memory.proofs.kept.Requests.{owner as owner_root}
use Rattle.memory.proofs.kept.ServedLists.{serves_one}
use Rattle.memory.proofs.kept.Sets.{facts}
use Rattle.memory.proofs.kept.Sums.{changed_same}
use Rattle.memory.proofs.kept.Waiting.{popped, others_told}

-- what serving at u changes: u's entry and the messages; the stages, the marks and the deferrals stay
pub record Changes {W : Type 0} (same : Mail W → Mail W → Bool) (p q : Page W) (u : ℕ) (e : Entry W) (old : Maybe (Mail W)) (ms : List (Mail W)) : Type 0 where
  pub entry : (x : ℕ) → q.entry x ≡ changed p.entry u e x
  pub stage : (x : ℕ) → stage_of (q.journey x) ≡ stage_of (p.journey x)
  pub marks : (x y : ℕ) → mark_of (q.journey x) y ≡ mark_of (p.journey x) y
  pub deferral : (x : ℕ) → deferral_of (mark q x) q.root ≡ deferral_of (mark p x) p.root
  pub hops : (x : ℕ) → far (q.journey x) ≡ far (p.journey x) + requests x ms
  pub net : (x : Mail W) → bit (on_link same q.journey x) + bit (is_it same x old) ≡ bit (on_link same p.journey x) + listed same x ms

pub changes_calm : {W : Type 0} {same : Mail W → Mail W → Bool} {p q : Page W} {u : ℕ} {e : Entry W} {old : Maybe (Mail W)} {ms : List (Mail W)} → Changes same p q u e old ms → (x : ℕ) → busy (q.journey x) ≡ false → requests x ms ≡ 0
changes_calm c x off = let z = c.hops x in grind arith

-- who has finished asks no more, and the others go on
pub done_asks : {W : Type 0} {same : Mail W → Mail W → Bool} {p q : Page W} {u : ℕ} {e : Entry W} {old : Maybe (Mail W)} {ms : List (Mail W)} → Changes same p q u e old ms → p.journey u ≡ home → requests u ms ≡ 0
done_asks {u = u} c home_is = let s = c.stage u in let h = c.hops u in grind arith

pub done_hops : {W : Type 0} {same : Mail W → Mail W → Bool} (g : Page W) {p q : Page W} {u : ℕ} {e : Entry W} {old : Maybe (Mail W)} {ms : List (Mail W)} → Changes same p q u e old ms → p.journey u ≡ home → ((y : ℕ) → (y ≡ u → ⊥) → far (p.journey y) ≡ far (g.journey y)) → (x : ℕ) → busy (q.journey x) ≡ true → far (q.journey x) ≡ far (g.journey x) + requests x ms
done_hops g {u = u} c home_is others x on =
    let ne : x ≡ u → ⊥ = λ s. let z = c.stage u in grind arith in
    omega (arith, c.hops x, others x ne)

module _ {W : Type 0} (same : Mail W → Mail W → Bool) (law : Equality same) (n : ℕ) (v : W) (p : Page W) (i : Core n v p) (u : ℕ) (r : Req) (ws : ℕ → List Req) (e : p.journey u ≡ home) (at : At (p.journey r.asker) r.kind u r.hops) (rest : (w b : ℕ) → occ b (ws w) ≡ bit (queued_at w (changed p.journey r.asker home b))) (stays : (w : ℕ) → All (λ (r : Req). p.journey r.asker ≡ queued r.kind w r.hops) (ws w)) where
  abbrev a : ℕ
  a = r.asker

  abbrev old : Maybe (Mail W)
  old = mail_of a (p.journey a) a

  -- the messages, where a's journey goes on with another
  one_net : (t : Journey W) (m : Mail W) → (d : Mail W) → d ≡ m → mail_of a t a ≡ just m → ((y : ℕ) → (y ≡ a → ⊥) → mail_of a t y ≡ absent) → (x : Mail W) → bit (on_link same (changed p.journey a t) x) + bit (is_it same x old) ≡ bit (on_link same p.journey x) + listed same x (d ∷ [])
  one_net t m d same_mail is none_else x =
      omega (
        arith,
        replace same law p.journey (changed p.journey a t) a a old (just m) refl (grind (arith, facts)) (λ b y ne. grind (arith, facts, none_else y)) x,
        ap (λ z. bit (same x z)) same_mail,
      )

  pub serve_told : (q : Page W) × Serves p u a ws q × (q.waits ≡ ws) × Changes same p q u (serve_entry u (p.entry u) r) old (serve_mail u (p.entry u) r ∷ [])
  serve_told = elim (cases_eq (p.entry u).hint u) [
    | inr ne ↦ (
      passed_on p u a r.kind r.hops ws,
      passes r.kind r.hops at ne,
      refl,
      record {
        entry = λ x. grind (arith, facts);
        stage = λ x. grind (arith, facts);
        marks = λ x y. grind (arith, facts);
        deferral = λ x. grind (arith, facts);
        hops = λ x. grind (arith, facts);
        net = one_net (asking r.kind (p.entry u).hint (r.hops + 1)) (request r.kind (p.entry u).hint a (r.hops + 1)) (serve_mail u (p.entry u) r) (grind (arith, facts)) (grind (arith, facts)) (λ y k. grind (arith, facts));
      },
    )
    | inl q ↦ by_kind r.kind refl q
  ]
    where
      by_kind : (d : Kind) → r.kind ≡ d → (p.entry u).hint ≡ u → (q : Page W) × Serves p u a ws q × (q.waits ≡ ws) × Changes same p q u (serve_entry u (p.entry u) r) old (serve_mail u (p.entry u) r ∷ [])
      by_kind load d q = (
        copied_to p u a r.hops ws,
        copies_it r.hops (rw d at at) q,
        refl,
        record {
          entry = λ x. grind (arith, facts);
          stage = λ x. grind (arith, facts);
          marks = λ x y. grind (arith, facts);
          deferral = λ x. grind (arith, facts);
          hops = λ x. grind (arith, facts);
          net = one_net (copied u r.hops (p.entry u).words) (copy u a r.hops (p.entry u).words) (serve_mail u (p.entry u) r) (grind (arith, facts)) (grind (arith, facts)) (λ y k. grind (arith, facts));
        },
      )
      by_kind store d q = let root = owner_root n v p i u a r.hops r.kind ws at e rest stays q in (
        granted_to p u a r.hops ws,
        grants r.hops (rw d at at) q,
        refl,
        record {
          entry = λ x. grind (arith, facts);
          stage = λ x. grind (arith, facts);
          marks = λ x y. grind (arith, facts);
          deferral = λ x. grind (arith, facts);
          hops = λ x. grind (arith, facts);
          net = one_net (granted u r.hops (put (p.entry u).copies a false) (p.entry u).words) (grant u a r.hops (put (p.entry u).copies a false) (p.entry u).words) (serve_mail u (p.entry u) r) (grind (arith, facts)) (grind (arith, facts)) (λ y k. grind (arith, facts));
        },
      )

-- a whole waiting list, as the board serves it
pub serve_list_told : {W : Type 0} (same : Mail W → Mail W → Bool) (law : Equality same) (n : ℕ) (v : W) (u : ℕ) (rs : List Req) (p : Page W) → Core n v p → p.journey u ≡ home → p.waits u ≡ rs → (q : Page W) × Serving u p q × ((x : ℕ) → q.waits x ≡ changed p.waits u [] x) × Changes same p q u (serve_entries u (p.entry u) rs) absent (serve_mails u (p.entry u) rs)
serve_list_told same law n v u [] p i e is = (
  p,
  empty is,
  λ x. grind (arith, facts),
  record {
    entry = λ x. grind (arith, facts);
    stage = λ x. refl;
    marks = λ x y. refl;
    deferral = λ x. refl;
    hops = λ x. omega arith;
    net = λ x. omega arith;
  },
)
serve_list_told same law n v u (r ∷ rs) p i e is =
    let ws = changed p.waits u rs in
    let at : p.journey r.asker ≡ queued r.kind u r.hops = (rw is at (i.told u)).0 in
    let one_of_lem = serve_told same law n v p i u r ws e (inr at) (popped i u r rs is) (others_told i u r rs is) in
    let q = one_of_lem.0 in
    let c = one_of_lem.3 in
    let s = serves_one i u r.asker ws e (popped i u r rs is) (others_told i u r rs is) one_of_lem.1 in
    let left : q.waits u ≡ rs = ap (λ w. w u) one_of_lem.2 ∙ changed_same p.waits u rs in
    let eu : q.entry u ≡ serve_entry u (p.entry u) r = c.entry u ∙ changed_same p.entry u (serve_entry u (p.entry u) r) in
    let all = serve_list_told same law n v u rs q s.core s.still left in
    let d = all.3 in
    let was_none : mail_of r.asker (p.journey r.asker) r.asker ≡ absent = ap (λ t. mail_of r.asker t r.asker) at in (
      all.0,
      one r rs is one_of_lem.1 all.1,
      λ x. grind (arith, facts, all.2 x, ap (λ w. w x) one_of_lem.2),
      record {
        entry = λ x. grind (arith, facts, d.entry x, c.entry x, ap (λ z. serve_entries u z rs) eu);
        stage = λ x. d.stage x ∙ c.stage x;
        marks = λ x y. d.marks x y ∙ c.marks x y;
        deferral = λ x. d.deferral x ∙ c.deferral x;
        hops = λ x. omega (arith, d.hops x, c.hops x, ap (λ z. requests x (serve_mails u z rs)) eu);
        net = λ x. omega (arith, d.net x, c.net x, ap (λ z. bit (is_it same x z)) was_none, ap (λ z. listed same x (serve_mails u z rs)) eu);
      },
    )
