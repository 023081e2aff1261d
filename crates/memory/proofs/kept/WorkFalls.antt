-- Each delivery takes from the work that is left on its page, and an access that opens adds no more than its bound.
use Rattle.std.proofs.Common.{◌≡◌, ℕ, zero, suc, ◌+◌, ◌*◌, ◌<◌, ◌≤◌, true, false, List, refl, ap, arith}
use Rattle.std.proofs.lemmas.Bool.{cases_Bool}
use Rattle.std.specs.List.{AllByRecursion as All}
use Rattle.memory.specs.Functions.{changed}
use Rattle.memory.proofs.model.Board.{Kind, load, store, Req}
use Rattle.memory.proofs.model.Invariant.{Holders, Core, Inv}
use Rattle.memory.proofs.model.Page.{Mark, unmarked, deferred, acked, home, asking, queued, clearing, Page, awaits, busy, far, rooted, queued_at, At, occ, marks}
use Rattle.memory.proofs.model.Sets.{has, put, Boards}
use Rattle.memory.proofs.model.Steps.{copy_came, copy_dropped, stored_at, Serves, passes, copies_it, grants, Serving, empty, one, Call, ask_load, ask_store, clear, Move, joins, served, grant_in, defers, drops, acks, Loaded, copy_in, copy_then_drop, Stores, grant_free, last_ack, Answer, Delivery, moves, loads, stores}
use Rattle.memory.proofs.model.Sums.{bit, sum_to, count}
use Rattle.memory.proofs.model.Weights.{mark_weight, weight, NoneHeavier, Falls, Opens}
use Rattle.memory.proofs.kept.CopySets.{copies_in}
use Rattle.memory.proofs.kept.PageKept.{loaded_core, ready_core, stores_ready}
use Rattle.memory.proofs.kept.Requests.{asker_in, owner}
use Rattle.memory.proofs.kept.Roots.{no_access, own}
use Rattle.memory.proofs.kept.ServedLists.{serves_one}
use Rattle.memory.proofs.kept.Sets.{facts}
use Rattle.memory.proofs.kept.Sums.{count_room_one, changed_same, changed_other, sum_one, count_room}
use Rattle.memory.proofs.kept.Waiting.{popped, others_told}

-- one mark changed
mark_weight_one : (n x : ℕ) (m : ℕ → Mark) (t : Mark) → x < n → sum_to n (λ y. mark_weight (changed m x t y)) + mark_weight (m x) ≡ sum_to n (λ y. mark_weight (m y)) + mark_weight t
mark_weight_one n x m t l = omega (arith, sum_one n x (λ y. mark_weight (m y)) (λ y. mark_weight (changed m x t y)) l (λ y ne. ap mark_weight (changed_other m x t y ne)), ap mark_weight (changed_same m x t))

mark_weight_marks : (n : ℕ) (c : Boards) → sum_to n (λ y. mark_weight (marks c y)) ≡ 2 * count n (has c)
mark_weight_marks zero c = refl
mark_weight_marks (suc n) c = grind (arith, mark_weight_marks n c, cases_Bool (has c n))

module _ {W : Type 0} where
  -- a request of a, served: no journey gets heavier, and where it was on its way a's gets lighter
  module _ {n : ℕ} {v : W} {p : Page W} (i : Core n v p) (u a : ℕ) (ws : ℕ → List Req) (e : p.journey u ≡ home) (rest : (w b : ℕ) → occ b (ws w) ≡ bit (queued_at w (changed p.journey a home b))) (stays : (w : ℕ) → All (λ (r : Req). p.journey r.asker ≡ queued r.kind w r.hops) (ws w)) where
    bound : (k : Kind) (h : ℕ) → At (p.journey a) k u h → h + 2 ≤ n
    bound k h at = let b : busy (p.journey a) ≡ true = grind arith in let f : far (p.journey a) ≡ h = grind arith in omega (arith, (i.ways.askers a b).bound)

    room : (h : ℕ) → At (p.journey a) store u h → (p.entry u).hint ≡ u → count n (has (put (p.entry u).copies a false)) + 2 ≤ n
    room h at q =
        let r = owner n v p i u a h store ws at e rest stays q in
        let in_a = asker_in n v p i u a h store ws at e rest stays in
        let o = i.holders in
        let lacks : has (p.entry u).copies u ≡ false = grind (arith, facts, o.exact u) in
        count_room n u a (has (put (p.entry u).copies a false)) (omega (arith, i.ways.root_in)) in_a (λ s. grind arith) (grind (arith, facts)) (grind (arith, facts))

    serves_light : {q : Page W} → Serves p u a ws q → NoneHeavier n p q
    serves_light (passes k h at ne) = let b = bound k h at in λ x. grind (arith, facts)
    serves_light (copies_it h at q) = let b = bound load h at in λ x. grind (arith, facts)
    serves_light (grants h at q) = let b = bound store h at in let c = room h at q in λ x. grind (arith, facts)

    serves_less : {q : Page W} (k : Kind) (h : ℕ) → p.journey a ≡ asking k u h → Serves p u a ws q → weight n (q.journey a) < weight n (p.journey a)
    serves_less k h is (passes l g at ne) = let b = bound l g at in grind (arith, facts)
    serves_less k h is (copies_it g at q) = let b = bound load g at in grind (arith, facts)
    serves_less k h is (grants g at q) = let b = bound store g at in let c = room g at q in grind (arith, facts)

  serving_light : {n : ℕ} {v : W} (u : ℕ) {p s : Page W} → Core n v p → p.journey u ≡ home → Serving u p s → NoneHeavier n p s
  serving_light u i e (empty _) = λ x. omega arith
  serving_light {n} {v} u {p} i e (one {q = q} {s = s} r rest is this more) =
      let k = serves_one i u r.asker (changed p.waits u rest) e (popped i u r rest is) (others_told i u r rest is) this in
      let l = serves_light i u r.asker (changed p.waits u rest) e (popped i u r rest is) (others_told i u r rest is) this in
      let m = serving_light u k.core k.still more in
      λ x. omega (arith, l x, m x)

  module _ {n : ℕ} {v : W} {p : Page W} (i : Inv n v p) where
    abbrev o : Holders n p
    o = i.core.holders

    in_range : (a : ℕ) → busy (p.journey a) ≡ true → a < n
    in_range a e = (i.core.ways.askers a e).in_range

    marked_in : (c x h : ℕ) (m : ℕ → Mark) → p.journey c ≡ clearing h m → awaits (m x) ≡ true → x < n
    marked_in c x h m e is = let r = o.only c (ap rooted e) in grind (arith, o.marked x)

    -- one mark of a clearing board gets lighter
    mark_falls : (c x h : ℕ) (m : ℕ → Mark) (t : Mark) (q : Page W) → p.journey c ≡ clearing h m → awaits (m x) ≡ true → mark_weight t < mark_weight (m x) → ((y : ℕ) → q.journey y ≡ changed p.journey c (clearing h (changed m x t)) y) → Falls n p q
    mark_falls c x h m t q e is less q_is =
        let w = mark_weight_one n x m t (marked_in c x h m e is) in
        record { never = λ y. grind (arith, facts, q_is y); who = c; who_in = in_range c (ap busy e); lighter = grind (arith, facts, q_is c) }

    move_falls : {q : Page W} → Move p q → Falls n p q
    move_falls (joins a u h k e is) =
        let b = (i.core.ways.askers a (ap busy e)).bound in
        record { never = λ x. grind (arith, facts); who = a; who_in = in_range a (ap busy e); lighter = grind (arith, facts) }
    move_falls (served {q} a u h k e is this) =
        let rest : (w b : ℕ) → occ b (p.waits w) ≡ bit (queued_at w (changed p.journey a home b)) = λ w b. grind (arith, facts, i.core.lists w b) in
        record {
          never = serves_light i.core u a p.waits is rest i.core.told this;
          who = a;
          who_in = in_range a (ap busy e);
          lighter = serves_less i.core u a p.waits is rest i.core.told k h e this;
        }
    move_falls (grant_in a s h y c w e is) = let k = mark_weight_marks n c in record { never = λ x. grind (arith, facts); who = a; who_in = in_range a (ap busy e); lighter = grind (arith, facts) }
    move_falls (defers c x h m e is k) = mark_falls c x h m deferred _ e (ap awaits is) (grind (arith, facts)) (λ y. refl)
    move_falls (drops c x h m e is k) = mark_falls c x h m acked _ e (ap awaits is) (grind (arith, facts)) (λ y. refl)
    move_falls (acks c x y h m e is k ne) = mark_falls c x h m unmarked _ e (ap awaits is) (grind (arith, facts)) (λ y. refl)

    falls_then : {q s : Page W} → Falls n p q → NoneHeavier n q s → Falls n p s
    falls_then f l = record {
      never = λ x. omega (arith, f.never x, l x);
      who = f.who;
      who_in = f.who_in;
      lighter = omega (arith, f.lighter, l f.who);
    }

    loaded_falls : (a h : ℕ) (w : W) {q s : Page W} → Loaded p a h w q → Serving a q s → Falls n p s
    loaded_falls a h w (copy_in s e ne) more =
        falls_then {q = copy_came p a s w}
        (record { never = λ x. grind (arith, facts); who = a; who_in = in_range a (ap busy e); lighter = grind (arith, facts) })
        (serving_light a (loaded_core i a h w (copy_in s e ne)) (grind (arith, facts)) more)
    loaded_falls a h w (copy_then_drop s c g m e k is) more =
        let same = mark_weight_one n a m acked (in_range a (ap busy e)) in
        falls_then {q = copy_dropped p a s w c g m}
        (record { never = λ x. grind (arith, facts); who = a; who_in = in_range a (ap busy e); lighter = grind (arith, facts) })
        (serving_light a (loaded_core i a h w (copy_then_drop s c g m e k is)) (grind (arith, facts)) more)

    stored_falls : (a h : ℕ) (w : W) (f : W → W) {s : Page W} → Stores p a h w → Serving a (stored_at p a (f w)) s → Falls n p s
    stored_falls a h w f (grant_free s c e is) more =
        falls_then {q = stored_at p a (f w)}
        (record { never = λ x. grind (arith, facts); who = a; who_in = in_range a (ap busy e); lighter = grind (arith, facts) })
        (serving_light a (ready_core i a h w f (stores_ready i a h w (grant_free s c e is))) (grind (arith, facts)) more)
    stored_falls a h w f (last_ack x m e is others same) more =
        let k = mark_weight_one n x m unmarked (marked_in a x h m e (ap awaits is)) in
        falls_then {q = stored_at p a (f w)}
        (record { never = λ x. grind (arith, facts); who = a; who_in = in_range a (ap busy e); lighter = grind (arith, facts) })
        (serving_light a (ready_core i a h w f (stores_ready i a h w (last_ack x m e is others same))) (grind (arith, facts)) more)

    pub delivery_falls : {d : Answer W} {q : Page W} → Delivery p d q → Falls n p q
    delivery_falls (moves m) = move_falls m
    delivery_falls (loads a h w l more) = loaded_falls a h w l more
    delivery_falls (stores a h w f k more) = stored_falls a h w f k more

    pub call_opens : {q : Page W} → Call n p q → Opens n p q
    call_opens (ask_load a l e is) =
        let r = no_access n v p i.core a e is in
        let k = i.core.ways.root_in in
        let two : 2 ≤ n = omega arith in
        record { who = a; now = grind (arith, facts); others = λ x. grind (arith, facts) }
    call_opens (ask_store a l e is) = record { who = a; now = grind (arith, facts); others = λ x. grind (arith, facts) }
    call_opens (clear a y l e q c) =
        let r = own n v p i.core a l e q in
        let lacks : has (p.entry a).copies a ≡ false = grind (arith, facts, o.exact a) in
        let in_y : y < n = (copies_in i.core a r e y c).0 in
        let two : 2 ≤ n = grind (arith, facts) in
        let room = count_room_one n a (has (p.entry a).copies) l lacks in
        let k = mark_weight_marks n (p.entry a).copies in
        record { who = a; now = grind (arith, facts); others = λ x. grind (arith, facts) }
