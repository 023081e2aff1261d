-- A delivery keeps what is kept of a kit, is answered rightly and takes from the work that is left.
use Rattle.std.proofs.Common.{◌≡◌, ℕ, ◌+◌, ◌-◌, ◌*◌, ◌<◌, ◌≤◌, Bool, true, false, ◌⊎◌, List, sym, refl, ap, ◌∙◌, subst, inl, inr, arith}
use Rattle.std.proofs.lemmas.Bool.{cases_eq, cases_Bool}
use Rattle.memory.specs.Functions.{changed}
use Rattle.wire.specs.Bags.{Bag, ◌&◌}
use Rattle.memory.proofs.model.Board.{load, store, Entry, Mail}
use Rattle.memory.proofs.model.Calls.{call_deliver, said_of, said_by, posts_by, kit_by}
use Rattle.memory.proofs.model.Ledgers.{Ledger, stored, after, Good}
use Rattle.memory.proofs.model.Invariant.{Inv}
use Rattle.memory.proofs.model.Kit.{absent, just, Stage, closed, asked, clears, Seat, Board, Post, Kit, Reply, open_on, to, becomes, arrives, requests, Open, op_load, op_store, op_by, op_of}
use Rattle.memory.proofs.model.Told.{stage_of, Told, Equality}
use Rattle.memory.proofs.model.Page.{Page, busy, far}
use Rattle.memory.proofs.model.Steps.{Answer, nothing, read_at, written_at, Delivery, delivers}
use Rattle.memory.proofs.model.Sums.{sum_to}
use Rattle.memory.proofs.model.Weights.{weight, Falls}
use Rattle.memory.proofs.kept.Delivered.{deliver_sim}
use Rattle.memory.proofs.kept.DeliverySteps.{Tale}
use Rattle.memory.proofs.kept.KitKept.{Kept, left_of, opens_changed}
use Rattle.memory.proofs.kept.PageKept.{step_kept}
use Rattle.memory.proofs.kept.Sets.{facts}
use Rattle.memory.proofs.kept.Stages.{closed_home, open_is_busy, busy_is_open, op_not_closed, open_here, off_page}
use Rattle.memory.proofs.kept.Sums.{changed_self_at, sum_less, changed_same, changed_other, changed_both}
use Rattle.memory.proofs.kept.WorkFalls.{delivery_falls}

-- a stage stays open unless the access ends
stays_open : {W : Type 0} (s z : Stage) (p r : ℕ) (f g : W → W) → (op_by s p f ≡ op_by z r g) ⊎ (op_by s p f ≡ absent) → (s ≡ closed → ⊥) → z ≡ closed → ⊥
stays_open s z p r f g h ne e = grind arith

module _ {W : Type 0} {same : Mail W → Mail W → Bool} {k : Kit W} {pages : ℕ → Page W} (t : Told same k pages) (b p : ℕ) (s : Seat W) (e : Entry W) (ms : List (Mail W)) (q : Page W) (rest : Bag (Post W)) (u : Told same (becomes k b p s e ms rest) (changed pages p q)) (s_page : s.page ≡ (k.board b).seat.page) where
  abbrev new : ℕ → Board W
  new = changed k.board b (record { seat = s; entry = changed (k.board b).entry p e })

  page_same : (x : ℕ) → (new x).seat.page ≡ (k.board x).seat.page
  page_same x = grind (arith, facts)

  -- on this page, who is open now was so before
  was_open : (op_of s ≡ op_of (k.board b).seat) ⊎ (op_of s ≡ absent) → (x : ℕ) → busy (q.journey x) ≡ true → busy ((pages p).journey x) ≡ true
  was_open ops x on =
      let after_is : stage_of (q.journey x) ≡ open_on (new x).seat p = ap (λ (g : Page W). stage_of (g.journey x)) (sym (changed_same pages p q)) ∙ u.stages x p in
      let now = busy_is_open (q.journey x) (open_on (new x).seat p) after_is on in
      let before = open_is_busy ((pages p).journey x) (open_on (k.board x).seat p) (t.stages x p) in
      before (λ c. elim (cases_eq x b) [
        | inl w ↦ at_b c w now
        | inr w ↦ now (ap (λ (g : Board W). open_on g.seat p) (changed_other k.board b (record { seat = s; entry = changed (k.board b).entry p e }) x w) ∙ c)
      ])
    where
      at_b : open_on (k.board x).seat p ≡ closed → x ≡ b → (open_on (new x).seat p ≡ closed → ⊥) → ⊥
      at_b c w now =
          let is : new x ≡ record { seat = s; entry = changed (k.board b).entry p e } = ap new w ∙ changed_same k.board b (record { seat = s; entry = changed (k.board b).entry p e }) in
          let open_s : open_on s p ≡ closed → ⊥ = λ z. now (ap (λ (g : Board W). open_on g.seat p) is ∙ z) in
          let c' : open_on (k.board b).seat p ≡ closed = ap (λ y. open_on (k.board y).seat p) (sym w) ∙ c in
          elim (cases_eq p s.page) [
            | inl here ↦ stays_open s.stage (k.board b).seat.stage s.page (k.board b).seat.page s.act (k.board b).seat.act ops (λ z. open_s (grind (arith, facts))) (grind (arith, facts))
            | inr away ↦ open_s (grind (arith, facts))
          ]

  not_here : (x : ℕ) → ((k.board x).seat.page ≡ p → ⊥) → busy (q.journey x) ≡ false
  not_here x ne =
      let after_is : stage_of (q.journey x) ≡ open_on (new x).seat p = ap (λ (g : Page W). stage_of (g.journey x)) (sym (changed_same pages p q)) ∙ u.stages x p in
      let same_is = page_same x in
      let off : open_on (new x).seat p ≡ closed = off_page (new x).seat p (λ z. ne (sym same_is ∙ z)) in
      ap busy (closed_home (q.journey x) (after_is ∙ off))

  -- the hops of who is open on after a delivery
  passed_after : (l : ℕ → ℕ) → ((x : ℕ) → busy ((pages (k.board x).seat.page).journey x) ≡ true → l x ≡ far ((pages (k.board x).seat.page).journey x))
      → (op_of s ≡ op_of (k.board b).seat) ⊎ (op_of s ≡ absent)
      → ((x : ℕ) → busy (q.journey x) ≡ true → far (q.journey x) ≡ far ((pages p).journey x) + requests x ms)
      → ((x : ℕ) → busy (q.journey x) ≡ false → requests x ms ≡ 0)
      → (x : ℕ) → busy ((changed pages p q (new x).seat.page).journey x) ≡ true → l x + requests x ms ≡ far ((changed pages p q (new x).seat.page).journey x)
  passed_after l passed_is ops hops calm x =
      rw (page_same x) (elim (cases_eq (k.board x).seat.page p) [
        | inl h ↦ let z : changed pages p q (k.board x).seat.page ≡ q = ap (changed pages p q) h ∙ changed_same pages p q in
            rw z (λ on. let was = was_open ops x on in let l_is : l x ≡ far ((pages p).journey x) = rw h at (passed_is x) was in omega (arith, hops x on))
        | inr h ↦ let z : changed pages p q (k.board x).seat.page ≡ pages (k.board x).seat.page = changed_other pages p q (k.board x).seat.page h in
            rw z (λ on. omega (arith, passed_is x on, calm x (not_here x h)))
      ])

  -- nobody's request is passed on more often than may be, whether its access is open or over
  bound_after : (n : ℕ) (v : ℕ → W) (l : ℕ → ℕ) → ((x : ℕ) → l x ≤ n - 2) → ((r : ℕ) → Inv n (v r) (changed pages p q r))
      → ((x : ℕ) → busy ((changed pages p q (new x).seat.page).journey x) ≡ true → l x + requests x ms ≡ far ((changed pages p q (new x).seat.page).journey x))
      → ((x : ℕ) → busy (q.journey x) ≡ false → requests x ms ≡ 0)
      → (x : ℕ) → l x + requests x ms ≤ n - 2
  bound_after n v l was each passed calm x = elim (cases_Bool (busy ((changed pages p q (new x).seat.page).journey x))) [
    | inl on ↦ omega (arith, passed x on, ((each (new x).seat.page).core.ways.askers x on).bound)
    | inr off ↦ elim (cases_eq (k.board x).seat.page p) [
      | inl h ↦ let here : changed pages p q (new x).seat.page ≡ q = ap (changed pages p q) (page_same x ∙ h) ∙ changed_same pages p q in omega (arith, was x, calm x (sym (ap (λ (g : Page W). busy (g.journey x)) here) ∙ off))
      | inr h ↦ omega (arith, was x, calm x (not_here x h))
    ]
  ]

page_of_op : {W : Type 0} (st : Stage) (p : ℕ) (f : W → W) (r : ℕ) → (op_by st p f ≡ just (op_load r)) ⊎ ((g : W → W) × (op_by st p f ≡ just (op_store r g))) → p ≡ r
page_of_op closed p f r (inl h) = absurd (grind arith)
page_of_op (asked load) p f r (inl h) = cc
page_of_op (asked store) p f r (inl h) = absurd (grind arith)
page_of_op (clears g) p f r (inl h) = absurd (grind arith)
page_of_op closed p f r (inr h) = let z = h.1 in absurd (grind arith)
page_of_op (asked load) p f r (inr h) = let z = h.1 in absurd (grind arith)
page_of_op (asked store) p f r (inr h) = let z = h.1 in cc
page_of_op (clears g) p f r (inr h) = let z = h.1 in cc

module _ {W : Type 0} {same : Mail W → Mail W → Bool} {n : ℕ} {l : Ledger W} {k : Kit W} (law : Equality same) (i : Kept same n l k) (p : ℕ) (m : Mail W) (rest : Bag (Post W)) where
  abbrev b : ℕ
  b = to m

  abbrev old : Seat W
  old = (k.board (to m)).seat

  abbrev P : Page W
  P = i.pages p

  each_after : (mem : ℕ → W) (w : W) (q : Page W) → Inv n w q → mem p ≡ w → ((r : ℕ) → (r ≡ p → ⊥) → mem r ≡ l.memory r) → (r : ℕ) → Inv n (mem r) (changed i.pages p q r)
  each_after mem w q inv is others r = elim (cases_eq r p) [
    | inl h ↦ rw (ap (changed i.pages p q) h ∙ changed_same i.pages p q, ap mem h ∙ is) inv
    | inr h ↦ rw (changed_other i.pages p q r h, others r h) (i.each r)
  ]

  light_after : (q : Page W) → Falls n P q → (r x : ℕ) → weight n ((changed i.pages p q r).journey x) ≤ 3 * n - 4
  light_after q f r x = changed_both (λ r g. weight n (g.journey x) ≤ 3 * n - 4) i.pages p q r (omega (arith, f.never x, i.light p x)) (λ _. i.light r x)

  abbrev Goal : Seat W → Entry W → List (Mail W) → Answer W → Type 0
  Goal s e ms d = (z : Kept same n (after l call_deliver (said_of d) ms) (becomes k b p s e ms rest)) × Good n l call_deliver (said_of d) ms × (left_of z < left_of i)

  -- who finished was open on this page
  here_of : (o : Open W) (r : ℕ) → op_of old ≡ just o → (o ≡ op_load r) ⊎ ((f : W → W) × (o ≡ op_store r f)) → old.page ≡ r
  here_of o r e (inl h) = page_of_op old.stage old.page old.act r (inl (e ∙ ap just h))
  here_of o r e (inr h) = page_of_op old.stage old.page old.act r (inr (h.0, e ∙ ap just h.1))

  -- the hops of who finishes
  passed_at : (a : ℕ) (o : Open W) → old.page ≡ p → a ≡ b → op_of old ≡ just o → l.passed a ≡ far (P.journey a)
  passed_at a o pg ab op =
      let on : open_on old p ≡ old.stage = open_here old p pg in
      let bz : busy ((i.pages p).journey b) ≡ true = open_is_busy (P.journey b) (open_on old p) (i.told.stages b p) (λ z. op_not_closed old.stage old.page old.act o op (sym on ∙ z)) in
      let is : l.passed b ≡ far (P.journey b) = rw pg at (i.passed b) bz in
      rw ab is

  -- the work left falls
  lighter : {d : Answer W} (s : Seat W) (e : Entry W) (ms : List (Mail W)) (q : Page W) → Delivery P d q → s.page ≡ old.page → Told same (becomes k b p s e ms rest) (changed i.pages p q)
      → sum_to n (λ x. weight n ((changed i.pages p q (changed k.board b (record { seat = s; entry = changed (k.board b).entry p e }) x).seat.page).journey x)) < sum_to n (λ x. weight n ((i.pages (k.board x).seat.page).journey x))
  lighter s e ms q mv sp u =
      let f = delivery_falls (i.each p) mv in
      let w = f.who in
      let new_weight = λ (x : ℕ). weight n ((changed i.pages p q (changed k.board b (record { seat = s; entry = changed (k.board b).entry p e }) x).seat.page).journey x) in
      let old_weight = λ (x : ℕ). weight n ((i.pages (k.board x).seat.page).journey x) in
      let is : (x : ℕ) → new_weight x ≡ weight n ((changed i.pages p q (k.board x).seat.page).journey x) = λ x. ap (λ r. weight n ((changed i.pages p q r).journey x)) (page_same i.told b p s e ms q rest u sp x) in
      let le : (x : ℕ) → weight n ((changed i.pages p q (k.board x).seat.page).journey x) ≤ old_weight x = λ x. changed_both (λ r g. weight n (g.journey x) ≤ weight n ((i.pages r).journey x)) i.pages p q (k.board x).seat.page (f.never x) (λ _. omega arith) in
      let here : (k.board w).seat.page ≡ p = elim (cases_eq (k.board w).seat.page p) [ inl h ↦ h | inr h ↦ let z = ap (weight n) (closed_home (P.journey w) (i.told.stages w p ∙ off_page (k.board w).seat p h)) in absurd (omega (arith, z, f.lighter)) ] in
      let at_w : changed i.pages p q (k.board w).seat.page ≡ q = ap (changed i.pages p q) here ∙ changed_same i.pages p q in
      let less : new_weight w < old_weight w = omega (arith, is w, ap (λ (g : Page W). weight n (g.journey w)) at_w, f.lighter, ap (λ r. weight n ((i.pages r).journey w)) here) in
      sum_less n w old_weight new_weight (λ x. omega (arith, is x, le x)) f.who_in less

  by_answer : (d : Answer W) (s : Seat W) (e : Entry W) (ms : List (Mail W)) (q : Page W) → Delivery P d q → s.page ≡ old.page → Tale d old s b p P ms → ((x : ℕ) → busy (q.journey x) ≡ true → far (q.journey x) ≡ far (P.journey x) + requests x ms) → ((x : ℕ) → busy (q.journey x) ≡ false → requests x ms ≡ 0) → Told same (becomes k b p s e ms rest) (changed i.pages p q) → Goal s e ms d
  by_answer nothing s e ms q mv sp tale hops calm u =
      let st = step_kept (i.each p) {q = q} (delivers mv) in
      let each = each_after l.memory (l.memory p) q st.0 refl (λ r _. refl) in
      let passed = passed_after i.told b p s e ms q rest u sp l.passed i.passed (inl tale) hops calm in (
        record {
          pages = changed i.pages p q;
          told = u;
          each = each;
          opens = λ x. sym (changed_self_at l.opens b (op_of s) (tale ∙ sym (i.opens b)) x) ∙ opens_changed k b (record { seat = s; entry = changed (k.board b).entry p e }) l.opens (op_of s) refl i.opens x;
          passed = passed;
          light = light_after q (delivery_falls (i.each p) mv);
          bound = bound_after i.told b p s e ms q rest u sp n l.memory l.passed i.bound each passed calm;
        },
        tt,
        lighter s e ms q mv sp u,
      )
  by_answer (read_at a h w) s e ms q mv sp tale hops calm u =
      let st = step_kept (i.each p) {q = q} (delivers mv) in
      let is_open : l.opens a ≡ just (op_load p) = ap l.opens tale.0 ∙ i.opens b ∙ tale.1 in
      let mem_is : stored (l.opens a) l.memory ≡ l.memory = ap (λ z. stored z l.memory) is_open in
      let pg : old.page ≡ p = here_of (op_load p) p tale.1 (inl refl) in
      let each = each_after l.memory (l.memory p) q st.0 refl (λ r _. refl) in
      let passed = passed_after i.told b p s e ms q rest u sp l.passed i.passed (inr tale.2) hops calm in (
        record {
          pages = changed i.pages p q;
          told = u;
          each = rw mem_is each;
          opens = λ x. ap (λ z. changed l.opens z absent x) tale.0 ∙ ap (λ z. changed l.opens b z x) (sym tale.2) ∙ opens_changed k b (record { seat = s; entry = changed (k.board b).entry p e }) l.opens (op_of s) refl i.opens x;
          passed = passed;
          light = light_after q (delivery_falls (i.each p) mv);
          bound = bound_after i.told b p s e ms q rest u sp n l.memory l.passed i.bound each passed calm;
        },
        (p, is_open, st.1.0, omega (arith, tale.3, tale.4, passed_at a (op_load p) pg tale.0 tale.1), st.1.1),
        lighter s e ms q mv sp u,
      )
  by_answer (written_at a h f) s e ms q mv sp tale hops calm u =
      let st = step_kept (i.each p) {q = q} (delivers mv) in
      let is_open : l.opens a ≡ just (op_store p f) = ap l.opens tale.0 ∙ i.opens b ∙ tale.1 in
      let mem_is : stored (l.opens a) l.memory ≡ changed l.memory p (f (l.memory p)) = ap (λ z. stored z l.memory) is_open in
      let pg : old.page ≡ p = here_of (op_store p f) p tale.1 (inr (f, refl)) in
      let memory : ℕ → W = changed l.memory p (f (l.memory p)) in
      let each = each_after memory (f (l.memory p)) q st.0 (changed_same l.memory p (f (l.memory p))) (λ r ne. changed_other l.memory p (f (l.memory p)) r ne) in
      let passed = passed_after i.told b p s e ms q rest u sp l.passed i.passed (inr tale.2) hops calm in (
        record {
          pages = changed i.pages p q;
          told = u;
          each = rw mem_is each;
          opens = λ x. ap (λ z. changed l.opens z absent x) tale.0 ∙ ap (λ z. changed l.opens b z x) (sym tale.2) ∙ opens_changed k b (record { seat = s; entry = changed (k.board b).entry p e }) l.opens (op_of s) refl i.opens x;
          passed = passed;
          light = light_after q (delivery_falls (i.each p) mv);
          bound = bound_after i.told b p s e ms q rest u sp n memory l.passed i.bound each passed calm;
        },
        (p, f, is_open, omega (arith, tale.3, tale.4, passed_at a (op_store p f) pg tale.0 tale.1), st.1),
        lighter s e ms q mv sp u,
      )

  -- whatever is taken is expected, answered rightly, and all is kept
  pub delivered : k.link ≡ record { page = p; mail = m } & rest → (r : Reply W) → arrives n k p m ≡ r → (z : Kept same n (after l call_deliver (said_by r) (posts_by r)) (kit_by k b p rest r)) × Good n l call_deliver (said_by r) (posts_by r) × (left_of z < left_of i)
  delivered e r is =
      let s = deliver_sim same law n (l.memory p) k i.pages i.told p (i.each p) rest m e in
      subst (λ (r : Reply W). (z : Kept same n (after l call_deliver (said_by r) (posts_by r)) (kit_by k b p rest r)) × Good n l call_deliver (said_by r) (posts_by r) × (left_of z < left_of i)) (sym s.replied ∙ is)
      (by_answer s.answer s.seat s.entry s.posts s.page s.moved s.same_page s.tale s.hops s.calm s.told)
