-- At most n (n - 1) messages wait on the link of n boards.
use Rattle.std.proofs.Common.{◌≡◌, ℕ, zero, suc, ◌+◌, ◌-◌, ◌*◌, ◌<◌, ◌≤◌, Bool, true, false, ◌&&◌, eqb, sym, refl, ap, ◌∙◌, inl, inr, arith}
use Rattle.std.proofs.lemmas.Bool.{cases_eq, cases_Bool}
use Rattle.wire.specs.Bags.{total, size}
use Rattle.memory.proofs.model.Board.{Mail}
use Rattle.memory.proofs.model.Ledgers.{Ledger}
use Rattle.memory.proofs.model.Invariant.{Inv}
use Rattle.memory.proofs.model.Kit.{Maybe, absent, just, Post, Kit}
use Rattle.memory.proofs.model.Told.{owner, slot, mark_mail, mail_of, is_it, Equality}
use Rattle.memory.proofs.model.Page.{Mark, Journey, home, asking, queued, copied, granted, clearing, Page, awaits, busy, rooted, mark_of, mark}
use Rattle.memory.proofs.model.Sums.{bit, sum_to, count}
use Rattle.memory.proofs.kept.KitKept.{Kept}
use Rattle.memory.proofs.kept.Places.{some, fits}
use Rattle.memory.proofs.kept.Sets.{facts}
use Rattle.memory.proofs.kept.Stages.{closed_home, off_page}
use Rattle.memory.proofs.kept.Sums.{sum_each, sum_zero, count_room_one}

-- with its page
abbrev posted_on : {W : Type 0} → ℕ → Maybe (Mail W) → Maybe (Post W)
posted_on p absent = absent
posted_on p (just m) = just (record { page = p; mail = m })

abbrev same_post : {W : Type 0} → (Mail W → Mail W → Bool) → Post W → Post W → Bool
same_post same x y = eqb x.page y.page && same x.mail y.mail

post_is : {W : Type 0} (same : Mail W → Mail W → Bool) → Equality same → (x y : Post W) → same_post same x y ≡ true → x ≡ y
post_is same law x y e =
    let p : x.page ≡ y.page = grind (arith, facts) in
    let m : same x.mail y.mail ≡ true = grind (arith, facts) in
    let q = law.is x.mail y.mail m in
    λ i. record { page = p i; mail = q i }

post_self : {W : Type 0} (same : Mail W → Mail W → Bool) → Equality same → (x : Post W) → same_post same x x ≡ true
post_self same law x = let s = law.self x.mail in grind (arith, facts)

at_it : {W : Type 0} (same : Mail W → Mail W → Bool) (p r : ℕ) (x : Mail W) (c : Maybe (Mail W)) → p ≡ r → is_it same x c ≡ is_it (same_post same) (record { page = p; mail = x }) (posted_on r c)
at_it same p r x absent e = refl
at_it same p r x (just y) e = grind (arith, facts)

not_it : {W : Type 0} (same : Mail W → Mail W → Bool) (p r : ℕ) (x : Mail W) (c : Maybe (Mail W)) → (p ≡ r → ⊥) → is_it (same_post same) (record { page = p; mail = x }) (posted_on r c) ≡ false
not_it same p r x absent ne = refl
not_it same p r x (just y) ne = grind (arith, facts)

another : (n a : ℕ) → 2 ≤ n → (b : ℕ) × (b < n) × (b ≡ a → ⊥)
another n zero l = (1, omega arith, omega arith)
another n (suc a) l = (0, omega arith, omega arith)

some_on : {W : Type 0} (p : ℕ) (c : Maybe (Mail W)) → some (posted_on p c) ≡ some c
some_on p absent = refl
some_on p (just m) = refl

module _ {W : Type 0} (n : ℕ) (v : W) (p : Page W) (i : Inv n v p) (a r : ℕ) where
  gap : (t : Journey W) → p.journey a ≡ t → (b : ℕ) → b < n → some (mail_of a t b) ≡ false → count n (λ s. some (posted_on r (mail_of a t s))) + 1 ≤ n
  gap t e b l h = count_room_one n b (λ s. some (posted_on r (mail_of a t s))) l (some_on r (mail_of a t b) ∙ h)

  two : busy (p.journey a) ≡ true → 2 ≤ n
  two b = omega (arith, (i.core.ways.askers a b).bound)

  -- the messages of one journey are n - 1 at most
  row : (t : Journey W) → p.journey a ≡ t → busy t ≡ true → count n (λ s. some (posted_on r (mail_of a t s))) + 1 ≤ n
  row home e b = absurd (grind arith)
  row (asking k u h) e b = let z = another n a (two (ap busy e)) in let ne = z.2 in gap (asking k u h) e z.0 z.1 (grind (arith, facts))
  row (queued k u h) e b = gap (queued k u h) e a (i.core.ways.askers a (ap busy e)).in_range refl
  row (copied s h w) e b = let z = another n a (two (ap busy e)) in let ne = z.2 in gap (copied s h w) e z.0 z.1 (grind (arith, facts))
  row (granted s h c w) e b = let z = another n a (two (ap busy e)) in let ne = z.2 in gap (granted s h c w) e z.0 z.1 (grind (arith, facts))
  row (clearing h m) e b =
      let o = i.core.holders in
      let q = o.only a (ap rooted e) in
      gap (clearing h m) e a (i.core.ways.askers a (ap busy e)).in_range (own_mark (m a) (ap (λ t. awaits (mark_of t a)) (sym (ap p.journey (sym q) ∙ e)) ∙ ap (λ z. awaits (mark p z)) q ∙ o.apart))
    where
      own_mark : (m : Mark) → awaits m ≡ false → some (mark_mail {W = W} a a m) ≡ false
      own_mark m e = grind arith

  cell_in : (s : ℕ) (t : Journey W) → p.journey a ≡ t → some (mail_of a t s) ≡ true → (a < n) × (s < n)
  cell_in s home e h = absurd (grind arith)
  cell_in s (asking k u g) e h = let l = (i.core.ways.askers a (ap busy e)).in_range in (l, grind (arith, facts))
  cell_in s (queued k u g) e h = absurd (grind arith)
  cell_in s (copied f g w) e h = let l = (i.core.ways.askers a (ap busy e)).in_range in (l, grind (arith, facts))
  cell_in s (granted f g c w) e h = let l = (i.core.ways.askers a (ap busy e)).in_range in (l, grind (arith, facts))
  cell_in s (clearing g m) e h =
      let o = i.core.holders in
      let q = o.only a (ap rooted e) in
      let is : mark p s ≡ m s = ap (λ t. mark_of t s) (ap p.journey (sym q) ∙ e) in
      ((i.core.ways.askers a (ap busy e)).in_range, o.marked s (ap awaits is ∙ waits_so (m s) h))
    where
      waits_so : (m : Mark) → some (mark_mail {W = W} a s m) ≡ true → awaits m ≡ true
      waits_so m h = grind arith

module _ {W : Type 0} {same : Mail W → Mail W → Bool} {n : ℕ} {l : Ledger W} {k : Kit W} (law : Equality same) (i : Kept same n l k) where
  abbrev at : ℕ → ℕ
  at a = (k.board a).seat.page

  abbrev cell : ℕ → ℕ → Maybe (Post W)
  cell a s = posted_on (at a) (mail_of a ((i.pages (at a)).journey a) s)

  counted : (x : Post W) → total (λ y. bit (same_post same x y)) k.link ≡ bit (is_it (same_post same) x (cell (owner x.mail) (slot x.mail)))
  counted x =
      let o = owner x.mail in
      let c = mail_of o ((i.pages (at o)).journey o) (slot x.mail) in
      i.told.mails x.page x.mail ∙ elim (cases_eq x.page (at o)) [
        | inl e ↦ ap bit (ap (λ p. is_it same x.mail (mail_of o ((i.pages p).journey o) (slot x.mail))) e ∙ at_it same x.page (at o) x.mail c e)
        | inr ne ↦ ap bit (ap (λ j. is_it same x.mail (mail_of o j (slot x.mail))) (closed_home ((i.pages x.page).journey o) (i.told.stages o x.page ∙ off_page (k.board o).seat x.page (λ q. ne (sym q)))) ∙ sym (not_it same x.page (at o) x.mail c ne))
      ]

  each_row : (a : ℕ) → sum_to n (λ s. bit (some (cell a s))) ≤ n - 1
  each_row a = elim (cases_Bool (busy ((i.pages (at a)).journey a))) [
    | inl b ↦ omega (arith, row n (l.memory (at a)) (i.pages (at a)) (i.each (at a)) a (at a) ((i.pages (at a)).journey a) refl b)
    | inr b ↦ omega (arith, sum_zero n (λ s. bit (some (cell a s))) (λ s. still_none ((i.pages (at a)).journey a) s b))
  ]
    where
      still_none : (j : Journey W) (s : ℕ) → busy j ≡ false → bit (some (posted_on (at a) (mail_of a j s))) ≡ 0
      still_none j s b = grind arith

  pub link_bound : size k.link ≤ n * (n - 1)
  link_bound = omega (
    arith,
    fits (same_post same) (post_is same law) (post_self same law) (λ x. owner x.mail) (λ x. slot x.mail) n k.link cell counted
        (λ a s h. cell_in n (l.memory (at a)) (i.pages (at a)) (i.each (at a)) a (at a) s ((i.pages (at a)).journey a) refl (sym (some_on (at a) (mail_of a ((i.pages (at a)).journey a) s)) ∙ h)),
    sum_each n (n - 1) (λ a. sum_to n (λ s. bit (some (cell a s)))) each_row,
  )
