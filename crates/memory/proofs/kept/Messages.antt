-- The messages on the link: at most one for each journey and place, and what a delivery or a call changes of them.
use Rattle.std.proofs.Common.{◌≡◌, ℕ, zero, suc, ◌+◌, Bool, true, false, cond, eqb, ltb, List, [], ◌∷◌, ◌++◌, sym, refl, ap, ◌∙◌, inl, inr, arith}
use Rattle.std.proofs.lemmas.Bool.{cases_eq, cases_Bool}
use Rattle.wire.specs.Bags.{Bag, ◌&◌}
use Rattle.memory.proofs.model.Board.{Mail, invalidate}
use Rattle.memory.proofs.model.Kit.{Maybe, absent, just, Post, post_all, invalidates, requests}
use Rattle.memory.proofs.model.Told.{Equality, owner, slot, mark_mail, mail_of, is_it, on_link, times}
use Rattle.memory.proofs.model.Page.{Journey, home, asking, queued, copied, granted, clearing, marks}
use Rattle.memory.proofs.model.Sets.{has, Boards}
use Rattle.memory.proofs.model.Sums.{bit}
use Rattle.memory.proofs.kept.Sets.{facts}

abbrev Keyed : {W : Type 0} → Maybe (Mail W) → ℕ → ℕ → Type 0
Keyed absent o s = Unit {0}
Keyed (just m) o s = (owner m ≡ o) × (slot m ≡ s)

abbrev pub listed : {W : Type 0} → (Mail W → Mail W → Bool) → Mail W → List (Mail W) → ℕ
listed same x [] = 0
listed same x (m ∷ ms) = bit (same x m) + listed same x ms

requests_app : {W : Type 0} (x : ℕ) (xs ys : List (Mail W)) → requests x (xs ++ ys) ≡ requests x xs + requests x ys
requests_app x [] ys = omega arith
requests_app x (m ∷ xs) ys = omega (arith, requests_app x xs ys)

-- there are no requests among invalidations
pub invalidates_ask : {W : Type 0} (m a x : ℕ) (c : Boards) (ms : List (Mail W)) → ms ≡ invalidates m a c → requests x ms ≡ 0
invalidates_ask {W} m a x c ms e = ap (requests x) e ∙ go m
  where
    go : (m : ℕ) → requests x (invalidates {W = W} m a c) ≡ 0
    go zero = refl
    go (suc m) = grind (arith, go m, requests_app x (invalidates {W = W} m a c) (cond (has c m) (invalidate a m ∷ []) []))

module _ {W : Type 0} (same : Mail W → Mail W → Bool) (law : Equality same) where
  keyed : (a s : ℕ) (t : Journey W) → Keyed (mail_of a t s) a s
  keyed a s home = tt
  keyed a s (asking k u h) = grind (arith, facts)
  keyed a s (queued k u h) = tt
  keyed a s (copied f h w) = grind (arith, facts)
  keyed a s (granted f h c w) = grind (arith, facts)
  keyed a s (clearing h m) = grind (arith, facts)

  -- x is not at another's place
  elsewhere : (x : Mail W) (o s : ℕ) (m : Maybe (Mail W)) → Keyed m o s → (owner x ≡ o → slot x ≡ s → ⊥) → is_it same x m ≡ false
  elsewhere x o s absent k ne = refl
  elsewhere x o s (just m) k ne = elim (cases_Bool (same x m)) [
    | inl e ↦ absurd (ne (ap owner (law.is x m e) ∙ k.0) (ap slot (law.is x m e) ∙ k.1))
    | inr e ↦ e
  ]

  -- one place changes: so do the messages
  pub cell_change : (j l : ℕ → Journey W) (o s : ℕ) → ((a y : ℕ) → (a ≡ o → y ≡ s → ⊥) → mail_of a (l a) y ≡ mail_of a (j a) y) → (x : Mail W) → bit (on_link same l x) + bit (is_it same x (mail_of o (j o) s)) ≡ bit (on_link same j x) + bit (is_it same x (mail_of o (l o) s))
  cell_change j l o s rest x = elim (cases_eq (owner x) o) [
    | inl p ↦ elim (cases_eq (slot x) s) [
      | inl q ↦ rw (p, q) (omega arith)
      | inr q ↦ away (λ _ k. q k)
    ]
    | inr p ↦ away (λ k _. p k)
  ]
    where
      away : (owner x ≡ o → slot x ≡ s → ⊥) → bit (on_link same l x) + bit (is_it same x (mail_of o (j o) s)) ≡ bit (on_link same j x) + bit (is_it same x (mail_of o (l o) s))
      away ne =
          let a = elsewhere x o s (mail_of o (j o) s) (keyed o s (j o)) ne in
          let b = elsewhere x o s (mail_of o (l o) s) (keyed o s (l o)) ne in
          let c = ap (is_it same x) (rest (owner x) (slot x) ne) in
          omega (arith, ap bit a, ap bit b, ap bit c)

  -- posted one after another
  pub times_post : (p q : ℕ) (x : Mail W) (ms : List (Mail W)) (l : Bag (Post W)) → times same q x (post_all p ms l) ≡ times same q x l + cond (eqb q p) (listed same x ms) 0
  times_post p q x [] l = grind (arith, cases_Bool (eqb q p))
  times_post p q x (m ∷ ms) l = grind (arith, times_post p q x ms (record { page = p; mail = m } & l), cases_Bool (eqb q p))

  -- a message taken is in a journey
  pub taken_on_link : (p : ℕ) (m : Mail W) (l rest : Bag (Post W)) (j : ℕ → Journey W) → l ≡ record { page = p; mail = m } & rest → ((x : Mail W) → times same p x l ≡ bit (on_link same j x)) → mail_of (owner m) (j (owner m)) (slot m) ≡ just m
  taken_on_link p m l rest j e h = found (mail_of (owner m) (j (owner m)) (slot m)) refl
    where
      found : (c : Maybe (Mail W)) → mail_of (owner m) (j (owner m)) (slot m) ≡ c → c ≡ just m
      found absent is = absurd (let t = h m in let u = ap (times same p m) e in let s = law.self m in let z = ap (is_it same m) is in grind (arith, facts))
      found (just y) is =
          let t = h m in
          let u = ap (times same p m) e in
          let s = law.self m in
          let z = ap (is_it same m) is in
          let eq : same m y ≡ true = grind (arith, facts) in
          ap just (sym (law.is m y eq))

  listed_app : (x : Mail W) (xs ys : List (Mail W)) → listed same x (xs ++ ys) ≡ listed same x xs + listed same x ys
  listed_app x [] ys = omega arith
  listed_app x (m ∷ xs) ys = omega (arith, listed_app x xs ys)

  pub not_owner : (x m : Mail W) → (owner x ≡ owner m → ⊥) → same x m ≡ false
  not_owner x m ne = elim (cases_Bool (same x m)) [ inl e ↦ absurd (ne (ap owner (law.is x m e))) | inr e ↦ e ]

  pub not_slot : (x m : Mail W) → (slot x ≡ slot m → ⊥) → same x m ≡ false
  not_slot x m ne = elim (cases_Bool (same x m)) [ inl e ↦ absurd (ne (ap slot (law.is x m e))) | inr e ↦ e ]

  -- the invalidations to the members of c below n
  pub invalidates_listed : (n a : ℕ) (c : Boards) (x : Mail W) → listed same x (invalidates n a c) ≡ cond (ltb (slot x) n) (bit (is_it same x (cond (eqb (owner x) a) (mark_mail a (slot x) (marks c (slot x))) absent))) 0
  invalidates_listed zero a c x = grind (arith, facts)
  invalidates_listed (suc n) a c x =
      let h = invalidates_listed n a c x in
      let k = listed_app x (invalidates n a c) (cond (has c n) (invalidate a n ∷ []) []) in
      let f = not_owner x (invalidate a n) in
      let g = not_slot x (invalidate a n) in
      grind (arith, facts)
