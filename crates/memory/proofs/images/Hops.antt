-- A request on the link of a kit has been passed on fewer than sixteen times.
use Rattle.std.proofs.Common.{◌≡◌, ℕ, ◌<◌, ◌≤◌, Bool, true, cond, List, [], ◌∷◌, refl, ap, sym, ◌∙◌, inl, inr, eqb, arith}
use Rattle.std.proofs.lemmas.Bool.{cases_eq, eq-eqb, ne_eqb}
use Rattle.std.specs.List.{AllByRecursion as All}
use Rattle.wire.specs.Bags.{Bag}
use Rattle.memory.proofs.kept.Messages.{listed, times_post}
use Rattle.memory.proofs.kept.Delivered.{request_is}
use Rattle.memory.proofs.kept.EqualMessages.{same_mail, same_law}
use Rattle.memory.proofs.model.Board.{Kind, Mail, request, copy, grant, invalidate, acknowledge}
use Rattle.memory.proofs.model.Invariant.{Inv}
use Rattle.memory.proofs.model.Kit.{Kit, Post, Maybe, absent, just, post_all, requests, asks_of}
use Rattle.memory.proofs.model.Told.{Told, mail_of, is_it, times, owner, slot}
use Rattle.memory.proofs.model.Page.{asking, Page, busy, far}
use Rattle.memory.proofs.model.Sums.{bit}
use Rattle.memory.proofs.images.Images.{W}
use Rattle.memory.proofs.images.Serving.{FewHops}

module _ (n : ℕ) (few : n ≤ 16) (v : W) (k : Kit W) (pages : ℕ → Page W) (t : Told same_mail k pages) (p : ℕ) (i : Inv n v (pages p)) (mails : List (Mail W)) (rest : Bag (Post W)) (link : k.link ≡ post_all p mails rest) where
  -- what was posted is on its way
  on_its_way : (x : Mail W) → 0 < listed same_mail x mails → mail_of (owner x) ((pages p).journey (owner x)) (slot x) ≡ just x
  on_its_way x l =
      let count = times_post same_mail same_law p p x mails rest in
      let here : cond (eqb p p) (listed same_mail x mails) 0 ≡ listed same_mail x mails = ap (λ (b : Bool). cond b (listed same_mail x mails) 0) (eq-eqb p p refl) in
      let told = t.mails p x in
      let on = ap (λ b. total_of b) link in
      found (mail_of (owner x) ((pages p).journey (owner x)) (slot x)) refl (omega (arith, count, here, told, on, l))
    where
      total_of : Bag (Post W) → ℕ
      total_of b = times same_mail p x b

      found : (c : Maybe (Mail W)) → mail_of (owner x) ((pages p).journey (owner x)) (slot x) ≡ c → 0 < bit (is_it same_mail x c) → c ≡ just x
      found absent e l = absurd (omega arith)
      found (just y) e l = let s : same_mail x y ≡ true = grind arith in ap just (sym (same_law.is x y s))

  one : (x : Mail W) → 0 < listed same_mail x mails → FewHops x
  one (request d u a h) l =
      let e = request_is same_mail same_law n v k pages t p i rest d u a h ((pages p).journey a) (on_its_way (request d u a h) l) in
      let b = (i.core.ways.askers a (ap busy e)).bound in
      let f = ap far e in
      omega (arith, b, f, few)
  one (copy f u h w) l = tt
  one (grant f u h c w) l = tt
  one (invalidate f u) l = tt
  one (acknowledge f u) l = tt

  all : (xs : List (Mail W)) → ((x : Mail W) → 0 < listed same_mail x xs → 0 < listed same_mail x mails) → All FewHops xs
  all [] h = tt
  all (x ∷ xs) h = (
    one x (h x (let s = ap bit (same_law.self x) in omega (arith, s))),
    all xs (λ y l. h y (omega (arith, l))),
  )

  pub few_hops : All FewHops mails
  few_hops = all mails (λ x l. l)

  -- who does not ask has no request posted
  none_of : (b : ℕ) → ((d : Kind) (u h : ℕ) → (pages p).journey b ≡ asking d u h → ⊥) → (xs : List (Mail W)) → ((x : Mail W) → 0 < listed same_mail x xs → 0 < listed same_mail x mails) → requests b xs ≡ 0
  none_of b none [] h = refl
  none_of b none (x ∷ xs) h =
      let first : 0 < listed same_mail x (x ∷ xs) = (let s = ap bit (same_law.self x) in omega (arith, s)) in
      omega (arith, by x (h x first), none_of b none xs (λ y l. h y (omega (arith, l))))
    where
      by : (x : Mail W) → 0 < listed same_mail x mails → asks_of b x ≡ 0
      by (request d u a g) l = elim (cases_eq a b) [
        | inl e ↦ absurd (let j = request_is same_mail same_law n v k pages t p i rest d u a g ((pages p).journey a) (on_its_way (request d u a g) l) in none d u g (ap (pages p).journey (sym e) ∙ j))
        | inr ne ↦ ap bit (ne_eqb a b ne)
      ]
      by (copy f u g w) l = refl
      by (grant f u g c w) l = refl
      by (invalidate f u) l = refl
      by (acknowledge f u) l = refl

  pub none_asked : (b : ℕ) → ((d : Kind) (u h : ℕ) → (pages p).journey b ≡ asking d u h → ⊥) → requests b mails ≡ 0
  none_asked b none = none_of b none mails (λ x l. l)
