-- Messages that keep their form, and name boards and a page of the kit alone.
use Rattle.std.proofs.Common.{◌≡◌, ℕ, ◌<◌, Bool, true, false, cond, ◌&&◌, eqb, nat_lt, List, [], ◌∷◌, length, Some, None, Option, refl, ap, ◌∙◌, sym, arith}
use Rattle.std.proofs.lemmas.Bool.{and_parts, lt-ltb, ltb-true, eqb-true, true≢false}
use Rattle.std.specs.List.{AllByRecursion as All}
use Rattle.wire.specs.Bags.{Bag, ◌&◌, ◌⊕◌, total}
use Rattle.wire.specs.BoardSets.{is_below}
use Rattle.wire.specs.Questions.{first_no}
use Rattle.wire.specs.declared.message.Message.{Message}
use Rattle.records.specs.Forms.{message_questions}
use Rattle.lone.specs.PostLaws.{GoodPost}
use Rattle.memory.proofs.images.Bags.{total_beside}
use Rattle.memory.proofs.images.Posts.{Whole}

abbrev passes : Option ℕ → Bool
passes None = true
passes (Some number) = false

pub record Fitting (n p : ℕ) (m : Message) : Type 0 where
  pub form : first_no (message_questions m) ≡ None
  pub from : m.from < n
  pub to : m.to < n
  pub asker : m.asker < n
  pub copies : is_below m.copies n ≡ true
  pub page : m.page < p
  pub whole : length m.copies.members ≡ 16

passed : (o : Option ℕ) → passes o ≡ true → o ≡ None
passed None h = refl
passed (Some number) h = absurd (true≢false (sym h))

module _ (n p : ℕ) where
  -- the same as a test
  unfoldable pub fitting : Message → Bool
  fitting m = (((((passes (first_no (message_questions m)) && nat_lt m.from n) && nat_lt m.to n) && nat_lt m.asker n) && is_below m.copies n) && nat_lt m.page p) && eqb (length m.copies.members) 16

  fitting_told : (m : Message) → fitting m ≡ true → Fitting n p m
  unfolding fitting
  fitting_told m h =
      let f = passes (first_no (message_questions m)) in
      let a = and_parts (((((f && nat_lt m.from n) && nat_lt m.to n) && nat_lt m.asker n) && is_below m.copies n) && nat_lt m.page p) (eqb (length m.copies.members) 16) h in
      let b = and_parts ((((f && nat_lt m.from n) && nat_lt m.to n) && nat_lt m.asker n) && is_below m.copies n) (nat_lt m.page p) a.0 in
      let c = and_parts (((f && nat_lt m.from n) && nat_lt m.to n) && nat_lt m.asker n) (is_below m.copies n) b.0 in
      let d = and_parts ((f && nat_lt m.from n) && nat_lt m.to n) (nat_lt m.asker n) c.0 in
      let e = and_parts (f && nat_lt m.from n) (nat_lt m.to n) d.0 in
      let g = and_parts f (nat_lt m.from n) e.0 in
      record {
        form = passed (first_no (message_questions m)) g.0;
        from = ltb-true m.from n g.1;
        to = ltb-true m.to n e.1;
        asker = ltb-true m.asker n d.1;
        copies = c.1;
        page = ltb-true m.page p b.1;
        whole = eqb-true (length m.copies.members) 16 a.1;
      }

  fitting_kept : (m : Message) → Fitting n p m → fitting m ≡ true
  unfolding fitting
  fitting_kept m t = rw (t.form, lt-ltb m.from n t.from, lt-ltb m.to n t.to, lt-ltb m.asker n t.asker, t.copies, lt-ltb m.page p t.page, t.whole) refl

  abbrev unfit : Message → ℕ
  unfit m = cond (fitting m) 0 1

  -- every message that waits
  pub record AllFit (waiting : Bag Message) : Type 0 where
    pub none_unfit : total unfit waiting ≡ 0

  fit_or_not : (m : Message) (b : Bool) → fitting m ≡ b → unfit m ≡ 0 → fitting m ≡ true
  fit_or_not m true e z = e
  fit_or_not m false e z = absurd (let one : unfit m ≡ 1 = ap (λ (x : Bool). cond x 0 1) e in omega (arith, one, z))

  -- one that is taken, and the rest
  pub one_fits : (m : Message) (rest waiting : Bag Message) → waiting ≡ m & rest → AllFit waiting → Fitting n p m
  one_fits m rest waiting e all = fitting_told m (fit_or_not m (fitting m) refl (let z = ap (total unfit) e in let y = all.none_unfit in omega arith))

  pub rest_fits : (m : Message) (rest waiting : Bag Message) → waiting ≡ m & rest → AllFit waiting → AllFit rest
  rest_fits m rest waiting e all = record { none_unfit = (let z = ap (total unfit) e in let y = all.none_unfit in omega arith) }

  -- those that are posted
  each_fits : (me : ℕ) → me < n → (ms : List Message) → All (GoodPost n p me) ms → All Whole ms → All (λ m. unfit m ≡ 0) ms
  each_fits me l [] h w = tt
  each_fits me l (m ∷ ms) h w = (
    ap (λ (x : Bool). cond x 0 1) (fitting_kept m (record { form = h.0.form; from = omega (arith, h.0.from, l); to = h.0.to; asker = h.0.asker; copies = h.0.copies; page = h.0.page; whole = w.0 })),
    each_fits me l ms h.1 w.1,
  )

  pub posts_fit : (me : ℕ) → me < n → (ms : List Message) (waiting : Bag Message) → All (GoodPost n p me) ms → All Whole ms → AllFit waiting → AllFit (ms ⊕ waiting)
  posts_fit me l ms waiting h w all = record { none_unfit = total_beside unfit ms waiting (each_fits me l ms h w) ∙ all.none_unfit }
