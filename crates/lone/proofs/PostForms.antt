-- The messages that a board posts have their form, and stay in the kit.
use Rattle.std.proofs.Common.{◌≡◌, ℕ, ◌+◌, ◌<◌, ◌≤◌, min, nat_le, nat_lt, Bool, true, false, not, cond, ◌&&◌, List, [], ◌∷◌, None, ◌++◌, map, refl, ap, ◌∙◌, sym, eqb, arith}
use Rattle.std.proofs.lemmas.Bool.{and_from, not_from_false, lt-ltb, le-leb, leb-true, eqb-false, ne_eqb, eq-eqb, true≢false}
use Rattle.std.specs.List.{AllByRecursion, filter, range_with_len}
use Rattle.wire.specs.BoardSets.{has, is_below, without_member}
use Rattle.wire.specs.Kinds.{kind_number}
use Rattle.wire.specs.Messages.{most_hops}
use Rattle.wire.specs.Questions.{first_no, inside}
use Rattle.wire.specs.declared.board_set.BoardSet.{BoardSet}
use Rattle.wire.specs.declared.message.Message.{Message}
use Rattle.wire.specs.declared.message.Kind.{Kind}
use Rattle.wire.specs.declared.message.Kind.TheVariants.{ReadRequest, WriteRequest, Copy, Grant, Invalidate, Acknowledgement}
use Rattle.wire.proofs.BoardSets.{lacks, member_below, below_none, below_without}
use Rattle.records.specs.Forms.{has_parties, in_range, kind_form, message_questions}
use Rattle.board.specs.declared.entry.PageEntry.{PageEntry}
use Rattle.board.specs.declared.request.AccessKind.{AccessKind}
use Rattle.board.specs.declared.request.AccessKind.TheVariants.{Load, Store}
use Rattle.board.specs.declared.request.Request.{Request}
use Rattle.board.specs.Posts.{own_request, request_on, copy_for, grant_for, invalidate, invalidates, acknowledgement}
use Rattle.board.specs.Serving.{owns, served, served_by_owner, passed_on, posts_for}
use Rattle.lone.specs.Forms.{another, waiting_form}
use Rattle.lone.specs.PostLaws.{GoodPost}
use Rattle.lone.proofs.Others.{another_is}
use Rattle.lone.proofs.EntryForms.{EntryTold, served_kept}
use Rattle.lone.proofs.WaitingForms.{first_told}

a_kind : (kind : Kind) → inside 1 6 (kind_number kind) ≡ true
a_kind ReadRequest = refl
a_kind WriteRequest = refl
a_kind Copy = refl
a_kind Grant = refl
a_kind Invalidate = refl
a_kind Acknowledgement = refl

formed : (m : Message) → has_parties m ≡ true → in_range m ≡ true → kind_form m ≡ true → first_no (message_questions m) ≡ None
formed m p r k = rw (a_kind m.kind, p, r, k) refl

parties : (m : Message) → m.from < 16 → m.to < 16 → m.asker < 16 → (m.from ≡ m.to → ⊥) → has_parties m ≡ true
parties m f t a n =
    and_from (nat_lt m.from 16 && nat_lt m.to 16 && nat_lt m.asker 16) (not (eqb m.from m.to))
    (and_from (nat_lt m.from 16 && nat_lt m.to 16) (nat_lt m.asker 16) (and_from (nat_lt m.from 16) (nat_lt m.to 16) (lt-ltb m.from 16 f) (lt-ltb m.to 16 t)) (lt-ltb m.asker 16 a))
    (not_from_false (eqb m.from m.to) (ne_eqb m.from m.to n))

range : (m : Message) → m.page < 16 → m.hops ≤ 14 → in_range m ≡ true
range m p h = and_from (nat_lt m.page 16) (nat_le m.hops most_hops) (lt-ltb m.page 16 p) (le-leb m.hops most_hops h)

module _ (boards pages me page : ℕ) (narrow : boards ≤ 16) (few : pages ≤ 16) (mine : me < boards) (inside : page < pages) where
  -- another of the boards
  other : (board : ℕ) → another boards me board ≡ true → (board < boards) × (board ≡ me → ⊥)
  other board a = let is = another_is boards me board a in (is.0, eqb-false board me is.1)

  good : (m : Message) → m.from ≡ me → m.page ≡ page → m.to < boards → (m.to ≡ me → ⊥) → m.asker < boards → is_below m.copies boards ≡ true → m.hops ≤ 14 → kind_form m ≡ true → GoodPost boards pages me m
  good m f p t n a c h k = record {
    form = formed m (parties m (omega (arith, f, mine, narrow)) (omega (arith, t, narrow)) (omega (arith, a, narrow)) (λ e. n (sym e ∙ f))) (range m (omega (arith, p, inside, few)) h) k;
    from = f;
    to = t;
    asker = a;
    copies = c;
    page = omega (arith, p, inside);
  }

  bare : (kind : AccessKind) (from to asker hops : ℕ) → kind_form (record (own_request kind from page to) { asker = asker; hops = hops }) ≡ true
  bare Load from to asker hops = refl
  bare Store from to asker hops = refl

  pub own_good : (kind : AccessKind) (hint : ℕ) → hint < boards → (hint ≡ me → ⊥) → GoodPost boards pages me (own_request kind me page hint)
  own_good kind hint l n = good (own_request kind me page hint) refl refl l n mine (below_none boards) (omega arith) (bare kind me hint me 0)

  on_good : (r : Request) (hint : ℕ) → another boards me r.asker ≡ true → hint < boards → (hint ≡ me → ⊥) → GoodPost boards pages me (request_on me page hint r)
  on_good r hint a l n =
      good (request_on me page hint r) refl refl l n (other r.asker a).0 (below_none boards) (omega arith) (bare r.kind me hint r.asker (min most_hops (r.hops + 1)))

  copy_good : (e : PageEntry) (r : Request) → another boards me r.asker ≡ true → r.hops ≤ 14 → GoodPost boards pages me (copy_for me page e r)
  copy_good e r a h = let o = other r.asker a in good (copy_for me page e r) refl refl o.0 o.1 o.0 (below_none boards) h (eq-eqb r.asker r.asker refl)

  grant_good : (e : PageEntry) (r : Request) → another boards me r.asker ≡ true → r.hops ≤ 14 → is_below e.copies boards ≡ true → GoodPost boards pages me (grant_for me page e r)
  grant_good e r a h c =
      let o = other r.asker a in
      good (grant_for me page e r) refl refl o.0 o.1 o.0 (below_without e.copies r.asker boards c) h
      (and_from (not (has (without_member e.copies r.asker) r.asker)) (eqb r.asker r.asker) (not_from_false (has (without_member e.copies r.asker) r.asker) (lacks e.copies r.asker)) (eq-eqb r.asker r.asker refl))

  invalidate_good : (to : ℕ) → to < boards → (to ≡ me → ⊥) → GoodPost boards pages me (invalidate me page to)
  invalidate_good to l n = good (invalidate me page to) refl refl l n mine (below_none boards) (omega arith) (and_from (eqb me me) true (eq-eqb me me refl) refl)

  pub acknowledgement_good : (to : ℕ) → another boards me to ≡ true → GoodPost boards pages me (acknowledgement me page to)
  acknowledgement_good to a =
      let o = other to a in good (acknowledgement me page to) refl refl o.0 o.1 o.0 (below_none boards) (omega arith) (and_from (eqb to to) true (eq-eqb to to refl) refl)

  by_owner : (kind : AccessKind) (e : PageEntry) (r : Request) → another boards me r.asker ≡ true → r.hops ≤ 14 → EntryTold boards me e → GoodPost boards pages me (served_by_owner kind me page e r).post
  by_owner Load e r a h t = copy_good e r a h
  by_owner Store e r a h t = grant_good e r a h t.copies

  by : (b : Bool) (e : PageEntry) (r : Request) → owns me e ≡ b → another boards me r.asker ≡ true → r.hops ≤ 14 → EntryTold boards me e →
      GoodPost boards pages me (cond b (served_by_owner r.kind me page e r) (passed_on me page e r)).post
  by true e r o a h t = by_owner r.kind e r a h t
  by false e r o a h t = on_good r e.hint a t.hint (eqb-false e.hint me o)

  pub served_good : (e : PageEntry) (r : Request) → another boards me r.asker ≡ true → r.hops ≤ 14 → EntryTold boards me e → GoodPost boards pages me (served me page e r).post
  served_good e r a h t = by (owns me e) e r refl a h t

  pub all_good : (e : PageEntry) (rs : List Request) → waiting_form boards me rs ≡ true → EntryTold boards me e → AllByRecursion (GoodPost boards pages me) (posts_for me page e rs)
  all_good e [] w t = tt
  all_good e (r ∷ rs) w t =
      let f = first_told boards me r rs w in
      (served_good e r f.asker (leb-true r.hops most_hops f.hops) t, all_good (served me page e r).entry rs f.rest (served_kept boards me page e r f.asker t))

  member_good : (copies : BoardSet) (x : ℕ) (bs : List ℕ) (t : Bool) → has copies x ≡ t → is_below copies boards ≡ true → has copies me ≡ false →
      AllByRecursion (GoodPost boards pages me) (map (invalidate me page) (filter (has copies) bs)) →
      AllByRecursion (GoodPost boards pages me) (map (invalidate me page) (cond t (x ∷ filter (has copies) bs) (filter (has copies) bs)))
  member_good copies x bs true h b n rest = (invalidate_good x (member_below copies x boards b h) (λ e. true≢false (sym h ∙ ap (has copies) e ∙ n)), rest)
  member_good copies x bs false h b n rest = rest

  each_good : (copies : BoardSet) → is_below copies boards ≡ true → has copies me ≡ false → (bs : List ℕ) → AllByRecursion (GoodPost boards pages me) (map (invalidate me page) (filter (has copies) bs))
  each_good copies b n [] = tt
  each_good copies b n (x ∷ bs) = member_good copies x bs (has copies x) refl b n (each_good copies b n bs)

  pub invalidates_good : (copies : BoardSet) → is_below copies boards ≡ true → has copies me ≡ false → AllByRecursion (GoodPost boards pages me) (invalidates me page copies)
  invalidates_good copies b n = each_good copies b n (range_with_len 0 16)

pub both_good : (P : Message → Type 0) (ms ns : List Message) → AllByRecursion P ms → AllByRecursion P ns → AllByRecursion P (ms ++ ns)
both_good P [] ns h k = k
both_good P (m ∷ ms) ns h k = (h.0, both_good P ms ns h.1 k)
