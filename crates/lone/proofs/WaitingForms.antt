-- The form of the requests that wait.
use Rattle.std.proofs.Common.{◌≡◌, ℕ, ◌+◌, ◌<◌, ◌≤◌, nat_le, Bool, true, false, not, ◌&&◌, ◌||◌, List, [], ◌∷◌, ◌++◌, map, length, refl, ap, ◌∙◌, sym, subst, eqb, arith}
use Rattle.std.proofs.lemmas.Bool.{and_parts, and_from, or_parts, or_from, or_cases, not_from_false, eqb-false, eqb-true, ne_eqb, true≢false}
use Rattle.std.proofs.lemmas.List.{length-map}
use Rattle.std.proofs.lemmas.Map.Steps.{length-le_from_distinct_below}
use mathlib.Core.Logic.{⊎_elim}
use Rattle.std.specs.List.{list_any, AllByRecursion, IsDistinct}
use Rattle.wire.specs.Messages.{most_hops}
use Rattle.board.specs.declared.request.Request.{Request}
use Rattle.board.specs.Expected.{waits}
use Rattle.lone.specs.Forms.{another, waiting_form}
use Rattle.lone.proofs.Others.{another_is}

abbrev pub askers : List Request → List ℕ
askers rs = map (λ r. r.asker) rs

module _ (boards me : ℕ) where
  pub record FirstTold (r : Request) (rs : List Request) : Type 0 where
    pub asker : another boards me r.asker ≡ true
    pub hops : nat_le r.hops most_hops ≡ true
    pub apart : waits r.asker rs ≡ false
    pub rest : waiting_form boards me rs ≡ true

  pub first_told : (r : Request) (rs : List Request) → waiting_form boards me (r ∷ rs) ≡ true → FirstTold r rs
  first_told r rs w =
      let a = and_parts (another boards me r.asker && nat_le r.hops most_hops && not (waits r.asker rs)) (waiting_form boards me rs) w in
      let b = and_parts (another boards me r.asker && nat_le r.hops most_hops) (not (waits r.asker rs)) a.0 in
      let c = and_parts (another boards me r.asker) (nat_le r.hops most_hops) b.0 in
      record { asker = c.0; hops = c.1; apart = grind (arith, b.1); rest = a.1 }

  pub first_kept : (r : Request) (rs : List Request) → FirstTold r rs → waiting_form boards me (r ∷ rs) ≡ true
  first_kept r rs t =
      and_from (another boards me r.asker && nat_le r.hops most_hops && not (waits r.asker rs)) (waiting_form boards me rs)
      (and_from (another boards me r.asker && nat_le r.hops most_hops) (not (waits r.asker rs)) (and_from (another boards me r.asker) (nat_le r.hops most_hops) t.asker t.hops) (not_from_false (waits r.asker rs) t.apart))
      t.rest

  still_apart : (board : ℕ) (rs : List Request) (r : Request) → waits board rs ≡ false → eqb r.asker board ≡ false → waits board (rs ++ r ∷ []) ≡ false
  still_apart board [] r h e = ap (λ (b : Bool). b || false) e
  still_apart board (q ∷ rs) r h e =
      let a = or_parts (eqb q.asker board) (waits board rs) h in
      ap (λ (b : Bool). b || waits board (rs ++ r ∷ [])) a.0 ∙ still_apart board rs r a.1 e

  -- a request of one who has none joins the others
  pub joined_kept : (rs : List Request) (r : Request) → waiting_form boards me rs ≡ true → another boards me r.asker ≡ true → nat_le r.hops most_hops ≡ true → waits r.asker rs ≡ false → waiting_form boards me (rs ++ r ∷ []) ≡ true
  joined_kept [] r w a h n = first_kept r [] (record { asker = a; hops = h; apart = refl; rest = refl })
  joined_kept (q ∷ rs) r w a h n =
      let t = first_told q rs w in
      let p = or_parts (eqb q.asker r.asker) (waits r.asker rs) n in
      first_kept q (rs ++ r ∷ []) (record {
        asker = t.asker;
        hops = t.hops;
        apart = still_apart q.asker rs r t.apart (ne_eqb r.asker q.asker (λ e. eqb-false q.asker r.asker p.0 (sym e)));
        rest = joined_kept rs r t.rest a h p.1;
      })

none_equal : (board : ℕ) (rs : List Request) → waits board rs ≡ false → AllByRecursion (λ y. eqb board y ≡ false) (askers rs)
none_equal board [] h = tt
none_equal board (r ∷ rs) h =
    let p = or_parts (eqb r.asker board) (waits board rs) h in
    (ne_eqb board r.asker (λ e. eqb-false r.asker board p.0 (sym e)), none_equal board rs p.1)

module _ (boards me : ℕ) where
  distinct : (rs : List Request) → waiting_form boards me rs ≡ true → IsDistinct eqb (askers rs)
  unfolding IsDistinct
  distinct [] w = tt
  distinct (r ∷ rs) w = let t = first_told boards me r rs w in (none_equal r.asker rs t.apart, distinct rs t.rest)

  others : (rs : List Request) → waiting_form boards me rs ≡ true → waits me rs ≡ false
  others [] w = refl
  others (r ∷ rs) w =
      let t = first_told boards me r rs w in
      or_from (eqb r.asker me) (waits me rs) (another_is boards me r.asker t.asker).1 (others rs t.rest)

  all_below : (rs : List Request) → waiting_form boards me rs ≡ true → (board : ℕ) → list_any (eqb board) (askers rs) ≡ true → board < boards
  all_below [] w board h = absurd (true≢false (sym h))
  all_below (r ∷ rs) w board h =
      let t = first_told boards me r rs w in
      let a = another_is boards me r.asker t.asker in
      ⊎_elim (λ e. subst (λ (x : ℕ). x < boards) (sym (eqb-true board r.asker e)) a.0) (λ e. all_below rs t.rest board e) (or_cases (eqb board r.asker) (list_any (eqb board) (askers rs)) h)

  -- beside the board itself and the asker of a request that may join there is room for those that wait
  pub crowd : (rs : List Request) (asker : ℕ) → waiting_form boards me rs ≡ true → me < boards → another boards me asker ≡ true → waits asker rs ≡ false → length rs + 2 ≤ boards
  unfolding IsDistinct
  crowd rs asker w l a n =
      let is = another_is boards me asker a in
      let apart : IsDistinct eqb (me ∷ asker ∷ askers rs) = distinct_more in
      let few = length-le_from_distinct_below (me ∷ asker ∷ askers rs) boards apart below in
      omega (arith, few, length-map rs (λ r. r.asker))
    where
      distinct_more : IsDistinct eqb (me ∷ asker ∷ askers rs)
      distinct_more =
          ((ne_eqb me asker (λ e. eqb-false asker me (another_is boards me asker a).1 (sym e)), none_equal me rs (others rs w)), (none_equal asker rs n, distinct rs w))

      below : (board : ℕ) → list_any (eqb board) (me ∷ asker ∷ askers rs) ≡ true → board < boards
      below board h =
          ⊎_elim (λ e. subst (λ (x : ℕ). x < boards) (sym (eqb-true board me e)) l)
          (λ h2. ⊎_elim (λ e. subst (λ (x : ℕ). x < boards) (sym (eqb-true board asker e)) (another_is boards me asker a).0) (λ e. all_below rs w board e) (or_cases (eqb board asker) (list_any (eqb board) (askers rs)) h2))
          (or_cases (eqb board me) (list_any (eqb board) (asker ∷ askers rs)) h)
