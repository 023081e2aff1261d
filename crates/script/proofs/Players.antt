-- What a player answers, record by record, is the listing.
use Rattle.std.proofs.Common.{◌≡◌, ℕ, zero, suc, ◌<◌, ◌≤◌, min, Bool, true, false, cond, eqb, List, [], ◌∷◌, ◌++◌, length, take, drop, Some, None, Ok, Err, Option, refl, sym, ap, ◌∙◌, ◌⊎◌, inl, inr, arith}
use Rattle.std.proofs.lemmas.List.{take-append-drop, length-take, length-drop}
use Rattle.std.proofs.lemmas.List.Elements.{All-nil, All-cons, All-head, All-tail}
use Rattle.std.specs.List.{All}
use Rattle.std.specs.Option.{option_and_then}
use Rattle.wire.specs.Faults.{number}
use Rattle.wire.specs.declared.fault.Fault.{Fault}
use Rattle.script.proofs.Scripts.{records_more}
use Rattle.script.proofs.Sessions.{from_start}
use Rattle.script.proofs.Walks.{walk_more}
use Rattle.script.specs.Benches.{bench_of}
use Rattle.script.specs.Laws.{LinesAreAnswers, LinesAreListings}
use Rattle.script.specs.Lines.{line_of, refused_line, text}
use Rattle.script.specs.Players.{Play, on, over, play_of, standing, comes_of, reply, reply_by, next, carried_out_by, next_all, said, lines, HasPlayed, Answers}
use Rattle.script.specs.Plays.{Bench, no_kit, Done, Outcome, accepted, refused, decided, outcome, line, after, ends, answers, carried_out}
use Rattle.script.specs.Records.{records, form}
use Rattle.script.specs.Turns.{Turns}
use Rattle.script.specs.declared.answer.Answer.{Answer}
use Rattle.script.specs.declared.line.Line.{Line}
use Rattle.script.specs.declared.player.Player.{Player}

next_more : (p : Play) (given : List (List ℕ)) (chars : List ℕ) →
    next_all p (given ++ chars ∷ []) ≡ next (next_all p given) chars
next_more p [] chars = refl
next_more p (r ∷ rs) chars = next_more (next p r) rs chars

module _ (chars : List ℕ) (before left : Player) where
  has_played : play_of left ≡ next (play_of before) chars → (given : List (List ℕ)) → HasPlayed given before →
      HasPlayed (given ++ chars ∷ []) left
  has_played play given h = record {
    play = play ∙ ap (λ p. next p chars) h.play ∙ sym (next_more (on no_kit) given chars);
    one_memory = from_start (given ++ chars ∷ []);
  }

  answers_by : (answer : Option (List ℕ)) → answer ≡ reply (play_of before) chars →
      play_of left ≡ next (play_of before) chars →
      (carried_out_by (comes_of (play_of before) chars) ≡ None → standing left ≡ standing before) →
      Answers chars before answer left
  answers_by answer line play unchanged =
      record { line = line; play = play; unchanged = unchanged; kept = has_played play }

pub has_characters : (chars : List ℕ) → eqb (length chars) 0 ≡ false → 0 < length chars
has_characters [] h = cc
has_characters (c ∷ cs) h = omega arith

-- nothing comes of no characters, or where the play is over
nothing_of : (b : Bool) (s : Bench) (chars : List ℕ) → (b ≡ true) ⊎ (length chars ≡ 0) →
    let p = cond b over (on s) in (None ≡ reply p chars) × (p ≡ next p chars)
nothing_of true s chars h = (refl, refl)
nothing_of false s [] h = (refl, refl)
nothing_of false s (c ∷ cs) (inl e) = cc
nothing_of false s (c ∷ cs) (inr e) = absurd (omega (arith, e))

pub no_answer : (chars : List ℕ) (p : Player) → (p.is_over ≡ true) ⊎ (length chars ≡ 0) → Answers chars p None p
no_answer chars p h =
    let none = nothing_of p.is_over (bench_of p.bench) chars h in
    answers_by chars p p None none.0 none.1 (λ e. refl)

-- a record that is given while the play goes on
module _ (s : Bench) (chars : List ℕ) (some : 0 < length chars) (p : Play) (going : p ≡ on s) where
  comes : comes_of p chars ≡ Some (outcome s chars)
  comes = ap (λ x. comes_of x chars) going ∙ by chars some
    where
      by : (cs : List ℕ) → 0 < length cs → comes_of (on s) cs ≡ Some (outcome s cs)
      by [] h = absurd (omega (arith, h))
      by (c ∷ cs) h = refl

  leads : next p chars ≡ cond (ends (outcome s chars) chars) over (on (after s (outcome s chars)))
  leads = ap (λ x. next x chars) going ∙ by chars some
    where
      by : (cs : List ℕ) → 0 < length cs → next (on s) cs
          ≡ cond (ends (outcome s cs) cs) over (on (after s (outcome s cs)))
      by [] h = absurd (omega (arith, h))
      by (c ∷ cs) h = refl

module _ (chars : List ℕ) (before left : Player) (some : 0 < length chars) (going : before.is_over ≡ false) where
  abbrev s : Bench
  s = bench_of before.bench

  goes : play_of before ≡ on s
  goes = ap (λ b. cond b over (on s)) going

  by_outcome : (o : Outcome) → outcome s chars ≡ o → (l : Line) → l ≡ line o → (answer : Option (List ℕ)) →
      answer ≡ Some (text l) → left.is_over ≡ ends o chars → bench_of left.bench ≡ after s o →
      (carried_out_by (Some o) ≡ None → standing left ≡ standing before) → Answers chars before answer left
  by_outcome o e l is answer shown ended bench unchanged =
      let come = comes s chars some (play_of before) goes in
      let lead = leads s chars some (play_of before) goes in
      answers_by chars before left answer (shown ∙ rw (is, come, e) refl) (rw (lead, e, ended, bench) refl)
      (λ none. unchanged (rw (come, e) at none))

  pub answers_done : (a : Answer) (l : Line) (answer : Option (List ℕ)) →
      Turns (form chars) before.bench (Ok a) left.bench → l ≡ line_of a → answer ≡ Some (text l) →
      left.is_over ≡ false → Answers chars before answer left
  answers_done a l answer turns is shown ended =
      let done : Done = record { answer = a; posted = turns.done.0; bench = bench_of left.bench } in
      let out : outcome s chars ≡ accepted done =
      ap (λ (q : Option ℕ). decided q (option_and_then (carried_out s) (form chars))) (sym turns.refused)
      ∙ ap (decided None) turns.done.1 in
      by_outcome (accepted done) out l is answer shown ended refl (λ never. cc)

  pub answers_refusal : (fault : Fault) (l : Line) (answer : Option (List ℕ)) →
      Turns (form chars) before.bench (Err fault) left.bench → l ≡ refused_line (number fault) →
      answer ≡ Some (text l) →
      left.is_over ≡ ends (refused (number fault)) chars → Answers chars before answer left
  answers_refusal fault l answer turns is shown ended =
      let out : outcome s chars ≡ refused (number fault) =
      ap (λ (q : Option ℕ). decided q (option_and_then (carried_out s) (form chars))) (sym turns.refused) in
      by_outcome (refused (number fault)) out l is answer shown ended (ap bench_of turns.kept) (λ none. turns.kept)

-- The lines of a script.

pub over_says_nothing : (rs : List (List ℕ)) → lines over rs ≡ []
over_says_nothing [] = refl
over_says_nothing (r ∷ rs) = over_says_nothing rs

-- the first record, which has characters, comes before the others
one_line : (s : Bench) (r : List ℕ) (rs : List (List ℕ)) → 0 < length r →
    ((t : Bench) → lines (on t) rs ≡ answers t rs) → lines (on s) (r ∷ rs) ≡ answers s (r ∷ rs)
one_line s r rs some more =
    (λ i. said (reply_by (comes s r some (on s) refl i)) ++ lines (leads s r some (on s) refl i) rs)
    ∙ ap (λ (xs : List ℕ). text (line (outcome s r)) ++ xs) (rest (ends (outcome s r) r))
    ∙ sym (walk_more (λ (o : Outcome). text (line o)) s r rs)
  where
    rest : (b : Bool) → lines (cond b over (on (after s (outcome s r)))) rs
        ≡ cond b [] (answers (after s (outcome s r)) rs)
    rest true = over_says_nothing rs
    rest false = more (after s (outcome s r))

pub lines_are_answers : LinesAreAnswers
lines_are_answers s [] each = refl
lines_are_answers s (r ∷ rs) each =
    one_line s r rs (All-head (λ x. 0 < length x) r rs each)
    (λ t. lines_are_answers t rs (All-tail (λ x. 0 < length x) r rs each))

-- each record of a script has a character
each_has : (n : ℕ) (script : List ℕ) → length script ≤ n → All (λ r. 0 < length r) (records script)
each_has n [] h = All-nil (λ r. 0 < length r)
each_has zero (c ∷ cs) h = absurd (omega (arith, h))
each_has (suc n) (c ∷ cs) h =
    let script = c ∷ cs in
    let first = take 16 script in
    let left = drop 16 script in
    let size : length first ≡ min 16 (length script) = length-take 16 script in
    let more = records_more script first left (sym (take-append-drop 16 script)) size (omega arith) in
    rw more.0 (All-cons (λ r. 0 < length r) first (records left) (omega (arith, size))
    (each_has n left (omega (arith, length-drop 16 script, h))))

pub lines_are_listings : LinesAreListings
lines_are_listings script =
    lines_are_answers no_kit (records script) (each_has (length script) script (omega arith))
