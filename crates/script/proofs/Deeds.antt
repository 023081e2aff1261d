-- What records do, one after another.
use Rattle.std.proofs.Common.{◌≡◌, ℕ, Bool, true, false, cond, List, [], ◌∷◌, ◌++◌, Some, None, Option, refl, ap, ◌∙◌, sym, append_assoc, append-nil, option_and_then}
use Rattle.std.specs.List.{flat_map, zip}
use Rattle.wire.specs.Questions.{first_no}
use Rattle.memory.specs.declared.placement.Placement.{Placement}
use Rattle.script.specs.Laws.{DeedsAgree}
use Rattle.script.specs.Players.{on, over, deeds}
use Rattle.script.specs.Plays.{Bench, Done, Outcome, accepted, decided, outcome, outcomes, after, ends, carried_out, record_questions}
use Rattle.script.specs.Records.{form}
use Rattle.script.specs.Sessions.{Deed, deed_of, deeds_by, placed_in, words_after, events_of, history_of}
use Rattle.script.specs.declared.call.Call.{Call}

-- What records do, when the first of them is taken apart.
unless : (b : Bool) (rs : List (List ℕ)) (os : List Outcome) →
    flat_map (λ (r, o). deed_of (form r) o) (zip rs (cond b [] os))
    ≡ cond b [] (flat_map (λ (r, o). deed_of (form r) o) (zip rs os))
unless true [] os = refl
unless true (r ∷ rs) os = refl
unless false rs os = refl

pub deeds_more : (s : Bench) (r : List ℕ) (rs : List (List ℕ)) →
    deeds_by s (r ∷ rs)
    ≡ deed_of (form r) (outcome s r) ++ cond (ends (outcome s r) r) [] (deeds_by (after s (outcome s r)) rs)
deeds_more s r rs =
    ap (λ (ds : List Deed). deed_of (form r) (outcome s r) ++ ds)
    (unless (ends (outcome s r) r) rs (outcomes (after s (outcome s r)) rs))

-- What a player does.

over_does_nothing : (rs : List (List ℕ)) → deeds over rs ≡ []
over_does_nothing [] = refl
over_does_nothing (r ∷ rs) = over_does_nothing rs

pub deeds_agree : DeedsAgree
deeds_agree s [] = refl
deeds_agree s ([] ∷ rs) = deeds_agree s rs ∙ sym (deeds_more s [] rs)
deeds_agree s ((c ∷ cs) ∷ rs) =
    let r = c ∷ cs in
    ap (λ (ds : List Deed). deed_of (form r) (outcome s r) ++ ds)
    (rest (ends (outcome s r) r) (deeds_agree (after s (outcome s r)) rs)) ∙ sym (deeds_more s r rs)
  where
    rest : (b : Bool) → deeds (on (after s (outcome s (c ∷ cs)))) rs ≡ deeds_by (after s (outcome s (c ∷ cs))) rs →
        deeds (cond b over (on (after s (outcome s (c ∷ cs))))) rs
        ≡ cond b [] (deeds_by (after s (outcome s (c ∷ cs))) rs)
    rest true more = over_does_nothing rs
    rest false more = more

-- Lists of what was done, with one thing more.

pub words_more : (words : List Placement) (ds : List Deed) (d : Deed) →
    words_after words (ds ++ d ∷ []) ≡ placed_in d (words_after words ds)
words_more words [] d = refl
words_more words (x ∷ ds) d = words_more (placed_in x words) ds d

pub history_more : (ds : List Deed) (d : Deed) → history_of (ds ++ d ∷ []) ≡ history_of ds ++ events_of d
history_more [] d = append-nil (events_of d)
history_more (x ∷ ds) d =
    ap (λ h. events_of x ++ h) (history_more ds d) ∙ sym (append_assoc (events_of x) (history_of ds) (events_of d))

-- the call of a record that is carried out
pub was_carried : (s : Bench) (o : Option Call) (done : Done) →
    decided (first_no (record_questions s o)) (option_and_then (carried_out s) o) ≡ accepted done →
    (call : Call) × (o ≡ Some call) × (first_no (record_questions s (Some call)) ≡ None)
    × (carried_out s call ≡ Some done)
was_carried s None done q = cc
was_carried s (Some call) done q =
    let both = by (first_no (record_questions s (Some call))) (carried_out s call) q in (call, refl, both.0, both.1)
  where
    by : (n : Option ℕ) (d : Option Done) → decided n d ≡ accepted done → (n ≡ None) × (d ≡ Some done)
    by (Some n) d h = cc
    by None (Some d) h = (refl, cc)
    by None None h = cc
