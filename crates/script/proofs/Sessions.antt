-- The accesses in a script are one memory: the calls that it carries out are a history of its kit.
use Rattle.std.proofs.Common.{◌≡◌, ℕ, Bool, true, false, cond, List, [], ◌∷◌, ◌++◌, Some, None, refl, sym, subst}
use Rattle.std.proofs.lemmas.Option.{same_Some}
use Rattle.wire.specs.Links.{largest_limit}
use Rattle.wire.specs.Questions.{first_no}
use Rattle.memory.specs.Calls.{Running as State}
use Rattle.memory.specs.Kits.{start_kit}
use Rattle.memory.specs.Reached.{MayBegin, Reached, started}
use Rattle.memory.proofs.OneMemory.{is_one_memory, is_willing}
use Rattle.kit.proofs.Beginnings.{made_may}
use Rattle.script.specs.Benches.{over_link}
use Rattle.script.specs.Plays.{Bench, no_kit, loading, running, Done, Outcome, accepted, refused, outcome, after, ends, carried_out, record_questions}
use Rattle.script.specs.Records.{form, records}
use Rattle.script.specs.Sessions.{Deed, deed_of, deeds_by, words_after, history_of, OneMemorySince, KeepsOneMemory, DeedsAreOneMemory, SessionKeepsOneMemory}
use Rattle.script.specs.declared.answer.Answer.TheVariants.{Made}
use Rattle.script.specs.declared.call.Call.{Call}
use Rattle.script.specs.declared.call.Call.TheVariants.{Kit as MakeKit, Place, Run}
use Rattle.script.specs.declared.call.KitPlan.{KitPlan}
use Rattle.script.proofs.Deeds.{deeds_more, was_carried}
use Rattle.script.proofs.Refusals.{no_deed}
use Rattle.script.proofs.Since.{first, Since, started_since, all_since}

module _ (plan : KitPlan) where
  -- what was done since is one memory
  keeps : (ds : List Deed) → MayBegin plan.boards plan.pages largest_limit (words_after [] ds) → (s : State) →
      Reached (first plan (words_after [] ds)) (history_of ds) s →
      KeepsOneMemory plan (words_after [] ds) (history_of ds)
  keeps ds may s reached = record {
    state = s;
    reached = reached;
    one_memory = is_one_memory plan.boards plan.pages largest_limit (words_after [] ds) may (history_of ds) s reached;
    willing = is_willing plan.boards plan.pages largest_limit (words_after [] ds) may (history_of ds) s reached;
  }

  one_memory_since : (s : Bench) (ds : List Deed) → Since plan s ds → OneMemorySince (Made plan) ds
  one_memory_since no_kit ds since = absurd since.tells
  one_memory_since (loading link k) ds since =
      keeps ds since.may (over_link k []) (started_since plan link k ds since)
  one_memory_since (running link k row) ds since = keeps ds since.may (over_link k row) since.tells

-- Before a kit is made nothing is carried out but the record that makes it.
made_first : (rs : List (List ℕ)) (call : Call) (done : Done) → first_no (record_questions no_kit (Some call)) ≡ None →
    carried_out no_kit call ≡ Some done → OneMemorySince done.answer (deeds_by done.bench rs)
made_first rs (MakeKit plan) done passed e =
    let made = loading plan.link (start_kit plan.boards plan.pages) in
    let since : Since plan made [] = record {
      may = (made_may plan.boards plan.pages largest_limit 0 passed).0;
      tells = (refl, λ ws. started);
    } in
    let all = all_since plan rs made [] since in
    subst (λ (d : Done). OneMemorySince d.answer (deeds_by d.bench rs)) (same_Some _ done e)
    (one_memory_since plan all.0 (deeds_by made rs) all.1)
made_first rs (Place address word) done passed e = cc
made_first rs (Run call) done passed e = cc

first_record : (r : List ℕ) (rs : List (List ℕ)) → DeedsAreOneMemory (deeds_by no_kit rs) → (o : Outcome) →
    outcome no_kit r ≡ o → DeedsAreOneMemory (deed_of (form r) o ++ cond (ends o r) [] (deeds_by (after no_kit o) rs))
first_record r rs more (accepted done) q =
    let was = was_carried no_kit (form r) done q in made_first rs was.0 done was.2 was.3
first_record r rs more (refused n) q =
    subst (λ xs. DeedsAreOneMemory (xs ++ cond (ends (refused n) r) [] (deeds_by no_kit rs)))
    (sym (no_deed (form r) n q)) (ended (ends (refused n) r))
  where
    ended : (b : Bool) → DeedsAreOneMemory (cond b [] (deeds_by no_kit rs))
    ended true = tt
    ended false = more

pub from_start : (rs : List (List ℕ)) → DeedsAreOneMemory (deeds_by no_kit rs)
from_start [] = tt
from_start (r ∷ rs) = rw (deeds_more no_kit r rs) (first_record r rs (from_start rs) (outcome no_kit r) refl)

pub session_keeps : (script : List ℕ) → SessionKeepsOneMemory script
session_keeps script = from_start (records script)
