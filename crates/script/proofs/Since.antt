-- The bench since a kit was made: all that was done is told by its kit.
use Rattle.std.proofs.Common.{◌≡◌, ℕ, Bool, true, false, cond, List, [], ◌∷◌, ◌++◌, Some, None, Ok, Err, Option, refl, ap, ◌∙◌, sym, subst, append_assoc, append-nil, option_and_then}
use Rattle.std.proofs.lemmas.Option.{same_Some}
use Rattle.wire.specs.Links.{largest_limit}
use Rattle.wire.specs.Questions.{first_no}
use Rattle.wire.specs.Faults.{number}
use Rattle.wire.specs.declared.fault.Fault.{Fault}
use Rattle.wire.specs.declared.message.Message.{Message}
use Rattle.memory.specs.Calls.{Running as State}
use Rattle.memory.specs.Histories.{Event, History}
use Rattle.memory.specs.Kits.{Kit}
use Rattle.memory.specs.Placements.{placed, after_placing}
use Rattle.memory.specs.declared.placement.Placement.{Placement}
use Rattle.memory.specs.Reached.{MayBegin, begun, Reached, onward}
use Rattle.memory.specs.declared.call.Call.{Call as KitCall}
use Rattle.kit.specs.KitQuestions.{place_questions}
use Rattle.kit.proofs.Beginnings.{placed_may}
use Rattle.script.specs.Benches.{over_link}
use Rattle.script.specs.Plays.{Bench, no_kit, loading, running, Done, Outcome, accepted, refused, decided, outcome, after, ends, carried_out, record_questions, run_questions, ran}
use Rattle.script.specs.Records.{form}
use Rattle.script.specs.Sessions.{Deed, did, refused_access, access_fault, refused_with, refusal_of, deed_of, deeds_by, placed_by, words_after, event_of, history_of}
use Rattle.script.specs.declared.answer.Answer.{Answer}
use Rattle.script.specs.declared.answer.Answer.TheVariants.{Placed}
use Rattle.script.specs.declared.call.Call.{Call}
use Rattle.script.specs.declared.call.Call.TheVariants.{Kit as MakeKit, Place, Run}
use Rattle.script.specs.declared.call.KitPlan.{KitPlan}
use Rattle.script.specs.declared.call.LinkKind.{LinkKind}
use Rattle.script.proofs.Deeds.{deeds_more, words_more, history_more, was_carried}
use Rattle.script.proofs.Follows.{follows}
use Rattle.script.proofs.Refusals.{fault_is, was_refused, refused_does, same_run}

module _ (plan : KitPlan) where
  abbrev pub first : List Placement → State
  first words = begun plan.boards plan.pages largest_limit words

  abbrev pub Tells : Bench → List Placement → History → Type 0
  Tells no_kit words history = ⊥
  Tells (loading link k) words history =
      (k ≡ after_placing plan.boards plan.pages words)
      × ((ws : List Placement) → Reached (first ws) history (over_link (after_placing plan.boards plan.pages ws) []))
  Tells (running link k row) words history = Reached (first words) history (over_link k row)

  pub record Since (s : Bench) (ds : List Deed) : Type 0 where
    pub may : MayBegin plan.boards plan.pages largest_limit (words_after [] ds)
    pub tells : Tells s (words_after [] ds) (history_of ds)

  -- a call on the running kit
  ran_since : (k : Kit) (row : List Message) (ds : List Deed) →
      MayBegin plan.boards plan.pages largest_limit (words_after [] ds) →
      Reached (first (words_after [] ds)) (history_of ds) (over_link k row) →
      (link : LinkKind) (call : KitCall) → first_no (run_questions k call) ≡ None →
      Since (ran link k row call).bench (ds ++ did (ran link k row call) ∷ [])
  ran_since k row ds may reached link call passed =
      let done = ran link k row call in
      let f = follows plan.boards plan.pages (words_after [] ds) may (history_of ds) k row reached link call passed in
      let e : Event = record { call = call; answer = Ok f.answer; posted = done.posted } in
      let words : words_after [] (ds ++ did done ∷ []) ≡ words_after [] ds =
      words_more [] ds (did done) ∙ ap (λ (d : Done). placed_by d.answer (words_after [] ds)) f.says in
      let history : history_of (ds ++ did done ∷ []) ≡ history_of ds ++ e ∷ [] =
      history_more ds (did done) ∙ ap (λ (a : Answer). history_of ds ++ event_of a done.posted)
      (ap (λ (d : Done). d.answer) f.says) in
      record {
        may = subst (MayBegin plan.boards plan.pages largest_limit) (sym words) may;
        tells =
            subst (λ s. Tells s (words_after [] (ds ++ did done ∷ [])) (history_of (ds ++ did done ∷ [])))
            (sym (ap (λ (d : Done). d.bench) f.says))
            (subst (λ w. Reached (first w) (history_of (ds ++ did done ∷ [])) (over_link f.kit f.after)) (sym words)
            (subst (λ h. Reached (first (words_after [] ds)) h (over_link f.kit f.after)) (sym history)
            (onward e reached f.does)));
      }

  -- a word is placed
  placed_since : (link : LinkKind) (k : Kit) (ds : List Deed) → Since (loading link k) ds → (address word : ℕ) →
      first_no (place_questions k.pages address) ≡ None →
      let done : Done = record {
        answer = Placed address word;
        posted = [];
        bench = loading link (placed k address word);
      } in Since done.bench (ds ++ did done ∷ [])
  placed_since link k ds since address word passed =
      let done : Done = record {
        answer = Placed address word;
        posted = [];
        bench = loading link (placed k address word);
      } in
      let words = words_more [] ds (did done) in
      let kit = since.tells.0 in
      record {
        may =
            subst (MayBegin plan.boards plan.pages largest_limit) (sym words)
            (placed_may plan.boards plan.pages largest_limit (words_after [] ds) k address word kit passed since.may);
        tells = (
          ap (λ x. placed x address word) kit ∙ ap (after_placing plan.boards plan.pages) (sym words),
          λ ws. subst (λ h. Reached (first ws) h (over_link (after_placing plan.boards plan.pages ws) []))
              (sym (history_more ds (did done) ∙ append-nil (history_of ds))) (since.tells.1 ws),
        );
      }

  -- the kit starts
  pub started_since : (link : LinkKind) (k : Kit) (ds : List Deed) → Since (loading link k) ds →
      Reached (first (words_after [] ds)) (history_of ds) (over_link k [])
  started_since link k ds since =
      subst (λ x. Reached (first (words_after [] ds)) (history_of ds) (over_link x [])) (sym since.tells.0)
      (since.tells.1 (words_after [] ds))

  -- an access is refused
  refused_running : (link : LinkKind) (k : Kit) (row : List Message) (ds : List Deed) → Since (running link k row) ds →
      (call : KitCall) (fault : Fault) → first_no (run_questions k call) ≡ Some (number fault) →
      Since (running link k row) (ds ++ refused_access call fault ∷ [])
  refused_running link k row ds since call fault q =
      let d = refused_access call fault in
      let words : words_after [] (ds ++ d ∷ []) ≡ words_after [] ds = words_more [] ds d in
      let e : Event = record { call = call; answer = Err fault; posted = [] } in
      record {
        may = subst (MayBegin plan.boards plan.pages largest_limit) (sym words) since.may;
        tells =
            subst (λ w. Reached (first w) (history_of (ds ++ d ∷ [])) (over_link k row)) (sym words)
            (subst (λ h. Reached (first (words_after [] ds)) h (over_link k row)) (sym (history_more ds d))
            (onward e since.tells (refused_does k row call fault q)));
      }

  refused_loading : (link : LinkKind) (k : Kit) (ds : List Deed) → Since (loading link k) ds →
      (call : KitCall) (fault : Fault) → first_no (run_questions k call) ≡ Some (number fault) →
      Since (loading link k) (ds ++ refused_access call fault ∷ [])
  refused_loading link k ds since call fault q =
      let d = refused_access call fault in
      let words : words_after [] (ds ++ d ∷ []) ≡ words_after [] ds = words_more [] ds d in
      let e : Event = record { call = call; answer = Err fault; posted = [] } in
      record {
        may = subst (MayBegin plan.boards plan.pages largest_limit) (sym words) since.may;
        tells = (
          since.tells.0 ∙ ap (after_placing plan.boards plan.pages) (sym words),
          λ ws.
              let asked = same_run plan.boards plan.pages ws (words_after [] ds) call
              ∙ ap (λ x. first_no (run_questions x call)) (sym since.tells.0) ∙ q in
              subst (λ h. Reached (first ws) h (over_link (after_placing plan.boards plan.pages ws) []))
              (sym (history_more ds d)) (onward e (since.tells.1 ws)
              (refused_does (after_placing plan.boards plan.pages ws) [] call fault asked)),
        );
      }

  access_since : (s : Bench) (ds : List Deed) → Since s ds → (call : KitCall) (n : ℕ) →
      decided (first_no (record_questions s (Some (Run call)))) (carried_out s (Run call)) ≡ refused n →
      (f : Option Fault) → access_fault n ≡ f →
      Since s (ds ++ refused_with call f)
  access_since s ds since call n q None e = subst (Since s) (sym (append-nil ds)) since
  access_since no_kit ds since call n q (Some fault) e = absurd since.tells
  access_since (loading link k) ds since call n q (Some fault) e =
      refused_loading link k ds since call fault
      (was_refused (first_no (run_questions k call)) (ran link k [] call) n q
      ∙ ap (λ m. Some m) (sym (fault_is n fault e)))
  access_since (running link k row) ds since call n q (Some fault) e =
      refused_running link k row ds since call fault
      (was_refused (first_no (run_questions k call)) (ran link k row call) n q
      ∙ ap (λ m. Some m) (sym (fault_is n fault e)))

  refused_since : (s : Bench) (ds : List Deed) → Since s ds → (c : Option Call) (n : ℕ) →
      decided (first_no (record_questions s c)) (option_and_then (carried_out s) c) ≡ refused n →
      Since s (ds ++ refusal_of c n)
  refused_since s ds since None n q = subst (Since s) (sym (append-nil ds)) since
  refused_since s ds since (Some (MakeKit other)) n q = subst (Since s) (sym (append-nil ds)) since
  refused_since s ds since (Some (Place address word)) n q = subst (Since s) (sym (append-nil ds)) since
  refused_since s ds since (Some (Run call)) n q = access_since s ds since call n q (access_fault n) refl

  -- a record that is carried out
  carried_since : (s : Bench) (ds : List Deed) → Since s ds → (call : Call) (done : Done) →
      first_no (record_questions s (Some call)) ≡ None → carried_out s call ≡ Some done →
      Since done.bench (ds ++ did done ∷ [])
  carried_since no_kit ds since call done passed e = absurd since.tells
  carried_since (loading link k) ds since (MakeKit other) done passed e = cc
  carried_since (loading link k) ds since (Place address word) done passed e =
      subst (λ (d : Done). Since d.bench (ds ++ did d ∷ [])) (same_Some _ done e)
      (placed_since link k ds since address word passed)
  carried_since (loading link k) ds since (Run call) done passed e =
      subst (λ (d : Done). Since d.bench (ds ++ did d ∷ [])) (same_Some _ done e)
      (ran_since k [] ds since.may (started_since link k ds since) link call passed)
  carried_since (running link k row) ds since (MakeKit other) done passed e = cc
  carried_since (running link k row) ds since (Place address word) done passed e = cc
  carried_since (running link k row) ds since (Run call) done passed e =
      subst (λ (d : Done). Since d.bench (ds ++ did d ∷ [])) (same_Some _ done e)
      (ran_since k row ds since.may since.tells link call passed)

  -- the records that follow
  abbrev pub After : List (List ℕ) → Type 0
  After rs = (s : Bench) (ds : List Deed) → Since s ds → (t : Bench) × Since t (ds ++ deeds_by s rs)

  one_since : (s : Bench) (r : List ℕ) (rs : List (List ℕ)) (ds : List Deed) → Since s ds → After rs → (o : Outcome) →
      outcome s r ≡ o →
      (t : Bench) × Since t (ds ++ (deed_of (form r) o ++ cond (ends o r) [] (deeds_by (after s o) rs)))
  one_since s r rs ds since more (accepted done) q =
      let was = was_carried s (form r) done q in
      let rest = more done.bench (ds ++ did done ∷ []) (carried_since s ds since was.0 done was.2 was.3) in
      (rest.0, subst (Since rest.0) (append_assoc ds (did done ∷ []) (deeds_by done.bench rs)) rest.1)
  one_since s r rs ds since more (refused n) q = ended (ends (refused n) r)
    where
      told : Since s (ds ++ refusal_of (form r) n)
      told = refused_since s ds since (form r) n q

      ended : (b : Bool) → (t : Bench) × Since t (ds ++ (refusal_of (form r) n ++ cond b [] (deeds_by s rs)))
      ended true = (s, subst (λ xs. Since s (ds ++ xs)) (sym (append-nil (refusal_of (form r) n))) told)
      ended false =
          let rest = more s (ds ++ refusal_of (form r) n) told in
          (rest.0, subst (Since rest.0) (append_assoc ds (refusal_of (form r) n) (deeds_by s rs)) rest.1)

  pub all_since : (rs : List (List ℕ)) → After rs
  all_since [] s ds since = (s, subst (Since s) (sym (append-nil ds)) since)
  all_since (r ∷ rs) s ds since = rw (deeds_more s r rs) (one_since s r rs ds since (all_since rs) (outcome s r) refl)
