-- What a record makes of the bench.
use Rattle.std.proofs.Common.{◌≡◌, ℕ, Bool, true, cond, ◌⊎◌, inl, inr, List, [], ◌∷◌, length, is_some, ok_or, option_and_then, slice_index, Some, None, Ok, Err, Option, Result, refl, ap, ◌∙◌, sym, subst}
use Rattle.std.proofs.Math.Logic.{∥∥₁_map}
use Rattle.std.proofs.lemmas.List.{nil_from_length}
use Rattle.wire.specs.Bags.{Bag, bag, size}
use Rattle.wire.specs.Links.{largest_limit}
use Rattle.wire.specs.Questions.{first_no, refusal}
use Rattle.wire.specs.Faults.{number}
use Rattle.wire.specs.declared.fault.Fault.{Fault}
use Rattle.wire.specs.declared.fault.Fault.TheVariants.{BadForm}
use Rattle.wire.specs.declared.message.Message.{Message}
use Rattle.memory.specs.declared.answer.Answer.{Answer as KitAnswer}
use Rattle.memory.specs.declared.call.Call.{Call as KitCall}
use Rattle.memory.specs.declared.call.Call.TheVariants.{Load, Store, Deliver}
use Rattle.memory.specs.Calls as calls
use Rattle.memory.specs.Kits.{start_kit}
use Rattle.memory.specs.Kits as kits
use Rattle.memory.specs.Placements.{placed}
use Rattle.memory.specs.Reached.{started as begins}
use Rattle.kit.specs.Clusters.{kit_of}
use Rattle.kit.specs.KitQuestions.{making_questions, place_questions}
use Rattle.kit.specs.Runs.{NothingChanges}
use Rattle.kit.specs.declared.loading.Loading as loading
use Rattle.kit.specs.declared.running.Running as running
use Rattle.kit.proofs.Beginnings.{made_may, placed_may}
use Rattle.script.proofs.Runs.{passed_after}
use Rattle.script.proofs.KitCalls.{Runs, asks, said, came_on}
use Rattle.script.specs.Benches.{bench_of, Ready, Starts}
use Rattle.script.specs.Plays as plays
use Rattle.script.specs.Plays.{record_questions, carried_out, access_questions, run_questions}
use Rattle.script.specs.Records.{form, framed, numbers_in, call_of}
use Rattle.script.specs.Turns.{Turns}
use Rattle.script.specs.declared.answer.Answer.{Answer}
use Rattle.script.specs.declared.answer.Answer.TheVariants.{Made, Placed, Ran}
use Rattle.script.specs.declared.bench.Bench.{Bench}
use Rattle.script.specs.declared.bench.Bench.TheVariants.{NoKit, Loading, Running}
use Rattle.script.specs.NamedLinks.{kind_of, limit_of, row_of}
use Rattle.script.specs.declared.call.KitPlan.{KitPlan}
use Rattle.script.specs.declared.call.Call.{Call}
use Rattle.script.specs.declared.call.Call.TheVariants.{Kit, Place, Run}
use Rattle.script.specs.declared.named_link.NamedLink.{NamedLink}
use Rattle.script.specs.declared.numbers.Numbers.{Numbers}

-- refused by its form, it is refused by the first of all its questions
pub refused_form : (s : plays.Bench) (o : Option Call) (n : ℕ) →
    ◌≡◌ {A = Option ℕ} (Some n) (first_no ((number BadForm, is_some o) ∷ [])) →
    ◌≡◌ {A = Option ℕ} (Some n) (first_no (record_questions s o))
refused_form s None n e = e
refused_form s (Some c) n e = cc

-- the call of a record whose frame and numbers are of their form
pub form_is : (r : List ℕ) (n : Numbers) → framed r ≡ true → numbers_in r ≡ Some n →
    form r ≡ call_of (slice_index r 0) n
form_is r n e f =
    ap (λ (b : Bool). cond b (option_and_then (call_of (slice_index r 0)) (numbers_in r)) None) e
    ∙ ap (λ (o : Option Numbers). option_and_then (call_of (slice_index r 0)) o) f

-- a call, or the refusal of a broken form, by whether there is a call
pub refused_call : (o : Option Call) (r : Result Call Fault) → r ≡ ok_or o BadForm →
    refusal r ≡ first_no ((number BadForm, is_some o) ∷ [])
refused_call None r e = ap refusal e
refused_call (Some c) r e = ap refusal e

-- Calls on the running kit.

-- the bench b stands for the one before, as far as a call on the running kit goes
pub record Stands (before b : Bench) (call : KitCall) : Type 0 where
  pub done : carried_out (bench_of before) (Run call) ≡ carried_out (bench_of b) (Run call)
  pub asked : first_no (record_questions (bench_of before) (Some (Run call)))
      ≡ first_no (record_questions (bench_of b) (Some (Run call)))
  pub ready : Ready b
  pub kept : (first_no (record_questions (bench_of b) (Some (Run call))) ≡ None) ⊎ (b ≡ before)

pub itself : (b : Bench) (call : KitCall) → Ready b → Stands b b call
itself b call ready = record { done = refl; asked = refl; ready = ready; kept = inr refl }

-- a kit that was loading was asked, and started
pub started : (k : loading.Loading NamedLink) (b : Bench) (call : KitCall) → Starts (Loading k) b →
    first_no (run_questions (kit_of k.cluster) call) ≡ None → Stands (Loading k) b call
started k b call starts passed =
    let asked = ap (λ x. first_no (record_questions x (Some (Run call)))) starts.0 in
    record {
      done = ap (λ x. carried_out x (Run call)) (sym starts.0);
      asked = sym asked;
      ready = starts.2;
      kept = inl (asked ∙ passed);
    }

not_none : (n : ℕ) (o : Option ℕ) → Some n ≡ o → o ≡ None → ⊥
not_none n o h e = let never : Some n ≡ None = h ∙ e in absurd (cc)

-- only a load or a store is refused
still : (r t : running.Running NamedLink) (call : KitCall) (fault : Fault) →
    Some (number fault) ≡ first_no (run_questions (kit_of r.cluster) call) →
    NothingChanges limit_of (λ s. bag (row_of s)) call (Err fault) r t → t ≡ r
still r t (Load board address) fault asked same = same
still r t (Store board address word) fault asked same = same
still r t (Deliver pick) fault asked same = absurd (not_none (number fault) None asked refl)

module _ (before : Bench) (r t : running.Running NamedLink) (call : KitCall)
    (stands : Stands before (Running r) call) where
  pub ran_turns : (a : KitAnswer) → Runs call (Ok a) r t → Turns (Some (Run call)) before (Ok (Ran call a)) (Running t)
  ran_turns a g =
      let limit = stands.ready.0 in
      let came = stands.ready.1 in
      let it = said r t limit call a g in
      let asked = asks r t limit came call (Ok a) g in
      record {
        refused = asked ∙ sym stands.asked;
        done = (it.posted, stands.done ∙ ap Some it.says ∙ rw it.kind refl);
        kept = tt;
        ready = came_on r t limit came call a g;
      }

  pub not_ran_turns : (fault : Fault) (result : Result Answer Fault) → Runs call (Err fault) r t → result ≡ Err fault →
      Turns (Some (Run call)) before result (Running t)
  not_ran_turns fault result g rises =
      let limit = stands.ready.0 in
      let came = stands.ready.1 in
      let here = asks r t limit came call (Err fault) g in
      let stays = still r t call fault here g.unchanged in
      let kept : Running r ≡ before = elim stands.kept [
        | inl none ↦ absurd (not_none (number fault) (first_no (run_questions (kit_of r.cluster) call)) here none)
        | inr e ↦ e
      ] in
      subst (λ x. Turns (Some (Run call)) before x (Running t)) (sym rises)
      (record {
        refused = here ∙ sym stands.asked;
        done = tt;
        kept = ap (λ x. Running x) stays ∙ kept;
        ready = subst (λ x. Ready (Running x)) (sym stays) stands.ready;
      })

-- the kit starts
pub starts_kit : (k : loading.Loading NamedLink) (r : running.Running NamedLink) → Ready (Loading k) →
    kit_of r.cluster ≡ kit_of k.cluster → r.link ≡ k.link → Starts (Loading k) (Running r)
starts_kit k r ready kit link =
    let none = nil_from_length (row_of k.link) ready.1 in (
      rw (kit, link, none) refl,
      tt,
      (
        ap limit_of link ∙ ready.0,
        ∥∥₁_map ready.2 (λ b. record {
          boards = b.boards;
          pages = b.pages;
          placements = b.placements;
          may = b.may;
          history = [];
          reached = rw (kit, link, none, b.kit) begins;
        }),
      ),
    )

-- a word is placed
pub placed_turns : (k t : loading.Loading NamedLink) (address word : ℕ) → Ready (Loading k) →
    None ≡ first_no (place_questions (kit_of k.cluster).pages address) →
    kit_of t.cluster ≡ placed (kit_of k.cluster) address word → t.link ≡ k.link →
    Turns (Some (Place address word)) (Loading k) (Ok (Placed address word)) (Loading t)
placed_turns k t address word ready passed kit link =
    record {
      refused = passed;
      done = ([], rw (kit, link) refl);
      kept = tt;
      ready = (
        ap limit_of link ∙ ready.0,
        ap (λ l. length (row_of l)) link ∙ ready.1,
        ∥∥₁_map ready.2 (λ b. record {
          boards = b.boards;
          pages = b.pages;
          placements = record { address = address; word = word } ∷ b.placements;
          may =
              placed_may b.boards b.pages largest_limit b.placements (kit_of k.cluster) address word b.kit
              (sym passed) b.may;
          kit = kit ∙ ap (λ x. placed x address word) b.kit;
        }),
      );
    }

-- a kit is made
pub made_turns : (plan : KitPlan) (t : loading.Loading NamedLink) →
    None ≡ first_no (making_questions plan.boards plan.pages largest_limit 0) →
    kit_of t.cluster ≡ start_kit plan.boards plan.pages →
    kind_of t.link ≡ plan.link → limit_of t.link ≡ largest_limit → row_of t.link ≡ [] →
    Turns (Some (Kit plan)) NoKit (Ok (Made plan)) (Loading t)
made_turns plan t passed kit kind limit row = record {
  refused = passed;
  done = ([], rw (kit, kind) refl);
  kept = tt;
  ready = (
    limit,
    ap length row,
    ∣ record {
      boards = plan.boards;
      pages = plan.pages;
      placements = [];
      may = (made_may plan.boards plan.pages largest_limit 0 (sym passed)).0;
      kit = kit;
    } ∣₁,
  );
}

-- what a kit over the link of a script is asked before it starts
pub asked_first : (k : kits.Kit) (call : KitCall) (board address limit : ℕ) (waiting : Bag Message)
    (result : Result (Unit {0}) Fault) →
    (call ≡ Load board address) ⊎ ((word : ℕ) × (call ≡ Store board address word)) →
    refusal result
    ≡ first_no (calls.access_questions (record { kit = k; limit = limit; waiting = waiting }) board address) →
    first_no (calls.room (record { kit = k; limit = limit; waiting = waiting })) ≡ None →
    refusal result ≡ first_no (run_questions k call)
asked_first k call board address limit waiting result is asks room =
    let asked = asks ∙ passed_after (access_questions k board address)
    (calls.room (record { kit = k; limit = limit; waiting = waiting })) room in
    elim is [
      | inl e ↦ asked ∙ ap (λ x. first_no (run_questions k x)) (sym e)
      | inr e ↦ asked ∙ ap (λ x. first_no (run_questions k x)) (sym e.1)
    ]

-- over an empty link of the largest limit
module _ (link : NamedLink) (limit : limit_of link ≡ largest_limit) (row : row_of link ≡ []) where
  pub roomy : (k : kits.Kit) →
      first_no (calls.room (record { kit = k; limit = limit_of link; waiting = bag (row_of link) })) ≡ None
  roomy k = rw (limit, row) refl

  pub made_over : (n p : ℕ) → first_no (making_questions n p (limit_of link) (size (bag (row_of link))))
      ≡ first_no (making_questions n p largest_limit 0)
  made_over n p = rw (limit, row) refl

-- the bench that a call finds running
pub itself_at : (before : Bench) (r : running.Running NamedLink) (call : KitCall) → before ≡ Running r → Ready before →
    Stands before (Running r) call
itself_at before r call e ready =
    subst (λ b. Stands b (Running r) call) (sym e) (itself (Running r) call (subst Ready e ready))

pub started_at : (before b : Bench) (k : loading.Loading NamedLink) (r : running.Running NamedLink) (call : KitCall) →
    before ≡ Loading k → Starts (Loading k) b → None ≡ first_no (run_questions (kit_of k.cluster) call) →
    b ≡ Running r → Stands before (Running r) call
started_at before b k r call e starts passed f =
    subst (λ x. Stands before x call) f (subst (λ x. Stands x b call) (sym e) (started k b call starts (sym passed)))

-- a record without its form
pub unread : (before : Bench) (o : Option Call) (fault : Fault) (result : Result Answer Fault) → Ready before →
    Some (number fault) ≡ first_no ((number BadForm, is_some o) ∷ []) → result ≡ Err fault →
    Turns o before result before
unread before o fault result ready asked rises =
    subst (λ x. Turns o before x before) (sym rises)
    (record {
      refused = refused_form (bench_of before) o (number fault) asked;
      done = tt;
      kept = refl;
      ready = ready;
    })
