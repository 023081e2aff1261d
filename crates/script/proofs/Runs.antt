-- What a call on the running kit of a script does: what its bench says.
use Rattle.std.proofs.Common.{◌≡◌, ℕ, Bool, true, false, List, [], ◌∷◌, ◌++◌, length, Some, None, Ok, Result, refl, ap, ◌∙◌, inl, inr}
use Rattle.wire.specs.Bags.{bag}
use Rattle.wire.specs.Links.{largest_limit, Chosen}
use Rattle.wire.specs.Questions.{first_no, refusal}
use Rattle.wire.specs.declared.fault.Fault.{Fault}
use Rattle.wire.specs.declared.message.Message.{Message}
use Rattle.board.specs.declared.answer.AccessAnswer.{AccessAnswer}
use Rattle.lone.specs.Calls as lone
use Rattle.memory.specs.Calls.{Running as State, Answers, Delivers, DoesCall, IsQuiet, room, without, arrival_questions}
use Rattle.memory.specs.Calls as calls
use Rattle.memory.specs.Kits.{Kit}
use Rattle.memory.specs.Promises.{NothingIsRefused}
use Rattle.memory.specs.declared.answer.Answer.{Answer as KitAnswer}
use Rattle.memory.specs.declared.answer.Answer.TheVariants.{Accessed, Quiet}
use Rattle.memory.specs.declared.call.Call.{Call as KitCall}
use Rattle.memory.specs.declared.call.Call.TheVariants.{Deliver}
use Rattle.memory.proofs.OneMemory.{never_refuses}
use Rattle.kit.specs.Clusters.{over}
use Rattle.script.proofs.Rows.{taken_is}
use Rattle.script.specs.Benches.{over_link, Came}
use Rattle.script.specs.Choosing.{taken, place_of}
use Rattle.script.specs.Plays as plays
use Rattle.script.specs.Plays.{Done, access_questions, after_access, after_arrival, after_delivery, ran, run_questions}
use Rattle.script.specs.declared.answer.Answer.TheVariants.{Ran}
use Rattle.script.specs.declared.call.LinkKind.{LinkKind}

-- questions whose last are answered yes
pub passed_after : (qs rest : List (ℕ × Bool)) → first_no rest ≡ None → first_no (qs ++ rest) ≡ first_no qs
passed_after [] rest h = h
passed_after ((n, true) ∷ qs) rest h = passed_after qs rest h
passed_after ((n, false) ∷ qs) rest h = refl

-- what a bench says that a call did
abbrev pub Says : LinkKind → Kit → List Message → KitCall → KitAnswer → List Message → Kit → List Message → Type 0
Says link k row call answer posted k-after row-after = ran link k row call
    ≡ record { answer = Ran call answer; posted = posted; bench = plays.running link k-after row-after }

module _ (k : Kit) (row : List Message) (came : Came k row) where
  sure : NothingIsRefused came.boards (over_link k row)
  sure = never_refuses came.boards came.pages largest_limit came.placements came.may came.history (over_link k row)
      came.reached

  -- A load or a store.
  pub access_asks : (board address : ℕ) (o : lone.Outcome AccessAnswer) (answer : Result KitAnswer Fault)
      (posted : List Message) (t : State) →
      Answers (calls.access_questions (over_link k row) board address) Accessed board o (over_link k row) answer posted
      t → refusal answer ≡ first_no (access_questions k board address)
  access_asks board address o answer posted t does = does.0
      ∙ passed_after (access_questions k board address) (room (over_link k row)) sure.posts

  -- a delivery is not refused
  pub delivery_asks : (pick : ℕ) (answer : Result KitAnswer Fault) (posted : List Message) (t : State) →
      DoesCall (Deliver pick) (over_link k row) answer posted t → refusal answer ≡ None
  delivery_asks pick answer posted t (inl q) = ap refusal q.1
  delivery_asks pick answer posted t (inr d) = d.arrives.0 ∙ sure.arrivals d.message d.rest d.waited

-- whatever the limit
abbrev pub on_link : Kit → ℕ → List Message → State
on_link k limit row = over k limit (bag row)

module _ (k : Kit) (limit : ℕ) (row : List Message) where
  pub access_says : (link : LinkKind) (call : KitCall) (board address : ℕ) (o : lone.Outcome AccessAnswer)
      (a : KitAnswer) (posted : List Message) (t : State) (row-after : List Message) →
      Answers (calls.access_questions (on_link k limit row) board address) Accessed board o (on_link k limit row)
      (Ok a) posted t → row-after ≡ row ++ posted →
      after_access link k row call board o
      ≡ record { answer = Ran call a; posted = posted; bench = plays.running link t.kit row-after }
  access_says link call board address o a posted t row-after does rows = rw (does.1.0, rows, does.1.1, does.1.2) refl

  pub arrival_says : (link : LinkKind) (pick : ℕ) (a : KitAnswer) (posted : List Message) (t : State)
      (d : Delivers (on_link k limit row) (Ok a) posted t) (between row-after : List Message) →
      Chosen (place_of link pick (length row)) (Some d.message) row between → row-after ≡ between ++ posted →
      Says link k row (Deliver pick) a posted t.kit row-after
  arrival_says link pick a posted t d between row-after chosen rows =
      let which : taken link pick row
      ≡ Some (record { message = d.message; rest = between }) =
      taken_is (place_of link pick (length row)) d.message row between chosen in
      ap (after_delivery link k (Deliver pick)) which ∙ rw (d.arrives.1.0, rows, d.arrives.1.1, d.arrives.1.2) refl

  pub quiet_says : (link : LinkKind) (pick : ℕ) (a : KitAnswer) (posted : List Message) (t : State) →
      IsQuiet (on_link k limit row) (Ok a) posted t → row ≡ [] → Says link k row (Deliver pick) a posted t.kit []
  quiet_says link pick a posted t q none =
      let which : taken link pick row ≡ None = ap (λ x. taken link pick x) none in
      let is : a ≡ Quiet = (let e = q.1 in cc) in
      ap (after_delivery link k (Deliver pick)) which ∙ rw (is, q.2, q.3) refl
