-- A quiet delivery over a link that a take leaves as it was, where nothing waits, leaves the whole kit as it was.
use Rattle.std.proofs.Common.{◌≡◌, ℕ, List, Ok, None, Option, Result, refl, subst, inl, inr}
use Rattle.wire.specs.Bags.{Bag}
use Rattle.wire.specs.Caps.{cap_link, cap_most}
use Rattle.wire.specs.declared.cap.Cap.{Cap}
use Rattle.wire.specs.declared.fault.Fault.{Fault}
use Rattle.wire.specs.declared.message.Message.{Message}
use Rattle.board.specs.declared.answer.Arrival.{Arrival}
use Rattle.memory.specs.Calls as calls
use Rattle.memory.specs.Calls.{DoesCall}
use Rattle.memory.specs.declared.answer.Answer.TheVariants.{Arrived, Quiet}
use Rattle.memory.specs.declared.call.Call.TheVariants.{Deliver}
use Rattle.kit.specs.KitAnswers.{delivered}
use Rattle.kit.specs.Runs.{LinkDoes, GoesOn}
use Rattle.kit.specs.declared.running.Running.{Running}

pub same_cap : {L : Type 0} (s t : Cap L) → cap_link t ≡ cap_link s → cap_most t ≡ cap_most s → t ≡ s
same_cap s t link most = λ i. record { below = link i; most = most i }

arrived_quiet : (arrival : Arrival) → Quiet ≡ Arrived arrival → ⊥
arrived_quiet arrival e = cc

module _ {L : Type 0} (limit : L → ℕ) (waiting : L → Bag Message)
    (joins : L → Message → Result (Unit {0}) Fault → L → Type 0) (chooses : L → ℕ → Option Message → L → Type 0)
    (stays : (s t : L) (pick : ℕ) → chooses s pick None t → t ≡ s) where
  link_stays : (pick : ℕ) (s : calls.Running) (posted : List Message) (t : calls.Running)
      (does : DoesCall (Deliver pick) s (Ok Quiet) posted t) (before after : L) →
      LinkDoes limit waiting joins chooses (Deliver pick) s (Ok Quiet) posted t does before after → after ≡ before
  link_stays pick s posted t (inl quiet) before after chosen = stays before after pick chosen
  link_stays pick s posted t (inr d) before after link = absurd (arrived_quiet _ d.arrives.1.0)

  pub whole : (pick : ℕ) (result : Result (Option Arrival) Fault) (r t : Running L) →
      GoesOn limit waiting joins chooses (Deliver pick) (delivered result) r t → result ≡ Ok None → t ≡ r
  whole pick result r t on quiet =
      let g = subst (λ x. GoesOn limit waiting joins chooses (Deliver pick) (delivered x) r t) quiet on in
      (g.unchanged refl).whole (link_stays pick _ g.posted _ g.does r.link t.link g.link)
