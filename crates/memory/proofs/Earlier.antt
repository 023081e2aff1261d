-- What is reached was reached by way of every part that its history begins with.
use Rattle.std.proofs.Common.{◌≡◌, [], ◌∷◌, ◌++◌, sym, ◌∙◌, subst, inl, inr, append_assoc}
use Rattle.std.proofs.lemmas.List.{same_from_push}
use Rattle.memory.specs.Calls.{Running, Does}
use Rattle.memory.specs.Histories.{Event, History}
use Rattle.memory.specs.Reached.{Reached, started, onward}
use Rattle.memory.proofs.Splits.{not_empty, split_push}

-- a history led to a state, at which the event happened
pub record Happened (start : Running) (before : History) (e : Event) : Type 0 where
  pub at : Running
  pub to : Running
  pub reached : Reached start before at
  pub does : Does at e to

module _ {start : Running} where
  pub earlier : {h : History} {s : Running} → Reached start h s → (before later : History) → h ≡ before ++ later → (r : Running) × Reached start before r
  earlier {s} started [] later p = (s, started)
  earlier started (d ∷ before) later p = absurd (not_empty [] d (before ++ later) p)
  earlier (onward {h = g} {t} e x y) before later p = elim (split_push g before later e p) [
    | inl q ↦ (t, subst (λ k. Reached start k t) (sym q.1) (onward e x y))
    | inr q ↦ earlier x before q.0 q.2
  ]

  last_happened : {h : History} {s : Running} → Reached start h s → (before : History) (e : Event) → h ≡ before ++ e ∷ [] → Happened start before e
  last_happened started before e p = absurd (not_empty before e [] p)
  last_happened (onward {h = g} {s} {t} d x y) before e p =
      let same = same_from_push g before d e p in
      record { at = s; to = t; reached = subst (λ k. Reached start k s) same.0 x; does = subst (λ k. Does s k t) same.1 y }

  pub happened : {h : History} {s : Running} → Reached start h s → (before : History) (e : Event) (later : History) → h ≡ before ++ e ∷ later → Happened start before e
  happened x before e later p =
      let r = earlier x (before ++ e ∷ []) later (p ∙ sym (append_assoc before (e ∷ []) later)) in
      last_happened r.1 before e (λ _. before ++ e ∷ [])
