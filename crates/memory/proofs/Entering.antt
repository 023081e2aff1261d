-- The ledger of a history that grows at its end.
use Rattle.std.proofs.Common.{◌≡◌, [], ◌∷◌, ◌++◌, refl}
use Rattle.memory.specs.Histories.{Event, History}
use Rattle.memory.specs.Ledgers.{Ledger, entered, entering, fresh, ledger}
use Rattle.memory.specs.Placements.{Words}

entering_push : (l : Ledger) (h : History) (e : Event) → entering l (h ++ e ∷ []) ≡ entered (entering l h) e
entering_push l [] e = refl
entering_push l (d ∷ h) e = entering_push (entered l d) h e

pub ledger_push : (first : Words) (h : History) (e : Event) → ledger first (h ++ e ∷ []) ≡ entered (ledger first h) e
ledger_push first h e = entering_push (fresh first) h e
