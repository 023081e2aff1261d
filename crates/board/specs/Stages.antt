-- How far an open access has come.
use Rattle.std.specs.Prelude.{ℕ, Bool, true, false, ◌==◌}
use Rattle.board.specs.declared.stage.Stage.{Stage}
use Rattle.board.specs.declared.stage.Stage.TheVariants.{Idle, LoadAsked, StoreAsked, Clearing}
use Rattle.board.specs.Addresses.{page_of}

abbrev pub is_idle : Stage → Bool
is_idle Idle = true
is_idle _ = false

-- an access is open on the page
abbrev pub is_on : Stage → ℕ → Bool
is_on Idle page = false
is_on (LoadAsked load) page = page_of load.address == page
is_on (StoreAsked store) page = page_of store.address == page
is_on (Clearing clearing) page = page_of clearing.store.address == page
