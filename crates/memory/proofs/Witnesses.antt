-- Kits that are played: their histories show what the promise allows, and what it cannot do without.
use Rattle.std.proofs.Common.{◌≡◌, ℕ, ◌+◌, ◌*◌, ◌≤◌, true, List, [], ◌∷◌, refl, arith}
use Rattle.board.specs.declared.request.AccessKind.TheVariants as kind
use Rattle.memory.specs.declared.call.Call.{Call}
use Rattle.memory.specs.declared.call.Call.TheVariants.{Load, Store, Deliver}
use Rattle.memory.specs.Kits.{start_kit}
use Rattle.memory.specs.Reached.{MayBegin, begun, Reached}
use Rattle.memory.specs.Calls.{Running}
use Rattle.memory.specs.Witnesses.{BringsFromAnother, BringsWhatAnotherStored, PassedOn, PassesOnOnce, TakesAll, NeedsAllDeliveries}
use Rattle.memory.proofs.Playing.{Desk, history, after, goes, running, played}

-- a kit of n boards and one page, to be played on
abbrev pub desk : ℕ → Desk
desk n = record { kit = start_kit n 1; messages = [] }

pub possible : (n : ℕ) (cs : List Call) → goes (n * n) (desk n) cs ≡ true → (limit : ℕ) → MayBegin n 1 limit [] → (s : Running) × Reached (begun n 1 limit []) (history (desk n) cs) s
possible n cs g limit b = (running limit (after (desk n) cs), played limit (n * n) (desk n) cs b.room g)

-- board 0 stores at once, and sends board 1 a copy
abbrev bringing : List Call
bringing = Store 0 3 42 ∷ Load 1 3 ∷ Deliver 0 ∷ Deliver 0 ∷ []

brings : BringsFromAnother (history (desk 2) bringing)
brings = record {
  storer = 0;
  word = 42;
  finished = record { board = 1; kind = kind.Load; address = 3; word = 42; hops = 0 };
  before = [];
  store = _;
  meanwhile = _ ∷ _ ∷ [];
  finish = _;
  told = refl;
  stores = (refl, refl);
  finishes = (tt, refl);
  loads = refl;
  brings = refl;
  other_board = λ e. omega (arith, e);
  not_zero = λ e. omega (arith, e);
}

pub brings_what_another_stored : BringsWhatAnotherStored
brings_what_another_stored = (history (desk 2) bringing, brings, possible 2 bringing refl)

-- board 1 comes to own the page, board 2 still hints at board 0, which passes its request on
abbrev passing : List Call
passing = Store 1 3 42 ∷ Deliver 0 ∷ Deliver 0 ∷ Load 2 3 ∷ Deliver 0 ∷ Deliver 0 ∷ Deliver 0 ∷ []

passes : PassedOn 1 (history (desk 3) passing)
passes = record {
  finished = record { board = 2; kind = kind.Load; address = 3; word = 42; hops = 1 };
  before = _ ∷ _ ∷ _ ∷ _ ∷ _ ∷ _ ∷ [];
  finish = _;
  told = refl;
  finishes = (tt, refl);
  passed = refl;
  hops = refl;
}

pub passes_on_once : PassesOnOnce
passes_on_once = (history (desk 3) passing, passes, possible 3 passing refl)

-- board 1 is granted the page, and its store is open until the grant arrives
abbrev pub waiting : List Call
waiting = Store 1 3 42 ∷ Deliver 0 ∷ Deliver 0 ∷ []

pub waits : PassedOn 0 (history (desk 2) waiting)
waits = record {
  finished = record { board = 1; kind = kind.Store; address = 3; word = 42; hops = 0 };
  before = _ ∷ _ ∷ [];
  finish = _;
  told = refl;
  finishes = (tt, refl);
  passed = refl;
  hops = refl;
}

pub takes_all : TakesAll 2 (history (desk 2) waiting)
takes_all = record {
  before = _ ∷ [];
  deliveries = _ ∷ [];
  last = _;
  told = refl;
  one_open = refl;
  all_but_one = ((tt, tt), refl);
  still_open = refl;
  delivers = tt;
  all = refl;
  none_open = refl;
}

pub needs_all_deliveries : NeedsAllDeliveries
needs_all_deliveries = (history (desk 2) waiting, takes_all, possible 2 waiting refl)

pub may_begin : (n : ℕ) → 1 ≤ n → n ≤ 16 → MayBegin n 1 (n * n + 16) []
may_begin n some few = record { some_boards = some; boards = few; some_pages = omega arith; pages = omega arith; room = omega arith; in_range = tt }
