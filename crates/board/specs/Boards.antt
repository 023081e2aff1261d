-- A board's own state, as the rules see it.
use Rattle.std.specs.Prelude.{List, [], ℕ, take}
use Rattle.board.specs.declared.request.Request.{Request}
use Rattle.board.specs.declared.waiting.Waiting.{Waiting}
use Rattle.board.specs.declared.stage.Stage.{Stage}
use Rattle.board.specs.declared.stage.Stage.TheVariants.{Idle}
use Rattle.board.specs.declared.board.Board.{Board}

-- the requests that wait, in order of arrival
abbrev pub queue : Waiting → List Request
queue w = take w.len w.requests

pub record BoardState : Type 0 where
  pub number : ℕ
  pub stage : Stage
  pub waiting : List Request

abbrev pub state_of : Board → BoardState
state_of b = record { number = b.number; stage = b.stage; waiting = queue b.waiting }

-- a board as it starts: nothing is open, waiting or deferred
abbrev pub start_state : ℕ → BoardState
start_state number = record { number = number; stage = Idle; waiting = [] }

abbrev pub at_stage : BoardState → Stage → BoardState
at_stage s stage = record s { stage = stage }
