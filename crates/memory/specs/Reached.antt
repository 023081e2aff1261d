-- The histories of a kit.
use Rattle.std.specs.Prelude.{ℕ, ◌+◌, ◌*◌, ◌≤◌, List, [], ◌∷◌, ◌++◌}
use Rattle.wire.specs.Bags.{empty}
use Rattle.memory.specs.Calls.{Running, Does}
use Rattle.memory.specs.Histories.{Event, History}
use Rattle.memory.specs.Placements.{InRange, after_placing}
use Rattle.memory.specs.declared.placement.Placement.{Placement}

-- how a kit may begin: 1 to 16 boards, 1 to 16 pages, a link of limit at least n × n + 16, and placements in range
pub record MayBegin (n p limit : ℕ) (placements : List Placement) : Type 0 where
  pub some_boards : 1 ≤ n
  pub boards : n ≤ 16
  pub some_pages : 1 ≤ p
  pub pages : p ≤ 16
  pub room : n * n + 16 ≤ limit
  pub in_range : InRange p placements

-- a kit of n boards and p pages just started, over an empty link
abbrev pub begun : ℕ → ℕ → ℕ → List Placement → Running
begun n p limit placements = record { kit = after_placing n p placements; limit = limit; waiting = empty }

-- a history leads from one state to another
pub data Reached (start : Running) : History → Running → Type 0 where
  started : Reached start [] start
  onward : {h : History} {s t : Running} (e : Event) → Reached start h s → Does s e t → Reached start (h ++ e ∷ []) t
