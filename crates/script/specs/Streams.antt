-- A script that is answered as it is read.
use Rattle.std.specs.Prelude.{◌≡◌, ℕ, ◌%◌, ◌≤◌, false, List, ◌++◌, length, take, Option}
use Rattle.std.specs.Io.KnownBytes.{Consumes, Appends}
use Rattle.script.specs.Players.{on, has_ended, next_all, lines}
use Rattle.script.specs.Plays.{no_kit}
use Rattle.script.specs.Records.{records}
use Rattle.script.specs.declared.hand.Hand.{Hand}

-- the characters that are read and not yet answered
abbrev pub at_hand : Hand → List ℕ
at_hand h = take h.len h.chars

-- how many of them there are at most
abbrev pub most_at_hand : ℕ
most_at_hand = 16384

-- Answering keeps up with reading: what was read of a script is answered, but for some last characters, and before those
-- the play was not over.
pub record KeepsUp (script left written now : Option (List ℕ)) : Type 0 where
  pub answered : List ℕ
  pub held : List ℕ
  pub read : Consumes script left (answered ++ held)
  pub whole : length answered % 16 ≡ 0
  pub few : length held ≤ most_at_hand
  pub going : has_ended (next_all (on no_kit) (records answered)) ≡ false
  pub said : (rest : List ℕ) × Appends written now (lines (on no_kit) (records answered) ++ rest)
