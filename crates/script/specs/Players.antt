-- A player: it is given a script's records, one after another, and answers each by a line.
use Rattle.std.specs.Prelude.{◌≡◌, ℕ, Bool, true, false, cond, List, [], ◌∷◌, ◌++◌, Some, None, Option}
use Rattle.script.specs.Benches.{bench_of}
use Rattle.script.specs.Lines.{text}
use Rattle.script.specs.Plays.{Bench, Done, Outcome, accepted, refused, no_kit, outcome, line, after, ends}
use Rattle.script.specs.Records.{form}
use Rattle.script.specs.Sessions.{Deed, DeedsAreOneMemory, deed_of, deeds_by}
use Rattle.script.specs.declared.bench.Bench.{Bench as CodeBench}
use Rattle.script.specs.declared.player.Player.{Player}

-- a play goes on, with this on the bench, or it is over
pub data Play : Type 0 where
  on : Bench → Play
  over : Play

abbrev pub play_of : Player → Play
play_of p = cond p.is_over over (on (bench_of p.bench))

abbrev pub has_ended : Play → Bool
has_ended (on s) = false
has_ended over = true

-- the code's bench itself, with the opened count and how its link lies, which a play leaves out
abbrev pub standing : Player → CodeBench
standing p = p.bench

-- the outcome of a record. No characters are no record, and where the play is over nothing comes of anything.
abbrev pub comes_of : Play → List ℕ → Option Outcome
comes_of over chars = None
comes_of (on s) [] = None
comes_of (on s) (c ∷ cs) = Some (outcome s (c ∷ cs))

abbrev pub reply_by : Option Outcome → Option (List ℕ)
reply_by None = None
reply_by (Some o) = Some (text (line o))

-- the line that answers it
abbrev pub reply : Play → List ℕ → Option (List ℕ)
reply p chars = reply_by (comes_of p chars)

-- the play that it leaves
abbrev pub next : Play → List ℕ → Play
next over chars = over
next (on s) [] = on s
next (on s) (c ∷ cs) = let r = c ∷ cs in cond (ends (outcome s r) r) over (on (after s (outcome s r)))

abbrev pub carried_out_by : Option Outcome → Option Done
carried_out_by None = None
carried_out_by (Some (accepted done)) = Some done
carried_out_by (Some (refused n)) = None

-- A script's records, one after another.

abbrev pub next_all : Play → List (List ℕ) → Play
next_all p [] = p
next_all p (r ∷ rs) = next_all (next p r) rs

abbrev pub said : Option (List ℕ) → List ℕ
said None = []
said (Some line) = line

abbrev pub lines : Play → List (List ℕ) → List ℕ
lines p [] = []
lines p (r ∷ rs) = said (reply p r) ++ lines (next p r) rs

-- what characters do, by what comes of them
abbrev pub deed_by : List ℕ → Option Outcome → List Deed
deed_by chars None = []
deed_by chars (Some o) = deed_of (form chars) o

-- what a player does with all that it is given, one after another
abbrev pub deeds : Play → List (List ℕ) → List Deed
deeds p [] = []
deeds p (r ∷ rs) = deed_by r (comes_of p r) ++ deeds (next p r) rs

-- a player has been given these records since it was made, and what they did is one memory
pub record HasPlayed (given : List (List ℕ)) (p : Player) : Type 0 where
  pub play : play_of p ≡ next_all (on no_kit) given
  pub one_memory : DeedsAreOneMemory (deeds_by no_kit given)

-- Characters are given to a player. Where nothing is carried out, all is left as it was, but that the play may be over.
pub record Answers (chars : List ℕ) (before : Player) (answer : Option (List ℕ)) (left : Player) : Type 0 where
  pub line : answer ≡ reply (play_of before) chars
  pub play : play_of left ≡ next (play_of before) chars
  pub unchanged : carried_out_by (comes_of (play_of before) chars) ≡ None → standing left ≡ standing before
  pub kept : (given : List (List ℕ)) → HasPlayed given before → HasPlayed (given ++ chars ∷ []) left
