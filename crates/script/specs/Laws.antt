-- Laws of records, answers and listings, and of players.
use Rattle.std.specs.Prelude.{◌≡◌, ℕ, ◌*◌, ◌^◌, ◌<◌, ◌≤◌, true, List, [], ◌∷◌, ◌++◌, length, Some, None, Option}
use Rattle.std.specs.List.{All, between}
use Rattle.board.specs.declared.answer.AccessAnswer.TheVariants.{Answered, Opened}
use Rattle.memory.specs.declared.answer.Answer.TheVariants.{Accessed, Arrived, Quiet}
use Rattle.memory.specs.declared.call.Call.{Call as KitCall}
use Rattle.script.specs.declared.answer.Answer.{Answer}
use Rattle.script.specs.declared.answer.Answer.TheVariants.{Made, Placed, Ran}
use Rattle.script.specs.Digits.{digits, numeral}
use Rattle.script.specs.Lines.{line_of, text}
use Rattle.script.specs.Letters.{letter_a, letter_o}
use Rattle.script.specs.Players.{deeds, lines, on}
use Rattle.script.specs.Plays.{Bench, Done, outcome, accepted, answers, belongs, listing, no_kit, outcomes}
use Rattle.script.specs.Records.{form, record_count, records}
use Rattle.script.specs.Sessions.{DeedsAreOneMemory, deeds_by, IsTold}
use Rattle.script.specs.declared.call.Call.TheVariants.{Run}

-- reading and writing numbers undo each other
abbrev pub ReadBack : Type 0
ReadBack = (base width n : ℕ) → 1 < base → base ≤ 16 → n < base ^ width → numeral base (digits base width n) ≡ Some n

abbrev pub WrittenBack : Type 0
WrittenBack =
    (base : ℕ) (cs : List ℕ) (n : ℕ) → 1 < base → base ≤ 16 → numeral base cs ≡ Some n →
    digits base (length cs) n ≡ cs

-- the letter of an answer whose line has the digits of its record again: A of K and P, and O
abbrev pub echo_letter : Answer → Option ℕ
echo_letter (Made plan) = Some letter_a
echo_letter (Placed address word) = Some letter_a
echo_letter (Ran call (Accessed (Answered word))) = None
echo_letter (Ran call (Accessed Opened)) = Some letter_o
echo_letter (Ran call (Arrived arrival)) = None
echo_letter (Ran call Quiet) = None

-- such a line has no hops
abbrev pub Echoed : Type 0
Echoed =
    (s : Bench) (r : List ℕ) (done : Done) (letter : ℕ) → outcome s r ≡ accepted done →
    echo_letter done.answer ≡ Some letter → text (line_of done.answer) ≡ letter ∷ between 1 14 r ++ 48 ∷ 10 ∷ []

-- a listing is whole lines of sixteen characters, one for each outcome, and so at most one for each record
abbrev pub WholeLines : Type 0
WholeLines =
    (script : List ℕ) → (length (listing script) ≡ 16 * length (outcomes no_kit (records script)))
    × (length (outcomes no_kit (records script)) ≤ record_count script)

-- a player's lines are the answers to the records that it is given, where each record has a character
abbrev pub LinesAreAnswers : Type 0
LinesAreAnswers = (s : Bench) (rs : List (List ℕ)) → All (λ r. 0 < length r) rs → lines (on s) rs ≡ answers s rs

-- the lines that answer the records of a script, one after another, are its listing
abbrev pub LinesAreListings : Type 0
LinesAreListings = (script : List ℕ) → lines (on no_kit) (records script) ≡ listing script

-- what a player does with whatever it is given, also with no characters or with more than a record has, are the deeds
-- of the outcomes
abbrev pub DeedsAgree : Type 0
DeedsAgree = (s : Bench) (given : List (List ℕ)) → deeds (on s) given ≡ deeds_by s given

-- what records do is one memory, whatever they are
abbrev pub RecordsAreOneMemory : Type 0
RecordsAreOneMemory = (given : List (List ℕ)) → DeedsAreOneMemory (deeds_by no_kit given)

-- a call of a record that belongs, where it stands, is told: it is one event, and the record's line tells it
abbrev pub EveryCallIsTold : Type 0
EveryCallIsTold =
    (s : Bench) (r : List ℕ) (call : KitCall) → form r ≡ Some (Run call) → belongs s (Run call) ≡ true →
    IsTold (form r) (outcome s r) call
