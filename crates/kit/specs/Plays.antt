-- What a kit that plays a list of calls promises, whatever it is given.
use Rattle.std.specs.Prelude.{◌≡◌, ℕ, Bool, List, [], ◌∷◌, ◌++◌, map, reverse, Some, Option, Result}
use Rattle.std.specs.List.{flat_map}
use Rattle.wire.specs.Bags.{Bag}
use Rattle.wire.specs.declared.fault.Fault.{Fault}
use Rattle.wire.specs.declared.message.Message.{Message}
use Rattle.memory.specs.Histories.{History}
use Rattle.memory.specs.Placements.{after_placing}
use Rattle.memory.specs.Reached.{MayBegin}
use Rattle.memory.specs.declared.answer.Answer.{Answer}
use Rattle.memory.specs.declared.call.Call.{Call}
use Rattle.memory.specs.declared.placement.Placement.{Placement}
use Rattle.kit.specs.KitQuestions.{making_questions, place_questions}
use Rattle.kit.specs.Runs.{running_kit, running_link, opened_count, Kept, GoesOn}
use Rattle.kit.specs.declared.play.Turn.{Turn}
use Rattle.kit.specs.declared.running.Running.{Running}

-- what is asked of words, in their order
abbrev pub placing_questions : ℕ → List Placement → List (ℕ × Bool)
placing_questions p words = flat_map (λ w. place_questions p w.address) words

-- what is asked before anything is played: the kit's own questions, and then those of each word
abbrev pub setup_questions : ℕ → ℕ → ℕ → ℕ → List Placement → List (ℕ × Bool)
setup_questions n p limit count words = making_questions n p limit count ++ placing_questions p words

-- the calls of turns, and the places for their answers
abbrev pub calls_of : List Turn → List Call
calls_of turns = map (λ t. t.call) turns

abbrev pub answers_in : List Turn → List (Option (Result Answer Fault))
answers_in turns = map (λ t. t.answer) turns

-- each turn has the call that it had, and its answer
pub record Answered (before after : List Turn) (answers : List (Result Answer Fault)) : Type 0 where
  pub same_calls : calls_of after ≡ calls_of before
  pub answers_are : answers_in after ≡ map Some answers

-- a kit of n boards and p pages over this link, started with these words
pub record Started {L : Type 0} (n p : ℕ) (link : L) (words : List Placement) (r : Running L) : Type 0 where
  pub placed : running_kit r ≡ after_placing n p (reverse words)
  pub same_link : running_link r ≡ link
  pub opened : opened_count r ≡ 0

module _ {L : Type 0} (limit : L → ℕ) (waiting : L → Bag Message) (joins : L → Message → Result (Unit {0}) Fault → L → Type 0) (chooses : L → ℕ → Option Message → L → Type 0) where
  -- the calls of a history were carried out one upon the other, from start on
  pub data CarriedOut (start : Running L) : History → Running L → Type 0 where
    nothing_yet : CarriedOut start [] start
    one_more : {h : History} {s t : Running L} (call : Call) (answer : Result Answer Fault) → CarriedOut start h s → (on : GoesOn limit waiting joins chooses call answer s t) →
        CarriedOut start (h ++ record { call = call; answer = answer; posted = on.posted } ∷ []) t

  -- these calls were carried out with these answers, and led from start to r
  pub record PlayedFrom (start : Running L) (calls : List Call) (answers : List (Result Answer Fault)) (r : Running L) : Type 0 where
    pub history : History
    pub calls_are : map (λ e. e.call) history ≡ calls
    pub answers_are : map (λ e. e.answer) history ≡ answers
    pub carried_out : CarriedOut start history r

  -- The whole promise: a kit began with these words and played these calls with these answers, and what it played is kept.
  pub record Plays (n p : ℕ) (link : L) (words : List Placement) (calls : List Call) (answers : List (Result Answer Fault)) (r : Running L) : Type 0 where
    pub may_begin : MayBegin n p (limit link) (reverse words)
    pub start : Running L
    pub started : Started n p link words start
    pub played : PlayedFrom start calls answers r
    pub kept : Kept limit waiting n p (limit link) (reverse words) played.history r

  -- the same of turns, each of which has its answer afterwards
  abbrev pub AnsweredFrom : Running L → List Turn → List Turn → Running L → Type 0
  AnsweredFrom start before after r =
      (answers : List (Result Answer Fault)) × Answered before after answers
      × PlayedFrom start (calls_of before) answers r

  abbrev pub PlaysTurns : ℕ → ℕ → L → List Placement → List Turn → List Turn → Running L → Type 0
  PlaysTurns n p link words before after r =
      (answers : List (Result Answer Fault)) × Answered before after answers
      × Plays n p link words (calls_of before) answers r
