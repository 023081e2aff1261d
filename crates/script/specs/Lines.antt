-- The answers of a listing: sixteen characters each.
use Rattle.std.specs.Prelude.{ℕ, List, [], ◌∷◌, ◌++◌}
use Rattle.wire.specs.Kinds.{kind_number}
use Rattle.board.specs.declared.answer.AccessAnswer.TheVariants.{Answered, Opened}
use Rattle.board.specs.declared.answer.Arrival.{Arrival}
use Rattle.board.specs.declared.answer.Arrival.TheVariants.{Moved, Finished}
use Rattle.memory.specs.declared.answer.Answer.{Answer as KitAnswer}
use Rattle.memory.specs.declared.answer.Answer.TheVariants.{Accessed, Arrived, Quiet}
use Rattle.memory.specs.declared.call.Call.{Call as KitCall}
use Rattle.memory.specs.declared.call.Call.TheVariants.{Load, Store, Deliver}
use Rattle.script.specs.Digits.{digits}
use Rattle.script.specs.Letters.{letter_a, letter_o, letter_m, letter_f, letter_q, letter_x}
use Rattle.script.specs.Records.{link_number}
use Rattle.script.specs.declared.line.Line.{Line}
use Rattle.script.specs.declared.numbers.Numbers.{Numbers}
use Rattle.script.specs.declared.answer.Answer.{Answer}
use Rattle.script.specs.declared.answer.Answer.TheVariants.{Made, Placed, Ran}

-- a refusal has its number in the three digits
abbrev pub refused_line : ℕ → Line
refused_line n = record { letter = letter_x; numbers = record { two = 0; three = n; eight = 0 }; hops = 0 }

-- the numbers that the record of a call on a kit has
abbrev pub numbers_of : KitCall → Numbers
numbers_of (Load board address) = record { two = board; three = address; eight = 0 }
numbers_of (Store board address word) = record { two = board; three = address; eight = word }
numbers_of (Deliver pick) = record { two = 0; three = pick; eight = 0 }

-- a message that moved: its board, its kind and the hops that it came with; a finished access: its board, address, word
-- and hops
abbrev pub arrival_line : Arrival → Line
arrival_line (Moved board kind hops) = record {
  letter = letter_m;
  numbers = record { two = board; three = kind_number kind; eight = 0 };
  hops = hops;
}
arrival_line (Finished f) = record {
  letter = letter_f;
  numbers = record { two = f.board; three = f.address; eight = f.word };
  hops = f.hops;
}

-- the line of what a kit answers to a call of these numbers: answered with a word, or opened
abbrev pub ran_line : Numbers → KitAnswer → Line
ran_line n (Accessed (Answered word)) = record {
  letter = letter_a;
  numbers = record { two = n.two; three = n.three; eight = word };
  hops = 0;
}
ran_line n (Accessed Opened) = record { letter = letter_o; numbers = n; hops = 0 }
ran_line n (Arrived arrival) = arrival_line arrival
ran_line n Quiet = record { letter = letter_q; numbers = record { two = 0; three = 0; eight = 0 }; hops = 0 }

-- the line of each answer: a kit that was made and a word that was placed have the numbers of their records again
abbrev pub line_of : Answer → Line
line_of (Made plan) = record {
  letter = letter_a;
  numbers = record { two = plan.boards; three = plan.pages; eight = link_number plan.link };
  hops = 0;
}
line_of (Placed address word) = record {
  letter = letter_a;
  numbers = record { two = 0; three = address; eight = word };
  hops = 0;
}
line_of (Ran call answer) = ran_line (numbers_of call) answer

-- a letter, two and three decimal digits, eight hexadecimal digits, one for hops, and a newline
unfoldable pub text : Line → List ℕ
text l =
    l.letter ∷ digits 10 2 l.numbers.two ++ digits 10 3 l.numbers.three ++ digits 16 8 l.numbers.eight
    ++ digits 16 1 l.hops ++ 10 ∷ []
