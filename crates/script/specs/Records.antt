-- The records of a script: sixteen characters each.
use Rattle.std.specs.Prelude.{ℕ, ◌+◌, ◌-◌, ◌*◌, ◌/◌, ◌%◌, min, Bool, cond, ◌&&◌, List, map, length, take, drop, Some, None, Option, ◌==◌, slice_index}
use Rattle.std.specs.List.{between, range_with_len}
use Rattle.script.specs.Digits.{numeral}
use Rattle.script.specs.Letters.{letter_k, letter_p, letter_l, letter_s, letter_d}
use Rattle.script.specs.Options.{◌>>=◌}
use Rattle.memory.specs.declared.call.Call.TheVariants.{Load, Store, Deliver}
use Rattle.script.specs.declared.call.Call.{Call}
use Rattle.script.specs.declared.call.Call.TheVariants.{Kit, Place, Run}
use Rattle.script.specs.declared.call.LinkKind.{LinkKind}
use Rattle.script.specs.declared.call.LinkKind.TheVariants.{Queue, Pool}
use Rattle.script.specs.declared.numbers.Numbers.{Numbers}

-- record i begins at character 16 i; the last may be cut short
abbrev pub record_at : List ℕ → ℕ → List ℕ
record_at script i = take 16 (drop (16 * i) script)

abbrev pub record_count : List ℕ → ℕ
record_count script = length script / 16 + min 1 (length script % 16)

-- the records from the i-th on
abbrev pub records_from : List ℕ → ℕ → List (List ℕ)
records_from script i = map (record_at script) (range_with_len i (record_count script - i))

abbrev pub records : List ℕ → List (List ℕ)
records script = records_from script 0

-- the number of each link
abbrev pub link_number : LinkKind → ℕ
link_number Queue = 0
link_number Pool = 1

abbrev pub link_of : ℕ → Option LinkKind
link_of n = cond (n == link_number Queue) (Some Queue) (cond (n == link_number Pool) (Some Pool) None)

abbrev pub kit_call : ℕ → ℕ → Option LinkKind → Option Call
kit_call n p None = None
kit_call n p (Some link) = Some (Kit (record { boards = n; pages = p; link = link }))

-- the call that a letter makes of its numbers; those that it has no use for are zero
abbrev pub call_of : ℕ → Numbers → Option Call
call_of letter n =
    cond (letter == letter_k) (kit_call n.two n.three (link_of n.eight))
    (cond (letter == letter_p) (cond (n.two == 0) (Some (Place n.three n.eight)) None)
    (cond (letter == letter_l) (cond (n.eight == 0) (Some (Run (Load n.two n.three))) None)
    (cond (letter == letter_s) (Some (Run (Store n.two n.three n.eight)))
    (cond (letter == letter_d) (cond (n.two == 0 && n.eight == 0) (Some (Run (Deliver n.three))) None) None))))

-- sixteen characters, of which the last two are a space and a newline
abbrev pub framed : List ℕ → Bool
framed r = length r == 16 && slice_index r 14 == 32 && slice_index r 15 == 10

-- before them a letter, two and three decimal digits, and eight hexadecimal digits
abbrev pub numbers_in : List ℕ → Option Numbers
numbers_in r = do
  two ← numeral 10 (between 1 3 r)
  three ← numeral 10 (between 3 6 r)
  eight ← numeral 16 (between 6 14 r)
  Some (record { two = two; three = three; eight = eight })

-- the call that a record asks for, if its characters are all of their form
abbrev pub form : List ℕ → Option Call
form r = cond (framed r) (numbers_in r >>= call_of (slice_index r 0)) None
