-- Listings are lines, and accepted records are echoed.
use Rattle.std.proofs.Common.{◌≡◌, ℕ, ◌-◌, ◌*◌, ◌<◌, ◌≤◌, Bool, true, false, cond, List, [], ◌∷◌, ◌++◌, length, get_or, Some, None, Option, sym, subst, refl, ap, ◌∙◌, arith, rules}
use Rattle.std.proofs.lemmas.List.FromFn.{length-map-range_with_len}
use Rattle.std.proofs.lemmas.List.{length-append, append_assoc, same_lists, places}
use Rattle.std.proofs.lemmas.Bool.Decides.{nat_tests}
use Rattle.std.specs.List.{between, flat_map}
use Rattle.std.specs.Option.{option_and_then}
use Rattle.std.proofs.lemmas.Option.{option_and_then_some, same_Some}
use Rattle.wire.specs.Questions.{first_no}
use Rattle.wire.specs.declared.message.Message.{Message}
use Rattle.board.specs.declared.answer.AccessAnswer.TheVariants.{Answered, Opened}
use Rattle.memory.specs.Kits as kits
use Rattle.memory.specs.declared.answer.Answer.TheVariants.{Accessed, Arrived, Quiet}
use Rattle.memory.specs.declared.call.Call.{Call as KitCall}
use Rattle.memory.specs.declared.call.Call.TheVariants.{Load, Store, Deliver}
use Rattle.script.specs.Choosing.{Taken, taken}
use Rattle.script.specs.Digits.{digits, numeral}
use Rattle.script.specs.Laws.{echo_letter, Echoed, WholeLines}
use Rattle.script.specs.Lines.{numbers_of, line_of, text}
use Rattle.script.specs.Letters.{letter_a, letter_o}
use Rattle.script.specs.Plays.{Bench, no_kit, loading, running, Done, ran, after_delivery, accepted, decided, record_questions, carried_out, outcome, line, after, ends, Outcome, outcomes}
use Rattle.script.specs.Records.{record_at, record_count, records, form, framed, numbers_in, call_of, link_number}
use Rattle.script.specs.declared.answer.Answer.{Answer}
use Rattle.script.specs.declared.answer.Answer.TheVariants.{Made, Placed, Ran}
use Rattle.script.specs.declared.call.Call.{Call}
use Rattle.script.specs.declared.call.Call.TheVariants.{Kit, Place, Run}
use Rattle.script.specs.declared.call.LinkKind.{LinkKind}
use Rattle.script.specs.declared.call.KitPlan.{KitPlan}
use Rattle.script.specs.declared.line.Line.{Line}
use Rattle.script.specs.declared.numbers.Numbers.{Numbers}
use Rattle.script.proofs.Undoing.{written_back}

line_long : (l : Line) → length (text l) ≡ 16
unfolding text
line_long l = refl

lines_long : (os : List Outcome) → length (flat_map (λ o. text (line o)) os) ≡ 16 * length os
lines_long [] = refl
lines_long (o ∷ os) = length-append (text (line o)) (flat_map (λ o. text (line o)) os)
    ∙ omega (arith, line_long (line o), lines_long os)

few : (s : Bench) (rs : List (List ℕ)) → length (outcomes s rs) ≤ length rs
few s [] = omega arith
few s (r ∷ rs) = by (ends (outcome s r) r) (few (after s (outcome s r)) rs)
  where
    by : (b : Bool) → length (outcomes (after s (outcome s r)) rs) ≤ length rs →
        length (outcome s r ∷ cond b [] (outcomes (after s (outcome s r)) rs)) ≤ length (r ∷ rs)
    by true h = omega arith
    by false h = omega (arith, h)

pub whole_lines : WholeLines
whole_lines script = (
  lines_long (outcomes no_kit (records script)),
  omega
      (arith, few no_kit (records script), length-map-range_with_len (record_at script) 0 (record_count script - 0)),
)

-- what an accepted record was
was_done : (q : Option ℕ) (o : Option Done) (done : Done) → decided q o ≡ accepted done → o ≡ Some done
was_done (Some n) o done e = cc
was_done None (Some d) done e = cc
was_done None None done e = cc

-- a record that has its form: its numbers, and their digits
record Read (r : List ℕ) (c : Call) : Type 0 where
  numbers : Numbers
  length_is : length r ≡ 16
  two_is : numeral 10 (between 1 3 r) ≡ Some numbers.two
  three_is : numeral 10 (between 3 6 r) ≡ Some numbers.three
  eight_is : numeral 16 (between 6 14 r) ≡ Some numbers.eight
  call_is : call_of (get_or r 0 0) numbers ≡ Some c

in_frame : (b : Bool) (o : Option Call) (c : Call) → cond b o None ≡ Some c → (b ≡ true) × (o ≡ Some c)
in_frame true o c e = (refl, e)
in_frame false o c e = cc

read : (r : List ℕ) (c : Call) → form r ≡ Some c → Read r c
read r c e =
    let frame = in_frame (framed r) (option_and_then (call_of (get_or r 0 0)) (numbers_in r)) c e in
    let eights : ℕ → ℕ → ℕ →
    Option Numbers = λ two three eight. Some (record { two = two; three = three; eight = eight }) in
    let threes : ℕ → ℕ → Option Numbers =
    λ two three. option_and_then (eights two three) (numeral 16 (between 6 14 r)) in
    let twos : ℕ → Option Numbers = λ two. option_and_then (threes two) (numeral 10 (between 3 6 r)) in
    option_and_then_some (call_of (get_or r 0 0)) (numbers_in r) c frame.1 (λ n is call_is.
    option_and_then_some twos (numeral 10 (between 1 3 r)) n is (λ two two_is at_two.
    option_and_then_some (threes two) (numeral 10 (between 3 6 r)) n at_two (λ three three_is at_three.
    option_and_then_some (eights two three) (numeral 16 (between 6 14 r)) n at_three (λ eight eight_is all.
    let same : record { two = two; three = three; eight = eight } ≡ n = same_Some _ n all in
    record {
      numbers = n;
      length_is = grind (arith, nat_tests, frame.0);
      two_is = two_is ∙ ap (λ (m : Numbers). Some m.two) same;
      three_is = three_is ∙ ap (λ (m : Numbers). Some m.three) same;
      eight_is = eight_is ∙ ap (λ (m : Numbers). Some m.eight) same;
      call_is = call_is;
    }))))

-- K's numbers are its plan, P's are none, the address and the word
kit_parts : (letter : ℕ) (n : Numbers) (plan : KitPlan) → call_of letter n ≡ Some (Kit plan) →
    (n.two ≡ plan.boards) × (n.three ≡ plan.pages) × (n.eight ≡ link_number plan.link)
kit_parts letter n plan e = (grind (arith, nat_tests), grind (arith, nat_tests), grind (arith, nat_tests))

place_parts : (letter : ℕ) (n : Numbers) (a w : ℕ) → call_of letter n ≡ Some (Place a w) →
    (n.two ≡ 0) × (n.three ≡ a) × (n.eight ≡ w)
place_parts letter n a w e = (grind (arith, nat_tests), grind (arith, nat_tests), grind (arith, nat_tests))

same_numbers : (n : Numbers) (a b c : ℕ) → (n.two ≡ a) × (n.three ≡ b) × (n.eight ≡ c) →
    n ≡ record { two = a; three = b; eight = c }
same_numbers n a b c e = λ i. record { two = e.0 i; three = e.1 i; eight = e.2 i }

kit_numbers : (letter : ℕ) (n : Numbers) (plan : KitPlan) → call_of letter n ≡ Some (Kit plan) →
    n ≡ record { two = plan.boards; three = plan.pages; eight = link_number plan.link }
kit_numbers letter n plan e = same_numbers n _ _ _ (kit_parts letter n plan e)

place_numbers : (letter : ℕ) (n : Numbers) (a w : ℕ) → call_of letter n ≡ Some (Place a w) →
    n ≡ record { two = 0; three = a; eight = w }
place_numbers letter n a w e = same_numbers n _ _ _ (place_parts letter n a w e)

-- the digits stand side by side in the record
side_by_side : (r : List ℕ) → length r ≡ 16 → between 1 3 r ++ (between 3 6 r ++ between 6 14 r) ≡ between 1 14 r
side_by_side r l = same_lists _ _ (search (rules, places)) (λ k d h. grind (arith, places))

-- characters that write a number are its digits
as_digits : (base : ℕ) (cs : List ℕ) (n width : ℕ) → 1 < base → base ≤ 16 → length cs ≡ width →
    numeral base cs ≡ Some n → digits base width n ≡ cs
as_digits base cs n width b h l e = ap (λ (w : ℕ). digits base w n) (sym l) ∙ written_back base cs n b h e

-- a line of a letter with some numbers
abbrev lettered : ℕ → Numbers → Line
lettered letter n = record { letter = letter; numbers = n; hops = 0 }

abbrev echo_of : ℕ → List ℕ → List ℕ
echo_of letter r = letter ∷ between 1 14 r ++ 48 ∷ 10 ∷ []

side_by_side_before : (a b d t : List ℕ) → a ++ (b ++ (d ++ t)) ≡ (a ++ (b ++ d)) ++ t
side_by_side_before a b d t = simp append_assoc

-- the line with the numbers of a record has its digits
echo : (letter : ℕ) (r : List ℕ) (c : Call) (is : Read r c) → text (lettered letter is.numbers) ≡ echo_of letter r
unfolding text
echo letter r c is =
    let l = is.length_is in
    let n = is.numbers in
    let tail : List ℕ = 48 ∷ 10 ∷ [] in
    let twos = as_digits 10 (between 1 3 r) n.two 2 (omega arith) (omega arith) (search (rules, places)) is.two_is in
    let threes = as_digits 10 (between 3 6 r) n.three 3 (omega arith) (omega arith) (search (rules, places))
    is.three_is in
    let eights = as_digits 16 (between 6 14 r) n.eight 8 (omega arith) (omega arith) (search (rules, places))
    is.eight_is in
    ap (λ (xs : List ℕ). letter ∷ xs)
    (ap (λ (xs : List ℕ). xs ++ (digits 10 3 n.three ++ (digits 16 8 n.eight ++ tail))) twos
    ∙ ap (λ (xs : List ℕ). between 1 3 r ++ (xs ++ (digits 16 8 n.eight ++ tail))) threes
    ∙ ap (λ (xs : List ℕ). between 1 3 r ++ (between 3 6 r ++ (xs ++ tail))) eights
    ∙ side_by_side_before (between 1 3 r) (between 3 6 r) (between 6 14 r) tail
    ∙ ap (λ (xs : List ℕ). xs ++ tail) (side_by_side r l))

-- the numbers of a record that calls the running kit
run_numbers : (letter : ℕ) (n : Numbers) (call : KitCall) → call_of letter n ≡ Some (Run call) → n ≡ numbers_of call
run_numbers letter n (Load board address) e =
    same_numbers n _ _ _ (grind (arith, nat_tests), grind (arith, nat_tests), grind (arith, nat_tests))
run_numbers letter n (Store board address word) e =
    same_numbers n _ _ _ (grind (arith, nat_tests), grind (arith, nat_tests), grind (arith, nat_tests))
run_numbers letter n (Deliver pick) e =
    same_numbers n _ _ _ (grind (arith, nat_tests), grind (arith, nat_tests), grind (arith, nat_tests))

-- the record of an answer
abbrev Asks : Answer → Call → Type 0
Asks (Made plan) c = c ≡ Kit plan
Asks (Placed address word) c = c ≡ Place address word
Asks (Ran call answer) c = c ≡ Run call

-- a call on a kit is answered as one
ran_asks : (link : LinkKind) (k : kits.Kit) (row : List Message) (call : KitCall) →
    Asks (ran link k row call).answer (Run call)
ran_asks link k row (Load board address) = refl
ran_asks link k row (Store board address word) = refl
ran_asks link k row (Deliver pick) = by (taken link pick row)
  where
    by : (o : Option Taken) → Asks (after_delivery link k (Deliver pick) o).answer (Run (Deliver pick))
    by None = refl
    by (Some t) = refl

asks : (s : Bench) (c : Call) (done : Done) → carried_out s c ≡ Some done → Asks done.answer c
asks no_kit (Kit plan) done e = subst (λ (d : Done). Asks d.answer (Kit plan)) (same_Some _ done e) refl
asks no_kit (Place a w) done e = cc
asks no_kit (Run call) done e = cc
asks (loading link k) (Kit plan) done e = cc
asks (loading link k) (Place a w) done e = subst (λ (d : Done). Asks d.answer (Place a w)) (same_Some _ done e) refl
asks (loading link k) (Run call) done e =
    subst (λ (d : Done). Asks d.answer (Run call)) (same_Some _ done e) (ran_asks link k [] call)
asks (running link k row) (Kit plan) done e = cc
asks (running link k row) (Place a w) done e = cc
asks (running link k row) (Run call) done e =
    subst (λ (d : Done). Asks d.answer (Run call)) (same_Some _ done e) (ran_asks link k row call)

by_answer : (r : List ℕ) (c : Call) (answer : Answer) (letter : ℕ) → form r ≡ Some c → Asks answer c →
    echo_letter answer ≡ Some letter → text (line_of answer) ≡ echo_of letter r
by_answer r c (Made plan) letter f a e =
    let is = read r (Kit plan) (f ∙ ap Some a) in
    ap (λ x. text (lettered x (record { two = plan.boards; three = plan.pages; eight = link_number plan.link })))
    (same_Some letter_a letter e)
    ∙ ap (λ (n : Numbers). text (lettered letter n))
    (sym (kit_numbers (get_or r 0 0) is.numbers plan is.call_is)) ∙ echo letter r (Kit plan) is
by_answer r c (Placed address word) letter f a e =
    let is = read r (Place address word) (f ∙ ap Some a) in
    ap (λ x. text (lettered x (record { two = 0; three = address; eight = word }))) (same_Some letter_a letter e)
    ∙ ap (λ (n : Numbers). text (lettered letter n))
    (sym (place_numbers (get_or r 0 0) is.numbers address word is.call_is))
    ∙ echo letter r (Place address word) is
by_answer r c (Ran call (Accessed (Answered word))) letter f a e = cc
by_answer r c (Ran call (Accessed Opened)) letter f a e =
    let is = read r (Run call) (f ∙ ap Some a) in
    ap (λ x. text (lettered x (numbers_of call))) (same_Some letter_o letter e)
    ∙ ap (λ (n : Numbers). text (lettered letter n)) (sym (run_numbers (get_or r 0 0) is.numbers call is.call_is))
    ∙ echo letter r (Run call) is
by_answer r c (Ran call (Arrived arrival)) letter f a e = cc
by_answer r c (Ran call Quiet) letter f a e = cc

by_call : (s : Bench) (r : List ℕ) (o : Option Call) (done : Done) (letter : ℕ) → form r ≡ o →
    option_and_then (carried_out s) o ≡ Some done → echo_letter done.answer ≡ Some letter →
    text (line_of done.answer) ≡ echo_of letter r
by_call s r None done letter f e l = cc
by_call s r (Some c) done letter f e l = by_answer r c done.answer letter f (asks s c done e) l

pub echoed : Echoed
echoed s r done letter e l =
    by_call s r (form r) done letter refl
    (was_done (first_no (record_questions s (form r))) (option_and_then (carried_out s) (form r)) done e) l
