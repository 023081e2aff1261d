-- How far a session has come.
use Rattle.std.proofs.Common.{◌≡◌, ℕ, zero, suc, ◌%◌, ◌-◌, ◌≤◌, ◌<◌, min, true, false, List, [], ◌∷◌, ◌++◌, length, take, drop, IfSome, Some, None, Option, refl, ap, subst, sym, ◌∙◌, append_assoc, append-nil, length-append, arith}
use Rattle.std.proofs.lemmas.List.{take-append-drop, take-append-le, take_all, drop_all, length-take, length-drop}
use Rattle.std.specs.Io.KnownBytes.{Keeps, Consumes, Appends, IsAtEnd}
use Rattle.script.proofs.Players.{lines_are_listings, over_says_nothing}
use Rattle.script.proofs.Scripts.{records_more}
use Rattle.script.specs.Players.{Play, on, over, has_ended, next_all, reply, next, said, lines}
use Rattle.script.specs.Plays.{no_kit, listing}
use Rattle.script.specs.Records.{records}
use Rattle.script.specs.Streams.{KeepsUp, at_hand, most_at_hand}
use Rattle.script.specs.declared.hand.Hand.{Hand}

-- Records one after another.

-- whole records come before those behind them
whole_first : (n : ℕ) (xs ys : List ℕ) → length xs ≤ n → length xs % 16 ≡ 0 →
    records (xs ++ ys) ≡ records xs ++ records ys
whole_first n [] ys fits whole = refl
whole_first zero (x ∷ xs) ys fits whole = absurd (omega (arith, fits))
whole_first (suc n) (x ∷ xs) ys fits whole =
    let script = x ∷ xs in
    let first = take 16 script in
    let rest = drop 16 script in
    let parts : script ≡ first ++ rest = sym (take-append-drop 16 script) in
    let size : length first ≡ min 16 (length script) = length-take 16 script in
    let left : length rest ≡ length script - 16 = length-drop 16 script in
    let here = records_more script first rest parts size (omega arith) in
    let there =
    records_more (script ++ ys) first (rest ++ ys) (ap (λ (l : List ℕ). l ++ ys) parts ∙ append_assoc first rest ys)
    (omega (arith, size, whole, length-append script ys)) (omega (arith, length-append script ys)) in
    there.0 ∙ ap (λ (rs : List (List ℕ)). first ∷ rs)
    (whole_first n rest ys (omega (arith, left, fits)) (omega (arith, left, whole)))
    ∙ ap (λ (rs : List (List ℕ)). rs ++ records ys) (sym here.0)

pub records_behind : (xs ys : List ℕ) → length xs % 16 ≡ 0 → records (xs ++ ys) ≡ records xs ++ records ys
records_behind xs ys whole = whole_first (length xs) xs ys (omega arith) whole

lines_behind : (p : Play) (rs qs : List (List ℕ)) → lines p (rs ++ qs) ≡ lines p rs ++ lines (next_all p rs) qs
lines_behind p [] qs = refl
lines_behind p (r ∷ rs) qs =
    ap (λ (l : List ℕ). said (reply p r) ++ l) (lines_behind (next p r) rs qs)
    ∙ sym (append_assoc (said (reply p r)) (lines (next p r) rs) (lines (next_all (next p r) rs) qs))

next_behind : (p : Play) (rs qs : List (List ℕ)) → next_all p (rs ++ qs) ≡ next_all (next_all p rs) qs
next_behind p [] qs = refl
next_behind p (r ∷ rs) qs = next_behind (next p r) rs qs

-- a player answers the first of some records, by a line behind those that stand there
pub line_more : (text : List ℕ) (rs some : List (List ℕ)) → some ≡ text ∷ rs → (p q : Play) (line : Option (List ℕ)) →
    line ≡ reply p text → q ≡ next p text →
    (out new all : List ℕ) → new ≡ out ++ said line → out ++ lines p some ≡ all → new ++ lines q rs ≡ all
line_more text rs some parts p q line is_line leads out new all put owed =
    ap (λ (xs : List ℕ). xs ++ lines q rs) put ∙ append_assoc out (said line) (lines q rs)
    ∙ ap (λ (xs : List ℕ). out ++ xs) ((λ i. said (is_line i) ++ lines (leads i) rs) ∙ ap (lines p) (sym parts)) ∙ owed

pub next_more : (text : List ℕ) (rs some : List (List ℕ)) → some ≡ text ∷ rs → (p q last : Play) → q ≡ next p text →
    next_all p some ≡ last → next_all q rs ≡ last
next_more text rs some parts p q last leads owed = ap (λ x. next_all x rs) leads ∙ ap (next_all p) (sym parts) ∙ owed

-- the lines that answer a script are those of its first characters, which are whole records or all of it, and then
-- those of the rest
pub said_behind : (p : Play) (xs ys : List ℕ) → (0 < length ys → length xs % 16 ≡ 0) →
    lines p (records (xs ++ ys)) ≡ lines p (records xs) ++ lines (next_all p (records xs)) (records ys)
said_behind p xs [] whole = ap (λ (l : List ℕ). lines p (records l)) (append-nil xs)
    ∙ sym (append-nil (lines p (records xs)))
said_behind p xs (y ∷ ys) whole =
    ap (lines p) (records_behind xs (y ∷ ys) (whole (omega arith))) ∙ lines_behind p (records xs) (records (y ∷ ys))

play_behind : (xs ys : List ℕ) → length xs % 16 ≡ 0 →
    next_all (on no_kit) (records (xs ++ ys)) ≡ next_all (next_all (on no_kit) (records xs)) (records ys)
play_behind xs ys whole = ap (next_all (on no_kit)) (records_behind xs ys whole)
    ∙ next_behind (on no_kit) (records xs) (records ys)

over_at_end : (p : Play) → has_ended p ≡ true → (rs : List (List ℕ)) → lines p rs ≡ []
over_at_end (on s) ended rs = cc
over_at_end over ended rs = over_says_nothing rs

-- Bytes that are read and written.

appends_on : (a b c : Option (List ℕ)) (xs ys : List ℕ) → Appends a b xs → Appends b c ys → Appends a c (xs ++ ys)
appends_on None b c xs ys p q = tt
appends_on (Some es) None c xs ys p q = absurd p
appends_on (Some es) (Some bs) None xs ys p q = absurd q
appends_on (Some es) (Some bs) (Some cs) xs ys p q = q ∙ ap (λ (l : List ℕ). l ++ ys) p ∙ append_assoc es xs ys

consumes_on : (a b c : Option (List ℕ)) (xs ys : List ℕ) → Consumes a b xs → Consumes b c ys → Consumes a c (xs ++ ys)
consumes_on None b c xs ys p q = tt
consumes_on (Some es) None c xs ys p q = absurd p
consumes_on (Some es) (Some bs) None xs ys p q = absurd q
consumes_on (Some es) (Some bs) (Some cs) xs ys p q = p ∙ ap (λ (l : List ℕ). xs ++ l) q ∙ sym (append_assoc xs ys cs)

consumes_kept : (a b c : Option (List ℕ)) (xs : List ℕ) → Consumes a b xs → Keeps b c → Consumes a c xs
consumes_kept None b c xs p k = tt
consumes_kept (Some es) None c xs p k = absurd p
consumes_kept (Some es) (Some bs) None xs p k = absurd k
consumes_kept (Some es) (Some bs) (Some cs) xs p k = p ∙ ap (λ (l : List ℕ). xs ++ l) (sym k)

pub kept_same : (a : Option (List ℕ)) → Keeps a a
kept_same None = tt
kept_same (Some xs) = refl

pub few_at_hand : (h : Hand) → length (at_hand h) ≤ most_at_hand
few_at_hand h = omega (arith, length-take h.len h.chars, h.inside)

-- since the start, at which w0 was written and r0 was to be read
module _ (w0 r0 : Option (List ℕ)) where
  -- whole records are answered, and the characters in hand stand behind them
  pub record Progress (w r : Option (List ℕ)) (p : Play) (hand : List ℕ) : Type 0 where
    pub answered : List ℕ
    pub read : Consumes r0 r (answered ++ hand)
    pub whole : length answered % 16 ≡ 0
    pub written : Appends w0 w (lines (on no_kit) (records answered))
    pub play : p ≡ next_all (on no_kit) (records answered)

  abbrev pub IsListing : Option (List ℕ) → Type 0
  IsListing w = IfSome r0 (λ script. Appends w0 w (listing script))

  abbrev pub IsBeginning : Option (List ℕ) → Type 0
  IsBeginning w = IfSome r0 (λ script. (count : ℕ) × Appends w0 w (take count (listing script)))

  pub at_start : (p : Play) (hand : List ℕ) → p ≡ on no_kit → hand ≡ [] → Progress w0 r0 p hand
  at_start p hand start none = record {
    answered = [];
    read = subst (λ (l : List ℕ). Consumes r0 r0 l) (sym none) (nothing_read r0);
    whole = refl;
    written = nothing_written w0;
    play = start;
  }
    where
      nothing_read : (r : Option (List ℕ)) → Consumes r r []
      nothing_read None = tt
      nothing_read (Some xs) = refl

      nothing_written : (w : Option (List ℕ)) → Appends w w []
      nothing_written None = tt
      nothing_written (Some xs) = sym (append-nil xs)

  -- characters are read behind those in hand
  pub read_on : (w r r1 : Option (List ℕ)) (p : Play) (hand chunk hand1 : List ℕ) → Progress w r p hand →
      hand1 ≡ hand ++ chunk → Consumes r r1 chunk → Progress w r1 p hand1
  read_on w r r1 p hand chunk hand1 so joined read = record {
    answered = so.answered;
    read = subst (λ (l : List ℕ). Consumes r0 r1 l) (append_assoc so.answered hand chunk
        ∙ ap (λ (l : List ℕ). so.answered ++ l) (sym joined))
        (consumes_on r0 r r1 (so.answered ++ hand) chunk so.read read);
    whole = so.whole;
    written = so.written;
    play = so.play;
  }

  -- the first characters in hand are answered
  module _ (w r : Option (List ℕ)) (p : Play) (hand : List ℕ) (so : Progress w r p hand) (count : ℕ)
      (inside : count ≤ length hand) where
    abbrev pub answered_now : List ℕ
    answered_now = so.answered ++ take count hand

    pub read_now : Consumes r0 r (answered_now ++ drop count hand)
    read_now =
        subst (λ (l : List ℕ). Consumes r0 r l)
        (ap (λ (l : List ℕ). so.answered ++ l) (sym (take-append-drop count hand))
        ∙ sym (append_assoc so.answered (take count hand) (drop count hand)))
        so.read

    pub whole_now : count % 16 ≡ 0 → length answered_now % 16 ≡ 0
    whole_now whole = omega (
      arith,
      length-append so.answered (take count hand),
      length-take count hand,
      inside,
      whole,
      so.whole,
    )

    pub said_now : lines (on no_kit) (records answered_now)
        ≡ lines (on no_kit) (records so.answered) ++ lines p (records (take count hand))
    said_now =
        said_behind (on no_kit) so.answered (take count hand) (λ more. so.whole)
        ∙ ap (λ q. lines (on no_kit) (records so.answered) ++ lines q (records (take count hand))) (sym so.play)

    pub play_now : next_all p (records (take count hand)) ≡ next_all (on no_kit) (records answered_now)
    play_now = ap (λ q. next_all q (records (take count hand))) so.play
        ∙ sym (play_behind so.answered (take count hand) so.whole)

    pub written_now : (w1 : Option (List ℕ)) → Appends w w1 (lines p (records (take count hand))) →
        Appends w0 w1 (lines (on no_kit) (records answered_now))
    written_now w1 wrote =
        subst (λ (l : List ℕ). Appends w0 w1 l) (sym said_now) (appends_on w0 w w1 _ _ so.written wrote)

    pub answer_on : (w1 : Option (List ℕ)) (q : Play) (hand1 : List ℕ) → count % 16 ≡ 0 →
        Appends w w1 (lines p (records (take count hand))) →
        q ≡ next_all p (records (take count hand)) → hand1 ≡ drop count hand → Progress w1 r q hand1
    answer_on w1 q hand1 whole wrote play rest = record {
      answered = answered_now;
      read = rw rest read_now;
      whole = whole_now whole;
      written = written_now w1 wrote;
      play = play ∙ play_now;
    }

  -- These characters of the script are answered, those are held behind them, and the answered ones are whole records or
  -- all.
  module _ (r : Option (List ℕ)) (xs held : List ℕ) (read : Consumes r0 r (xs ++ held))
      (settled : (left : List ℕ) → r ≡ Some left → 0 < length (held ++ left) → length xs % 16 ≡ 0) where
    said_of : (script left : List ℕ) → script ≡ (xs ++ held) ++ left →
        (0 < length (held ++ left) → length xs % 16 ≡ 0) →
        listing script ≡ lines (on no_kit) (records xs) ++ lines (next_all (on no_kit) (records xs))
        (records (held ++ left))
    said_of script left parts whole =
        sym (lines_are_listings script) ∙ ap (λ (l : List ℕ). lines (on no_kit) (records l)) (parts
        ∙ append_assoc xs held left)
        ∙ said_behind (on no_kit) xs (held ++ left) whole

    -- a beginning of their answers is a beginning of the listing
    pub begins : (w : Option (List ℕ)) (front back : List ℕ) → lines (on no_kit) (records xs) ≡ front ++ back →
        Appends w0 w front → IsBeginning w
    begins w front back parts wrote = by r0 r read settled
      where
        first : (whole : List ℕ) → take (length front) (front ++ whole) ≡ front
        first whole = take-append-le (length front) front whole (omega arith)
            ∙ take_all (length front) front (omega arith)

        by : (r0 r : Option (List ℕ)) → Consumes r0 r (xs ++ held) →
            ((left : List ℕ) → r ≡ Some left → 0 < length (held ++ left) → length xs % 16 ≡ 0) →
            IfSome r0 (λ script. (count : ℕ) × Appends w0 w (take count (listing script)))
        by None r read settled = tt
        by (Some script) None read settled = absurd read
        by (Some script) (Some left) read settled =
            let more = lines (next_all (on no_kit) (records xs)) (records (held ++ left)) in
            let all : listing script ≡ front ++ (back ++ more) = said_of script left read (settled left refl)
            ∙ ap (λ (l : List ℕ). l ++ more) parts ∙ append_assoc front back more in (
              length front,
              subst (λ (l : List ℕ). Appends w0 w l)
                  (sym (ap (take (length front)) all ∙ first (back ++ more))) wrote,
            )

    -- their answers are the listing, where nothing is answered behind them
    pub all_said : (w : Option (List ℕ)) →
        ((left : List ℕ) → r ≡ Some left → lines (next_all (on no_kit) (records xs)) (records (held ++ left)) ≡ []) →
        Appends w0 w (lines (on no_kit) (records xs)) → IsListing w
    all_said w none wrote = by r0 r read settled none
      where
        by : (r0 r : Option (List ℕ)) → Consumes r0 r (xs ++ held) →
            ((left : List ℕ) → r ≡ Some left → 0 < length (held ++ left) → length xs % 16 ≡ 0) →
            ((left : List ℕ) → r ≡ Some left →
            lines (next_all (on no_kit) (records xs)) (records (held ++ left)) ≡ []) →
            IfSome r0 (λ script. Appends w0 w (listing script))
        by None r read settled none = tt
        by (Some script) None read settled none = absurd read
        by (Some script) (Some left) read settled none =
            let all = said_of script left read (settled left refl)
            ∙ ap (λ (l : List ℕ). lines (on no_kit) (records xs) ++ l) (none left refl)
            ∙ append-nil (lines (on no_kit) (records xs)) in
            subst (λ (l : List ℕ). Appends w0 w l) (sym all) wrote

-- The session before a read.
module _ (w0 r0 w r : Option (List ℕ)) (p : Play) (hand : List ℕ) (so : Progress w0 r0 w r p hand) where
  pub begins_so : IsBeginning w0 r0 w
  begins_so = begins w0 r0 r so.answered hand so.read (λ left some more. so.whole) w
      (lines (on no_kit) (records so.answered)) [] (sym (append-nil (lines (on no_kit) (records so.answered))))
      so.written

  pub keeps_up : has_ended p ≡ false → length hand ≤ most_at_hand → (r1 v : Option (List ℕ)) → Keeps r r1 →
      (rest : List ℕ) → Appends w v rest → KeepsUp r0 r1 w0 v
  keeps_up going few r1 v kept rest wrote = record {
    answered = so.answered;
    held = hand;
    read = consumes_kept r0 r r1 (so.answered ++ hand) so.read kept;
    whole = so.whole;
    few = few;
    going = ap has_ended (sym so.play) ∙ going;
    said = (rest, appends_on w0 w v _ _ so.written wrote);
  }

-- The session once so many characters were read, of which so many are answered.
module _ (w0 r0 w r : Option (List ℕ)) (p : Play) (hand : List ℕ) (so : Progress w0 r0 w r p hand)
    (count just_read : ℕ) (inside : count ≤ length hand)
    (all : just_read ≡ 0 → count ≡ length hand) (whole : 0 < just_read →
    count ≡ length hand - length hand % 16) (end : just_read ≡ 0 → IsAtEnd r) where
  pub whole_records : 0 < just_read → count % 16 ≡ 0
  whole_records some = omega (arith, whole some)

  settled : (left : List ℕ) → r ≡ Some left → 0 < length (drop count hand ++ left) →
      length (answered_now w0 r0 w r p hand so count inside) % 16 ≡ 0
  settled left is more = by just_read all end whole_records
    where
      by : (n : ℕ) → (n ≡ 0 → count ≡ length hand) → (n ≡ 0 → IsAtEnd r) → (0 < n → count % 16 ≡ 0) →
          length (answered_now w0 r0 w r p hand so count inside) % 16 ≡ 0
      by zero all end whole =
          let gone : left ≡ [] = subst IsAtEnd is (end refl) in
          let size : length (drop count hand ++ left)
          ≡ 0 = rw (gone, all refl, drop_all (length hand) hand (omega arith)) refl in
          absurd (omega (arith, size, more))
      by (suc n) all end whole = whole_now w0 r0 w r p hand so count inside (whole (omega arith))

  pub begins_answering : (v : Option (List ℕ)) → (n : ℕ) × Appends w v (take n (lines p (records (take count hand)))) →
      IsBeginning w0 r0 v
  begins_answering v (n, wrote) =
      let before = lines (on no_kit) (records so.answered) in
      let now = lines p (records (take count hand)) in
      begins w0 r0 r (answered_now w0 r0 w r p hand so count inside) (drop count hand)
      (read_now w0 r0 w r p hand so count inside) settled v (before ++ take n now) (drop n now)
      (said_now w0 r0 w r p hand so count inside ∙ ap (λ (l : List ℕ). before ++ l) (sym (take-append-drop n now))
      ∙ sym (append_assoc before (take n now) (drop n now)))
      (appends_on w0 w v before (take n now) so.written wrote)

  module _ (w1 : Option (List ℕ)) (q : Play) (wrote : Appends w w1 (lines p (records (take count hand)))) (play : q
      ≡ next_all p (records (take count hand))) where
    listing_if : ((left : List ℕ) → r ≡ Some left →
        lines (next_all (on no_kit) (records (answered_now w0 r0 w r p hand so count inside)))
        (records (drop count hand ++ left)) ≡ []) → IsListing w0 r0 w1
    listing_if none =
        all_said w0 r0 r (answered_now w0 r0 w r p hand so count inside) (drop count hand)
        (read_now w0 r0 w r p hand so count inside) settled w1 none
        (written_now w0 r0 w r p hand so count inside w1 wrote)

    pub ended_said : has_ended q ≡ true → IsListing w0 r0 w1
    ended_said ended = listing_if (λ left is. over_at_end _
        (ap has_ended (sym (play ∙ play_now w0 r0 w r p hand so count inside))
        ∙ ended) (records (drop count hand ++ left)))

    pub read_said : just_read ≡ 0 → IsListing w0 r0 w1
    read_said none =
        listing_if (λ left is.
        let gone : left ≡ [] = subst IsAtEnd is (end none) in
        rw (gone, all none, drop_all (length hand) hand (omega arith)) refl)
