-- The words of a page stand four bytes apart, and are read where they were written.
use Rattle.std.proofs.Common.{◌≡◌, ℕ, zero, suc, ◌+◌, ◌*◌, ◌^◌, ◌<◌, ◌≤◌, List, [], ◌∷◌, ◌++◌, map, length, get_or, take, drop, sym, refl, ap, ◌∙◌, append_assoc, arith}
use Rattle.std.specs.List.{range_with_len, flat_map, AllByRecursion}
use Rattle.std.proofs.lemmas.List.FromFn.{fill_by_all}
use Rattle.std.proofs.ByRecursion.{All-get_or}
use Rattle.std.proofs.Math.Seq.{take-add}
use Rattle.std.proofs.lemmas.List.{length-append, drop-drop}
use Rattle.records.specs.Laws.{Bytes}
use Rattle.records.specs.Layouts.{words_in, word_place}
use Rattle.records.specs.Numbers.{low_first, number_at}
use Rattle.records.proofs.Bytewise.{number_back, bytes_back}

abbrev pub word_bytes : List ℕ → List ℕ
word_bytes ws = flat_map (low_first 4) ws

pub length_word_bytes : (ws : List ℕ) → length (word_bytes ws) ≡ 4 * length ws
length_word_bytes [] = refl
length_word_bytes (w ∷ ws) = omega (arith, length_word_bytes ws)

-- word k behind a front
word_back : (front ws : List ℕ) (k place : ℕ) → k < length ws → place ≡ length front + 4 * k → get_or ws k 0 < 2 ^ 32 → number_at (front ++ word_bytes ws) place 4 ≡ get_or ws k 0
word_back front [] k place h e small = absurd (omega arith)
word_back front (w ∷ ws) zero place h e small = number_back 4 w front (word_bytes ws) place (omega arith) small
word_back front (w ∷ ws) (suc k) place h e small =
    ap (λ (xs : List ℕ). number_at xs place 4) (sym (append_assoc front (low_first 4 w) (word_bytes ws)))
    ∙ word_back (front ++ low_first 4 w) ws k place (omega arith) (omega (arith, length-append front (low_first 4 w))) small

pub words_back : (front ws : List ℕ) → length front ≡ 16 → length ws ≡ 16 → AllByRecursion (λ w. w < 2 ^ 32) ws → words_in (front ++ word_bytes ws) ≡ ws
unfolding words_in
words_back front ws f l small =
    sym (fill_by_all (λ i. number_at (front ++ word_bytes ws) (word_place i) 4) ws 16 0 l (λ k h.
    sym (word_back front ws k (word_place k) (omega arith) (omega arith) (All-get_or (λ w. w < 2 ^ 32) ws k 0 (omega arith) small))))

-- the words from the one at a on, in bytes, are the bytes from there on
pub bytes_of_words : (bs : List ℕ) (a n : ℕ) → Bytes bs → word_place (a + n) ≤ length bs → word_bytes (map (λ i. number_at bs (word_place i) 4) (range_with_len a n)) ≡ take (4 * n) (drop (word_place a) bs)
bytes_of_words bs a zero small h = refl
bytes_of_words bs a (suc n) small h =
    let xs = drop (word_place a) bs in
    let next : word_place a + 4 ≡ word_place (a + 1) = omega arith in
    let four : 4 + 4 * n ≡ 4 * suc n = omega arith in
    ap (λ (ys : List ℕ). ys ++ word_bytes (map (λ i. number_at bs (word_place i) 4) (range_with_len (a + 1) n))) (bytes_back bs (word_place a) 4 small (omega arith))
    ∙ ap (λ (ys : List ℕ). take 4 xs ++ ys) (bytes_of_words bs (a + 1) n small (omega arith))
    ∙ ap (λ (k : ℕ). take 4 xs ++ take (4 * n) (drop k bs)) (sym next)
    ∙ ap (λ (ys : List ℕ). take 4 xs ++ take (4 * n) ys) (sym (drop-drop 4 (word_place a) bs))
    ∙ sym (take-add 4 (4 * n) xs)
    ∙ ap (λ (k : ℕ). take k xs) four
