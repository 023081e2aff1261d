-- How a kit may begin.
use Rattle.std.proofs.Common.{◌≡◌, ℕ, ◌+◌, ◌*◌, nat_lt, nat_le, ◌==◌, true, List, [], ◌∷◌, None, Ok, Err, Result, refl, ap, ◌∙◌, sym, subst}
use Rattle.std.proofs.lemmas.Bool.{ltb-true, leb-true, eqb-true, and_parts}
use Rattle.std.specs.Prelude.{IfOk, MatchResult}
use Rattle.wire.specs.Bags.{Bag, size}
use Rattle.wire.specs.Questions.{first_no, refusal, inside}
use Rattle.wire.specs.declared.fault.Fault.{Fault}
use Rattle.wire.specs.declared.message.Message.{Message}
use Rattle.wire.proofs.Questions.{yes}
use Rattle.memory.specs.Kits.{Kit, start_kit}
use Rattle.memory.specs.Placements.{placed, after_placing}
use Rattle.memory.specs.declared.placement.Placement.{Placement}
use Rattle.memory.specs.Reached.{MayBegin}
use Rattle.kit.proofs.Empty.{nothing_in}
use Rattle.kit.specs.Clusters.{kit_of}
use Rattle.kit.specs.Loadings.{LoadedWith}
use Rattle.kit.specs.declared.loading.Loading.{Loading}
use Rattle.kit.specs.KitQuestions.{making_questions, place_questions}

-- a kit that is made, and whose link is empty
pub made_may : (n p limit count : ℕ) → first_no (making_questions n p limit count) ≡ None → MayBegin n p limit [] × (count ≡ 0)
made_may n p limit count passed =
    let seven = (7, (count == 0)) ∷ [] in
    let six = (6, nat_le (n * n + 16) limit) ∷ seven in
    let a = yes 4 (inside 1 16 n) ((5, inside 1 16 p) ∷ six) passed in
    let b = yes 5 (inside 1 16 p) six a.1 in
    let c = yes 6 (nat_le (n * n + 16) limit) seven b.1 in
    let d = yes 7 (count == 0) [] c.1 in
    let boards = and_parts (nat_le 1 n) (nat_le n 16) a.0 in
    let pages = and_parts (nat_le 1 p) (nat_le p 16) b.0 in (
      record { some_boards = leb-true 1 n boards.0; boards = leb-true n 16 boards.1; some_pages = leb-true 1 p pages.0; pages = leb-true p 16 pages.1; room = leb-true (n * n + 16) limit c.0; in_range = tt },
      eqb-true count 0 d.0,
    )

pages_kept : (n p : ℕ) (words : List Placement) → (after_placing n p words).pages ≡ p
pages_kept n p [] = refl
pages_kept n p (w ∷ ws) = pages_kept n p ws

-- a word that is placed
pub placed_may : (n p limit : ℕ) (words : List Placement) (k : Kit) (address word : ℕ) → k ≡ after_placing n p words → first_no (place_questions k.pages address) ≡ None → MayBegin n p limit words →
    MayBegin n p limit (record { address = address; word = word } ∷ words)
placed_may n p limit words k address word kit passed may =
    let inside_kit = (yes 2 (nat_lt address (16 * k.pages)) [] passed).0 in
    let pages : k.pages ≡ p = ap (λ (x : Kit). x.pages) kit ∙ pages_kept n p words in
    let inside_pages : nat_lt address (16 * p) ≡ true = ap (λ x. nat_lt address (16 * x)) (sym pages) ∙ inside_kit in
    record { some_boards = may.some_boards; boards = may.boards; some_pages = may.some_pages; pages = may.pages; room = may.room; in_range = (ltb-true address (16 * p) inside_pages, may.in_range) }

-- the same of the code's loading kits
module _ {L : Type 0} (limit : L → ℕ) (waiting : L → Bag Message) where
  pub made_loaded : (n p : ℕ) (link : L) (k : Loading L) → first_no (making_questions n p (limit link) (size (waiting link))) ≡ None → kit_of k.cluster ≡ start_kit n p → k.link ≡ link → LoadedWith limit waiting n p [] k
  made_loaded n p link k passed kit same =
      let may = made_may n p (limit link) (size (waiting link)) passed in
      record { may_begin = subst (λ x. MayBegin n p (limit x) []) (sym same) may.0; placed = kit; nothing_waits = ap waiting same ∙ nothing_in (waiting link) may.1 }

  pub placed_loaded : (k t : Loading L) (address word : ℕ) (result : Result (Unit {0}) Fault) → refusal result ≡ first_no (place_questions (kit_of k.cluster).pages address) →
      MatchResult result (λ _. kit_of t.cluster ≡ placed (kit_of k.cluster) address word) (λ _. t.cluster ≡ k.cluster) → t.link ≡ k.link →
      (n p : ℕ) (words : List Placement) → LoadedWith limit waiting n p words k → IfOk result (λ _. LoadedWith limit waiting n p (record { address = address; word = word } ∷ words) t)
  placed_loaded k t address word (Ok x) asked done link n p words loaded = record {
    may_begin = subst (λ x. MayBegin n p (limit x) (record { address = address; word = word } ∷ words)) (sym link) (placed_may n p (limit k.link) words (kit_of k.cluster) address word loaded.placed (sym asked) loaded.may_begin);
    placed = done ∙ ap (λ x. placed x address word) loaded.placed;
    nothing_waits = ap waiting link ∙ loaded.nothing_waits;
  }
  placed_loaded k t address word (Err fault) asked done link n p words loaded = tt
