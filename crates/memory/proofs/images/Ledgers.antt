-- The ledger of a history beside that of the model.
use Rattle.std.proofs.Common.{◌≡◌, ℕ, ◌+◌, ◌-◌, ◌*◌, ◌<◌, ◌≤◌, Bool, true, false, cond, ◌&&◌, eqb, ◌⊎◌, List, [], ◌∷◌, map, length, get_or, None, Option, refl, ap, ◌∙◌, sym, inl, inr, arith}
use Rattle.std.proofs.lemmas.Bool.{cases_eq}
use Rattle.std.proofs.lemmas.Bool.Decides.{nat_tests}
use Rattle.std.proofs.lemmas.List.{length-set, get_or-set_same, get_or-set_other}
use Rattle.memory.specs.Functions.{changed}
use Rattle.wire.specs.Bags.{size}
use Rattle.wire.specs.declared.message.Message.{Message}
use Rattle.wire.specs.declared.message.Kind.{Kind}
use Rattle.wire.specs.declared.message.Kind.TheVariants.{ReadRequest, WriteRequest, Copy, Grant, Invalidate, Acknowledgement}
use Rattle.board.specs.Addresses.{page_of, place_of}
use Rattle.board.specs.Boards.{BoardState}
use Rattle.board.specs.declared.entry.PageEntry.{PageEntry}
use Rattle.memory.specs.Calls.{Running}
use Rattle.memory.specs.Histories.{Access}
use Rattle.memory.specs.Kits.{Kit, state_at}
use Rattle.memory.specs.Ledgers as specs
use Rattle.memory.specs.Placements.{Words}
use Rattle.memory.proofs.kept.Sums.{changed_same, changed_other}
use Rattle.memory.proofs.model.Board.{Mail}
use Rattle.memory.proofs.model.Ledgers.{Ledger}
use Rattle.memory.proofs.model.Kit.{Post, requests, asks_of}
use Rattle.memory.proofs.images.Images.{W, mail_by, post_image, put_word}
use Rattle.memory.proofs.images.OpenAccesses.{pending_of, not_asked}
use Rattle.memory.proofs.images.Sets.{on_page}
use Rattle.memory.proofs.images.Tables.{Shaped, kit_after, state_here, state_there}

-- the array has the words of the pages
pub record WordsAgree (p : ℕ) (array : Words) (memory : ℕ → W) : Type 0 where
  pub long : (r : ℕ) → r < p → length (memory r) ≡ 16
  pub same : (x : ℕ) → x < 16 * p → array x ≡ get_or (memory (page_of x)) (place_of x) 0

-- a request posted once more than it was passed on, or none at all
abbrev pub Counts : ℕ → Kit → ℕ → ℕ → ℕ → Type 0
Counts n k b requests passed = (requests ≡ passed + 1) ⊎ ((requests ≡ 0) × (passed ≡ 0) × (b < n → not_asked (state_at k b).stage ≡ true))

pub counted : (n : ℕ) (k : Kit) (b requests passed : ℕ) → Counts n k b requests passed → requests - 1 ≡ passed
counted n k b requests passed (inl e) = omega (arith, e)
counted n k b requests passed (inr h) = omega (arith, h.0, h.1)

-- the counts stay where nothing is posted, and no board asks
pub counts_on : (n : ℕ) (k now : Kit) (b r q r' q' : ℕ) → r' ≡ r → q' ≡ q → (not_asked (state_at k b).stage ≡ true → not_asked (state_at now b).stage ≡ true) → Counts n k b r q → Counts n now b r' q'
counts_on n k now b r q r' q' e d stays (inl h) = inl (omega (arith, e, d, h))
counts_on n k now b r q r' q' e d stays (inr h) = inr (omega (arith, e, h.0), omega (arith, d, h.1), λ l. stays (h.2 l))

pub record Agrees (n p : ℕ) (l : specs.Ledger) (s : Running) (ml : Ledger W) : Type 0 where
  pub words : WordsAgree p l.array ml.memory
  pub counts : (b : ℕ) → Counts n s.kit b (l.requests b) (ml.passed b)
  pub pending : (b : ℕ) → b < n → l.pending b ≡ pending_of (state_at s.kit b).stage
  pub none_else : (b : ℕ) → n ≤ b → l.pending b ≡ None
  pub waiting : l.waiting ≡ size s.waiting

-- a word is put
put_long : (p address word : ℕ) (memory : ℕ → W) → ((r : ℕ) → r < p → length (memory r) ≡ 16) → (r : ℕ) → r < p → length (changed memory (page_of address) (put_word address word (memory (page_of address))) r) ≡ 16
put_long p address word memory long r l = elim (cases_eq r (page_of address)) [
  | inl e ↦ ap length (ap (changed memory (page_of address) (put_word address word (memory (page_of address)))) e ∙ changed_same memory (page_of address) (put_word address word (memory (page_of address))))
      ∙ length-set (memory (page_of address)) (place_of address) word ∙ ap (λ x. length (memory x)) (sym e) ∙ long r l
  | inr ne ↦ ap length (changed_other memory (page_of address) (put_word address word (memory (page_of address))) r ne) ∙ long r l
]

put_same : (address word x : ℕ) (ws : W) → page_of x ≡ page_of address → length ws ≡ 16 → cond (eqb x address) word (get_or ws (place_of x) 0) ≡ get_or (put_word address word ws) (place_of x) 0
put_same address word x ws e l = grind (arith, nat_tests, cases_eq (place_of x) (place_of address), get_or-set_same, get_or-set_other)

elsewhere : (address x : ℕ) → (page_of x ≡ page_of address → ⊥) → eqb x address ≡ false
elsewhere address x ne = grind (arith, nat_tests)

pub put_agrees : (p address word : ℕ) (array : Words) (memory : ℕ → W) → page_of address < p → WordsAgree p array memory → WordsAgree p (changed array address word) (changed memory (page_of address) (put_word address word (memory (page_of address))))
put_agrees p address word array memory l a = record {
  long = put_long p address word memory a.long;
  same = λ x lx. elim (cases_eq (page_of x) (page_of address)) [
    | inl e ↦ ap (cond (eqb x address) word) (a.same x lx ∙ ap (λ r. get_or (memory r) (place_of x) 0) e) ∙ put_same address word x (memory (page_of address)) e (a.long (page_of address) l)
        ∙ ap (λ ws. get_or ws (place_of x) 0) (sym (ap (changed memory (page_of address) (put_word address word (memory (page_of address)))) e ∙ changed_same memory (page_of address) (put_word address word (memory (page_of address)))))
    | inr ne ↦ ap (λ (b : Bool). cond b word (array x)) (elsewhere address x ne) ∙ a.same x lx ∙ ap (λ ws. get_or ws (place_of x) 0) (sym (changed_other memory (page_of address) (put_word address word (memory (page_of address))) (page_of x) ne))
  ];
}

-- as many requests
asks_are : (k : Kind) (m : Message) (b : ℕ) → asks_of b (mail_by k m) ≡ cond (specs.is_request k && eqb m.asker b) 1 0
asks_are ReadRequest m b = refl
asks_are WriteRequest m b = refl
asks_are Copy m b = refl
asks_are Grant m b = refl
asks_are Invalidate m b = refl
asks_are Acknowledgement m b = refl

abbrev asked : ℕ → List (Post W) → ℕ
asked b [] = 0
asked b (x ∷ xs) = asks_of b x.mail + asked b xs

asked_on : (b page : ℕ) (ms : List (Mail W)) → asked b (map (on_page page) ms) ≡ requests b ms
asked_on b page [] = refl
asked_on b page (m ∷ ms) = ap (λ x. asks_of b m + x) (asked_on b page ms)

asked_by : (b : ℕ) (ms : List Message) → asked b (map post_image ms) ≡ specs.requests_of b ms
asked_by b [] = refl
asked_by b (m ∷ ms) = ap (λ x. x + asked b (map post_image ms)) (asks_are m.kind m b) ∙ ap (λ x. cond (specs.is_request m.kind && eqb m.asker b) 1 0 + x) (asked_by b ms)

pub requests_are : (b page : ℕ) (mails : List (Mail W)) (posts : List Message) → map (on_page page) mails ≡ map post_image posts → specs.requests_of b posts ≡ requests b mails
requests_are b page mails posts e = sym (asked_by b posts) ∙ ap (asked b) (sym e) ∙ asked_on b page mails

-- the open accesses after a step of one board
pub pending_step : (n : ℕ) (k : Kit) (shape : Shaped k) (board page : ℕ) (inside : board < 16) (st : BoardState) (e : PageEntry) (before after : ℕ → Option Access) →
    ((b : ℕ) → b < n → before b ≡ pending_of (state_at k b).stage) → after board ≡ pending_of st.stage → ((b : ℕ) → (b ≡ board → ⊥) → after b ≡ before b) →
    (b : ℕ) → b < n → after b ≡ pending_of (state_at (kit_after k board page st e) b).stage
pending_step n k shape board page inside st e before after was here there b l = elim (cases_eq b board) [
  | inl q ↦ ap after q ∙ here ∙ ap (λ (x : BoardState). pending_of x.stage) (sym (state_here k shape board page inside st e)) ∙ ap (λ x. pending_of (state_at (kit_after k board page st e) x).stage) (sym q)
  | inr ne ↦ there b ne ∙ was b l ∙ ap (λ (x : BoardState). pending_of x.stage) (sym (state_there k shape board page inside st e b ne))
]
