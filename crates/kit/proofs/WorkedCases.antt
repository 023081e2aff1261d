-- The worked cases hold.
use Rattle.std.proofs.Common.{◌≡◌, ℕ, ◌<◌, [], ◌∷◌, Some, None, Ok, Err, Option, Result, refl, ap, ◌∙◌, sym, subst}
use Rattle.std.proofs.Common.{arith}
use Rattle.std.proofs.lemmas.Bool.Decides.{nat_tests}
use Rattle.wire.specs.Bags.{Bag, size}
use Rattle.wire.specs.Questions.{first_no, refusal}
use Rattle.wire.specs.Links.{Posted, Taken}
use Rattle.wire.specs.declared.fault.Fault.{Fault}
use Rattle.wire.specs.declared.message.Message.{Message}
use Rattle.records.proofs.Asking.{other_length}
use Rattle.records.proofs.Damages.{other_kind, other_hops, used_byte}
use Rattle.records.proofs.WorkedRecords.{record_accepted}
use Rattle.memory.specs.Ledgers.{ledger}
use Rattle.memory.specs.Placements.{array}
use Rattle.memory.specs.Reached.{begun, Reached, started}
use Rattle.memory.specs.Willing.{questions}
use Rattle.memory.specs.declared.call.Call.{Call}
use Rattle.memory.specs.declared.call.Call.TheVariants.{Load, Store, Deliver}
use Rattle.kit.specs.Runs.{LeadsTo}
use Rattle.kit.specs.WorkedCases.{Post, Take, FirstCall, WorkedCases}
use Rattle.kit.proofs.Forced.{played}

module _ {L : Type 0} (limit : L → ℕ) (waiting : L → Bag Message) where
  -- a post with a place free passes, and one more waits
  passes : (s t : L) (m : Message) (r : Result (Unit {0}) Fault) → limit s ≡ 1 → size (waiting s) ≡ 0 → Posted limit waiting s m r t → (refusal r ≡ None) × (size (waiting t) ≡ 1) × (limit t ≡ 1)
  passes s t m (Ok x) l e p = (refl, omega (arith, p.1.0.1 (λ _. 1)), p.1.1 ∙ l)
  passes s t m (Err f) l e p = grind (arith, nat_tests, l, e, p.0)

  -- one with none free is refused, and nothing changes
  refuses : (s t : L) (m : Message) (r : Result (Unit {0}) Fault) → limit s ≡ 1 → size (waiting s) ≡ 1 → Posted limit waiting s m r t → (refusal r ≡ Some 9) × (t ≡ s)
  refuses s t m (Ok x) l e p = grind (arith, nat_tests, l, e, p.0)
  refuses s t m (Err f) l e p = (grind (arith, nat_tests, l, e, p.0), p.1)

  frees : (s t : L) (r : Option Message) → limit s ≡ 1 → size (waiting s) ≡ 1 → Taken limit waiting s r t → (size (waiting t) ≡ 0) × (limit t ≡ 1)
  frees s t None l e p = absurd (omega (arith, p.0.1 (λ _. 1)))
  frees s t (Some m) l e p = (omega (arith, p.0.1 (λ _. 1)), p.1 ∙ l)

  one_place : (a b c d e : L) → limit a ≡ 1 → size (waiting a) ≡ 0 → (first : Post limit waiting a b) (second : Post limit waiting b c) (take : Take limit waiting c d) (third : Post limit waiting d e) →
      (refusal first.answer ≡ None) × (refusal second.answer ≡ Some 9) × (refusal third.answer ≡ None)
  one_place a b c d e l z first second take third =
      let p = passes a b first.message first.answer l z first.posted in
      let q = refuses b c second.message second.answer p.2 p.1 second.posted in
      let r = frees c d take.answer (ap limit q.1 ∙ p.2) (ap (λ (x : L). size (waiting x)) q.1 ∙ p.1) take.taken in
      let s = passes d e third.message third.answer r.1 r.0 third.posted in
      (p.0, q.0, s.0)

  says_nothing : (s t : L) (r : Option Message) → size (waiting s) ≡ 0 → Taken limit waiting s r t →
      (r ≡ None) × (size (waiting t) ≡ 0) × (limit t ≡ limit s)
  says_nothing s t None e p = (refl, p.1.1 (λ _. 1), p.2)
  says_nothing s t (Some m) e p = absurd (omega (arith, p.0.1 (λ _. 1)))

  nothing_waits : (a b : L) → size (waiting a) ≡ 0 → (take : Take limit waiting a b) →
      (take.answer ≡ None) × (size (waiting b) ≡ 0) × (limit b ≡ limit a)
  nothing_waits a b z take = says_nothing a b take.answer z take.taken

module _ {L : Type 0} (limit : L → ℕ) (waiting : L → Bag Message) (joins : L → Message → Result (Unit {0}) Fault → L → Type 0) (chooses : L → ℕ → Option Message → L → Type 0) where
  -- what a first call is asked
  first_call : (n board : ℕ) (call : Call) (refused : Option ℕ) →
      (board < n → first_no (questions n 16 (ledger (array []) []) call) ≡ refused) →
      FirstCall limit waiting joins chooses n board call refused
  first_call n board call refused asks r t answer k inside on =
      let at : LeadsTo limit waiting n 16 k.first_limit [] [] r =
      record {
        reached = subst (λ s. Reached (begun n 16 k.first_limit []) [] s) (sym k.begins) started;
        opened = k.none_opened;
      } in
      let kept = on.kept n 16 k.first_limit [] k.may_begin [] at in
      (kept.willing [] (record { call = call; answer = answer; posted = on.posted }) [] refl).asked ∙ asks inside

  pub worked_cases : WorkedCases limit waiting joins chooses
  worked_cases = record {
    limit_too_low = refl;
    limit_enough = refl;
    last_address = refl;
    past_address = refl;
    loads_last = λ n board. first_call n board (Load board 255) None (λ h. grind (arith, nat_tests));
    loads_past = λ n board. first_call n board (Load board 256) (Some 2) (λ h. grind (arith, nat_tests));
    stores_last = λ n board word. first_call n board (Store board 255 word) None (λ h. grind (arith, nat_tests));
    stores_past = λ n board word. first_call n board (Store board 256 word) (Some 2) (λ h. grind (arith, nat_tests));
    one_byte_short = λ bs l. other_length bs (omega arith);
    one_byte_over = λ bs l. other_length bs (omega arith);
    accepted = record_accepted;
    kind_too_low = λ bs ok. other_kind bs ok 0 refl;
    kind_too_high = λ bs ok. other_kind bs ok 7 refl;
    hops_too_many = λ bs ok. other_hops bs ok 15 (omega arith);
    unused_byte = λ bs b h ok. used_byte bs ok b h;
    one_place = one_place limit waiting;
    nothing_waits = nothing_waits limit waiting;
    one_board = λ r t answers k on. played limit waiting joins chooses 1 (Store 0 0 5 ∷ Load 0 0 ∷ []) answers r t k (omega arith) refl on;
    passed_on = λ a b c d e r t answers k on.
        played limit waiting joins chooses 3 (Store 1 0 5 ∷ Deliver a ∷ Deliver b ∷ Load 2 0 ∷ Deliver c ∷ Deliver d ∷ Deliver e ∷ []) answers r t k (omega arith) refl on;
  }
