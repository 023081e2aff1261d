-- Calls on a kit: what each does, and what it says.
use Rattle.std.specs.Prelude.{◌≡◌, ℕ, ◌<◌, true, false, cond, ◌⊎◌, List, [], ◌∷◌, ◌==◌, ◌≢◌}
use Rattle.wire.specs.Bags.{Bag, empty, ◌&◌}
use Rattle.memory.proofs.model.Board.{none, write, load, store, Mail, request, store_entry}
use Rattle.memory.proofs.model.Kit.{Maybe, absent, just, closed, asked, clears, Post, Kit, Reply, refused, replies, none_below, invalidates, to, becomes, arrives, opened_seat}
use Rattle.memory.proofs.model.Page.{denies}
use Rattle.memory.proofs.model.Sets.{has, nobody}
use Rattle.memory.proofs.model.Steps.{Answer, nothing, read_at, written_at}

pub data Order (W : Type 0) : Type 0 where
  call_load : (board page : ℕ) → Order W
  call_store : (board page : ℕ) → (W → W) → Order W
  call_deliver : Order W

pub data Said (W : Type 0) : Type 0 where
  quiet : Said W
  moved : Said W
  opened : Said W
  answered : Maybe W → Said W
  finished : (board : ℕ) → Maybe W → (hops : ℕ) → Said W

module _ {W : Type 0} where
  -- how a delivery is answered
  abbrev pub said_of : Answer W → Said W
  said_of nothing = moved
  said_of (read_at a h w) = finished a (just w) h
  said_of (written_at a h f) = finished a absent h

  abbrev pub said_by : Reply W → Said W
  said_by refused = moved
  said_by (replies s e ms d) = said_of d

  abbrev pub posts_by : Reply W → List (Mail W)
  posts_by refused = []
  posts_by (replies s e ms d) = ms

  abbrev pub kit_by : Kit W → ℕ → ℕ → Bag (Post W) → Reply W → Kit W
  kit_by k b p rest refused = k
  kit_by k b p rest (replies s e ms d) = becomes k b p s e ms rest

  -- what a call does to a kit
  pub data Does (n : ℕ) (k : Kit W) : Order W → Said W → List (Mail W) → Kit W → Type 0 where
    loads_now : (b p : ℕ) → b < n → (k.board b).seat.stage ≡ closed → denies ((k.board b).entry p).access ≡ false → Does n k (call_load b p) (answered (just ((k.board b).entry p).words)) [] k
    loads_later : (b p : ℕ) → b < n → (k.board b).seat.stage ≡ closed → ((k.board b).entry p).access ≡ none → (ms : List (Mail W)) → ms ≡ request load ((k.board b).entry p).hint b 0 ∷ [] → Does n k (call_load b p) opened ms (becomes k b p (opened_seat p (asked load) (λ w. w) (λ _. false)) ((k.board b).entry p) ms k.link)
    stores_now : (b p : ℕ) (f : W → W) → b < n → (k.board b).seat.stage ≡ closed → (((k.board b).entry p).access ≡ write) ⊎ ((((k.board b).entry p).hint ≡ b) × (denies ((k.board b).entry p).access ≡ false) × (none_below n (has ((k.board b).entry p).copies) ≡ true)) → Does n k (call_store b p f) (answered absent) [] (becomes k b p (k.board b).seat (store_entry b (f ((k.board b).entry p).words)) [] k.link)
    stores_clearing : (b p : ℕ) (f : W → W) → b < n → (k.board b).seat.stage ≡ closed → ((k.board b).entry p).hint ≡ b → none_below n (has ((k.board b).entry p).copies) ≡ false → (ms : List (Mail W)) → ms ≡ invalidates n b ((k.board b).entry p).copies → Does n k (call_store b p f) opened ms (becomes k b p (opened_seat p (clears 0) f (has ((k.board b).entry p).copies)) ((k.board b).entry p) ms k.link)
    stores_later : (b p : ℕ) (f : W → W) → b < n → (k.board b).seat.stage ≡ closed → (((k.board b).entry p).hint ≢ b) → (ms : List (Mail W)) → ms ≡ request store ((k.board b).entry p).hint b 0 ∷ [] → Does n k (call_store b p f) opened ms (becomes k b p (opened_seat p (asked store) f (λ _. false)) ((k.board b).entry p) ms k.link)
    delivers_it : (p : ℕ) (m : Mail W) (rest : Bag (Post W)) (r : Reply W) → k.link ≡ record { page = p; mail = m } & rest → arrives n k p m ≡ r → Does n k call_deliver (said_by r) (posts_by r) (kit_by k (to m) p rest r)
    delivers_none : k.link ≡ empty → Does n k call_deliver quiet [] k

  abbrev pub first_kit : W → (ℕ → W) → Kit W
  first_kit idle v = record {
    board = λ x. record {
      seat = record { page = 0; stage = closed; act = λ w. w; awaited = λ _. false; waiting = []; deferral = absent };
      entry = λ p. record { access = cond (x == 0) write none; hint = 0; copies = nobody; words = cond (x == 0) (v p) idle };
    };
    link = empty;
  }
