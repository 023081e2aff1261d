-- What the bench says that a call does is what it does to a kit over a link.
use Rattle.std.proofs.Common.{◌≡◌, ℕ, suc, ◌<◌, List, [], ◌∷◌, ◌++◌, length, get_or, None, Ok, refl, ap, ◌∙◌, sym, inl, inr, arith, mod-lt}
use Rattle.std.specs.List.{remove}
use Rattle.wire.specs.Bags.{Bag, bag, empty, ◌&◌, ◌⊕◌}
use Rattle.wire.specs.Links.{largest_limit}
use Rattle.wire.specs.Questions.{first_no}
use Rattle.wire.proofs.Bags.{either_way, bag_removed}
use Rattle.wire.specs.declared.message.Message.{Message}
use Rattle.board.specs.declared.answer.AccessAnswer.{AccessAnswer}
use Rattle.lone.specs.Calls as lone
use Rattle.memory.specs.Calls.{Running as State, Answers, DoesCall, Does, room}
use Rattle.memory.specs.Calls as calls
use Rattle.memory.specs.Histories.{History}
use Rattle.memory.specs.Kits.{Kit, board_at, with_board}
use Rattle.memory.specs.declared.placement.Placement.{Placement}
use Rattle.memory.specs.Promises.{NothingIsRefused}
use Rattle.memory.specs.Reached.{MayBegin, begun, Reached}
use Rattle.memory.specs.declared.answer.Answer.{Answer as KitAnswer}
use Rattle.memory.specs.declared.answer.Answer.TheVariants.{Accessed, Arrived, Quiet}
use Rattle.memory.specs.declared.call.Call.{Call as KitCall}
use Rattle.memory.specs.declared.call.Call.TheVariants.{Load, Store, Deliver}
use Rattle.memory.proofs.OneMemory.{never_refuses}
use Rattle.script.proofs.Runs.{passed_after}
use Rattle.script.specs.Benches.{over_link}
use Rattle.script.specs.Choosing.{taken, place_of}
use Rattle.script.specs.Plays.{running, Done, access_questions, run_questions, ran, after_delivery}
use Rattle.script.specs.declared.answer.Answer.TheVariants.{Ran}
use Rattle.script.specs.declared.call.LinkKind.{LinkKind}
use Rattle.script.specs.declared.call.LinkKind.TheVariants.{Queue, Pool}

-- Bags of rows.

beside_add : (ms : List Message) (x : Message) (b : Bag Message) → ms ⊕ (x & b) ≡ x & (ms ⊕ b)
beside_add [] x b = refl
beside_add (m ∷ ms) x b = ap (λ c. m & c) (beside_add ms x b) ∙ either_way m x (ms ⊕ b)

beside_none : (ms : List Message) → ms ⊕ empty ≡ bag ms
beside_none [] = refl
beside_none (m ∷ ms) = ap (λ c. m & c) (beside_none ms)

behind : (row ms : List Message) → bag (row ++ ms) ≡ ms ⊕ bag row
behind [] ms = sym (beside_none ms)
behind (x ∷ row) ms = ap (λ c. x & c) (behind row ms) ∙ sym (beside_add ms x (bag row))

place_inside : (link : LinkKind) (pick n : ℕ) → place_of link pick (suc n) < suc n
place_inside Queue pick n = omega arith
place_inside Pool pick n = mod-lt pick (omega arith)

module _ (n p : ℕ) (words : List Placement) (may : MayBegin n p largest_limit words) (history : History) (k : Kit)
    (row : List Message) (reached : Reached (begun n p largest_limit words) history (over_link k row)) where
  sure : NothingIsRefused n (over_link k row)
  sure = never_refuses n p largest_limit words may history (over_link k row) reached

  pub record Follows (call : KitCall) (done : Done) : Type 0 where
    pub answer : KitAnswer
    pub link : LinkKind
    pub kit : Kit
    pub after : List Message
    pub says : done ≡ record { answer = Ran call answer; posted = done.posted; bench = running link kit after }
    pub does : DoesCall call (over_link k row) (Ok answer) done.posted (over_link kit after)

  access_does : (board address : ℕ) (o : lone.Outcome AccessAnswer) →
      first_no (access_questions k board address) ≡ None →
      Answers (calls.access_questions (over_link k row) board address) Accessed board o (over_link k row)
      (Ok (Accessed o.answer)) o.posts (over_link (with_board k board o.board) (row ++ o.posts))
  access_does board address o passed = (
    sym (passed_after (access_questions k board address) (room (over_link k row)) sure.posts ∙ passed),
    (refl, refl, rw (behind row o.posts) refl),
  )

  delivery_does : (link : LinkKind) (pick : ℕ) → (r : List Message) → r ≡ row →
      Follows (Deliver pick) (after_delivery link k (Deliver pick) (taken link pick r))
  delivery_does link pick [] e =
      record {
        answer = Quiet;
        link = link;
        kit = k;
        after = [];
        says = refl;
        does = inl (ap bag (sym e), refl, refl, rw (sym e) refl);
      }
  delivery_does link pick (m ∷ ms) e =
      let place = place_of link pick (suc (length ms)) in
      let message = get_or (m ∷ ms) place m in
      let rest = remove (m ∷ ms) place in
      let o = lone.arrive_at (board_at k message.to) message in
      let waited : bag row ≡ message & bag rest =
      ap bag (sym e) ∙ bag_removed (m ∷ ms) place m (place_inside link pick (length ms)) in
      record {
        answer = Arrived o.answer;
        link = link;
        kit = with_board k message.to o.board;
        after = rest ++ o.posts;
        says = refl;
        does = inr (record {
          message = message;
          rest = bag rest;
          waited = waited;
          arrives = (sym (sure.arrivals message (bag rest) waited), (refl, refl, rw (behind rest o.posts) refl));
        });
      }

  pub follows : (link : LinkKind) (call : KitCall) → first_no (run_questions k call) ≡ None →
      Follows call (ran link k row call)
  follows link (Load board address) passed =
      record {
        answer = _;
        link = link;
        kit = _;
        after = _;
        says = refl;
        does = access_does board address (lone.load_at (board_at k board) address) passed;
      }
  follows link (Store board address word) passed =
      record {
        answer = _;
        link = link;
        kit = _;
        after = _;
        says = refl;
        does = access_does board address (lone.store_at (board_at k board) address word) passed;
      }
  follows link (Deliver pick) passed = delivery_does link pick row refl
