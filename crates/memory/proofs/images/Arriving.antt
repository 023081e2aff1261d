-- A delivery in a kit: answered rightly, taken from the work that is left, and the model follows.
use Rattle.std.proofs.Common.{◌≡◌, ℕ, zero, suc, ◌+◌, ◌-◌, ◌*◌, List, [], Some, None, Ok, Option, refl, ap, ◌∙◌, arith}
use Rattle.wire.specs.Bags.{Bag, empty, ◌&◌, ◌⊕◌}
use Rattle.wire.specs.declared.message.Message.{Message}
use Rattle.board.specs.Boards.{BoardState}
use Rattle.board.specs.Steps as board
use Rattle.board.specs.declared.answer.Finished.{Finished}
use Rattle.memory.specs.Calls.{Running}
use Rattle.memory.specs.Ledgers as specs
use Rattle.memory.specs.OneMemory.{DeliveryIsRight}
use Rattle.memory.specs.declared.answer.Answer.TheVariants.{Arrived, Quiet}
use Rattle.memory.specs.declared.call.Call.TheVariants.{Deliver}
use Rattle.memory.proofs.kept.WorkLeft.{left_bound}
use Rattle.memory.proofs.kept.KitKept.{left_of}
use Rattle.memory.proofs.kept.NothingWaits.{quiet_none}
use Rattle.memory.proofs.kept.EqualMessages.{same_law}
use Rattle.memory.proofs.model.Board as model
use Rattle.memory.proofs.model.Calls as history
use Rattle.memory.proofs.model.Ledgers as ledgers
use Rattle.memory.proofs.model.Kit as kit
use Rattle.memory.proofs.model.Steps.{Answer}
use Rattle.memory.proofs.model.Sums.{sum_to, bit}
use Rattle.memory.proofs.images.Accepts.{st, here, seat, number_is, seat_is, told}
use Rattle.memory.proofs.images.Arrivals.{AnswerIs}
use Rattle.memory.proofs.images.Deliveries as delivery
use Rattle.memory.proofs.images.Finishes as finish
use Rattle.memory.proofs.images.Follows.{Follows, GoesOn, still_follows}
use Rattle.memory.proofs.images.Images.{W, map_bag, post_image}
use Rattle.memory.proofs.images.Ledgers.{Agrees, counted}
use Rattle.memory.proofs.images.OpenAccesses.{Goes, arrived}

module _ {n p : ℕ} {l : specs.Ledger} {s : Running} {w : ℕ} (f : Follows n p l s w) where
  -- a message
  module _ (pick : ℕ) (m : Message) (rest : Bag Message) (waited : s.waiting ≡ m & rest) where
    abbrev mine : BoardState
    mine = st f.kept f.matches m rest waited

    abbrev step : board.Step
    step = board.arrive mine (here f.kept f.matches m rest waited) m

    abbrev after : Running
    after = record { kit = delivery.kit_now f.kept f.matches m rest waited; limit = s.limit; waiting = step.posts ⊕ rest }

    abbrev mails : List (model.Mail W)
    mails = delivery.mails f.kept f.matches m rest waited

    abbrev says : Answer W
    says = delivery.says f.kept f.matches m rest waited

    same_passed : (b : ℕ) → l.requests b + specs.requests_of b step.posts - 1 ≡ f.told.passed b + kit.requests b mails
    same_passed b =
        counted n (delivery.kit_now f.kept f.matches m rest waited) b (l.requests b + specs.requests_of b step.posts) (f.told.passed b + kit.requests b mails)
        (delivery.counts_after f.kept f.matches m rest waited b (l.requests b) (f.told.passed b) (f.agrees.counts b))

    abbrev Agreed : Option Finished → Type 0
    Agreed fin = Agrees n p (specs.entered l (record { call = Deliver pick; answer = Ok (Arrived (board.answer_to m mine.number fin)); posted = step.posts })) after (ledgers.after f.told history.call_deliver (history.said_of says) mails)

    agrees_by : (fin : Option Finished) → AnswerIs fin says → Goes mine mine.stage step fin → Agreed fin
    agrees_by None a g =
        finish.moved_agrees n p l s f.told f.agrees m.to m.page f.matches.sized.few_boards (delivery.to_few f.kept f.matches m rest waited) f.matches.sized.shape f.matches.sized.pages
        (told f.kept f.matches m rest waited).stage (seat f.kept f.matches m rest waited) (seat_is f.kept f.matches m rest waited).stage (f.kept.opens m.to) (number_is f.kept f.matches m rest waited)
        m pick mails step.posts says a step.state step.entry
        (λ b. delivery.counts_after f.kept f.matches m rest waited b (l.requests b) (f.told.passed b) (f.agrees.counts b)) g rest waited
    agrees_by (Some fin) a g =
        finish.agrees n p l s f.told f.agrees m.to m.page f.matches.sized.few_boards (delivery.to_few f.kept f.matches m rest waited) f.matches.sized.shape f.matches.sized.pages
        (told f.kept f.matches m rest waited).stage (seat f.kept f.matches m rest waited) (seat_is f.kept f.matches m rest waited).stage (f.kept.opens m.to) (number_is f.kept f.matches m rest waited)
        fin g.0 m pick mails step.posts same_passed says a step.state step.entry
        (λ b. delivery.counts_after f.kept f.matches m rest waited b (l.requests b) (f.told.passed b) (f.agrees.counts b)) g.1 rest waited

    right_by : (fin : Option Finished) → AnswerIs fin says → Goes mine mine.stage step fin →
        DeliveryIsRight l (specs.entered l (record { call = Deliver pick; answer = Ok (Arrived (board.answer_to m mine.number fin)); posted = step.posts })) (Ok (Arrived (board.answer_to m mine.number fin)))
    right_by None a g = tt
    right_by (Some fin) a g =
        finish.right n p l s f.told f.agrees m.to m.page f.matches.sized.few_boards (delivery.to_few f.kept f.matches m rest waited) f.matches.sized.shape f.matches.sized.pages
        (told f.kept f.matches m rest waited).stage (seat f.kept f.matches m rest waited) (seat_is f.kept f.matches m rest waited).stage (f.kept.opens m.to) (number_is f.kept f.matches m rest waited)
        fin g.0 m pick mails step.posts same_passed says a (delivery.went f.kept f.matches m rest waited).1

    is : AnswerIs step.finished says
    is = (delivery.reply f.kept f.matches m rest waited).answer_is

    goes : Goes mine mine.stage step step.finished
    goes = arrived mine (here f.kept f.matches m rest waited) m

    pub arrives : GoesOn n p l w (Deliver pick) (Ok (Arrived (board.answer_to m mine.number step.finished))) step.posts after
    arrives =
        let y = delivery.went f.kept f.matches m rest waited in
        record {
          work_left = left_of y.0;
          follows = record {
            machine = kit.becomes f.machine m.to m.page (delivery.reply f.kept f.matches m rest waited).seat (delivery.reply f.kept f.matches m rest waited).entry mails (map_bag post_image rest);
            told = ledgers.after f.told history.call_deliver (history.said_of says) mails;
            kept = y.0;
            matches = delivery.matches_after f.kept f.matches m rest waited;
            agrees = agrees_by step.finished is goes;
            room = f.room;
            left = refl;
          };
          right = right_by step.finished is goes;
          works = λ d. omega (arith, y.2, f.left);
        }

  -- no message
  none_open_counts : (m : ℕ) → ((x : ℕ) → f.told.opens x ≡ kit.absent) → sum_to m (λ x. bit (ledgers.is_open (f.told.opens x))) ≡ 0
  none_open_counts zero h = refl
  none_open_counts (suc m) h = omega (arith, ap (λ x. bit (ledgers.is_open x)) (h m), none_open_counts m h)

  none_left : s.waiting ≡ empty → w ≡ 0
  none_left e =
      let link : f.machine.link ≡ empty = f.matches.link ∙ ap (map_bag post_image) e in
      let none = none_open_counts n (quiet_none same_law f.kept link) in
      let bound = left_bound f.kept in
      let zero_work : (3 * n - 4) * ledgers.opens_count n f.told ≡ 0 = ap (λ x. (3 * n - 4) * x) none ∙ omega arith in
      omega (arith, bound, zero_work, f.left)

  pub quiet : (pick : ℕ) → s.waiting ≡ empty → GoesOn n p l w (Deliver pick) (Ok Quiet) [] s
  quiet pick e = record {
    work_left = w;
    follows = still_follows f;
    right = tt;
    works = λ d. omega (arith, none_left e);
  }
