use Rattle.std.proofs.Common.{rules, arith}
use Rattle.std.proofs.lemmas.List.{length-set}
use Rattle.lone.specs.LoneBoards.{lone_of}
use Rattle.lone.proofs.ArrivalForms.{arrived_kept, room_to_wait}
use Rattle.lone.proofs.CallPosts.{arrival_posts}
use Rattle.lone.proofs.LoneForms.{same_form}
use Rattle.lone.proofs.lone_board.LoneBoard.take_in.Goals as goal

pub arrive-requires-clause-room : goal.arrive-requires-clause-room
arrive-requires-clause-room c =
    let b = c.args.self.now in
    room_to_wait (lone_of b) c.args.message.now b.rows (omega (arith, b.size.pages_bounded)) b.form c.requires.accepted (omega (arith, b.size.boards_bounded))

pub invariant_of-self : goal.invariant_of-self
invariant_of-self c =
    let b = c.args.self.now in
    let kept = arrived_kept (lone_of b) c.args.message.now b.rows (omega (arith, b.size.pages_bounded)) b.form c.requires.accepted in
    record { rows = search (rules, length-set); form = same_form (lone_of b) c.args.message.now.page _ _ _ _ c.arrive.ensures.0 c.arrive.ensures.1 kept }

pub returns-clause-done : goal.returns-clause-done
returns-clause-done c = let e = c.arrive.ensures in search rules

pub returns-clause-posts : goal.returns-clause-posts
returns-clause-posts c =
    let b = c.args.self.now in
    record { few = search (rules, c.arrive.new.out.within); each = arrival_posts (lone_of b) b.rows (omega (arith, b.size.boards_bounded)) (omega (arith, b.size.pages_bounded)) b.form c.args.message.now c.requires.accepted }
