use Rattle.std.proofs.Common.{rules, arith}
use Rattle.std.proofs.lemmas.List.{length-set}
use Rattle.lone.specs.LoneBoards.{lone_of}
use Rattle.lone.proofs.CallPosts.{load_posts}
use Rattle.lone.proofs.LoneForms.{loaded_at, same_form}
use Rattle.lone.proofs.lone_board.LoneBoard.open_load.Goals as goal

pub invariant_of-self : goal.invariant_of-self
invariant_of-self c =
    let b = c.args.self.now in
    let kept = loaded_at (lone_of b) b.rows (omega (arith, b.size.pages_bounded)) b.form c.args.address c.requires.accepted c.page_of.result c.page_of.ensures in
    record { rows = search (rules, length-set); form = same_form (lone_of b) c.page_of.result _ _ _ _ c.load.ensures.0 c.load.ensures.1 kept }

pub returns-clause-posts : goal.returns-clause-posts
returns-clause-posts c =
    let b = c.args.self.now in
    record { few = search (rules, c.load.new.out.within); each = load_posts (lone_of b) b.rows (omega (arith, b.size.boards_bounded)) (omega (arith, b.size.pages_bounded)) b.form c.args.address c.requires.accepted }
