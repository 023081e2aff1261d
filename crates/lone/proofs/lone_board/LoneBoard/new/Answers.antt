use Rattle.std.proofs.Common.{rules}
use Rattle.lone.proofs.LoneForms.{start_form, start_same}
use Rattle.lone.proofs.lone_board.LoneBoard.new.Goals as goal

pub invariant_of-result : goal.invariant_of-result
invariant_of-result c =
    let size = c.in_ok-size.size in
    let made = c.in_ok-size.ensures in
    record { rows = search rules; form = start_same c.args.number size.boards size.pages _ _ c.start.ensures c.start-2.ensures (start_form c.args.number size.boards size.pages (search rules)) }
