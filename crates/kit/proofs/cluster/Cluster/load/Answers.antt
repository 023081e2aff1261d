use Rattle.std.proofs.Common.{rules, refl}
use Rattle.kit.proofs.Nodes.{loaded}
use Rattle.kit.proofs.cluster.Cluster.load.Goals as goal

pub returns : goal.returns
returns c =
    loaded c.args.self.now c.args.board c.index-self-board.result (search rules) c.requires.board c.requires.forms c.args.address c.page_of.result c.page_of.ensures c.requires.accepted
    _ _ _ _ refl (search (rules, c.load.new.out.within)) c.load.ensures
