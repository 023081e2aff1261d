use Rattle.std.proofs.Common.{rules, refl}
use Rattle.kit.proofs.Nodes.{stored}
use Rattle.kit.proofs.cluster.Cluster.store.Goals as goal

pub returns : goal.returns
returns c =
    stored c.args.self.now c.args.board c.index-self-board.result (search rules) c.requires.board c.requires.forms c.args.address c.page_of.result c.page_of.ensures c.requires.accepted
    _ _ _ _ refl (search (rules, c.store.new.out.within)) c.args.word c.store.ensures
