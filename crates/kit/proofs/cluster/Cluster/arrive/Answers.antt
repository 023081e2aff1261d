use Rattle.std.proofs.Common.{rules, refl}
use Rattle.kit.proofs.Nodes.{room_here, arrived}
use Rattle.kit.proofs.cluster.Cluster.arrive.Goals as goal

pub arrive-requires-clause-room : goal.arrive-requires-clause-room
arrive-requires-clause-room c =
    room_here c.args.self.now c.args.message.now.to c.index-self-message.result (search rules) c.requires.board c.requires.forms c.args.message.now c.requires.accepted

pub returns : goal.returns
returns c =
    arrived c.args.self.now c.args.message.now.to c.index-self-message.result (search rules) c.requires.board c.requires.forms c.args.message.now c.requires.accepted
    _ _ _ _ refl (search (rules, c.arrive.new.out.within)) c.arrive.ensures
