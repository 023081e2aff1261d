use Rattle.std.proofs.lemmas.List.{nil_from_length}
use Rattle.wire.specs.Bags.{bag}
use Rattle.script.specs.NamedLinks.{limit_of, row_of}
use Rattle.kit.specs.Clusters.{kit_of}
use Rattle.script.proofs.Turns.{asked_first, roomy}
use Rattle.script.proofs.turn.ask_first.Goals as goal

pub returns-in-Load : goal.returns-in-Load
returns-in-Load c =
    let k = c.args.kit.now in
    asked_first (kit_of k.cluster) c.args.call c.in-Load.board c.in-Load.address (limit_of k.link)
    (bag (row_of k.link)) _ c.in-Load.is c.ask_access.ensures
    (roomy k.link c.requires.limit (nil_from_length (row_of k.link) c.requires.empty) (kit_of k.cluster))
