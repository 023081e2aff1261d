use Rattle.std.proofs.Common.{rules, refl}
use Rattle.kit.proofs.Beginnings.{placed_loaded}
use Rattle.kit.proofs.Starting.{placed_still}
use Rattle.kit.proofs.loading.Loading.place.Goals as goal

pub invariant_of-self : goal.invariant_of-self
invariant_of-self g c = record { forms = placed_still c.args.self.now.cluster c.place.new.self c.args.address c.args.word c.place.result (search rules) c.place.ensures.placed c.args.self.now.forms }

pub returns-clause-loaded : goal.returns-clause-loaded
returns-clause-loaded g c = placed_loaded g.L.Link.limit g.L.Link.waiting c.args.self.now _ c.args.address c.args.word c.place.result c.place.ensures.refused c.place.ensures.placed refl
