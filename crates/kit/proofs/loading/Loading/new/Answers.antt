use Rattle.std.proofs.Common.{rules, refl, sym, subst}
use Rattle.kit.specs.Forms.{KitForm}
use Rattle.kit.proofs.Beginnings.{made_loaded}
use Rattle.kit.proofs.Starting.{starting_form}
use Rattle.kit.proofs.loading.Loading.new.Goals as goal

pub invariant_of-result : goal.invariant_of-result
invariant_of-result g c = record { forms = subst KitForm (sym c.start.ensures) (starting_form c.in_ok-size.size.boards c.in_ok-size.size.pages (search rules)) }

pub returns-clause-made : goal.returns-clause-made
returns-clause-made g c = (search rules, refl, made_loaded g.L.Link.limit g.L.Link.waiting c.args.boards c.args.pages c.args.link _ (search rules) (search rules) refl)
