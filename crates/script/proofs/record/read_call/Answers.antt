use Rattle.std.proofs.Common.{◌≡◌, ap, sym, ok_or, Some, ◌∙◌, arith}
use Rattle.std.proofs.lemmas.Grind.{common_steps}
use Rattle.wire.specs.declared.fault.Fault.TheVariants.{BadForm}
use Rattle.script.specs.Records.{form, call_of, numbers_in}
use Rattle.script.proofs.Turns.{form_is, refused_call}
use Rattle.script.proofs.record.read_call.Goals as goal

pub returns-clause-refused : goal.returns-clause-refused
returns-clause-refused c =
    let r = c.in_ok-text.text.now in
    let n = c.in_ok-numbers.numbers in
    let same : c.args.text.now ≡ r = grind (arith, common_steps) in
    let numbers : numbers_in r ≡ Some n = grind (arith, common_steps) in
    let is = form_is r n (sym c.is_framed.ensures ∙ c.if-not-is_framed.false) numbers in
    rw same (refused_call (form r) c.name_call.result (c.name_call.ensures
    ∙ ap (λ l. ok_or (call_of l n) BadForm) c.from.ensures ∙ ap (λ o. ok_or o BadForm) (sym is)))
