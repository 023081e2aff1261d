use Rattle.std.proofs.Common.{None, ◌≡◌, ◌<◌, length, subst, sym, arith}
use Rattle.std.proofs.ByRecursion.{All-from_get_or}
use Rattle.std.proofs.lemmas.Grind.{common_steps}
use Rattle.std.proofs.lemmas.Result.{err_from_is_err_and}
use Rattle.wire.specs.Questions.{first_no}
use Rattle.records.specs.Layouts.{record_questions}
use Rattle.wire.specs.Faults.{number}
use Rattle.records.specs.Laws.{Bytes}
use Rattle.records.proofs.Asking.{other_length}
use Rattle.records.proofs.Reading.{no_record, form_broken, both_ways}
use Rattle.records.proofs.read.read_record.Goals as goal

pub returns-in_err-bytes-clause-read : goal.returns-in_err-bytes-clause-read
returns-in_err-bytes-clause-read c =
    let bs = c.args.bytes.now in
    let p = err_from_is_err_and c.from_residual.result c.from_residual.ensures.1 in
    rw p.1 (no_record bs 10 (sym (other_length bs (λ l. grind arith))))

pub returns-in_err-ask_form : goal.returns-in_err-ask_form
returns-in_err-ask_form c =
    let bs = c.in_ok-bytes.bytes.now in
    let same : c.args.bytes.now ≡ bs = grind arith in
    let long : length bs ≡ 80 = grind arith in
    let p = err_from_is_err_and c.from_residual-in_err-ask_form.result c.from_residual-in_err-ask_form.ensures.1 in
    let n = number c.in_err-ask_form.field-0.0 in
    let e = form_broken bs c.in_ok-kind.kind c.fields_in-message.result n long c.in_ok-kind.ensures c.fields_in-message.ensures c.in_err-ask_form.ensures in
    rw (p.1, p.2, same) (record { refused = e; read = no_record bs n e })

pub returns-clause-read : goal.returns-clause-read
returns-clause-read c =
    let bs = c.in_ok-bytes.bytes.now in
    let same : c.args.bytes.now ≡ bs = grind arith in
    let long : length bs ≡ 80 = grind arith in
    let small : Bytes c.args.bytes.now = All-from_get_or (λ b. b < 256) c.args.bytes.now 0 (λ i _. omega (arith, c.type_inv.bytes i)) in
    let m = c.fields_in-message.result in
    let holds = c.fields_in-message.ensures in
    let e : None ≡ first_no (record_questions bs) = grind (arith, common_steps) in
    rw same (both_ways bs m (subst Bytes same small) e (grind (arith, common_steps)))
