use Rattle.std.proofs.Common.{ℕ, List, ◌++◌, sym, ap, ◌∙◌, arith, rules}
use Rattle.std.proofs.lemmas.Bool.Decides.{nat_tests}
use Rattle.records.specs.Laws.{Written, Typed}
use Rattle.records.proofs.Undoing.{read_back}
use Rattle.records.proofs.WordBytes.{word_bytes}
use Rattle.records.proofs.write.write_record.Goals as goal

pub put_head-requires : goal.put_head-requires
put_head-requires c = let asked = c.in_ok-ask_form.ensures in grind (arith, nat_tests)

pub returns-clause-written : goal.returns-clause-written
returns-clause-written c =
    let m = c.args.message.now in
    let typed : Typed m = record { boards = c.put_head.ensures.boards; words = search rules; wide = c.put_words.ensures.wide } in
    let w : Written m c.put_words.new.out = record {
      accepted = sym c.in_ok-ask_form.ensures;
      bytes = c.put_words.ensures.bytes ∙ ap (λ (xs : List ℕ). xs ++ word_bytes m.words) c.put_head.ensures.head;
    } in
    (w, read_back m c.put_words.new.out typed w)
