use Rattle.std.proofs.Common.{◌≡◌, ℕ, eqb, length, replicate, sym, ap, ◌∙◌, rules}
use Rattle.std.specs.Cmp.Lexicographic.{pointwise}
use Rattle.records.proofs.Zeros.{zero_test}
use Rattle.records.proofs.form.has_no_words.Goals as goal

pub returns : goal.returns
returns c =
    let words = c.args.message.now.words in
    let sixteen : length words ≡ 16 = search rules in
    c.eq.ensures ∙ ap (λ (n : ℕ). pointwise eqb words (replicate n 0)) (sym sixteen) ∙ zero_test words
