use Rattle.std.proofs.Common.{rules}
use Rattle.records.specs.Layouts.{words_in, word_place}
use Rattle.records.specs.Numbers.{number_at}
use Rattle.wire.proofs.FromFn.{made}
use Rattle.records.proofs.read.words_in.Goals as goal

pub returns : goal.returns
unfolding words_in
returns c = made _ _ (λ i. number_at c.args.bytes.now (word_place i) 4) 16 (λ i y q lt k. search rules) c.from_fn.result 0 c.from_fn.ensures.items
