use Rattle.std.proofs.Common.{rules, arith}
use Rattle.kit.proofs.Playing.{one_more_passed, one_refused, one_more_placed}
use Rattle.kit.proofs.play.place_all.Goals as goal

pub returns-in_err-place-clause-refused : goal.returns-in_err-place-clause-refused
returns-in_err-place-clause-refused g c =
    one_refused c.args.words.now c.loop-word.word-index _ (omega (arith, c.loop-word-test.true)) _ c.place.result c.from_residual.result _ c.loop-word.invariant.passed
    (rw c.loop-word.invariant.pages at c.place.ensures.refused) c.in_err-place.was (search rules)

pub loop-word-preserved : goal.loop-word-preserved
loop-word-preserved g c = record {
  passed = one_more_passed c.args.words.now c.loop-word.word-index _ (omega (arith, c.loop-word-test.true)) _ c.place.result _ c.loop-word.invariant.passed (rw c.loop-word.invariant.pages at c.place.ensures.refused) c.in_ok-place.was;
  placed = one_more_placed c.args.words.now c.loop-word.word-index _ (omega (arith, c.loop-word-test.true)) _ _ _ c.loop-word.invariant.placed c.in_ok-place.ensures.placed.0;
  pages = search rules;
  link = search rules;
}
