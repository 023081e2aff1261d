use Rattle.std.proofs.Common.{rules, length, sym, ap, arith, ◌∙◌}
use Rattle.std.proofs.lemmas.List.{length-drop}
use Rattle.script.specs.Streams.{at_hand}
use Rattle.script.proofs.Progress.{answer_on, begins_answering, begins_so, ended_said, few_at_hand, keeps_up, kept_same, read_on, read_said}
use Rattle.script.proofs.play.play.Goals.{then-read-eq0-via-then-read-eq0, then-read-eq0-via-else-read-eq0+then-is_over}
use Rattle.script.proofs.play.play.Goals as goal

pub returns-in_err-read-clause-begins : goal.returns-in_err-read-clause-begins
returns-in_err-read-clause-begins g c = let begins = begins_so _ _ _ _ _ _ c.loop.invariant.so in search rules

pub returns-in_err-answer-clause-begins : goal.returns-in_err-answer-clause-begins
returns-in_err-answer-clause-begins g c =
    let chunk = c.in_ok-read.ensures.chars in
    let so = read_on _ _ _ _ _ _ _ chunk.0 _ c.loop.invariant.so chunk.2 chunk.3 in
    let all = c.answerable-count.ensures in
    let begins = begins_answering _ _ _ _ _ _ so _ _ all.inside all.end all.whole c.in_ok-read.ensures.end _
    c.in_err-answer.ensures.begins in
    search rules

pub returns-in_err-answer-clause-keeps_up : goal.returns-in_err-answer-clause-keeps_up
returns-in_err-answer-clause-keeps_up g c =
    let chunk = c.in_ok-read.ensures.chars in
    let so = read_on _ _ _ _ _ _ _ chunk.0 _ c.loop.invariant.so chunk.2 chunk.3 in
    keeps_up _ _ _ _ _ _ so c.loop.invariant.going (few_at_hand c.read.new.self) _ _ (kept_same _) _
    c.in_err-answer.ensures.begins.1

pub returns-then-read-eq0-clause-listing : goal.returns-then-read-eq0-clause-listing
returns-then-read-eq0-clause-listing g c =
    let chunk = c.in_ok-read.ensures.chars in
    let so = read_on _ _ _ _ _ _ _ chunk.0 _ c.loop.invariant.so chunk.2 chunk.3 in
    let all = c.answerable-count.ensures in
    let done = c.in_ok-answer.ensures in
    elim c.then-read-eq0.branch [
      | then-read-eq0-via-then-read-eq0 w ↦ read_said _ _ _ _ _ _ so _ _ all.inside all.end all.whole
          c.in_ok-read.ensures.end _ _ done.lines done.play w.if-read-eq0.true
      | then-read-eq0-via-else-read-eq0+then-is_over w ↦
          ended_said _ _ _ _ _ _ so _ _ all.inside all.end all.whole c.in_ok-read.ensures.end _ _ done.lines done.play
          (sym w.is_over.ensures ∙ w.if-is_over.true)
    ]

pub returns-then-read-eq0-clause-keeps_up : goal.returns-then-read-eq0-clause-keeps_up
returns-then-read-eq0-clause-keeps_up g c =
    let chunk = c.in_ok-read.ensures.chars in
    let so = read_on _ _ _ _ _ _ _ chunk.0 _ c.loop.invariant.so chunk.2 chunk.3 in
    keeps_up _ _ _ _ _ _ so c.loop.invariant.going (few_at_hand c.read.new.self) _ _ (kept_same _) _
    c.in_ok-answer.ensures.lines

pub loop-preserved : goal.loop-preserved
loop-preserved g c =
    let chunk = c.in_ok-read.ensures.chars in
    let so = read_on _ _ _ _ _ _ _ chunk.0 _ c.loop.invariant.so chunk.2 chunk.3 in
    let all = c.answerable-count.ensures in
    let done = c.in_ok-answer.ensures in
    let some = all.whole (search rules) in
    record {
      so = answer_on _ _ _ _ _ _ so _ all.inside _ _ _ (omega (arith, some)) done.lines done.play done.hand;
      hand = omega (arith, some, ap length done.hand, length-drop c.answerable-count.result (at_hand c.read.new.self));
      going = sym c.is_over.ensures ∙ c.if-is_over.false;
    }

pub returns-clause-begins : goal.returns-clause-begins
returns-clause-begins g c = begins_so _ _ _ _ _ _ c.loop.invariant.so
