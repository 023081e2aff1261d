use Rattle.std.proofs.Common.{◌∙◌, append-nil, arith, refl}
use Rattle.std.proofs.lemmas.List.{nil_from_length}
use Rattle.std.specs.Slice.Iter.{chunks_rest}
use Rattle.script.specs.Records.{records}
use Rattle.script.proofs.Progress.{line_more, next_more}
use Rattle.script.proofs.Scripts.{records_more}
use Rattle.script.proofs.play.play_records.Goals as goal

pub loop-text-preserved : goal.loop-text-preserved
loop-text-preserved c =
    let so = c.loop-text.invariant in
    let steps = c.in-Some.ensures.steps in
    let text = c.in-Some.text.now in
    let behind = chunks_rest c.next.new.self in
    let more = records_more (chunks_rest c.loop-text.text-iterator) text behind steps.1.0 (rw so.size at steps.1.1)
    steps.1.2 in
    let played = c.play_record-at.ensures in
    record {
      size = steps.0 ∙ so.size;
      lines = line_more text (records behind) _ more.0 _ _ _ refl played.play _ _ _ played.chars so.lines;
      play = next_more text (records behind) _ more.0 _ _ _ played.play so.play;
      room = omega (arith, played.room, more.1, so.room);
    }

pub returns-clause-lines : goal.returns-clause-lines
returns-clause-lines c =
    let none = nil_from_length (chunks_rest c.loop-text.text-iterator) c.in-None.ensures.steps.1.0 in
    rw (none, append-nil) at c.loop-text.invariant.lines

pub returns-clause-play : goal.returns-clause-play
returns-clause-play c =
    let none = nil_from_length (chunks_rest c.loop-text.text-iterator) c.in-None.ensures.steps.1.0 in
    rw none at c.loop-text.invariant.play
