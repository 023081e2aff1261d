use Rattle.std.proofs.Common.{◌≡◌, ◌+◌, ◌*◌, ◌≤◌, ◌++◌, take}
use Rattle.std.specs.Slice.Iter.{chunks_rest, chunks_size}
use Rattle.script.specs.Players.{lines, next_all, play_of}
use Rattle.script.specs.Records.{record_count, records}
use Rattle.script.specs.Streams.{most_at_hand}
use Rattle.script.proofs.play.play_records.Given as goal

-- with the answers to the records that are left all is answered, and there is room for them
abbrev pub invariant-loop-text : goal.invariant-loop-text
invariant-loop-text l = record {
  size : chunks_size l.text-iterator ≡ 16;
  lines : take l.at l.out ++ lines (play_of l.player) (records (chunks_rest l.text-iterator))
      ≡ lines (play_of l.initial.player) (records l.script);
  play : next_all (play_of l.player) (records (chunks_rest l.text-iterator))
      ≡ next_all (play_of l.initial.player) (records l.script);
  room : l.at + 16 * record_count (chunks_rest l.text-iterator) ≤ most_at_hand;
}
