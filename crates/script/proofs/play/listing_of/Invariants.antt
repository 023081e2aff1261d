use Rattle.std.proofs.Common.{◌≡◌, ◌++◌}
use Rattle.std.specs.Slice.Iter.{chunks_rest, chunks_size}
use Rattle.script.specs.Players.{lines, play_of}
use Rattle.script.specs.Plays.{listing}
use Rattle.script.specs.Records.{records}
use Rattle.script.proofs.play.listing_of.Given as goal

-- with the answers to what is left, what is written is the listing
abbrev pub invariant-loop-records : goal.invariant-loop-records
invariant-loop-records l = record {
  size : chunks_size l.records-iterator ≡ 16384;
  owed : l.listing.items ++ lines (play_of l.player) (records (chunks_rest l.records-iterator)) ≡ listing l.script;
}
