use Rattle.std.proofs.Common.{◌≡◌, ◌++◌, length, take}
use Rattle.std.specs.List.{flat_map}
use Rattle.records.specs.Layouts.{word_place}
use Rattle.records.specs.Numbers.{low_first}
use Rattle.records.proofs.write.put_words.Given as goal

abbrev pub invariant-loop-i : goal.invariant-loop-i
invariant-loop-i l = (length l.out ≡ 80) × (take (word_place l.i) l.out ≡ take 16 l.initial.out ++ flat_map (low_first 4) (take l.i l.words))
