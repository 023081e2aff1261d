use Rattle.std.proofs.Common.{◌≡◌, ℕ, None, take, reverse}
use Rattle.wire.specs.Questions.{first_no}
use Rattle.memory.specs.Kits.{start_kit}
use Rattle.memory.specs.Placements.{after_placing}
use Rattle.kit.specs.Clusters.{kit_of}
use Rattle.kit.specs.Plays.{placing_questions}
use Rattle.kit.proofs.play.place_all.Given as goal

-- the words so far were placed, and none was refused
abbrev pub invariant-loop-word : goal.invariant-loop-word
invariant-loop-word g l = record {
  passed : first_no (placing_questions (kit_of l.initial.kit.cluster).pages (take l.word-index l.words)) ≡ None;
  placed : (boards pages : ℕ) → kit_of l.initial.kit.cluster ≡ start_kit boards pages → kit_of l.kit.cluster ≡ after_placing boards pages (reverse (take l.word-index l.words));
  pages : (kit_of l.kit.cluster).pages ≡ (kit_of l.initial.kit.cluster).pages;
  link : l.kit.link ≡ l.initial.kit.link;
}
