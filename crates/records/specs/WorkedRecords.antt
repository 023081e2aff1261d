-- Records worked out by hand, which the definitions must agree with.
use Rattle.std.specs.Prelude.{◌≡◌, ℕ, true, false, List, [], ◌∷◌, ◌++◌, replicate, Some, None}
use Rattle.wire.specs.BoardSets.{marked}
use Rattle.wire.specs.Questions.{first_no}
use Rattle.wire.specs.declared.message.Kind.TheVariants.{Grant}
use Rattle.wire.specs.declared.message.Message.{Message}
use Rattle.records.specs.Laws.{Written}
use Rattle.records.specs.Layouts.{record_questions}

-- board 15 grants page 7 to board 6, whose request was passed on once; boards 0, 3, 8 and 15 have copies
abbrev pub worked_grant : Message
worked_grant = record {
  kind = Grant;
  page = 7;
  from = 15;
  to = 6;
  asker = 6;
  hops = 1;
  copies = marked (true ∷ false ∷ false ∷ true ∷ replicate 4 false ++ true ∷ replicate 6 false ++ true ∷ []);
  words = 0 ∷ 0x01020304 ∷ replicate 14 0;
}

abbrev pub worked_record : List ℕ
worked_record = 4 ∷ 7 ∷ 15 ∷ 6 ∷ 6 ∷ 1 ∷ 0x09 ∷ 0x81 ∷ replicate 8 0 ++ 0 ∷ 0 ∷ 0 ∷ 0 ∷ 4 ∷ 3 ∷ 2 ∷ 1 ∷ replicate 56 0

pub record WorkedRecords : Type 0 where
  pub grant : Written worked_grant worked_record
  -- where several questions are answered no, the first refuses
  pub ten : first_no (record_questions (replicate 79 255)) ≡ Some 10
  pub eleven : first_no (record_questions (replicate 80 255)) ≡ Some 11
  pub twelve : first_no (record_questions (6 ∷ replicate 79 255)) ≡ Some 12
  pub thirteen : first_no (record_questions (6 ∷ 255 ∷ 0 ∷ 15 ∷ 15 ∷ replicate 75 255)) ≡ Some 13
  pub fourteen : first_no (record_questions (6 ∷ 15 ∷ 0 ∷ 15 ∷ 15 ∷ 14 ∷ replicate 74 255)) ≡ Some 14
  pub none : first_no (record_questions (6 ∷ 15 ∷ 0 ∷ 15 ∷ 15 ∷ replicate 75 0)) ≡ None
