-- The worked records hold.
use Rattle.std.proofs.Common.{◌≡◌, None, refl}
use Rattle.wire.specs.BoardBits.{set_of_bits}
use Rattle.wire.specs.Questions.{first_no}
use Rattle.records.specs.Layouts.{words_in, record_questions}
use Rattle.records.specs.WorkedRecords.{WorkedRecords, worked_record}

pub worked_records : WorkedRecords
unfolding words_in set_of_bits
worked_records = record {
  grant = record { accepted = refl; bytes = refl };
  ten = refl;
  eleven = refl;
  twelve = refl;
  thirteen = refl;
  fourteen = refl;
  none = refl;
}

pub record_accepted : first_no (record_questions worked_record) ≡ None
unfolding words_in set_of_bits
record_accepted = refl
