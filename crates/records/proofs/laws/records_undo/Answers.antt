use Rattle.records.proofs.Undoing.{read_back, written_back, one_record, all_records}
use Rattle.records.proofs.laws.records_undo.Goals as goal

pub returns : goal.returns
returns c = record { read = read_back; written = written_back; one = one_record; all = all_records }
