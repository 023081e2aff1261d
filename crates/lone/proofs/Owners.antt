-- An owner has access.
use Rattle.std.proofs.lemmas.Bool.{and_parts}
use Rattle.std.proofs.Common.{not, ◌||◌}
use Rattle.wire.specs.BoardSets.{is_empty}
use Rattle.lone.specs.Forms.{reads, writes}
use Rattle.lone.specs.Laws.{OwnersRead}
use Rattle.lone.specs.LoneBoards.{lone_of}
use Rattle.lone.specs.Tables.{entry_at}
use Rattle.lone.proofs.EntryForms.{owner_rest}
use Rattle.lone.proofs.LoneForms.{lone_told}

pub owners_read : OwnersRead
owners_read b page h o =
    let l = lone_of b in
    let e = entry_at l.table page in
    (and_parts (reads e.access) (not (writes e.access) || is_empty e.copies) (owner_rest l.boards l.state.number e ((lone_told l b.rows b.form).entries page h) o)).0
