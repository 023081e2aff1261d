use Rattle.std.proofs.Common.{◌≡◌, true}
use Rattle.std.proofs.lemmas.Slice.Eq.{slice_eq-Decides}
use Rattle.std.proofs.lemmas.Bool.Decides.{Decides-eqb}
use Rattle.sessions.proofs.Listings.{same_past_end}
use Rattle.sessions.proofs.listing.first_difference.Goals as goal

pub returns-clause-differ_there : goal.returns-clause-differ_there
returns-clause-differ_there c same =
    let equal : c.eq.result ≡ true =
    (slice_eq-Decides Decides-eqb _ _ _ c.eq.ensures).1 (same_past_end _ _ same)
    in cc
