use Rattle.std.proofs.Common.{◌≡◌, take}
use Rattle.sessions.proofs.listing.first_difference.Given as goal

abbrev pub invariant-loop-place : goal.invariant-loop-place
invariant-loop-place l = take l.place l.played ≡ take l.place l.expected
