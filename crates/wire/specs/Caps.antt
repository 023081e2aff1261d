-- What a cap is made of.
use Rattle.std.specs.Prelude.{ℕ}
use Rattle.wire.specs.declared.cap.Cap.{Cap}

-- the link that it stands on
abbrev pub cap_link : {L : Type 0} → Cap L → L
cap_link c = c.below

-- the most messages that wait on it
abbrev pub cap_most : {L : Type 0} → Cap L → ℕ
cap_most c = c.most
