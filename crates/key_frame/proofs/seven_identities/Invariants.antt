-- `seven_identities`: each turn fills the next of the 42 places with the identity's number.
-- Assumes nothing.
use Rattle.laws.proofs.Filled.{Filled}
use Rattle.key_frame.specs.Key.{identities}
use Rattle.key_frame.proofs.seven_identities.Given as goal

abbrev pub invariant-loop-i : goal.invariant-loop-i
invariant-loop-i l = Filled (identities 7) l.number-items l.i
