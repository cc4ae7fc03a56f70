use mathlib.Core.Path.{sym, ◌∙◌}
use Prim.Native.Nat.{◌<◌}
use native.Mathlib.Omega.{arith}
use mir.Syntax.{w32}
use lib.IntN.{pos}
use Rattle.laws.proofs.Signed.{result-reads}
use Rattle.laws.proofs.Filled.{filled_more}
use Rattle.key_frame.proofs.Identities.{at-identities}
use Rattle.key_frame.proofs.seven_identities.Goals as goal

pub loop-i-preserved : goal.loop-i-preserved
loop-i-preserved c = let l = c.loop-i in
    let more : l.i < 42 = omega (arith, l.invariant.long) in
    let reads = result-reads w32 c.identity_number.result c.identity_number.type_inv in
    filled_more (pos 0) _ l.number-items l.i _ more (reads ∙ c.identity_number.ensures ∙ sym (at-identities 7 l.i more)) l.invariant
