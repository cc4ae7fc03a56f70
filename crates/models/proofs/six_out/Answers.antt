use Prim.Native.Nat.{◌+◌, ◌%◌}
use mathlib.Core.Path.{◌≡◌, sym}
use mathlib.Core.Bool.{true, false}
use native.Mathlib.Omega.{arith}
use Rattle.std.proofs.Common.{rules}
use Rattle.laws.proofs.Below.{none_more, found}
use Rattle.models.specs.Models.{prior_at}
use Rattle.models.proofs.six_out.Goals as goal

pub returns-then-prior_out : goal.returns-then-prior_out
returns-then-prior_out c =
    let own : (c.args.first + c.loop-slot.slot) % 6 ≡ c.loop-slot.slot = omega arith in
    let out : prior_at c.args.prior.now (c.args.first + c.loop-slot.slot) ≡ true = rw own (search rules) in
    sym (found (prior_at c.args.prior.now) (c.args.first + 6) (c.args.first + c.loop-slot.slot) (omega arith) out)

pub loop-slot-preserved : goal.loop-slot-preserved
loop-slot-preserved c =
    let own : (c.args.first + c.loop-slot.slot) % 6 ≡ c.loop-slot.slot = omega arith in
    let in_range : prior_at c.args.prior.now (c.args.first + c.loop-slot.slot) ≡ false = rw own (search rules) in
    let next : c.args.first + (c.loop-slot.slot + 1) ≡ c.args.first + c.loop-slot.slot + 1 = omega arith in
    rw next (none_more (prior_at c.args.prior.now) (c.args.first + c.loop-slot.slot) c.loop-slot.invariant in_range)
