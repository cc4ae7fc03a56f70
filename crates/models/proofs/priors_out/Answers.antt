use mathlib.Core.Path.{sym, ◌∙◌}
use native.Mathlib.Omega.{arith}
use Prim.Native.Nat.{◌+◌, ◌*◌}
use lib.ListN.{length}
use Rattle.models.specs.Models.{prior_at, priors_out}
use Rattle.models.proofs.Below.{some-farther}
use Rattle.models.proofs.priors_out.Goals as goal

pub returns-then-six_out : goal.returns-then-six_out
unfolding priors_out
returns-then-six_out c =
    sym (some-farther (prior_at c.args.prior.now) (6 * c.loop-r.r + 6) (length c.args.prior.now) (omega arith) (sym c.six_out.ensures ∙ c.if-six_out.true))
