use mathlib.Core.Path.{◌≡◌, sym}
use mathlib.Core.Bool.{true}
use lib.ListN.{length}
use native.Mathlib.Omega.{arith}
use Rattle.std.proofs.Common.{rules}
use Rattle.laws.proofs.Below.{found, ends}
use Rattle.models.specs.Models.{prior_at, priors_out}
use Rattle.models.proofs.rest_out.Goals as goal

pub returns-then-prior_out : goal.returns-then-prior_out
unfolding priors_out
returns-then-prior_out c =
    let out : prior_at c.args.prior.now c.loop-i.i ≡ true = search rules in
    sym (found (prior_at c.args.prior.now) (length c.args.prior.now) c.loop-i.i (omega arith) out)

pub returns : goal.returns
unfolding priors_out
returns c = sym (ends (prior_at c.args.prior.now) (length c.args.prior.now) c.loop-i.i (omega arith) (c.loop-i.auto.i-end c.requires.within) c.loop-i.invariant)
