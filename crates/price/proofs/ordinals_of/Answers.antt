use Prim.Native.Nat.{ℕ, ◌+◌}
use mathlib.Core.Path.{◌≡◌, ap, ◌∙◌}
use native.Mathlib.Omega.{arith}
use Rattle.laws.specs.Buffer.{onto}
use Rattle.laws.specs.Parts.{listing}
use Rattle.laws.proofs.Filling.{fill-front}
use Rattle.price.specs.Prices.{shortest, lengths_of}
use Rattle.price.specs.Listed.{listed}
use Rattle.price.specs.Call.{no_prices}
use Rattle.price.proofs.ordinals_of.Goals as goal

pub codes_of-requires : goal.codes_of-requires
codes_of-requires c = record { of = c.requires; least = omega arith; most = omega (arith, c.loop-j-test.true, c.lengths_of-lengths.ensures.0) }

pub loop-j-preserved : goal.loop-j-preserved
loop-j-preserved c = let l = c.loop-j in
    fill-front (λ k. listed c.args.abs_bits (shortest + k)) l.j no_prices
    (omega (arith, c.loop-j-test.true, c.lengths_of-lengths.ensures.1)) l.invariant c.codes_of.ensures

pub returns : goal.returns
returns c = let l = c.loop-j in
    let all : l.j ≡ lengths_of c.args.abs_bits = omega (arith, c.loop-j-test.false, l.auto.j-end, c.lengths_of-lengths.ensures.0) in
    l.invariant ∙ ap (λ (n : ℕ). onto (listing (λ k. listed c.args.abs_bits (shortest + k)) n) no_prices) all
