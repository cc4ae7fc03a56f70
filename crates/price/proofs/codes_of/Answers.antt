-- `codes_of`: each return is one case of the closed form.
-- Assumes nothing.
use Prim.Native.Nat.{◌≤◌, ◌+◌, ◌/◌}
use mathlib.Core.Path.{sym, ap, ◌∙◌}
use native.Mathlib.Omega.{arith}
use lib.Pow.{pow_mono, pow_pos}
use Rattle.price.specs.Listed.{listed}
use Rattle.price.proofs.Listed.{listed-first, listed-longest, listed-last, listed-even, listed-odd}
use Rattle.price.proofs.codes_of.Goals as goal

pub returns-then-bits-eq-SHORTEST : goal.returns-then-bits-eq-SHORTEST
returns-then-bits-eq-SHORTEST c = let a = c.args in
    let h = c.requires in
    sym (ap (listed a.abs_bits) c.if-bits-eq-SHORTEST.true ∙ listed-first a.abs_bits h.of.four)

pub returns-then-bits-abs_bits : goal.returns-then-bits-abs_bits
returns-then-bits-abs_bits c = let a = c.args in
    let h = c.requires in
    sym (listed-longest a.abs_bits h.of.four a.bits (omega (arith, h.least)) c.if-bits-abs_bits.true)

pub overflow_cast-result : goal.overflow_cast-result
overflow_cast-result c = let h = c.requires in
    omega (arith, c.wide_power.ensures, pow_mono h.of.twelve)

pub overflow_sub-result : goal.overflow_sub-result
overflow_sub-result c = let a = c.args in
    let h = c.requires in
    omega (arith, c.wide_power.ensures, pow_mono h.of.twelve, pow_pos a.abs_bits)

pub returns-then-bits-abs_bits-2 : goal.returns-then-bits-abs_bits-2
returns-then-bits-abs_bits-2 c = let a = c.args in
    let h = c.requires in
    sym
    (listed-last a.abs_bits h.of.four a.bits (omega (arith, h.least, c.if-bits-eq-SHORTEST.false)) c.if-bits-abs_bits-2.true
    ∙ omega (arith, c.wide_power.ensures, pow_mono h.of.twelve))

pub returns-then-bits-eq0 : goal.returns-then-bits-eq0
returns-then-bits-eq0 c = let a = c.args in
    let h = c.requires in
    sym
    (listed-even a.abs_bits h.of.four a.bits (omega (arith, h.least, c.if-bits-eq-SHORTEST.false))
    (omega (arith, h.most, c.if-bits-abs_bits.false, c.if-bits-abs_bits-2.false)) c.if-bits-eq0.true)

pub overflow_cast-result-2 : goal.overflow_cast-result-2
overflow_cast-result-2 c = let a = c.args in
    let h = c.requires in
    let le : (a.bits + 1) / 2 ≤ 12 = omega (arith, h.most, h.of.twelve) in
    omega (arith, c.wide_power-2.ensures, pow_mono le)

pub returns : goal.returns
returns c = let a = c.args in
    let h = c.requires in
    let le : (a.bits + 1) / 2 ≤ 12 = omega (arith, h.most, h.of.twelve) in
    sym
    (listed-odd a.abs_bits h.of.four a.bits (omega (arith, h.least, c.if-bits-eq-SHORTEST.false))
    (omega (arith, h.most, c.if-bits-abs_bits.false, c.if-bits-abs_bits-2.false)) (omega (arith, c.if-bits-eq0.false))
    ∙ omega (arith, c.wide_power-2.ensures, pow_mono le))
