-- `subexp::rung_length`: the last rung takes the ns code's width, the others a zero and the number's bits. Assumes nothing.
use Prim.Native.Nat.{◌-◌}
use mathlib.Core.Path.{sym, ap, ◌∙◌}
use native.Mathlib.Omega.{arith}
use lib.ListN.{length}
use Rattle.bits.specs.Ns.{ns_bits}
use Rattle.bits.proofs.Fields.{length-field_bits}
use Rattle.bits.proofs.Words.{field-length}
use Rattle.subexp.proofs.Climbing.{last_code, stop-code}
use Rattle.subexp.proofs.rung_length.Goals as goal

pub returns-then-is_last : goal.returns-then-is_last
returns-then-is_last c = let a = c.args in
    let m = c.rung_start-mk in
    let f = c.ns_field in (
      field-length f.result (ns_bits (a.num_syms - m.result) (a.v - m.result)) f.ensures.0
          ∙ ap length (sym (last_code a.num_syms a.v a.i m.result m.ensures.0 (sym c.is_last.ensures ∙ c.if-is_last.true))),
      omega (arith, f.ensures.1),
    )

pub returns : goal.returns
returns c = let a = c.args in
    let m = c.rung_start-mk in
    let b = c.rung_bits in
    let code = ap length (stop-code a.num_syms a.v a.i m.result m.ensures.0 b.result b.ensures.0 (sym c.is_last.ensures ∙ c.if-is_last.false)) in
    (omega (arith, code, length-field_bits b.result (a.v - m.result)), omega (arith, b.ensures.1))
