-- `bits::ns_field`: the field is the arm of the definition that v falls into. Assumes nothing.
use mathlib.Core.Path.{sym}
use native.Mathlib.Omega.{arith}
use Rattle.bits.proofs.Ns.{short-code, long-code, short-low, long-low}
use Rattle.bits.proofs.ns_field.Goals as goal

pub returns-then-v-m : goal.returns-then-v-m
returns-then-v-m c = let a = c.args in
    let r = c.ns_width-w.result in
    let w = c.ns_width-w.ensures in (
      record {
        bits = sym (short-code a.n a.v r.w r.m w.w w.m c.if-v-m.true);
        low = short-low a.n a.v r.w r.m w.w w.m c.requires.0
            c.if-v-m.true;
      },
      omega (arith, w.most),
    )

pub returns : goal.returns
returns c = let a = c.args in
    let r = c.ns_width-w.result in
    let w = c.ns_width-w.ensures in (
      record { bits = sym (long-code a.n a.v r.w r.m w.w w.m c.if-v-m.false); low = long-low a.n a.v r.w r.m w.w w.m c.requires.0 },
      w.most,
    )
