-- `subexp::climb`: as many rungs as ones stand in front, up to the last. Assumes nothing.
use Prim.Native.Nat.{◌-◌, ◌≤◌}
use mathlib.Core.Path.{refl}
use native.Mathlib.Omega.{arith}
use Rattle.bits.specs.Bits.{bit_at}
use Rattle.bits.proofs.Buffer.{bit_at_lt}
use Rattle.subexp.proofs.Window.{climb-stops, climb-ends}
use Rattle.subexp.proofs.climb.Goals as goal

pub returns-then-ones-last : goal.returns-then-ones-last
returns-then-ones-last c = let f = c.f-window in
    let pre = c.requires in
    let a = c.args in
    let b = c.bit_length-ones in
    let l = c.last_rung-last in
    climb-stops (bit_at a.bytes.now) (bit_at_lt a.bytes.now) a.cursor.at f.result.value b.result f.ensures.value b.ensures.0
    a.num_syms (32 - b.result) l.result pre.0 pre.1 refl l.ensures c.new.result c.if-ones-last.true c.new.ensures

pub returns : goal.returns
returns c = let f = c.f-window in
    let pre = c.requires in
    let a = c.args in
    let b = c.bit_length-ones in
    let l = c.last_rung-last in
    let all : l.result ≤ 32 - b.result = omega arith in
    climb-ends (bit_at a.bytes.now) (bit_at_lt a.bytes.now) a.cursor.at f.result.value b.result f.ensures.value b.ensures.0
    a.num_syms (32 - b.result) l.result pre.0 pre.1 refl l.ensures c.new-2.result all c.new-2.ensures
