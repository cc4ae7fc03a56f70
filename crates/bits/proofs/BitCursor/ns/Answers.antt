-- `bits::BitCursor::ns`: the test on what was read first chooses the definition's arm. Assumes nothing.
use Prim.Native.Nat.{ℕ, ◌+◌, ◌-◌, ◌*◌, ◌≤◌, ◌<◌}
use mathlib.Core.List.{List}
use mathlib.Core.Path.{◌≡◌, sym, ap, ◌∙◌}
use native.Mathlib.Omega.{arith}
use lib.Pow.{pow_mono}
use Rattle.bits.specs.Bits.{bit_at}
use Rattle.bits.specs.Fields.{field}
use Rattle.bits.specs.Ns.{Taken}
use Rattle.bits.proofs.Buffer.{bit_at_lt}
use Rattle.bits.proofs.Fields.{field_lt}
use Rattle.bits.proofs.Ns.{short-read, long-read}
use Rattle.bits.proofs.BitCursor.ns.Goals as goal

small : (bytes : List ℕ) (at w v : ℕ) → w ≤ 17 → v ≡ field (bit_at bytes) at (w - 1) → 2 * v < 131072
small bytes at w v le e =
    let sixteen : w - 1 ≤ 16 = omega arith in
    omega (arith, field_lt (bit_at bytes) (bit_at_lt bytes) at (w - 1), pow_mono sixteen)

pub returns-then-v-m : goal.returns-then-v-m
returns-then-v-m c = let a = c.args in
    let ns-width = c.ns_width-w in
    let f = c.f-v in
    let w = ns-width.ensures in
    let e = short-read a.n f.result.value ns-width.result.w ns-width.result.m w.w w.m (bit_at a.bytes.now) a.self.at f.ensures.value c.if-v-m.true in
    record { value = sym (ap (λ (t : Taken). t.value) e); next = f.ensures.next ∙ sym (ap (λ (t : Taken). a.self.at + t.bits) e) }

pub overflow_mul-result : goal.overflow_mul-result
overflow_mul-result c = omega (arith, small c.args.bytes.now c.args.self.at c.ns_width-w.result.w c.f-v.result.value (omega arith) c.f-v.ensures.value)

pub overflow_add-result : goal.overflow_add-result
overflow_add-result c = let a = c.args in
    let f = c.f-v in
    omega (arith, small c.args.bytes.now c.args.self.at c.ns_width-w.result.w c.f-v.result.value (omega arith) c.f-v.ensures.value, c.read_bit-extra_bit.ensures.value, bit_at_lt a.bytes.now f.result.next.at)

pub returns : goal.returns
returns c = let a = c.args in
    let ns-width = c.ns_width-w in
    let f = c.f-v in
    let if1 = c.if-v-m in
    let read-bit = c.read_bit-extra_bit in
    let w = ns-width.ensures in
    let at : read-bit.result.value ≡ bit_at a.bytes.now (a.self.at + (ns-width.result.w - 1)) = read-bit.ensures.value ∙ ap (bit_at a.bytes.now) f.ensures.next in
    let e = long-read a.n f.result.value ns-width.result.w ns-width.result.m w.w w.m (bit_at a.bytes.now) a.self.at f.ensures.value
    read-bit.result.value at if1.false in
    record { value = sym (ap (λ (t : Taken). t.value) e); next = omega (arith, w.least, f.ensures.next, read-bit.ensures.next, ap (λ (t : Taken). t.bits) e) }
