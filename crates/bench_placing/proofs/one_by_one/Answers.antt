use Prim.Native.Nat.{ℕ, suc, ◌+◌, ◌-◌, ◌<◌}
use mathlib.Core.List.{List}
use mathlib.Core.Path.{◌≡◌, ◌∙◌, ap, subst}
use native.Mathlib.Omega.{arith}
use lib.ListN.{length}
use Rattle.bits.specs.Bits.{bit_of, put_bit, put_bits}
use Rattle.bits.specs.Fields.{field_bits}
use Rattle.bits.proofs.Byte.{bit_of-lt}
use Rattle.bits.proofs.Buffer.{length-put_bit}
use Rattle.bits.proofs.Fields.{length-field_bits}
use Rattle.bench_placing.proofs.one_by_one.Goals as goal

-- a turn of the loop: the bit of weight left - 1 is put, and what is left gives what was to be put
written_step : (l : List ℕ) (j left v : ℕ) {l' t : List ℕ} {j' b : ℕ} → 0 < left → b ≡ bit_of v (left - 1) → j' ≡ j + 1 → l' ≡ put_bit l j b
    → put_bits l j (field_bits left v) ≡ t → put_bits l' j' (field_bits (left - 1) v) ≡ t
written_step l j left v {l'} {t} {j'} {b} h eb ej el r =
    let e : left ≡ suc (left - 1) = omega arith in
    rw (el, ej, eb) (subst (λ (k : ℕ). put_bits l j (field_bits k v) ≡ t) e r)

pub write_bit-next-requires : goal.write_bit-next-requires
write_bit-next-requires c = (rw c.bit_of.ensures (bit_of-lt _ _), record { within = omega arith; small = omega arith })

pub loop-k-preserved : goal.loop-k-preserved
loop-k-preserved c = let a = c.args in
    let loop = c.loop-k in
    let loop-test = c.loop-k-test in
    let e = c.write_bit-next.ensures in
    let inv = loop.invariant in (
      omega arith,
      omega (arith, e.at),
      ap length e.buffer ∙ simp length-put_bit inv.2,
      written_step loop.buffer loop.next.at loop.k a.value loop-test.true c.bit_of.ensures e.at e.buffer inv.3,
    )

pub returns : goal.returns
returns c = let z : c.loop-k.k ≡ 0 = omega arith in
    record { at = omega (arith, length-field_bits c.args.n c.args.value); buffer = rw z at c.loop-k.invariant.3 }
