use mathlib.Core.Path.{refl}
use native.Mathlib.Omega.{arith}
use Rattle.bits.specs.Bits.{bit_at}
use Rattle.header_read.proofs.References.{none_yet, next-read, all_read}
use Rattle.header_read.proofs.Valid.{all-priors}
use Rattle.header_read.proofs.read_references.Goals as goal

pub loop-r-init : goal.loop-r-init
loop-r-init c = none_yet (bit_at c.args.header.now) c.args.flag c.args.prior.now _ _ _ refl refl

pub invariant_of-reference : goal.invariant_of-reference
invariant_of-reference c = let p = c.requires.0 in
    record { places = omega (arith, p.places); priors = all-priors c.args.prior.now p.places p.within c.loop-r.r (omega arith) }

pub store_six-requires : goal.store_six-requires
store_six-requires c = omega (arith, c.loop-r.invariant.long)

pub read-model-requires : goal.read-model-requires
read-model-requires c = omega (arith, c.loop-r.invariant.near, c.requires.1)

pub loop-r-preserved : goal.loop-r-preserved
loop-r-preserved c = let a = c.args in
    let l = c.loop-r in
    next-read (bit_at a.header.now) a.flag a.prior.now a.cursor.at l.types _ l.params _ l.next.at _ l.r c.read-model.result
    (omega arith) l.invariant c.read-model.ensures refl c.store_six.ensures refl

pub returns : goal.returns
returns c = let a = c.args in
    let l = c.loop-r in
    all_read (bit_at a.header.now) a.flag a.prior.now _ l.types l.params l.next.at l.r l.invariant (omega arith) _ refl refl refl
