-- `search_band`: refused by the table, otherwise an accepted call has what filling a band asks.
-- Assumes nothing.
use mathlib.Core.Path.{refl, sym}
use native.Mathlib.Omega.{arith}
use borrow.Author.Tests.{ne_eqb}
use Rattle.search.specs.Search.{scene}
use Rattle.search.proofs.Rows.{count_small}
use Rattle.search.proofs.Bands.{band-few}
use Rattle.refusal.specs.Number.{number_of}
use Rattle.refusal.proofs.Rows.{above-zero}
use Rattle.band.proofs.Accepted.{band-accepted}
use Rattle.band.proofs.search_band.Goals as goal

pub returns-in-Err : goal.returns-in-Err
returns-in-Err c = let n = number_of c.in-Err.refusal in
    let e = c.in-Err.ensures in
    rw (← e, ne_eqb n 0 (λ z. let h = above-zero c.in-Err.refusal in omega (arith, h, z))) (record { value = c.refused.ensures; words_after = refl })

pub overflow_sub-samples : goal.overflow_sub-samples
overflow_sub-samples c = let a = c.args in
    let s = scene a.input.now a.reference.now a.width a.height a.input_half.now a.ref_half.now in
    (band-accepted s a.first a.end a.words.now (sym c.in_default.ensures)).1.rising

pub overflow_mul-samples : goal.overflow_mul-samples
overflow_mul-samples c = let a = c.args in
    let s = scene a.input.now a.reference.now a.width a.height a.input_half.now a.ref_half.now in
    let k = band-accepted s a.first a.end a.words.now (sym c.in_default.ensures) in
    omega (arith, band-few a.width a.height a.first a.end k.1.there, count_small a.width a.height k.0.small.narrow k.0.small.low)

pub fill_band-rows-requires : goal.fill_band-rows-requires
fill_band-rows-requires c = let a = c.args in
    let s = scene a.input.now a.reference.now a.width a.height a.input_half.now a.ref_half.now in let both = band-accepted s a.first a.end a.words.now (sym c.in_default.ensures) in record { halves = both.0; band = both.1 }

pub returns : goal.returns
returns c = let e = sym c.in_default.ensures in
    let f = c.fill_band-rows.ensures in
    rw e (record { value = rw f.value refl; words_after = f.words_after })
