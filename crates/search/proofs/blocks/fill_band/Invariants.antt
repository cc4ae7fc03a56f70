-- `fill_band`: each turn writes the next block's word after those before it, and counts its rows.
-- Assumes nothing.
use mathlib.Core.Path.{◌≡◌}
use Rattle.laws.specs.Buffer.{onto}
use Rattle.laws.specs.Loops.{sum}
use Rattle.laws.specs.Parts.{listing}
use Rattle.search.specs.Search.{scene, sample_word, sample_rows}
use Rattle.search.specs.Band.{band_at}
use Rattle.search.proofs.blocks.fill_band.Given as goal

abbrev pub invariant-loop-k : goal.invariant-loop-k
invariant-loop-k l = let s = scene l.input l.reference l.sides.width l.sides.height l.input_half l.ref_half in
    (l.words ≡ onto (listing (λ i. sample_word s (band_at l.sides.width l.first i)) l.k) l.initial.words)
    × (l.rows ≡ sum (λ i. sample_rows s (band_at l.sides.width l.first i)) l.k)
