-- `word_at`: the stages in a row, and the word of what the last one found.
-- Assumes nothing.
use native.Mathlib.Omega.{arith}
use Rattle.search.specs.Search.{scene}
use Rattle.search.proofs.Word.{motion-is, sampled-is}
use Rattle.search.proofs.blocks.word_at.Goals as goal

pub coarse-coarse-requires : goal.coarse-coarse-requires
coarse-coarse-requires c = let p = c.requires.halves in record { planes = record { small = record { narrow = omega arith; low = omega arith }; input_pels = p.input_half_pels; ref_pels = p.ref_half_pels }; block = record { rows = omega arith; columns = omega arith } }

pub fine-best-requires : goal.fine-best-requires
fine-best-requires c = let p = c.requires in
    let e = c.coarse-coarse.ensures in record { planes = record { small = p.halves.small; input_pels = p.halves.input_pels; ref_pels = p.halves.ref_pels }; block = record { rows = omega (arith, p.inside.row); columns = omega (arith, p.inside.column) }; roomy = record { y_low = omega arith; y_high = omega (arith, e.y_last); x_low = omega arith; x_high = omega (arith, e.x_last) } }

pub overflow_cast-block : goal.overflow_cast-block
overflow_cast-block c = let p = c.requires in
    omega (arith, p.halves.small.low, p.inside.row)

pub overflow_cast-block-2 : goal.overflow_cast-block-2
overflow_cast-block-2 c = let p = c.requires in
    omega (arith, p.halves.small.narrow, p.inside.column)

pub word_of-requires : goal.word_of-requires
word_of-requires c = let p = c.requires in
    let e = c.fine-best.ensures in
    omega (arith, p.halves.small.low, p.halves.small.narrow, p.inside.row, p.inside.column, e.y_last, e.x_last)

pub overflow_add-result : goal.overflow_add-result
overflow_add-result c = omega (
  arith,
  c.coarse-coarse.ensures.few,
  c.fine-best.ensures.few,
)

pub returns : goal.returns
returns c = let a = c.args in
    let b = a.block in
    let s = scene a.input.now a.reference.now b.width b.height a.input_half.now a.ref_half.now in
    let best = c.fine-best.result in
    sampled-is s b.r b.c best
    (motion-is s b.r b.c c.coarse-coarse.result best c.coarse-coarse.ensures.same c.fine-best.ensures.same)
    c.word_of.ensures
