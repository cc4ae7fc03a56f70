-- `word_trim::second`: a residual that isn't finite is row 16; where too few are kept the first fit stands and all words are moved; otherwise the fit of those moved is the last.
-- Assumes nothing.
use mathlib.Core.Path.{sym, ◌∙◌}
use native.Mathlib.Omega.{arith}
use lib.Ieee.{nan_bits}
use Rattle.trim.proofs.LastFit.{infinity-is}
use Rattle.laws.proofs.Chosen.{chosen-few}
use Rattle.word_trim.specs.Inner.{at_most}
use Rattle.word_trim.proofs.Rounds.{front-count, squares-long, kept-long, kept-few, infinite-trims, squares-findable, stood-trims, fitted-trims}
use Rattle.word_trim.proofs.second.Goals as goal

pub all_finite-requires : goal.all_finite-requires
all_finite-requires c = let a = c.args in
    squares-long a.gm_type a.first a.words.now a.squares.now a.kept.now c.requires

pub returns-then-not-all_finite : goal.returns-then-not-all_finite
returns-then-not-all_finite c = let a = c.args in
    let test = c.all_finite in
    rw (c.refused_trim.ensures, c.number.ensures)
    (infinite-trims a.gm_type a.first a.words.now a.squares.now a.kept.now c.requires (sym test.ensures ∙ c.if-not-all_finite.true))

pub limit_of-limit-requires : goal.limit_of-limit-requires
limit_of-limit-requires c = let a = c.args in
    let test = c.all_finite in record { n_in_bounds = squares-long a.gm_type a.first a.words.now a.squares.now a.kept.now c.requires; findable = squares-findable a.gm_type a.first a.words.now a.squares.now a.kept.now c.requires (sym test.ensures ∙ c.if-not-all_finite.false) }

pub keep-n-requires : goal.keep-n-requires
keep-n-requires c = let a = c.args in (
  squares-long a.gm_type a.first a.words.now a.squares.now a.kept.now c.requires,
  kept-long a.gm_type a.first a.words.now a.squares.now a.kept.now c.requires,
)

pub float_from_bits-keep : goal.float_from_bits-keep
unfolding nan_bits
float_from_bits-keep c = tt

pub keep-all-requires : goal.keep-all-requires
keep-all-requires c = let a = c.args in
    let room = kept-long a.gm_type a.first a.words.now a.squares.now a.kept.now c.requires in (
      squares-long a.gm_type a.first a.words.now a.squares.now a.kept.now c.requires,
      omega (arith, room, c.keep-n.ensures.kept_len_unchanged),
    )

pub trim_of-requires : goal.trim_of-requires
trim_of-requires c = let a = c.args in
    kept-few a.gm_type a.first a.words.now a.squares.now a.kept.now c.requires _ _ c.keep-all.result c.keep-all.ensures.front

pub shape_of-kept-then-n-least_of : goal.shape_of-kept-then-n-least_of
shape_of-kept-then-n-least_of c = omega arith

pub returns-then-n-least_of : goal.returns-then-n-least_of
returns-then-n-least_of c = let a = c.args in
    let test = c.all_finite in
    let limit = c.limit_of-limit in
    let kept = c.keep-n in
    let all = c.keep-all in
    rw c.trim_of.ensures
    (stood-trims a.gm_type a.first a.words.now a.squares.now a.kept.now c.requires (sym test.ensures ∙ c.if-not-all_finite.false)
    limit.result limit.ensures _ kept.result kept.ensures.front (omega (arith, c.if-n-least_of.true, c.least_of.ensures)) _ infinity-is
    _ all.result (omega (arith, all.ensures.kept_len_unchanged, kept.ensures.kept_len_unchanged, c.requires.asked.room)) all.ensures.front)

pub slice_bounds-fit_model-end : goal.slice_bounds-fit_model-end
slice_bounds-fit_model-end c = let a = c.args in
    let kept = c.keep-n in
    let few = chosen-few (at_most c.limit_of-limit.result) a.words.now a.squares.now in
    omega (arith, few, kept.ensures.front.counted, kept.ensures.kept_len_unchanged, c.requires.asked.room)

pub slice_bounds-fit_model-end-2 : goal.slice_bounds-fit_model-end-2
slice_bounds-fit_model-end-2 c = front-count c.keep-n.ensures.front

pub trim_of-requires-2 : goal.trim_of-requires-2
trim_of-requires-2 c = let a = c.args in
    kept-few a.gm_type a.first a.words.now a.squares.now a.kept.now c.requires _ _ c.keep-n.result c.keep-n.ensures.front

pub shape_of-kept : goal.shape_of-kept
shape_of-kept c = omega arith

pub returns : goal.returns
returns c = let a = c.args in
    let test = c.all_finite in
    let limit = c.limit_of-limit in
    let kept = c.keep-n in
    let last = c.fit_model in
    rw c.trim_of-2.ensures
    (fitted-trims a.gm_type a.first a.words.now a.squares.now a.kept.now c.requires (sym test.ensures ∙ c.if-not-all_finite.false)
    limit.result limit.ensures _ kept.result kept.ensures.front (omega (arith, c.if-n-least_of.false, c.least_of.ensures))
    (omega (arith, kept.ensures.kept_len_unchanged, c.requires.asked.room)) last.result last.ensures)
