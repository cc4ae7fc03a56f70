-- `held_trim::second`: a residual that isn't finite is row 16; where too few are kept the first fit stands, with all samples under infinity; otherwise the fit of those under the limit is the last.
-- Assumes nothing.
use lib.ListN.{length}
use borrow.Author.Tests.{not-true, not-false}
use mathlib.Core.Path.{sym, ◌∙◌}
use native.Mathlib.Omega.{arith}
use lib.Ieee.{nan_bits}
use Rattle.trim.proofs.LastFit.{infinity-is, squares-long, infinite-cuts, squares-findable, kept-under-limit, few-kept, stood-cuts, fitted-cuts}
use Rattle.held_trim.proofs.second.Goals as goal

pub all_finite-requires : goal.all_finite-requires
all_finite-requires c = let s = c.before in
    let a = s.args in
    squares-long a.samples.now a.gm_type (length a.samples.now) a.squares.now a.first s.requires

pub returns-then-not-all_finite : goal.returns-then-not-all_finite
returns-then-not-all_finite c = let s = c.before in
    let a = s.args in
    let test = c.all_finite in
    let infinite = sym test.ensures ∙ not-true test.result c.if-not-all_finite.true-raw in
    rw (c.refused_cut.ensures, c.number.ensures)
    (infinite-cuts a.samples.now a.gm_type (length a.samples.now) a.squares.now a.first s.requires infinite)

pub limit_of-limit-requires : goal.limit_of-limit-requires
limit_of-limit-requires c = let s = c.before in
    let a = s.args in
    let test = c.all_finite in
    let finite = sym test.ensures ∙ not-false test.result c.if-not-all_finite.false-raw in record { n_in_bounds = squares-long a.samples.now a.gm_type (length a.samples.now) a.squares.now a.first s.requires; findable = squares-findable a.samples.now a.gm_type (length a.samples.now) a.squares.now a.first s.requires finite }

pub count_under-kept-requires : goal.count_under-kept-requires
count_under-kept-requires c = let s = c.before in
    let a = s.args in
    squares-long a.samples.now a.gm_type (length a.samples.now) a.squares.now a.first s.requires

pub float_from_bits-cut_of : goal.float_from_bits-cut_of
unfolding nan_bits
float_from_bits-cut_of c = tt

pub returns-then-kept-least_of : goal.returns-then-kept-least_of
returns-then-kept-least_of c = let s = c.before in
    let a = s.args in
    let test = c.all_finite in
    let finite = sym test.ensures ∙ not-false test.result c.if-not-all_finite.false-raw in
    let limit = c.limit_of-limit in
    let count = c.count_under-kept in
    rw c.cut_of.ensures
    (stood-cuts a.samples.now a.gm_type (length a.samples.now) a.squares.now a.first s.requires
    finite limit.result limit.ensures count.result count.ensures (omega (arith, c.if-kept-least_of.true, c.least_of.ensures)) _ infinity-is)

pub fit_under-requires : goal.fit_under-requires
fit_under-requires c = let s = c.before in
    let a = s.args in
    let test = c.all_finite in
    let finite = sym test.ensures ∙ not-false test.result c.if-not-all_finite.false-raw in
    let limit = c.limit_of-limit in
    let count = c.count_under-kept in
    kept-under-limit a.samples.now a.gm_type (length a.samples.now) a.squares.now a.first s.requires
    finite limit.result limit.ensures count.result count.ensures

pub cut_of-requires-2 : goal.cut_of-requires-2
cut_of-requires-2 c = let s = c.before in
    let a = s.args in
    let test = c.all_finite in
    let finite = sym test.ensures ∙ not-false test.result c.if-not-all_finite.false-raw in
    let limit = c.limit_of-limit in
    let count = c.count_under-kept in
    few-kept a.samples.now a.gm_type (length a.samples.now) a.squares.now a.first s.requires
    finite limit.result limit.ensures count.result count.ensures

pub returns : goal.returns
returns c = let s = c.before in
    let a = s.args in
    let test = c.all_finite in
    let finite = sym test.ensures ∙ not-false test.result c.if-not-all_finite.false-raw in
    let limit = c.limit_of-limit in
    let count = c.count_under-kept in
    rw c.cut_of-2.ensures
    (fitted-cuts a.samples.now a.gm_type (length a.samples.now) a.squares.now a.first s.requires
    finite limit.result limit.ensures count.result count.ensures
    (omega (arith, c.if-kept-least_of.false, c.least_of.ensures)) c.fit_under.result c.fit_under.ensures)
