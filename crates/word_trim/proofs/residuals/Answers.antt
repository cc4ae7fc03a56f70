use borrow.Author.Rules.{rules}
use Prim.Native.Nat.{ℕ, ◌≤◌}
use mathlib.Core.List.{List, map}
use mathlib.Core.Path.{◌≡◌, refl, sym, ap, ◌∙◌}
use native.Mathlib.Omega.{arith}
use lib.ListN.{length, get_or}
use lib.Seq.{take_all}
use lib.Ieee.{Float}
use Rattle.laws.specs.Buffer.{onto}
use Rattle.laws.specs.Parts.{listing}
use Rattle.laws.proofs.Filling.{fill-front, listing-take}
use Rattle.score.specs.declared.ContinuousModel.{ContinuousModel}
use Rattle.score.specs.Score.{residual_of}
use Rattle.trim.proofs.Indices.{map-listing}
use Rattle.word_trim.proofs.residuals.Invariants.{square_by}
use Rattle.word_trim.proofs.residuals.Goals as goal

-- the listed squares are those of the whole list
all_listed : (m : ContinuousModel) (words : List ℕ) (i : ℕ) → i ≡ length words → listing (λ k. square_by m (get_or words k 0)) i ≡ map (square_by m) words
all_listed m words i e =
    sym (map-listing (square_by m) (λ k. get_or words k 0) i)
    ∙ ap (λ (l : List ℕ). map (square_by m) l)
    (listing-take words 0 i (let h : i ≤ length words = omega arith in h) ∙ take_all i words (let h : length words ≤ i = omega arith in h))

pub continuous_fit-m-requires : goal.continuous_fit-m-requires
continuous_fit-m-requires c = omega arith

pub centres-centres-requires : goal.centres-centres-requires
centres-centres-requires c = omega arith

pub loop-i-init : goal.loop-i-init
loop-i-init c = (omega arith, refl, refl)

pub offset_bounds-words-i : goal.offset_bounds-words-i
offset_bounds-words-i c = omega arith

pub bounds-words-i : goal.bounds-words-i
bounds-words-i c = omega arith

pub sample_by-requires : goal.sample_by-requires
sample_by-requires c = c.centres-centres.ensures

pub residual-requires : goal.residual-requires
residual-requires c = omega arith

pub offset_bounds-squares-i : goal.offset_bounds-squares-i
offset_bounds-squares-i c = omega arith

pub bounds-squares-i : goal.bounds-squares-i
bounds-squares-i c = omega arith

pub loop-i-preserved : goal.loop-i-preserved
loop-i-preserved c = let a = c.args in
    let l = c.loop-i in
    let m = c.continuous_fit-m.result in (
      search rules,
      fill-front (λ k. square_by m (get_or a.words.now k 0)) l.i a.squares.now (search rules) l.invariant.1
          (c.residual.ensures ∙ ap (residual_of m) c.sample_by.ensures),
      search rules,
    )

pub shape_of-squares : goal.shape_of-squares
shape_of-squares c = omega arith

pub returns : goal.returns
returns c = let a = c.args in
    let l = c.loop-i in
    let m = c.continuous_fit-m in
    l.invariant.1
    ∙ ap (λ (rs : List Float). onto rs a.squares.now) (all_listed m.result a.words.now l.i (omega arith))
    ∙ ap (λ (model : ContinuousModel). onto (map (square_by model) a.words.now) a.squares.now) m.ensures
