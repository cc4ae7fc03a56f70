-- `lent_sets::belt_score_samples_by_class`: the rows, or the score over the named samples. Assumes nothing.
use mathlib.Core.Bool.{false}
use mathlib.Core.Path.{refl, sym, ap, ◌∙◌}
use Rattle.laws.specs.Binary64.{nought}
use Rattle.laws.specs.Loops.{fold}
use Rattle.fit.specs.Sums.{itself}
use Rattle.score.specs.declared.ContinuousModel.{ContinuousModel}
use Rattle.score.specs.Score.{continuous_model, score_step, scored}
use Rattle.by_class.specs.ByClass.{refused_score}
use Rattle.named_samples.specs.Named.{named_samples}
use Rattle.lent_sets.proofs.Answers.{lent-passed, refused-by, lent-answered, score-named}
use Rattle.lent_sets.proofs.belt_score_samples_by_class.Goals as goal

pub returns-in-Err : goal.returns-in-Err
returns-in-Err c = let a = c.args in
    refused-by false a.set a.samples.now a.classes.now refl c.in-Err.refusal c.in-Err.ensures
    c.number.ensures refused_score (scored itself (continuous_model a.model.numbers))

pub residuals_named-sum-requires : goal.residuals_named-sum-requires
residuals_named-sum-requires c = let a = c.args in
    let p = lent-passed false a.set a.samples.now a.classes.now refl c.in-Ok.ensures refl in
    sym p.classed

pub returns-in-Ok : goal.returns-in-Ok
returns-in-Ok c = let a = c.args in
    let model = a.model.numbers in
    let p = lent-passed false a.set a.samples.now a.classes.now refl c.in-Ok.ensures refl in
    lent-answered false a.set a.samples.now a.classes.now refl c.in-Ok.ensures
    refused_score (scored itself (continuous_model model)) refl
    (c.score_of.ensures
    ∙ score-named a.set a.samples.now a.classes.now (sym p.classed) c.count_named.ensures model
    (c.residuals_named-sum.ensures
    ∙ ap (λ (m : ContinuousModel). fold (score_step m) (named_samples a.set a.samples.now a.classes.now) nought) c.continuous_of_params-m.ensures))
