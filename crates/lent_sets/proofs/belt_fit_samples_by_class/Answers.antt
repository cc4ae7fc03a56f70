-- `lent_sets::belt_fit_samples_by_class`: the rows, or the fit of the named samples, given in numbers. Assumes nothing.
use mathlib.Core.Path.{refl, sym, ap, ◌∙◌}
use Rattle.fit.specs.declared.Fitted.TheVariants.{Refused}
use Rattle.fit.specs.Sums.{itself}
use Rattle.fit.specs.Fitted.{no_type}
use Rattle.fit_numbers.specs.Numbers.{numbers_of}
use Rattle.by_class.specs.ByClass.{fitted_from}
use Rattle.lent_sets.proofs.Answers.{lent-passed, refused-by, lent-answered, fit-named}
use Rattle.lent_sets.proofs.belt_fit_samples_by_class.Goals as goal

pub returns-in-Err : goal.returns-in-Err
returns-in-Err c = let a = c.args in
    c.numbers_of.ensures
    ∙ ap numbers_of
    (refused-by (no_type a.kind) a.set a.samples.now a.classes.now c.no_type-wrong.ensures c.in-Err.refusal c.in-Err.ensures
    c.number.ensures Refused (fitted_from itself a.kind))

pub fit_named-requires : goal.fit_named-requires
fit_named-requires c = let a = c.args in
    let p = lent-passed (no_type a.kind) a.set a.samples.now a.classes.now c.no_type-wrong.ensures c.in-Ok.ensures refl in record { samples_len = sym p.classed; samples_len_bound = p.few }

pub returns-in-Ok : goal.returns-in-Ok
returns-in-Ok c = let a = c.args in
    let p = lent-passed (no_type a.kind) a.set a.samples.now a.classes.now c.no_type-wrong.ensures c.in-Ok.ensures refl in
    c.numbers_of-in-Ok.ensures
    ∙ ap numbers_of
    (lent-answered (no_type a.kind) a.set a.samples.now a.classes.now c.no_type-wrong.ensures c.in-Ok.ensures
    Refused (fitted_from itself a.kind) refl
    (fit-named a.set a.samples.now a.classes.now a.kind p c.fit_named.ensures))
