-- `frame_price`: of a key frame the refusal alone, of an inter frame its own price.
-- Assumes nothing.
use mathlib.Core.Path.{sym, ◌∙◌}
use Rattle.price.proofs.Frame.{key-price, key-price-refusal}
use Rattle.price.proofs.frame_price.Goals as goal

pub returns-then-intra : goal.returns-then-intra
returns-then-intra c = let a = c.args in
    rw c.if-intra.true
    (key-price a.types.now a.params.now a.flag a.prior.now _
    ((c.refusal_number-refusal.ensures ∙ c.key_refusal.ensures) ∙ sym (key-price-refusal a.types.now a.params.now a.flag a.prior.now)))
