-- `some_type`: a type that isn't IDENTITY stands at some place. Assumes nothing.
use Prim.Native.Nat.{ℕ}
use mathlib.Core.Bool.{not}
use mathlib.Core.Path.{sym, ◌∙◌}
use lib.Dec.{eqb}
use Rattle.std.proofs.Common.{rules, tests}
use Rattle.std.proofs.lemmas.Iterator.{YieldsList-from_slice}
use Rattle.std.proofs.lemmas.Iterator.Search.{any_from_yields_List}
use Rattle.models.proofs.Below.{any-listed}
use Rattle.key_frame.specs.Key.{some_type}
use Rattle.key_frame.proofs.some_type.Goals as goal

pub returns : goal.returns
unfolding some_type
returns c =
    any_from_yields_List (λ (t : ℕ). not (eqb t 0)) _ _ _ c.any.ensures.ran (YieldsList-from_slice c.args.types.now cc) (λ x b q. search (rules, tests))
    ∙ sym (any-listed (λ (t : ℕ). not (eqb t 0)) c.args.types.now)
