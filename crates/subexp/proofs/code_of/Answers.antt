-- `subexp::code_of`: the middle decides which end is counted from, and a code number is below S. Assumes nothing.
use mathlib.Core.Path.{◌≡◌, sym, ◌∙◌}
use native.Mathlib.Omega.{arith}
use Rattle.subexp.specs.Recenter.{code_of}
use Rattle.subexp.proofs.Centring.{code-near, code-far, code_lt}
use Rattle.subexp.proofs.code_of.Goals as goal

pub returns-then-r-mx : goal.returns-then-r-mx
returns-then-r-mx c = let a = c.args in
    let e : c.recenter.result ≡ code_of a.mx a.r a.v = c.recenter.ensures ∙ sym (code-near a.mx a.r a.v c.if-r-mx.true) in
    (e, omega (arith, e, code_lt a.mx a.r (omega arith) a.v (omega arith)))

pub returns : goal.returns
returns c = let a = c.args in
    let e : c.recenter-2.result ≡ code_of a.mx a.r a.v = c.recenter-2.ensures ∙ sym (code-far a.mx a.r a.v c.if-r-mx.false) in
    (e, omega (arith, e, code_lt a.mx a.r (omega arith) a.v (omega arith)))
