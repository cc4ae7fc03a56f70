-- `subexp::symbol_of`: the middle decides which end is counted from, and the result is a symbol. Assumes nothing.
use Prim.Native.Nat.{ℕ, ◌-◌}
use mathlib.Core.Path.{◌≡◌, ap, sym, ◌∙◌}
use native.Mathlib.Omega.{arith}
use Rattle.subexp.specs.Recenter.{symbol_of}
use Rattle.subexp.proofs.Centring.{symbol-near, symbol-far, symbol-lt}
use Rattle.subexp.proofs.symbol_of.Goals as goal

pub returns-then-r-mx : goal.returns-then-r-mx
returns-then-r-mx c = let a = c.args in
    let e : c.inverse_recenter.result ≡ symbol_of a.mx a.r a.x = c.inverse_recenter.ensures ∙ sym (symbol-near a.mx a.r a.x c.if-r-mx.true) in
    (e, omega (arith, e, symbol-lt a.mx a.r (omega arith) a.x (omega arith)))

pub returns : goal.returns
returns c = let a = c.args in
    let e : a.mx - 1 - c.inverse_recenter-2.result ≡ symbol_of a.mx a.r a.x = ap (λ (y : ℕ). a.mx - 1 - y) c.inverse_recenter-2.ensures
    ∙ sym (symbol-far a.mx a.r a.x c.if-r-mx.false) in
    (e, omega (arith, e, symbol-lt a.mx a.r (omega arith) a.x (omega arith)))
