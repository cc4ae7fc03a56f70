-- `header::global_param_length`: the code counted, from the prior's place, is the slot's bits. Assumes nothing.
use mathlib.Core.Path.{subst}
use mir.Facts.{to_z-of_z}
use lib.IntN.{ℤ}
use Rattle.grid.specs.Inner.{SymbolsIs, SymbolIs, PriorIn}
use mathlib.Core.Path.{ap, sym, ◌∙◌}
use native.Mathlib.Omega.{arith}
use lib.ListN.{length}
use Rattle.header.proofs.Coefficient.{coded}
use Rattle.header.proofs.global_param_length.Goals as goal

pub symbols_of-s-requires : goal.symbols_of-s-requires
symbols_of-s-requires c = subst (λ (q : ℤ). PriorIn c.args.slot q) (sym (to_z-of_z c.ranges.prior)) c.requires

pub unsigned_subexp_length-requires : goal.unsigned_subexp_length-requires
unsigned_subexp_length-requires c = let s = c.symbols_of-s.ensures in
    (s.below, omega (arith, s.mx, c.symbol_of.ensures.below), omega (arith, s.few))

pub returns : goal.returns
returns c = let e = c.before in
    let a = e.args in
    let among = c.symbols_of-s in
    let own = c.symbol_of in
    let s = subst (λ (q : ℤ). SymbolsIs a.gm_type a.flag a.slot q among.result) (to_z-of_z e.ranges.prior) among.ensures in
    let t = subst (λ (z : ℤ). SymbolIs a.gm_type a.flag a.slot z own.result) (to_z-of_z e.ranges.value) own.ensures in
    (c.unsigned_subexp_length.ensures.0 ∙ ap length (coded a.gm_type a.flag a.slot a.value a.prior _ _ _ s.mx s.stands t.is), c.unsigned_subexp_length.ensures.1)
