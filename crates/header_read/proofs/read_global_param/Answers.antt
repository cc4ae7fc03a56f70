-- `read_global_param`: the symbol read by S and the prior's place, as its number.
-- Assumes nothing.
use Prim.Native.Nat.{ℕ, ◌+◌, ◌≤◌}
use mathlib.Core.Path.{subst, ◌≡◌}
use mir.Syntax.{w32}
use lib.IntN.{ℤ, nat_abs}
use Rattle.laws.proofs.Signed.{result-reads}
use Rattle.bits.specs.Bits.{bit_at}
use Rattle.bits.proofs.Buffer.{bit_at_lt}
use Rattle.bits.specs.Ns.{Taken}
use Rattle.subexp.specs.Coefficient.{symbol}
use Rattle.grid.specs.Grid.{abs_bits, prec_bits, centre}
use Rattle.grid.specs.Symbols.{symbols, number_of, place}
use Rattle.grid.specs.Inner.{SymbolsIs, PriorIn}
use mathlib.Core.Path.{ap, sym, ◌∙◌}
use native.Mathlib.Omega.{arith}
use mir.Facts.{to_z-of_z}
use Rattle.header.specs.Coefficient.{coefficient}
use Rattle.header_read.proofs.Coefficient.{coefficient-few, coefficient-small}
use Rattle.header_read.proofs.read_global_param.Goals as goal

pub symbols_of-s-requires : goal.symbols_of-s-requires
symbols_of-s-requires c = subst (λ (q : ℤ). PriorIn c.args.slot q) (sym (to_z-of_z c.ranges.prior)) c.requires.0

pub returns : goal.returns
unfolding coefficient
returns c = let e = c.before in
    let a = e.args in
    let g : ℕ → ℕ = bit_at a.header.now in
    let among = c.symbols_of-s in
    let s = subst (λ (q : ℤ). SymbolsIs a.gm_type a.flag a.slot q among.result) (to_z-of_z e.ranges.prior) among.ensures in
    let d = c.decode_unsigned_subexp_with_ref-read.ensures.is in
    let same : symbol g a.cursor.at among.result.mx among.result.r
    ≡ symbol g a.cursor.at (symbols (abs_bits a.gm_type a.flag a.slot)) (place a.gm_type a.flag a.slot a.prior) =
    ap (λ (S : ℕ). symbol g a.cursor.at S among.result.r) s.mx
    ∙ ap (λ (p : ℕ). symbol g a.cursor.at (symbols (abs_bits a.gm_type a.flag a.slot)) p) s.stands in
    let value =
    result-reads w32 _ c.number_of.type_inv ∙ c.number_of.ensures
    ∙ ap (number_of (abs_bits a.gm_type a.flag a.slot) (prec_bits a.gm_type a.flag a.slot) (centre a.slot)) (d.value ∙ ap (λ (t : Taken). t.value) same) in
    let next = d.next ∙ ap (λ (t : Taken). a.cursor.at + t.bits) same in
    record {
      value = value;
      next = next;
      near = omega (arith, next, coefficient-few g (bit_at_lt a.header.now) a.cursor.at a.gm_type a.flag a.slot a.prior e.requires.0.within);
      small = subst (λ (z : ℤ). nat_abs z ≤ 4259840) (sym value) (coefficient-small g (bit_at_lt a.header.now) a.cursor.at a.gm_type a.flag a.slot a.prior e.requires.0.within);
    }
