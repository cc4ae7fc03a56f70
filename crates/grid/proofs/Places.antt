-- A codable number's symbol is its place among the symbols, counted in steps from the least codable number; so at the rows of the table.
-- Assumes nothing.
use Prim.Native.Nat.{ℕ, ◌+◌, ◌*◌, ◌-◌, ◌/◌, ◌^◌, ◌≤◌}
use mathlib.Core.Bool.{Bool, true, false}
use mathlib.Core.Path.{◌≡◌, refl, sym, ap, ◌∙◌}
use native.Mathlib.Nat.{add-mul}
use native.Mathlib.Omega.{arith}
use borrow.Author.Tests.{le-ltb}
use lib.IntN.{ℤ, pos, nat_abs, ◌+ℤ◌, ◌-ℤ◌, ◌*ℤ◌, +ℤ-neg_ℤ_cancel}
use lib.Pow.{shl-shr, pow_mono}
use Rattle.grid.specs.declared.Coded.{Coded}
use Rattle.grid.specs.Grid.{step, abs_bits, prec_bits, centre, negative, signed, Codable}
use Rattle.grid.specs.Symbols.{symbols, symbol_of}
use Rattle.grid.specs.Inner.{place_code, PlacesAre, CodedIn, CodedIs}
use Rattle.grid.proofs.Bounds.{taken-from}
use Rattle.grid.proofs.Fixed.{ordinal-of-number}
use Rattle.grid.proofs.Signs.{signed_parts, signed-times}
use Rattle.grid.proofs.Symbols.{symbol-below, row-place-below, row-place-code}
use Rattle.grid.proofs.Table.{abs_bits-range}

-- steps raised by whole steps are as many steps
raised-steps : (s : Bool) (k a e : ℕ) → k ≤ a → nat_abs (signed s (k * 2 ^ e) +ℤ pos (a * 2 ^ e)) ≡ nat_abs (signed s k +ℤ pos a) * 2 ^ e
raised-steps true k a e h =
    let back : a - k + k ≡ a = omega arith in
    let whole : (a - k) * 2 ^ e + k * 2 ^ e ≡ a * 2 ^ e = sym (add-mul (a - k) k (2 ^ e)) ∙ ap (λ (n : ℕ). n * 2 ^ e) back in
    let less : a * 2 ^ e - k * 2 ^ e ≡ (a - k) * 2 ^ e = omega (arith, whole) in
    sym (taken-from (k * 2 ^ e) (a * 2 ^ e) (omega (arith, whole))) ∙ less ∙ ap (λ (n : ℕ). n * 2 ^ e) (taken-from k a h)
raised-steps false k a e h = sym (add-mul k a (2 ^ e))

module _ (abs prec c : ℕ) (z : ℤ) (g : Codable abs prec c z) where
  pub symbol-is-place : symbol_of abs prec c z ≡ place_code abs prec c z
  unfolding symbol_of
  symbol-is-place =
      let k : ℕ = nat_abs g.ordinal in
      let s : Bool = negative g.ordinal in
      let away : z -ℤ pos c ≡ signed s (k * step prec) =
      ap (λ (x : ℤ). x -ℤ pos c) g.is
      ∙ +ℤ-neg_ℤ_cancel (g.ordinal *ℤ pos (step prec)) (pos c)
      ∙ ap (λ (x : ℤ). x *ℤ pos (step prec)) (sym (signed_parts g.ordinal))
      ∙ signed-times s k (step prec) in
      let own : nat_abs (signed s k +ℤ pos (2 ^ abs)) ≡ place_code abs prec c z =
      sym (shl-shr (nat_abs (signed s k +ℤ pos (2 ^ abs))) (16 - prec))
      ∙ ap (λ (n : ℕ). n / step prec) (sym (raised-steps s k (2 ^ abs) (16 - prec) g.in-range.within))
      ∙ ap (λ (x : ℤ). nat_abs (x +ℤ pos (2 ^ abs * step prec)) / step prec) (sym away) in
      ap (λ (x : ℤ). symbol_of abs prec c x) g.is
      ∙ ap (λ (x : ℤ). nat_abs (x +ℤ pos (2 ^ abs))) (ordinal-of-number abs prec c g.ordinal g.in-range ∙ sym (signed_parts g.ordinal))
      ∙ own

-- ---- at the rows of the table, by the bits and the centre that the code has

module _ (gm_type flag slot : ℕ) (z q : ℤ) (g : CodedIn gm_type flag slot z q) (abs prec c : ℕ)
    (ea : abs ≡ abs_bits gm_type flag slot) (ep : prec ≡ prec_bits gm_type flag slot) (ec : c ≡ centre slot) where
  pub answered : (r : Coded) → PlacesAre abs prec c z q r → CodedIs gm_type flag slot z q r
  answered r p =
      let m : r.mx ≡ symbols (abs_bits gm_type flag slot) = rw ea at p.mx in
      let s : r.r ≡ _ = (rw (ea, ep, ec) at p.prior) ∙ sym (row-place-code gm_type flag slot q g.prior.within) in
      let t : r.t ≡ symbol_of (abs_bits gm_type flag slot) (prec_bits gm_type flag slot) (centre slot) z =
      (rw (ea, ep, ec) at p.own) ∙ sym (symbol-is-place (abs_bits gm_type flag slot) (prec_bits gm_type flag slot) (centre slot) z g.own) in
      record {
        mx = m;
        stands = s;
        is = t;
        below = omega (arith, s, m, row-place-below gm_type flag slot q g.prior.within);
        less = omega (arith, t, m, symbol-below (abs_bits gm_type flag slot) (prec_bits gm_type flag slot) (centre slot) z);
        few = omega (arith, m, pow_mono (abs_bits-range gm_type flag slot).1);
      }

-- the bits of slots 2 to 5
pub linear-bits : (gm_type flag slot : ℕ) → 2 ≤ slot → (12 ≡ abs_bits gm_type flag slot) × (15 ≡ prec_bits gm_type flag slot)
linear-bits gm_type flag slot h = rw (le-ltb slot 2 h) (refl, refl)
