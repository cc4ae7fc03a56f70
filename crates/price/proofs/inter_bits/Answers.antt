-- `inter_bits`: the first group that refuses answers; where none does, the seven references are counted.
-- Assumes nothing.
use Prim.Native.Nat.{ℕ}
use mathlib.Core.Bool.{false}
use mathlib.Core.Path.{sym, ap, ◌∙◌}
use native.Mathlib.Omega.{arith}
use Rattle.std.proofs.lemmas.Result.{err_from_is_err_and}
use Rattle.refusal.proofs.Rows.{above-zero, first-refused}
use Rattle.header.proofs.Accepted.{seven-models, ready-to-write}
use Rattle.price.proofs.Frame.{inter-refusal, inter-count, priced, not-priced}
use Rattle.price.proofs.inter_bits.Goals as goal

pub returns-in_err-code_refusal : goal.returns-in_err-code_refusal
returns-in_err-code_refusal c = let h = c.args.header in
    let p = err_from_is_err_and c.from_residual.result c.from_residual.ensures.1 in
    let r = c.in_err-code_refusal in
    rw (p.1, p.2)
    (not-priced h.types.now h.params.now h.flag h.prior.now false _ (rw (inter-refusal h.types.now h.params.now h.flag h.prior.now, sym r.ensures) (first-refused _ _))
    (λ z. omega (arith, above-zero r.field-0.0, z)))

pub model_refusal-requires : goal.model_refusal-requires
model_refusal-requires c = let h = c.args.header in
    seven-models h.types.now h.params.now h.flag h.prior.now (sym c.in_ok-code_refusal.ensures)

pub returns-in_err-model_refusal : goal.returns-in_err-model_refusal
returns-in_err-model_refusal c = let h = c.args.header in
    let f = c.from_residual-in_err-model_refusal in
    let p = err_from_is_err_and f.result f.ensures.1 in
    let r = c.in_err-model_refusal in
    rw (p.1, p.2)
    (not-priced h.types.now h.params.now h.flag h.prior.now false _
    (rw (inter-refusal h.types.now h.params.now h.flag h.prior.now, sym c.in_ok-code_refusal.ensures) r.ensures)
    (λ z. omega (arith, above-zero r.field-0.0, z)))

pub length-requires : goal.length-requires
length-requires c = let h = c.args.header in
    ready-to-write h.types.now h.params.now h.flag h.prior.now 0 (sym c.in_ok-code_refusal.ensures) (sym c.in_ok-model_refusal.ensures)

pub returns : goal.returns
returns c = let h = c.args.header in
    ap (λ (n : ℕ). record { refusal = 0; bits = n }) (c.length.ensures ∙ inter-count h.types.now h.params.now h.flag h.prior.now)
    ∙ sym (priced h.types.now h.params.now h.flag h.prior.now false
    (inter-refusal h.types.now h.params.now h.flag h.prior.now ∙ rw (sym c.in_ok-code_refusal.ensures) (sym c.in_ok-model_refusal.ensures)))
