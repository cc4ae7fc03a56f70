-- The call's answer by the table's rows: each refusal in its turn, and the models read from the byte of the position on.
-- Assumes nothing.
use Prim.Native.Nat.{ℕ, ◌+◌, ◌*◌, ◌-◌, ◌/◌, ◌%◌, ◌≤◌, ◌<◌}
use mathlib.Core.List.{List}
use mathlib.Core.Logic.{⊎_elim}
use mathlib.Core.Path.{◌≡◌, ap, sym, subst, ◌∙◌}
use native.Mathlib.Omega.{arith}
use borrow.Author.Tests.{lt-ltb, le-ltb, eq-eqb}
use lib.IntN.{ℤ}
use lib.ListN.{length, drop}
use Rattle.laws.specs.Call.{answered}
use Rattle.laws.specs.Refusal.{judge, or_else}
use Rattle.laws.proofs.Call.{answered-refused}
use Rattle.laws.proofs.Cases.{lt-or-le}
use Rattle.laws.proofs.Refusal.{or-else-refused, or_else_none, quiet, length-is}
use Rattle.bits.specs.Bits.{bit_at}
use Rattle.header.specs.Reading.{ReadModels, references_read, models_read}
use Rattle.header_read.specs.Called.{prior_rows, end_rows, read_refusal, no_models, the_models, models}
use Rattle.header_read.specs.Inner.{answer_of, within, PriorsReady, SevenIs}
use Rattle.header_read.specs.declared.Seven.{Seven}
use Rattle.header_read.proofs.References.{models-some}
use Rattle.header_read.proofs.Shift.{read-from-byte}

-- what the first group of rows lets pass
pub priors-ready : (flag : ℕ) (qs : List ℤ) → judge (prior_rows flag qs) ≡ 0 → PriorsReady qs
priors-ready flag qs e =
    let q = quiet (prior_rows flag qs) tt e in
    record { places = length-is (length qs) 42 q.0; within = q.1.1.0 }

module _ (header : List ℕ) (at flag : ℕ) (qs : List ℤ) where
  -- the first group of rows
  pub refused : (n : ℕ) → n ≡ judge (prior_rows flag qs) → (n ≡ 0 → ⊥) → no_models n ≡ models header at flag qs
  unfolding models read_refusal
  refused n e some =
      let t : ReadModels = models_read header at flag qs in
      let r : judge (prior_rows flag qs) ≡ or_else (judge (prior_rows flag qs)) (judge (end_rows header at t)) =
      or-else-refused (judge (prior_rows flag qs)) (judge (end_rows header at t)) (λ z. some (e ∙ z)) in
      ap no_models (e ∙ r) ∙ sym (answered-refused no_models (or_else (judge (prior_rows flag qs)) (judge (end_rows header at t))) (the_models t) (λ z. some (e ∙ r ∙ z)))

  pub read-within : judge (prior_rows flag qs) ≡ 0 → within header at (models_read header at flag qs) ≡ models header at flag qs
  unfolding models read_refusal
  read-within e =
      ap (λ (n : ℕ). answered no_models n (the_models (models_read header at flag qs))) (or_else_none (judge (prior_rows flag qs)) (judge (end_rows header at (models_read header at flag qs))) e)

  pub read-or-ended : flag ≤ 1 → PriorsReady qs → within header at (models_read header at flag qs) ≡ models header at flag qs
  read-or-ended f p = read-within (rw (eq-eqb (length qs) 42 p.places, le-ltb 1 flag f, p.within))

  -- no byte of the position
  pub ended : length header ≤ at / 8 → no_models 9 ≡ within header at (models_read header at flag qs)
  ended h = rw (lt-ltb (8 * length header) (at + (models_read header at flag qs).bits) (omega (arith, models-some header at flag qs)))

  same : PriorsReady qs → references_read (bit_at (drop (at / 8) header)) flag qs 7 0 (at % 8) ≡ models_read header at flag qs
  unfolding models_read
  same p = read-from-byte flag qs p.places p.within header at

  pub from_byte : PriorsReady qs → at / 8 < length header → (seven : Seven) → SevenIs seven (references_read (bit_at (drop (at / 8) header)) flag qs 7 0 (at % 8)) (at % 8)
      → answer_of seven (at % 8) (length header - at / 8) ≡ within header at (models_read header at flag qs)
  from_byte p h seven s =
      let t : ReadModels = models_read header at flag qs in
      let read : SevenIs seven t (at % 8) = subst (λ (x : ReadModels). SevenIs seven x (at % 8)) (same p) s in
      ⊎_elim
      (λ (l : 8 * length header < at + t.bits).
      rw (
        lt-ltb (8 * (length header - at / 8)) seven.next.at (omega (arith, read.next)),
        lt-ltb (8 * length header) (at + (models_read header at flag qs).bits) l,
      ))
      (λ (l : at + t.bits ≤ 8 * length header).
      let b : seven.next.at - at % 8 ≡ t.bits = omega (arith, read.next) in
      rw (
        le-ltb (8 * (length header - at / 8)) seven.next.at (omega (arith, read.next)),
        le-ltb (8 * length header) (at + (models_read header at flag qs).bits) l,
        b,
        read.types,
        read.params,
      ))
      (lt-or-le (8 * length header) (at + t.bits))
