-- A writing call is refused by no row exactly where the header can be written and there is room for it.
-- Assumes nothing.
use Prim.Native.Nat.{ℕ, ◌≤◌, ◌<◌}
use mathlib.Core.Bool.{false, not}
use mathlib.Core.List.{List}
use mathlib.Core.Path.{◌≡◌, ap, sym, ◌∙◌}
use native.Mathlib.Omega.{arith}
use borrow.Author.Tests.{ltb-false, le-ltb}
use lib.Dec.{eqb}
use lib.IntN.{ℤ}
use lib.ListN.{length}
use Rattle.laws.specs.Refusal.{either, judge}
use Rattle.laws.proofs.Call.{answered-accepted, answered-refused, left-accepted, left-refused}
use Rattle.laws.proofs.Refusal.{neither, length-is, quiet, or-else-quiet}
use Rattle.header.specs.Inner.{Seven, HeaderReady, HeaderCoded}
use Rattle.header.specs.Writing.{header_bits, lengths_wrong, bytes_for, bits_placed, code_rows, model_rows, room_rows, write_refusal, not_written, written, header_after}
use Rattle.header.proofs.RoundTrip.{Writable}

lengths-right : (a b c : ℕ) → lengths_wrong a b c ≡ false → (a ≡ 7) × (b ≡ 42) × (c ≡ 42)
lengths-right a b c e =
    let p = neither (not (eqb a 7)) (either (not (eqb b 42)) (not (eqb c 42))) e in
    let q = neither (not (eqb b 42)) (not (eqb c 42)) p.1 in
    (length-is a 7 p.0, length-is b 42 q.0, length-is c 42 q.1)

module _ (types : List ℕ) (ps : List ℤ) (flag : ℕ) (qs : List ℤ) where
  -- what the first group of rows lets pass
  pub seven-models : judge (code_rows types ps flag qs) ≡ 0 → Seven types ps qs
  seven-models e =
      let l = lengths-right (length types) (length ps) (length qs) (quiet (code_rows types ps flag qs) tt e).0 in
      record { seven = l.0; numbers = l.1; places = l.2 }

  module _ (start : ℕ) where
    -- and the second
    pub start-low : judge (model_rows start types ps flag qs) ≡ 0 → start < 8
    start-low e = omega (arith, ltb-false 7 start (quiet (model_rows start types ps flag qs) tt e).0)

    pub ready-to-write : judge (code_rows types ps flag qs) ≡ 0 → judge (model_rows start types ps flag qs) ≡ 0 → HeaderReady types ps qs
    ready-to-write c m = record { all = seven-models c; within = (quiet (model_rows start types ps flag qs) tt m).1.1.0 }

    -- what an accepted call knows
    pub record Accepted (room : ℕ) : Type 0 where
      pub writable : Writable types ps flag qs
      pub flagged : flag ≤ 1
      pub low : start < 8
      pub roomy : bytes_for start (length (header_bits types ps flag qs)) ≤ room

    pub accepted : (room : ℕ) → write_refusal start types ps flag qs room ≡ 0 → Accepted room
    unfolding write_refusal
    accepted room e =
        let first = or-else-quiet (judge (code_rows types ps flag qs)) _ e in
        let rest = or-else-quiet (judge (model_rows start types ps flag qs)) (judge (room_rows start types ps flag qs room)) first.1 in
        let codes = quiet (code_rows types ps flag qs) tt first.0 in
        let handed = quiet (model_rows start types ps flag qs) tt rest.0 in
        let l = seven-models first.0 in
        record {
          writable = record { seven = l.seven; models = l.numbers; priors = l.places; known = codes.1.0; right = handed.1.0; within = handed.1.1.0 };
          flagged = ltb-false 1 flag codes.1.1.0;
          low = start-low rest.0;
          roomy = ltb-false room (bytes_for start (length (header_bits types ps flag qs))) (quiet (room_rows start types ps flag qs room) tt rest.1).0;
        }

    pub header-coded : (room : ℕ) → Accepted room → HeaderCoded types ps flag qs
    header-coded room a =
        let w = a.writable in
        record { ready = record { all = record { seven = w.seven; numbers = w.models; places = w.priors }; within = w.within }; right = w.right }

    pub not-refused : (room : ℕ) → Accepted room → write_refusal start types ps flag qs room ≡ 0
    unfolding write_refusal
    not-refused room a =
        let w = a.writable in
        rw (
          w.seven,
          w.models,
          w.priors,
          w.known,
          le-ltb 1 flag a.flagged,
          le-ltb 7 start (let l : start ≤ 7 = omega (arith, a.low) in l),
          w.right,
          w.within,
          le-ltb room (bytes_for start (length (header_bits types ps flag qs))) a.roomy,
        )

    -- the answer and the bytes of a call that refuses
    pub refused : (header : List ℕ) (n : ℕ) → n ≡ write_refusal start types ps flag qs (length header) → (n ≡ 0 → ⊥)
        → (not_written n ≡ written start types ps flag qs (length header)) × (header ≡ header_after start types ps flag qs header)
    unfolding written header_after
    refused header n e some =
        let some' : write_refusal start types ps flag qs (length header) ≡ 0 → ⊥ = λ z. some (e ∙ z) in (
          ap not_written e ∙ sym (answered-refused not_written (write_refusal start types ps flag qs (length header)) _ some'),
          sym (left-refused (write_refusal start types ps flag qs (length header)) _ header some'),
        )

    -- and of one that writes
    pub answer-written : (room : ℕ) → write_refusal start types ps flag qs room ≡ 0 → written start types ps flag qs room ≡ record { refusal = 0; bits = length (header_bits types ps flag qs) }
    unfolding written
    answer-written room e = answered-accepted not_written (write_refusal start types ps flag qs room) _ e

    pub bytes-written : (header : List ℕ) → write_refusal start types ps flag qs (length header) ≡ 0 → header_after start types ps flag qs header ≡ bits_placed start (header_bits types ps flag qs) header
    unfolding header_after
    bytes-written header e = left-accepted (write_refusal start types ps flag qs (length header)) _ header e

    pub wrote : (header after : List ℕ) (n : ℕ) → write_refusal start types ps flag qs (length header) ≡ 0
        → n ≡ length (header_bits types ps flag qs) → after ≡ bits_placed start (header_bits types ps flag qs) header
        → (record { refusal = 0; bits = n } ≡ written start types ps flag qs (length header)) × (after ≡ header_after start types ps flag qs header)
    wrote header after n e count bytes =
        (ap (λ (k : ℕ). record { refusal = 0; bits = k }) count ∙ sym (answer-written (length header) e), bytes ∙ sym (bytes-written header e))
