-- In a run that isn't refused, a frame's answer and its bytes are those of the plain call with the run's flag and prior.
-- Assumes nothing.
use Prim.Native.Nat.{ℕ}
use mathlib.Core.Bool.{Bool, true, false, not}
use mathlib.Core.List.{List, [], ◌∷◌}
use mathlib.Core.Logic.{⊎_elim}
use mathlib.Core.Path.{◌≡◌, refl, sym, ap, ◌∙◌}
use lib.Dec.{eqb}
use lib.IntN.{ℤ}
use lib.ListN.{length}
use Rattle.laws.specs.Call.{answered, left}
use Rattle.laws.specs.Refusal.{row, choose, either}
use Rattle.laws.proofs.Cases.{outcome}
use Rattle.laws.proofs.Refusal.{quiet, or-else-nothing}
use Rattle.models.specs.Models.{priors_out}
use Rattle.header.specs.Writing.{lengths_wrong, write_refusal}
use Rattle.frame_header.specs.Frame.{frame_refusal, frame_bits, frame_placed, frame_written, frame_after}
use Rattle.key_frame.specs.Key.{key_lengths_wrong, key_refusal}
use Rattle.run.specs.declared.Run.{Run}
use Rattle.run_frame.specs.declared.Framed.{Framed}
use Rattle.run.specs.Run.{codes_wrong, run_refusal}
use Rattle.run_frame.specs.Frame.{framed_refusal, run_after, not_framed, framed, framed_left}

either-assoc : (a b c : Bool) → either (either a b) c ≡ either a (either b c)
either-assoc true b c = refl
either-assoc false b c = refl

-- the plain call's row 2 is the run's
wrong-lengths : (intra : Bool) (start : ℕ) (types : List ℕ) (ps : List ℤ) (flag : ℕ) (qs : List ℤ) (room : ℕ)
    → key_lengths_wrong (length types) (length ps) ≡ true → frame_refusal intra start types ps flag qs room ≡ 2
unfolding key_refusal write_refusal
wrong-lengths true start types ps flag qs room e = rw e
wrong-lengths false start types ps flag qs room e =
    let wrong : lengths_wrong (length types) (length ps) (length qs) ≡ true =
    sym (either-assoc (not (eqb (length types) 7)) (not (eqb (length ps) 42)) (not (eqb (length qs) 42)))
    ∙ ap (λ (b : Bool). either b (not (eqb (length qs) 42))) e in
    rw wrong

written_of : (b : Bool) (x y : Framed) → (choose b x y).written ≡ choose b x.written y.written
written_of true x y = refl
written_of false x y = refl

module _ (run : Run) (right : run_refusal run ≡ 0) (intra : Bool) (types : List ℕ) (ps : List ℤ) (start : ℕ) where
  pub refusal-plain : (room : ℕ) → framed_refusal run intra types ps start room ≡ frame_refusal intra start types ps run.flag run.prior room
  unfolding framed_refusal
  refusal-plain room =
      let q = quiet (row 4 (codes_wrong run.flag run.form) ∷ row 8 (priors_out run.prior) ∷ []) tt right in
      ⊎_elim
      (λ (wrong : key_lengths_wrong (length types) (length ps) ≡ true). rw wrong (sym (wrong-lengths intra start types ps run.flag run.prior room wrong)))
      (λ (long : key_lengths_wrong (length types) (length ps) ≡ false).
      rw (long, q.0, q.1.0) (or-else-nothing (frame_refusal intra start types ps run.flag run.prior room)))
      (outcome (key_lengths_wrong (length types) (length ps)))

  pub written-plain : (room : ℕ) → (framed run intra types ps start room).written ≡ frame_written intra start types ps run.flag run.prior room
  unfolding framed frame_written
  written-plain room =
      let done : Framed = record { written = record { refusal = 0; bits = length (frame_bits intra types ps run.flag run.prior) }; run = run_after run intra ps } in
      let n : ℕ = frame_refusal intra start types ps run.flag run.prior room in
      ap (λ (m : ℕ). (answered (not_framed run) m done).written) (refusal-plain room) ∙ written_of (eqb n 0) done (not_framed run n)

  pub left-plain : (header : List ℕ) → framed_left run intra types ps start header ≡ frame_after intra start types ps run.flag run.prior header
  unfolding framed_left frame_after
  left-plain header =
      ap (λ (m : ℕ). left m (frame_placed intra start (frame_bits intra types ps run.flag run.prior) header) header) (refusal-plain (length header))
