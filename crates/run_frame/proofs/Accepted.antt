-- What an accepted frame of a run says: the run is right, the plain call accepts the frame, and its models are the next prior, a key frame's too.
-- Assumes nothing.
use Prim.Native.Nat.{ℕ}
use mathlib.Core.Bool.{Bool, true, false, not}
use mathlib.Core.List.{List, [], ◌∷◌}
use mathlib.Core.Path.{◌≡◌, refl}
use lib.Dec.{eqb}
use lib.IntN.{ℤ}
use lib.ListN.{length}
use Rattle.laws.specs.Refusal.{row, judge}
use Rattle.laws.proofs.Call.{answered-accepted, answered-refused}
use Rattle.laws.proofs.Refusal.{neither, length-is, quiet, or-else-quiet}
use Rattle.models.specs.Models.{priors_out}
use Rattle.frame_header.specs.Frame.{frame_refusal, frame_bits}
use Rattle.frame_header.proofs.Accepted.{carried}
use Rattle.run.specs.declared.Run.{Run}
use Rattle.run.specs.Run.{codes_wrong, run_refusal}
use Rattle.run_frame.specs.Frame.{first_rows, framed_refusal, prior_after, run_after, not_framed, framed}

-- the numbers of an accepted key frame are identities
pub prior-after : (intra : Bool) (start : ℕ) (types : List ℕ) (ps : List ℤ) (flag : ℕ) (qs : List ℤ) (room : ℕ)
    → frame_refusal intra start types ps flag qs room ≡ 0 → prior_after intra ps ≡ ps
prior-after true start types ps flag qs room e = (carried types ps flag qs start room true e).other_models
prior-after false start types ps flag qs room e = refl

-- what the first rows let pass has 42 numbers
pub numbers-there : (run : Run) (types ps : ℕ) → judge (first_rows run types ps) ≡ 0 → ps ≡ 42
numbers-there run types ps e = length-is ps 42 (neither (not (eqb types 7)) (not (eqb ps 42)) (quiet (first_rows run types ps) tt e).0).1

module _ (run : Run) (intra : Bool) (types : List ℕ) (ps : List ℤ) (start room : ℕ) where
  pub record Accepted : Type 0 where
    pub codes : codes_wrong run.flag run.form ≡ false
    pub plain : frame_refusal intra start types ps run.flag run.prior room ≡ 0
    pub within : priors_out run.prior ≡ false

  pub accepted : framed_refusal run intra types ps start room ≡ 0 → Accepted
  unfolding framed_refusal
  accepted e =
      let rows = first_rows run (length types) (length ps) in
      let last = row 8 (priors_out run.prior) ∷ [] in
      let first = or-else-quiet (judge rows) _ e in
      let rest = or-else-quiet (frame_refusal intra start types ps run.flag run.prior room) (judge last) first.1 in
      record { codes = (quiet rows tt first.0).1.0; plain = rest.0; within = (quiet last tt rest.1).0 }

  pub run-right : Accepted → run_refusal run ≡ 0
  run-right a = rw (a.codes, a.within)

  pub answer-accepted : framed_refusal run intra types ps start room ≡ 0
      → framed run intra types ps start room
      ≡ record { written = record { refusal = 0; bits = length (frame_bits intra types ps run.flag run.prior) }; run = run_after run intra ps }
  unfolding framed
  answer-accepted e = answered-accepted (not_framed run) (framed_refusal run intra types ps start room) _ e

  pub answer-refused : (framed_refusal run intra types ps start room ≡ 0 → ⊥) → framed run intra types ps start room ≡ not_framed run (framed_refusal run intra types ps start room)
  unfolding framed
  answer-refused h = answered-refused (not_framed run) (framed_refusal run intra types ps start room) _ h
