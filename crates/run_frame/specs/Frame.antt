-- A frame written in a run, and read: the plain call with the run's flag and prior, and the run after it. docs/RULES.md, 'A run of frames'.
-- Assumes nothing.
use Rattle.std.specs.Prelude.{ℕ, Bool, true, false, List, [], ◌∷◌, ℤ, length}
use Rattle.laws.specs.Call.{answered, left}
use Rattle.laws.specs.Refusal.{Row, row, judge, or_else}
use Rattle.models.specs.Models.{priors_out}
use Rattle.header.specs.Writing.{not_written}
use Rattle.header_read.specs.Called.{no_models}
use Rattle.header_read.specs.declared.Models.{Models}
use Rattle.frame_header.specs.Frame.{frame_refusal, frame_bits, frame_placed, frame_models}
use Rattle.key_frame.specs.Key.{identities, key_lengths_wrong}
use Rattle.run.specs.declared.Run.{Run}
use Rattle.run_frame.specs.declared.Framed.{Framed}
use Rattle.run_frame.specs.declared.FrameModels.{FrameModels}
use Rattle.run.specs.Run.{run_of, codes_wrong, run_refusal}

-- ---- written

-- row 2 for the types and their numbers, row 4 for the run's flag and form
abbrev pub first_rows : Run → ℕ → ℕ → List Row
first_rows run types ps = row 2 (key_lengths_wrong types ps) ∷ row 4 (codes_wrong run.flag run.form) ∷ []

-- those, then the rows of the plain call, then row 8 for the run's prior, which a key frame's plain call doesn't judge
unfoldable pub framed_refusal : Run → Bool → List ℕ → List ℤ → ℕ → ℕ → ℕ
framed_refusal run intra types ps start room =
    or_else (judge (first_rows run (length types) (length ps)))
    (or_else (frame_refusal intra start types ps run.flag run.prior room) (judge (row 8 (priors_out run.prior) ∷ [])))

-- an inter frame's models are the next prior; a key frame resets it to identity
abbrev pub prior_after : Bool → List ℤ → List ℤ
prior_after true ps = identities 7
prior_after false ps = ps

abbrev pub run_after : Run → Bool → List ℤ → Run
run_after run intra ps = run_of (prior_after intra ps) run.flag run.form

-- a refused frame moves nothing in the run
abbrev pub not_framed : Run → ℕ → Framed
not_framed run n = record { written = not_written n; run = run }

unfoldable pub framed : Run → Bool → List ℕ → List ℤ → ℕ → ℕ → Framed
framed run intra types ps start room =
    answered (not_framed run) (framed_refusal run intra types ps start room)
    (record { written = record { refusal = 0; bits = length (frame_bits intra types ps run.flag run.prior) }; run = run_after run intra ps })

-- the lent bytes at exit
unfoldable pub framed_left : Run → Bool → List ℕ → List ℤ → ℕ → List ℕ → List ℕ
framed_left run intra types ps start header =
    left (framed_refusal run intra types ps start (length header)) (frame_placed intra start (frame_bits intra types ps run.flag run.prior) header) header

-- ---- read

-- the models read are the next prior; a refused read moves nothing
abbrev pub read_on : Run → Models → FrameModels
read_on run models = record { models = models; run = left models.refusal (run_of models.params run.flag run.form) run }

abbrev pub not_read : Run → ℕ → FrameModels
not_read run n = record { models = no_models n; run = run }

-- the rows of the run, then those of the plain call
unfoldable pub read_in : Run → Bool → List ℕ → ℕ → FrameModels
read_in run intra header at = answered (not_read run) (run_refusal run) (read_on run (frame_models intra header at run.flag run.prior))
