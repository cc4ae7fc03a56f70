-- The call that reads a header accepts, from the job's start on, the one that an accepted job left, and gives the models and bits that the job reported.
-- Assumes nothing.
use Prim.Native.Nat.{◌+◌, ◌*◌, ◌≤◌}
use mathlib.Core.Path.{◌≡◌}
use native.Mathlib.Omega.{arith}
use borrow.Author.Tests.{le-ltb}
use lib.ListN.{length}
use Rattle.header_read.specs.Called as call
use Rattle.job_task.specs.Task.{Task, Lent, Sheet, sheet_of}
use Rattle.job_task.proofs.Ready.{Sound}
use Rattle.job_task.proofs.Accepted.{ready}
use Rattle.job_outcome.specs.Words.{Finished}
use Rattle.job_outcome.specs.Outcome.{finished_in, outcome}
use Rattle.job_outcome.specs.Demand3.{header_read, ReadBack}
use Rattle.job_outcome.proofs.Stages.{accepted-stages}
use Rattle.job_outcome.proofs.Demand3.{holds}

-- what is asked of a reading: lengths, flag and prior by the job's rows, the bytes by demand 3
module _ (j : Sheet) (s : Sound j) (o : Finished) (d : ReadBack j o) where
  read-accepted : call.read_refusal o.header j.settings.start j.settings.flag j.prior ≡ 0
  unfolding call.read_refusal
  read-accepted =
      let all = 8 * length o.header in
      let taken = j.settings.start + (header_read j o).bits in
      let enough : taken ≤ all = omega (arith, d.header.ends) in
      rw (s.places, le-ltb 1 j.settings.flag s.range.flagged, s.within, le-ltb all taken enough)

  pub as-reported : call.models o.header j.settings.start j.settings.flag j.prior
      ≡ record { refusal = 0; types = o.report.types; params = o.report.models; bits = o.report.bits }
  unfolding call.models
  as-reported = rw (read-accepted, ← d.header.types, ← d.header.models, d.count.consumed)

pub header-read-back : (j : Task) (l : Lent) → (outcome j l).report.refusal ≡ 0
    → call.models (outcome j l).left.header j.settings.start j.settings.flag j.prior
    ≡ record { refusal = 0; types = (outcome j l).report.types; params = (outcome j l).report.models; bits = (outcome j l).report.bits }
header-read-back j l e = as-reported (sheet_of j) (ready j l (accepted-stages j l e).0).writes.sound (finished_in (outcome j l)) (holds j l e).back
