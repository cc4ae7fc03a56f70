-- How a job ends whose rows and model are given: the row that it meets before its search and the one after, 0 for none,
-- its seven types and models, and its own six numbers with the words over which they are scored. For `AskedEnds`,
-- `UntrimmedEnds` and `UnnamedEnds`.
-- Assumes nothing.
use Prim.Native.Nat.{ℕ}
use mathlib.Core.List.{List}
use lib.Dec.{eqb}
use lib.IntN.{ℤ}
use lib.ListN.{length}
use Rattle.laws.specs.Refusal.{choose}
use Rattle.score.specs.Score.{mean_sq_residual}
use Rattle.header.specs.Writing.{header_bits, bits_placed}
use Rattle.job_task.specs.Task.{Task, Lent}
use Rattle.job_outcome.specs.declared.Report.{Report}
use Rattle.job_outcome.specs.Outcome.{Ended, ended, samples, refused, left_with, left_by_search, blocks_by}

module _ (j : Task) (l : Lent) (types : List ℕ) (models own : List ℤ) (scored : List ℕ) where
  abbrev bits : List ℕ
  bits = header_bits types models j.settings.flag j.prior

  abbrev accepted : Report
  accepted =
      record {
        refusal = 0;
        types = types;
        models = models;
        score = (mean_sq_residual own scored).score;
        bits = length bits;
        samples = samples j;
      }

  abbrev left_by_job : Lent
  left_by_job = left_with j l (blocks_by j l) (bits_placed j.settings.start bits l.header)

  abbrev after_search : ℕ → Ended
  after_search late = choose (eqb late 0) (ended accepted left_by_job) (ended (refused late) (left_by_search j l))

  abbrev pub outcome_by : ℕ → ℕ → Ended
  outcome_by early late = choose (eqb early 0) (after_search late) (ended (refused early) l)
