-- How a job from its words on ends, refused or accepted, and its whole contract. docs/RULES.md, 'Job of words', 'When a call says no'.
-- Assumes nothing.
use Rattle.std.specs.Prelude.{ℕ, List, ◌≡◌, eqb, length}
use Rattle.laws.specs.Refusal.{choose}
use Rattle.job_task.specs.Task.{Sheet}
use Rattle.words_task.specs.Rows.{early}
use Rattle.job_outcome.specs.Words.{Finished, finish, refused, from_words}
use Rattle.job_outcome.specs.Demand3.{ReadBack}

-- refused by its rows nothing is written; otherwise it ends as from its words on
unfoldable pub outcome : Sheet → List ℕ → List ℕ → Finished
outcome j blocks header =
    let n : ℕ = early j (length blocks) (length header) in
    choose (eqb n 0) (from_words j blocks header) (finish (refused n) blocks header)

-- an accepted one reads back as the words, classes and models that it was of
pub record Done (j : Sheet) (blocks header : List ℕ) (o : Finished) : Type 0 where
  pub leaves : o ≡ outcome j blocks header
  pub holds : o.report.refusal ≡ 0 → ReadBack j o
