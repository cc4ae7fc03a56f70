-- How a job ends: what it reports, and what it leaves in the five lent buffers, refused or accepted. docs/RULES.md, 'Job', 'When a call says no'.
-- Assumes nothing.
use Rattle.std.specs.Prelude.{ℕ, List, eqb, ℤ, length}
use Rattle.laws.specs.Refusal.{or_else, choose}
use Rattle.search.specs.Search.{sample_count}
use Rattle.search.specs.Refusal as search
use Rattle.fit.specs.declared.Fitted.{Fitted}
use Rattle.class.specs.Class.{Classed}
use Rattle.job_task.specs.Task.{Task, Lent, lend, sheet_of, search_task, search_lent}
use Rattle.job_task.specs.Rows.{early}
use Rattle.job_model.specs.Modelled as model
use Rattle.job_outcome.specs.declared.Report.{Report}
use Rattle.job_outcome.specs.Words as sheet

pub record Ended : Type 0 where
  pub report : Report
  pub left : Lent

abbrev pub ended : Report → Lent → Ended
ended r l = record { report = r; left = l }

-- what it shares with a job from its words on
abbrev pub finished_in : Ended → sheet.Finished
finished_in o = sheet.finish o.report o.left.blocks o.left.header

-- ---- what the job finds: what a job from the search's words on does

abbrev pub samples : Task → ℕ
samples j = sample_count j.width j.height

-- the search's words
abbrev pub words : Task → List ℕ
words j = (sheet_of j).words

-- those of the named classes, in their order: what the model and its score are of
abbrev pub named : Task → List ℕ
named j = sheet.named (sheet_of j)

-- the type of its model
abbrev pub own_type : Task → ℕ
own_type j = sheet.own_type (sheet_of j)

-- the words of its fit, and the fit
abbrev pub fit_words : Task → List ℕ
fit_words j = sheet.fit_words (sheet_of j)

abbrev pub fit_in : Task → Fitted
fit_in j = sheet.fit_in (sheet_of j)

-- the samples, each word with its class, and the header's bits
abbrev pub classed_words : Task → List Classed
classed_words j = sheet.classed_words (sheet_of j)

abbrev pub types : Task → List ℕ
types j = sheet.types (sheet_of j)

abbrev pub models : Task → List ℤ
models j = sheet.models (sheet_of j)

abbrev pub bits : Task → List ℕ
bits j = sheet.bits (sheet_of j)

-- ---- when it says no: before the search, by `early`; after it, where its model is refused

abbrev pub late : Task → ℕ
late j = sheet.late (sheet_of j)

abbrev pub refusal : Task → Lent → ℕ
refusal j l = or_else (early j l) (late j)

-- ---- what it reports

abbrev pub refused : ℕ → Report
refused = sheet.refused

abbrev pub accepted : Task → Report
accepted j =
    record {
      refusal = 0;
      types = types j;
      models = models j;
      score = model.score_of j.settings (named j);
      bits = length (bits j);
      samples = samples j;
    }

-- ---- what it leaves

abbrev pub searched : Task → Lent → search.Lent
searched j l = search.leaves (search_task j) (search_lent l)

-- half planes and words as the search leaves them, and these blocks and header
abbrev pub left_with : Task → Lent → List ℕ → List ℕ → Lent
left_with j l blocks header = lend (searched j l).input_half (searched j l).ref_half (searched j l).words blocks header

-- refused after the search: blocks and header as they were
abbrev pub left_by_search : Task → Lent → Lent
left_by_search j l = left_with j l l.blocks l.header

-- the samples' blocks, of the job's form
abbrev pub blocks_by : Task → Lent → List ℕ
blocks_by j l = sheet.blocks_by (sheet_of j) l.blocks

-- accepted: the blocks, and the header's bits from the job's start on
abbrev pub left_by_job : Task → Lent → Lent
left_by_job j l = left_with j l (blocks_by j l) (sheet.header_by (sheet_of j) l.header)

-- ---- the whole outcome, by stages

-- after the search: accepted, or the model is refused
abbrev pub after_search : Task → Lent → Ended
after_search j l = choose (eqb (late j) 0) (ended (accepted j) (left_by_job j l)) (ended (refused (late j)) (left_by_search j l))

-- refused before the search nothing is written
unfoldable pub outcome : Task → Lent → Ended
outcome j l = choose (eqb (early j l) 0) (after_search j l) (ended (refused (early j l)) l)
