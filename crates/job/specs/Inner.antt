-- What the functions below the public calls ask and answer; no public contract cites it.
-- Assumes nothing.
use Rattle.std.specs.Prelude.{ℕ, ◌≤◌, List, ◌≡◌, eqb, ℤ, length}
use Rattle.laws.specs.Refusal.{choose}
use Rattle.class_set.specs.Set.{chosen}
use Rattle.frame_store.specs.InForm.{stored_in_left}
use Rattle.header.specs.Writing.{written, header_after}
use Rattle.job_task.specs.declared.Settings.{Settings}
use Rattle.job_model.specs.Modelled.{Modelled, modelled}
use Rattle.job_model.specs.Inner.{Modelling}
use Rattle.job_outcome.specs.declared.Report.{Report}
use Rattle.job_outcome.specs.Words.{Finished, finish, refused}

-- what the model of the named words rests on
pub record Naming (s : Settings) (types : List ℕ) (models : List ℤ) (ws cs : List ℕ) : Type 0 where
  pub classed : length ws ≡ length cs
  pub few : length ws ≤ 4096
  pub modelling : Modelling s types models (chosen s.set ws cs)

-- the report of a model, of the bits written and of the samples
abbrev pub report_of : Modelled → ℕ → ℕ → Report
report_of m bits samples =
    record { refusal = 0; types = m.types; models = m.models; score = m.score; bits = bits; samples = samples }

-- a model written out: the words and their classes into blocks of the form, the seven models into the header
abbrev pub written_out : Modelled → Settings → ℕ → List ℤ → List ℕ → List ℕ → List ℕ → List ℕ → Finished
written_out m s form prior ws cs blocks header =
    finish
    (report_of m (written s.start m.types m.models s.flag prior (length header)).bits (length ws))
    (stored_in_left form s.frame ws cs blocks)
    (header_after s.start m.types m.models s.flag prior header)

-- the model written out; a refused one leaves blocks and header as they were
abbrev pub finished_as : Modelled → Settings → ℕ → List ℤ → List ℕ → List ℕ → List ℕ → List ℕ → Finished
finished_as m s form prior ws cs blocks header = choose (eqb m.refusal 0) (written_out m s form prior ws cs blocks header) (finish (refused m.refusal) blocks header)

-- the model is of the named words, the blocks of all
unfoldable pub finished : Settings → ℕ → List ℕ → List ℤ → List ℤ → List ℕ → List ℕ → List ℕ → List ℕ → Finished
finished s form types models prior ws cs blocks header = finished_as (modelled s types models (chosen s.set ws cs)) s form prior ws cs blocks header
