-- A job from its words on: what it finds, and how it ends, refused by its model or accepted; what it reports, and what it leaves in blocks and header. docs/RULES.md, 'Job', 'Bands'.
-- Assumes nothing.
use Rattle.std.specs.Prelude.{ℕ, List, eqb, ℤ, pos, length, replicate}
use Rattle.laws.specs.Buffer.{onto}
use Rattle.laws.specs.Binary64.{nought}
use Rattle.laws.specs.Refusal.{choose}
use Rattle.fit.specs.declared.Fitted.{Fitted}
use Rattle.class.specs.Class.{Classed, classed}
use Rattle.class_set.specs.Set.{chosen}
use Rattle.forms.specs.Forms.{codec_of}
use Rattle.block.specs.Frame.{frame_bytes}
use Rattle.header.specs.Writing.{header_bits, bits_placed}
use Rattle.job_task.specs.Task.{Sheet}
use Rattle.job_model.specs.Modelled as model
use Rattle.job_outcome.specs.declared.Report.{Report}

pub record Finished : Type 0 where
  pub report : Report
  pub blocks : List ℕ
  pub header : List ℕ

abbrev pub finish : Report → List ℕ → List ℕ → Finished
finish r b h = record { report = r; blocks = b; header = h }

-- ---- what the job finds

abbrev pub samples : Sheet → ℕ
samples j = length j.words

-- the samples: each word with its class
abbrev pub classed_words : Sheet → List Classed
classed_words j = classed j.words j.classes

-- the words of the named classes, in their order: what the model and its score are of
abbrev pub named : Sheet → List ℕ
named j = chosen j.settings.set j.words j.classes

-- the type of its model, the words of its fit and those of its score
abbrev pub own_type : Sheet → ℕ
own_type j = model.own_type j.settings (named j)

abbrev pub fit_words : Sheet → List ℕ
fit_words j = model.fit_words j.settings (named j)

abbrev pub score_words : Sheet → List ℕ
score_words j = model.score_words j.settings (named j)

-- the fit
abbrev pub fit_in : Sheet → Fitted
fit_in j = model.fit_in j.settings (named j)

-- the seven types and models as stored, and the bits of their header
abbrev pub types : Sheet → List ℕ
types j = model.all_types j.settings j.types (named j)

abbrev pub models : Sheet → List ℤ
models j = model.all_models j.settings j.models (named j)

abbrev pub bits : Sheet → List ℕ
bits j = header_bits (types j) (models j) j.settings.flag j.prior

-- ---- when its model is refused

abbrev pub late : Sheet → ℕ
late j = model.model_refusal j.settings (named j)

-- ---- what it reports

abbrev pub refused : ℕ → Report
refused n = record { refusal = n; types = replicate 7 0; models = replicate 42 (pos 0); score = nought; bits = 0; samples = 0 }

abbrev pub accepted : Sheet → Report
accepted j =
    record {
      refusal = 0;
      types = types j;
      models = models j;
      score = model.score_of j.settings (named j);
      bits = length (bits j);
      samples = samples j;
    }

-- ---- what it leaves

-- the samples' blocks, of the job's form
abbrev pub blocks_by : Sheet → List ℕ → List ℕ
blocks_by j blocks = onto (frame_bytes (codec_of j.form) j.settings.frame (classed_words j)) blocks

-- the header's bits from the job's start on
abbrev pub header_by : Sheet → List ℕ → List ℕ
header_by j header = bits_placed j.settings.start (bits j) header

-- accepted; or its model is refused, and blocks and header are as they were
abbrev pub from_words : Sheet → List ℕ → List ℕ → Finished
from_words j blocks header = choose (eqb (late j) 0) (finish (accepted j) (blocks_by j blocks) (header_by j header)) (finish (refused (late j)) blocks header)
