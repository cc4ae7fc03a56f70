-- What a job is handed and what it is lent: docs/RULES.md, 'Job'.
-- Assumes nothing.
use Rattle.std.specs.Prelude.{ℕ, List, ℤ, length}
use Rattle.search.specs.Search.{sample_words}
use Rattle.search.specs.Refusal as search
use Rattle.job_task.specs.declared.Settings.{Settings}
use Rattle.job_task.specs.declared.Handed.{Handed}
use Rattle.job_task.specs.declared.Pair.{Pair}
use Rattle.job_task.specs.declared.Sizes.{Sizes}

-- a frame pair, the settings, the form of the blocks, a class for each sample, the six other types and models, and the prior
pub record Task : Type 0 where
  pub input : List ℕ
  pub reference : List ℕ
  pub width : ℕ
  pub height : ℕ
  pub settings : Settings
  pub form : ℕ
  pub classes : List ℕ
  pub types : List ℕ
  pub models : List ℤ
  pub prior : List ℤ

-- the five lent buffers
pub record Lent : Type 0 where
  pub input_half : List ℕ
  pub ref_half : List ℕ
  pub words : List ℕ
  pub blocks : List ℕ
  pub header : List ℕ

abbrev pub task_in : ℕ → List ℕ → List ℕ → ℕ → ℕ → Settings → List ℕ → List ℕ → List ℤ → List ℤ → Task
task_in form i r w h s c t m p =
    record { input = i; reference = r; width = w; height = h; settings = s; form = form; classes = c; types = t; models = m; prior = p }

-- outside a run the blocks are of form 2
abbrev pub task : List ℕ → List ℕ → ℕ → ℕ → Settings → List ℕ → List ℕ → List ℤ → List ℤ → Task
task = task_in 2

abbrev pub lend : List ℕ → List ℕ → List ℕ → List ℕ → List ℕ → Lent
lend i r w b h = record { input_half = i; ref_half = r; words = w; blocks = b; header = h }

-- a job from its words on: the words, the settings, the form of the blocks, a class for each word, the six other types and models, and the prior
pub record Sheet : Type 0 where
  pub words : List ℕ
  pub settings : Settings
  pub form : ℕ
  pub classes : List ℕ
  pub types : List ℕ
  pub models : List ℤ
  pub prior : List ℤ

abbrev pub sheet_in : ℕ → List ℕ → Settings → List ℕ → List ℕ → List ℤ → List ℤ → Sheet
sheet_in form ws s c t m p = record { words = ws; settings = s; form = form; classes = c; types = t; models = m; prior = p }

-- outside a run
abbrev pub sheet : List ℕ → Settings → List ℕ → List ℕ → List ℤ → List ℤ → Sheet
sheet = sheet_in 2

-- a job's own: the words are the search's
abbrev pub sheet_of : Task → Sheet
sheet_of j = sheet_in j.form (sample_words j.input j.reference j.width j.height) j.settings j.classes j.types j.models j.prior

-- of a frame pair or of words, with what is handed beside
abbrev pub task_of : Pair → Handed → Task
task_of p h = task_in h.form p.input.now p.reference.now p.width p.height h.settings h.classes.now h.types.now h.models.now h.prior.now

abbrev pub sheet_from : List ℕ → Handed → Sheet
sheet_from ws h = sheet_in h.form ws h.settings h.classes.now h.types.now h.models.now h.prior.now

-- the job's search: its planes and classes, and the buffers that are lent on to it
abbrev pub search_task : Task → search.Task
search_task j = search.task j.input j.reference j.width j.height j.classes

abbrev pub search_lent : Lent → search.Lent
search_lent l = search.lent l.input_half l.ref_half l.words

-- the sides, and how long planes and lent buffers are
abbrev pub sizes_of : Task → Lent → Sizes
sizes_of j l =
    record {
      width = j.width;
      height = j.height;
      input = length j.input;
      reference = length j.reference;
      input_half = length l.input_half;
      ref_half = length l.ref_half;
      words = length l.words;
      blocks = length l.blocks;
      header = length l.header;
    }
