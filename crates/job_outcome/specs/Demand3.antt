-- Demand 3: what an accepted job left, read back; of one from its words on, whatever words they are. Over the definitions of the search, of reading a frame and of reading by the standard; of a writer only the lengths of codes that the count adds up.
-- docs/RULES.md, 'Job', 'Fits and score', 'Reading by the standard'.
-- Assumes nothing.
use Rattle.std.specs.Prelude.{ℕ, ◌+◌, ◌*◌, ◌-◌, ◌/◌, ◌%◌, ◌≤◌, ◌<◌, false, ◌⊎◌, List, ◌≡◌, ltb, eqb, ℤ, pos, length, get_or, take, drop}
use Rattle.laws.specs.Buffer.{onto}
use Rattle.laws.specs.Refusal.{choose}
use Rattle.sample.specs.Word.{row_of, col_of, v_of, u_of, class_of}
use Rattle.sample.specs.Sample.{eighths_of}
use Rattle.stage.specs.Stage.{Found}
use Rattle.search.specs.Search.{motion, block_columns, sample_count}
use Rattle.layout.specs.declared.Form.{Form}
use Rattle.layout.specs.Form.{block_bytes, blocks_of, count_at}
use Rattle.class.specs.Class as class
use Rattle.class_set.specs.Set.{chosen}
use Rattle.forms.specs.Forms.{codec_of, form_in, read_alone}
use Rattle.frame_number.specs.Shutter.{closed}
use Rattle.block.specs.Frame.{samples_in}
use Rattle.frame_read.specs.Read.{codec_in, read_both, bare_words_left, classes_left}
use Rattle.grid.specs.Grid.{abs_bits}
use Rattle.header.specs.Count.{slot_count, header_count}
use Rattle.header.specs.Reading.{ReadModels, models_read}
use Rattle.header.specs.Writing.{type_bits}
use Rattle.score.specs.Score.{mean_sq_residual, slot}
use Rattle.quantize.specs.Quantize.{params, row_first}
use Rattle.quantize.specs.OnGrid.{grid_number_at, NearestAt}
use Rattle.elect.specs.Elect.{identity_params}
use Rattle.job_task.specs.Task.{Task, Sheet, sheet_of}
use Rattle.job_model.specs.Modelled as model
use Rattle.job_outcome.specs.Words.{Finished, samples, own_type, fit_in, fit_words}
use Rattle.job_outcome.specs.Outcome.{Ended, finished_in}

-- ---- the blocks

-- the form of the job's blocks, by which they are cut
abbrev pub block_form : Sheet → Form
block_form j = (codec_of j.form).form

-- the bytes of the job's own blocks, and nothing after them
abbrev pub own_blocks : Sheet → Finished → List ℕ
own_blocks j o = take (block_bytes * blocks_of (block_form j) (samples j)) o.blocks

-- the samples that the reader of both forms finds in them: words, and their classes in a second buffer
abbrev pub samples_read : Sheet → Finished → List class.Classed
samples_read j o = samples_in (codec_in (own_blocks j o)) (own_blocks j o)

abbrev pub words_read : Sheet → Finished → List ℕ
words_read j o = class.words_in (samples_read j o)

abbrev pub classes_read : Sheet → Finished → List ℕ
classes_read j o = class.classes_in (samples_read j o)

-- of the words read those whose class read is named
abbrev pub named_read : Sheet → Finished → List ℕ
named_read j o = chosen j.settings.set (words_read j o) (classes_read j o)

pub record BlocksRead (j : Sheet) (o : Finished) : Type 0 where
  -- the frame number is in use
  pub used : closed j.settings.frame ≡ false
  -- the first block says that they are of the job's form, outside a run form 2; with no samples there is no block
  pub held : 1 ≤ samples j → form_in (own_blocks j o) ≡ j.form
  -- reading them as a frame is accepted by any two buffers with room, and gives the number of samples and the frame number; with no samples there is no block to carry it
  pub frame : (room class_room : ℕ) → samples j ≤ room → samples j ≤ class_room
      → read_both (own_blocks j o) room class_room ≡ record { refusal = 0; frame = choose (eqb (samples j) 0) 0 j.settings.frame; samples = samples j }
  -- each block alone is accepted, with the frame number, its place and how many samples it holds
  pub every_block : (k : ℕ) → k < blocks_of (block_form j) (samples j)
      → read_alone (drop (block_bytes * k) (own_blocks j o)) ≡ record { refusal = 0; frame = j.settings.frame; ordinal = k; count = count_at (block_form j) (samples j) k }
  -- the words and the classes are those that the job was of
  pub same : words_read j o ≡ j.words
  pub same_classes : classes_read j o ≡ j.classes
  pub left : (old classes : List ℕ) → samples j ≤ length old → samples j ≤ length classes
      → bare_words_left (own_blocks j o) old (length classes) ≡ onto (words_read j o) old
  pub left_classes : (old classes : List ℕ) → samples j ≤ length old → samples j ≤ length classes
      → classes_left (own_blocks j o) (length old) classes ≡ onto (classes_read j o) classes
  pub reported : o.report.samples ≡ samples j

-- ---- the header

-- what the standard reads from the job's start, with its flag and prior
abbrev pub header_read : Sheet → Finished → ReadModels
header_read j o = models_read o.header j.settings.start j.settings.flag j.prior

-- the place of the job's reference among the seven, from 0, and that of the k-th of the others, in rising order
abbrev pub own_place : Sheet → ℕ
own_place j = j.settings.reference - 1

abbrev pub other_place : Sheet → ℕ → ℕ
other_place j k = choose (ltb k (own_place j)) k (k + 1)

-- the model read at the job's reference, slots 0 and 1 exchanged back for a TRANSLATION
abbrev pub own_read : Sheet → Finished → List ℤ
own_read j o = row_first (own_type j) (take 6 (drop (6 * own_place j) (header_read j o).params))

pub record HeaderRead (j : Sheet) (o : Finished) : Type 0 where
  -- exactly the types and models of the report, and no byte is missing
  pub types : (header_read j o).types ≡ o.report.types
  pub models : (header_read j o).params ≡ o.report.models
  pub ends : j.settings.start + (header_read j o).bits ≤ 8 * length o.header
  -- the six others are those handed in
  pub other-types : (k : ℕ) → k < 6 → get_or (header_read j o).types (other_place j k) 0 ≡ get_or j.types k 0
  pub other_models : (k i : ℕ) → k < 6 → i < 6 → get_or (header_read j o).params (6 * other_place j k + i) (pos 0) ≡ get_or j.models (6 * k + i) (pos 0)
  -- at the job's reference stand its own type, asked for or elected, and the fitted model, or the identity where that is type 0
  pub own-type : get_or (header_read j o).types (own_place j) 0 ≡ own_type j
  pub own-model : 1 ≤ own_type j → own_read j o ≡ params (fit_in j) j.settings.flag (fit_words j)
  pub own_identity : own_type j ≡ 0 → own_read j o ≡ identity_params

-- ---- the grid: each grid number of the fit, none of IDENTITY, two of a TRANSLATION and six of the other types, against its own slot's codable numbers

-- grid number i of the fit, over the words of the fit among the named ones read
abbrev pub number_read : Sheet → Finished → ℕ → ℤ
number_read j o i = grid_number_at (fit_in j) j.settings.flag (model.fit_words j.settings (named_read j o)) i

abbrev pub NearestRead : Sheet → Finished → Type 0
NearestRead j o =
    (i : ℕ) → i < 6 → ((1 ≤ own_type j) × (i < 2)) ⊎ (2 ≤ own_type j) → NearestAt (own_type j) j.settings.flag i (number_read j o i) (slot (own_read j o) i)

-- ---- the count

-- the type read for the reference r + 1
abbrev pub type_at : Sheet → Finished → ℕ → ℕ
type_at j o r = get_or (header_read j o).types r 0

pub record CountRead (j : Sheet) (o : Finished) : Type 0 where
  -- the bits reported are those that the reading takes
  pub consumed : o.report.bits ≡ (header_read j o).bits
  -- they are the sum of each reference's type bits and of each carried coefficient's bits, each within its bound
  pub sum : o.report.bits ≡ header_count (header_read j o).types (header_read j o).params j.settings.flag j.prior
  pub type-bits : (r : ℕ) → length (type_bits (type_at j o r)) ≤ 3
  pub coefficient-bits : (r i : ℕ)
      → slot_count j.settings.flag (header_read j o).params j.prior (type_at j o r) (6 * r) i ≤ 2 * abs_bits (type_at j o r) j.settings.flag i - 1

-- ---- what any words promise

pub record ReadBack (j : Sheet) (o : Finished) : Type 0 where
  pub blocks : BlocksRead j o
  pub header : HeaderRead j o
  -- the score is that of the model read, over the words of the score among the named ones read
  pub score : o.report.score ≡ (mean_sq_residual (own_read j o) (model.score_words j.settings (named_read j o))).score
  pub nearest : NearestRead j o
  pub count : CountRead j o

-- ---- demand 3, whole: of a job's own words also what the search finds

-- the motion that the search finds for sample i
abbrev pub motion_of : Task → ℕ → Found
motion_of j i = motion j.input j.reference j.width j.height (i / block_columns j.width) (i % block_columns j.width)

-- R, C, v and u in eighths of a word, its class bits zero, and the class beside it are those of sample i
pub record SampleIs (j : Task) (i word class : ℕ) : Type 0 where
  pub row : row_of word ≡ i / block_columns j.width
  pub column : col_of word ≡ i % block_columns j.width
  pub down : eighths_of (v_of word) ≡ (motion_of j i).dy
  pub across : eighths_of (u_of word) ≡ (motion_of j i).dx
  pub bits : class_of word ≡ 0
  pub sorted : class ≡ get_or j.classes i 0

pub record Demand3 (j : Task) (o : Ended) : Type 0 where
  pub back : ReadBack (sheet_of j) (finished_in o)
  -- each sample read is the search's
  pub each : (i : ℕ) → i < sample_count j.width j.height
      → SampleIs j i (get_or (words_read (sheet_of j) (finished_in o)) i 0) (get_or (classes_read (sheet_of j) (finished_in o)) i 0)
