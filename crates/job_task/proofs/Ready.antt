-- What holds of a job once none of the rows before its search does, and of one from its words on.
-- Assumes nothing.
use Prim.Native.Nat.{ℕ, ◌*◌, ◌^◌, ◌≤◌, ◌<◌}
use mathlib.Core.Bool.{true, false}
use mathlib.Core.List.{List}
use mathlib.Core.Path.{◌≡◌}
use lib.ListN.{length, get_or}
use Rattle.sample.specs.Storable.{storable}
use Rattle.class.specs.Class.{last_class, class_over, all_bare}
use Rattle.class_set.specs.Set.{named_count}
use Rattle.plane.specs.Inner.{Small}
use Rattle.search.specs.Refusal as search
use Rattle.models.specs.Models.{types_over, models_wrong, priors_out}
use Rattle.layout.specs.Form.{block_bytes, blocks_of}
use Rattle.forms.specs.Forms.{codec_of, no_form}
use Rattle.frame_number.specs.Shutter.{closed}
use Rattle.job_task.specs.Task.{Task, Lent, Sheet, sheet_of, search_task, search_lent}
use Rattle.job_task.specs.Inner.{InRange}
use Rattle.job_task.specs.Rows.{other_types, other_numbers, prior_numbers, header_bytes, not_held, too_few_to_trim}

-- what goes in, from the words on
pub record Sound (j : Sheet) : Type 0 where
  pub few : length j.words ≤ 4096
  pub in_order : storable j.words ≡ true
  pub bare : all_bare j.words ≡ true
  pub fit : (i : ℕ) → get_or j.words i 0 < 2 ^ 32
  pub class_count : length j.classes ≡ length j.words
  pub classed : class_over last_class j.classes ≡ false
  pub formed : no_form j.form ≡ false
  pub held : not_held j.form j.classes ≡ false
  pub six : length j.types ≡ other_types
  pub numbers : length j.models ≡ other_numbers
  pub places : length j.prior ≡ prior_numbers
  pub range : InRange j.settings
  pub known : types_over j.types ≡ false
  pub right : models_wrong j.types j.settings.flag j.models ≡ false
  pub within : priors_out j.prior ≡ false
  pub enough : too_few_to_trim j.settings (named_count j.settings.set j.classes) ≡ false
  pub used : closed j.settings.frame ≡ false

-- and the room for what is written
pub record Writes (j : Sheet) (blocks header : List ℕ) : Type 0 where
  pub sound : Sound j
  pub blocks_room : block_bytes * blocks_of (codec_of j.form).form (length j.words) ≤ length blocks
  pub header_room : header_bytes ≤ length header

-- a job: from its words on, and its search
pub record Ready (j : Task) (l : Lent) : Type 0 where
  pub small : Small j.width j.height
  pub searched : search.refusal (search_task j) (search_lent l) ≡ 0
  pub writes : Writes (sheet_of j) l.blocks l.header
