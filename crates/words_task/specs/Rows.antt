-- The rows of the table of refusals that a job from its words on meets before its model, in the table's order: 1, 2, 4, 19, 5, 14, 7, 8, 12, 13, 3, 15, 17.
-- They are the job's rows where those apply; row 12 is that of storing words. docs/RULES.md, 'Job of words', 'When a call says no'.
-- Assumes nothing.
use Rattle.std.specs.Prelude.{ℕ, ◌*◌, Bool, not, List, [], ◌∷◌, ltb, eqb, ℤ, length}
use Rattle.laws.specs.Refusal.{Row, row, judge, or_else, either, both}
use Rattle.sample.specs.Word.{most_samples}
use Rattle.sample.specs.Storable.{storable}
use Rattle.class.specs.Class.{all_bare}
use Rattle.class_set.specs.Set.{named_count}
use Rattle.models.specs.Models.{models_wrong, priors_out}
use Rattle.layout.specs.Form.{block_bytes, blocks_of}
use Rattle.forms.specs.Forms.{codec_of}
use Rattle.frame_number.specs.Shutter.{closed_refusal}
use Rattle.job_task.specs.declared.Settings.{Settings}
use Rattle.job_task.specs.Task.{Sheet}
use Rattle.job_task.specs.Rows.{other_types, other_numbers, prior_numbers, header_bytes, not_held, too_few_to_trim, code_rows}

-- ---- the conditions

-- row 2: not as many classes as words; the six types, their 36 numbers or the prior's 42 of wrong length
abbrev pub wrong_lengths : ℕ → ℕ → ℕ → ℕ → ℕ → Bool
wrong_lengths words classes types models prior =
    either (not (eqb classes words)) (either (not (eqb types other_types)) (either (not (eqb models other_numbers)) (not (eqb prior prior_numbers))))

-- row 12: a motion out of range, words that don't rise, or class bits that aren't zero
abbrev pub not_storable : List ℕ → Bool
not_storable ws = not (both (storable ws) (all_bare ws))

-- row 3: 512 bytes for each block of the form; 125 bytes for the header
abbrev pub too_little : ℕ → ℕ → ℕ → ℕ → Bool
too_little form words blocks header = either (ltb blocks (block_bytes * blocks_of (codec_of form).form words)) (ltb header header_bytes)

-- ---- the rows, in groups; those of codes, reference and start are the job's

abbrev pub list_rows : ℕ → ℕ → ℕ → ℕ → ℕ → List Row
list_rows words classes types models prior =
    row 1 (ltb most_samples words)
    ∷ row 2 (wrong_lengths words classes types models prior)
    ∷ []

abbrev pub handed_rows : ℕ → List ℕ → List ℤ → List ℤ → List Row
handed_rows flag types models prior =
    row 7 (models_wrong types flag models)
    ∷ row 8 (priors_out prior)
    ∷ []

abbrev pub word_rows : ℕ → List ℕ → List ℕ → List Row
word_rows form ws classes =
    row 12 (not_storable ws)
    ∷ row 13 (not_held form classes)
    ∷ []

abbrev pub room_rows : Settings → ℕ → ℕ → List ℕ → ℕ → ℕ → List Row
room_rows s form words classes blocks header =
    row 3 (too_little form words blocks header)
    ∷ row 15 (too_few_to_trim s (named_count s.set classes))
    ∷ []

-- the first of these rows that holds, 0 for none
unfoldable pub refusal_of_words : List ℕ → Settings → ℕ → List ℕ → List ℕ → List ℤ → List ℤ → ℕ → ℕ → ℕ
refusal_of_words ws s form classes types models prior blocks header =
    or_else (judge (list_rows (length ws) (length classes) (length types) (length models) (length prior)))
    (or_else (judge (code_rows s form classes types))
    (or_else (judge (handed_rows s.flag types models prior))
    (or_else (judge (word_rows form ws classes))
    (or_else (judge (room_rows s form (length ws) classes blocks header))
    (closed_refusal s.frame)))))

-- of a job from its words on, over the lengths of blocks and header
abbrev pub early : Sheet → ℕ → ℕ → ℕ
early j blocks header = refusal_of_words j.words j.settings j.form j.classes j.types j.models j.prior blocks header
