-- The rows of the table of refusals that a job meets before its search, in the table's order: 1, 2, 4, 19, 5, 14, 7, 8,
-- 13, 3, 15, 17. A job that elects has no 15; one of form 2 has no 13, since a class over 4 is met in row 4. docs/RULES.md, 'When a call says no'.
-- docs/RULES.md, 'Job'.
-- Assumes nothing.
use Rattle.std.specs.Prelude.{ℕ, ◌*◌, Bool, false, not, List, [], ◌∷◌, ltb, eqb, ℤ, length}
use Rattle.laws.specs.Refusal.{Row, row, judge, or_else, choose, either, both}
use Rattle.search.specs.Search.{sample_count}
use Rattle.class.specs.Class.{last_class, class_over}
use Rattle.class_set.specs.Set.{names_over, names_none, named_count}
use Rattle.search.specs.Refusal.{too_large, wrong_length, too_short}
use Rattle.fit.specs.Fitted.{no_type}
use Rattle.trim.specs.Trim.{too_few}
use Rattle.models.specs.Models.{types_over, models_wrong, priors_out, start_over}
use Rattle.layout.specs.Form.{block_bytes, blocks_of}
use Rattle.forms.specs.Forms.{codec_of, no_form}
use Rattle.frame_number.specs.Shutter.{closed_refusal}
use Rattle.job_task.specs.declared.Settings.{Settings}
use Rattle.job_task.specs.declared.Sizes.{Sizes}
use Rattle.job_task.specs.Task.{Task, Lent, sizes_of}

-- six models beside the job's own, six numbers each, and a prior of seven
abbrev pub other_types : ℕ
other_types = 6

abbrev pub other_numbers : ℕ
other_numbers = 36

abbrev pub prior_numbers : ℕ
prior_numbers = 42

-- what a job's header buffer needs, at every start
abbrev pub header_bytes : ℕ
header_bytes = 125

-- ---- electing and trimming

abbrev pub elects : Settings → Bool
elects s = eqb s.elect 1

-- a job that elects always trims
abbrev pub trims : Settings → Bool
trims s = either (elects s) (eqb s.trim 1)

-- a job that elects takes no type, and its codes of type and trim aren't looked at
abbrev pub unless_elects : Settings → Bool → Bool
unless_elects s wrong = choose (elects s) false wrong

-- ---- the conditions

-- the six types, their 36 numbers or the prior's 42 of wrong length
abbrev pub wrong_others : ℕ → ℕ → ℕ → Bool
wrong_others types models prior = either (not (eqb types other_types)) (either (not (eqb models other_numbers)) (not (eqb prior prior_numbers)))

-- row 2: a plane, the classes, the six types, their 36 numbers or the prior's 42 of wrong length
abbrev pub wrong_lengths : Sizes → ℕ → ℕ → ℕ → ℕ → Bool
wrong_lengths z classes types models prior =
    either (wrong_length z.width z.height z.input z.reference classes)
    (either (not (eqb types other_types)) (either (not (eqb models other_numbers)) (not (eqb prior prior_numbers))))

-- row 4: a class over 4; the type asked for 0 or over 3; another's type over 3; the flag over 1; the trim code over 1;
-- the elect code over 1; the set naming a class over 4; a form that isn't 1 or 2
abbrev pub bad_codes : Settings → ℕ → List ℕ → List ℕ → Bool
bad_codes s form classes types =
    either (class_over last_class classes)
    (either (unless_elects s (no_type s.gm_type))
    (either (types_over types)
    (either (ltb 1 s.flag) (either (unless_elects s (ltb 1 s.trim)) (either (ltb 1 s.elect) (either (names_over s.set) (no_form form)))))))

-- row 5: a reference outside 1 to 7
abbrev pub no_reference : ℕ → Bool
no_reference reference = either (eqb reference 0) (ltb 7 reference)

-- row 13: a class that the form can't hold, named or not
abbrev pub not_held : ℕ → List ℕ → Bool
not_held form classes = class_over (codec_of form).last classes

-- row 3: half planes and words as the search needs them; 512 bytes for each block of the form; 125 bytes for the header
abbrev pub too_little : Sizes → ℕ → Bool
too_little z form =
    either (too_short z.width z.height z.input_half z.ref_half z.words)
    (either (ltb z.blocks (block_bytes * blocks_of (codec_of form).form (sample_count z.width z.height))) (ltb z.header header_bytes))

-- row 15: a job that trims the type asked for has fewer samples than that type's least; those of the named classes count
abbrev pub too_few_to_trim : Settings → ℕ → Bool
too_few_to_trim s named = unless_elects s (both (trims s) (too_few s.gm_type named))

-- ---- the rows, in groups

abbrev pub size_rows : Sizes → ℕ → ℕ → ℕ → ℕ → List Row
size_rows z classes types models prior =
    row 1 (too_large z.width z.height)
    ∷ row 2 (wrong_lengths z classes types models prior)
    ∷ []

abbrev pub code_rows : Settings → ℕ → List ℕ → List ℕ → List Row
code_rows s form classes types =
    row 4 (bad_codes s form classes types)
    ∷ row 19 (names_none s.set)
    ∷ row 5 (no_reference s.reference)
    ∷ row 14 (start_over s.start)
    ∷ []

abbrev pub model_rows : Settings → ℕ → List ℕ → List ℕ → List ℤ → List ℤ → List Row
model_rows s form classes types models prior =
    row 7 (models_wrong types s.flag models)
    ∷ row 8 (priors_out prior)
    ∷ row 13 (not_held form classes)
    ∷ []

abbrev pub room_rows : Sizes → Settings → ℕ → List ℕ → List Row
room_rows z s form classes =
    row 3 (too_little z form)
    ∷ row 15 (too_few_to_trim s (named_count s.set classes))
    ∷ []

-- the first of these rows that holds, 0 for none
unfoldable pub refusal_before : Sizes → Settings → ℕ → List ℕ → List ℕ → List ℤ → List ℤ → ℕ
refusal_before z s form classes types models prior =
    or_else (judge (size_rows z (length classes) (length types) (length models) (length prior)))
    (or_else (judge (code_rows s form classes types))
    (or_else (judge (model_rows s form classes types models prior))
    (or_else (judge (room_rows z s form classes))
    (closed_refusal s.frame))))

-- of a job: refused before its search
abbrev pub early : Task → Lent → ℕ
early j l = refusal_before (sizes_of j l) j.settings j.form j.classes j.types j.models j.prior
