-- How a job outside a run ends, said without forms: its rows, and its blocks, of form 2. The law is `as-outside` of
-- `Outside`.
-- Assumes nothing.
use Prim.Native.Nat.{ℕ, ◌*◌}
use mathlib.Core.Bool.{Bool}
use mathlib.Core.List.{List, [], ◌∷◌}
use lib.Dec.{ltb, eqb}
use lib.ListN.{length}
use Rattle.laws.specs.Buffer.{onto}
use Rattle.laws.specs.Refusal.{Row, row, judge, or_else, either, choose}
use Rattle.search.specs.Search.{sample_count}
use Rattle.search.specs.Refusal.{too_short}
use Rattle.class.specs.Class.{last_class, class_over}
use Rattle.class_set.specs.Set.{names_over, names_none, named_count}
use Rattle.models.specs.Models.{types_over, models_wrong, priors_out, start_over}
use Rattle.layout.specs.Form.{block_bytes, blocks_of}
use Rattle.form2.specs.Block.{form2, codec2}
use Rattle.frame_number.specs.Shutter.{closed_refusal}
use Rattle.block.specs.Frame.{frame_bytes}
use Rattle.fit.specs.Fitted.{no_type}
use Rattle.header.specs.Writing.{bits_placed}
use Rattle.job_task.specs.declared.Sizes.{Sizes}
use Rattle.job_task.specs.Task.{Task, Lent, sizes_of}
use Rattle.job_task.specs.Rows.{header_bytes, unless_elects, no_reference, too_few_to_trim, size_rows}
use Rattle.job_outcome.specs.Outcome.{Ended, ended, classed_words, bits, late, refused, accepted, left_with, left_by_search}

-- ---- the rows: 4 without the form, no 13, and 3 by blocks of form 2

abbrev pub codes : Task → Bool
codes j =
    let s = j.settings in
    either (class_over last_class j.classes)
    (either (unless_elects s (no_type s.gm_type))
    (either (types_over j.types)
    (either (ltb 1 s.flag) (either (unless_elects s (ltb 1 s.trim)) (either (ltb 1 s.elect) (names_over s.set))))))

abbrev pub code_rows : Task → List Row
code_rows j =
    row 4 (codes j)
    ∷ row 19 (names_none j.settings.set)
    ∷ row 5 (no_reference j.settings.reference)
    ∷ row 14 (start_over j.settings.start)
    ∷ []

abbrev pub model_rows : Task → List Row
model_rows j =
    row 7 (models_wrong j.types j.settings.flag j.models)
    ∷ row 8 (priors_out j.prior)
    ∷ []

abbrev pub too_little : Sizes → Bool
too_little z =
    either (too_short z.width z.height z.input_half z.ref_half z.words)
    (either (ltb z.blocks (block_bytes * blocks_of form2 (sample_count z.width z.height))) (ltb z.header header_bytes))

abbrev pub room_rows : Task → Lent → List Row
room_rows j l =
    row 3 (too_little (sizes_of j l))
    ∷ row 15 (too_few_to_trim j.settings (named_count j.settings.set j.classes))
    ∷ []

abbrev pub early : Task → Lent → ℕ
early j l =
    or_else (judge (size_rows (sizes_of j l) (length j.classes) (length j.types) (length j.models) (length j.prior)))
    (or_else (judge (code_rows j))
    (or_else (judge (model_rows j))
    (or_else (judge (room_rows j l))
    (closed_refusal j.settings.frame))))

-- ---- the end

abbrev pub blocks_by : Task → Lent → List ℕ
blocks_by j l = onto (frame_bytes codec2 j.settings.frame (classed_words j)) l.blocks

abbrev pub left_by_job : Task → Lent → Lent
left_by_job j l = left_with j l (blocks_by j l) (bits_placed j.settings.start (bits j) l.header)

abbrev pub after_search : Task → Lent → Ended
after_search j l = choose (eqb (late j) 0) (ended (accepted j) (left_by_job j l)) (ended (refused (late j)) (left_by_search j l))

abbrev pub outcome : Task → Lent → Ended
outcome j l = choose (eqb (early j l) 0) (after_search j l) (ended (refused (early j l)) l)
