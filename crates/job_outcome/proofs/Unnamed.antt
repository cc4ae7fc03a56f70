-- A job whose set names all five classes is the job without sets, bit for bit: it is refused by the same rows, its model is of all words, and it reports and leaves the same.
-- Assumes nothing.
use Prim.Native.Nat.{ℕ}
use mathlib.Core.Bool.{false}
use mathlib.Core.List.{[], ◌∷◌}
use mathlib.Core.Logic.{⊎_elim}
use mathlib.Core.Path.{◌≡◌, refl, sym, ap, ◌∙◌}
use borrow.Author.Tests.{ne_eqb}
use lib.ListN.{length}
use Rattle.laws.specs.Refusal.{row, judge}
use Rattle.laws.proofs.Cases.{eq-or-ne}
use Rattle.class.specs.Class.{last_class, class_over}
use Rattle.class_set.specs.Set.{all_classes, chosen, named_count}
use Rattle.class_set.proofs.Chosen.{all-chosen, all-counted}
use Rattle.job_task.specs.Task.{Task, Lent, sizes_of}
use Rattle.job_task.specs.Rows.{too_little, too_few_to_trim, size_rows, code_rows, room_rows, refusal_before, early}
use Rattle.job_task.proofs.Groups.{or-else-same}
use Rattle.job_task.proofs.Accepted.{lengths, codes, ready}
use Rattle.job_outcome.specs.Outcome.{samples, words, named, outcome}
use Rattle.job_outcome.proofs.UnnamedEnds as unnamed
use Rattle.job_outcome.proofs.Samples.{words-length}

module _ (j : Task) (all : j.settings.set ≡ all_classes) where
  -- rows 1, 2 and 4 let the classes pass
  module _ (each : length j.classes ≡ samples j) (low : class_over last_class j.classes ≡ false) where
    all_words : named j ≡ words j
    all_words = ap (λ (n : ℕ). chosen n (words j) j.classes) all ∙ all-chosen (words j) j.classes (each ∙ sym (words-length j)) low

    all-samples : named_count j.settings.set j.classes ≡ samples j
    all-samples = ap (λ (n : ℕ). named_count n j.classes) all ∙ (all-counted j.classes low ∙ each)

  module _ (l : Lent) where
    codes-are : judge (code_rows j.settings j.form j.classes j.types) ≡ judge (unnamed.code_rows j)
    codes-are = rw all

    room-is : judge (size_rows (sizes_of j l) (length j.classes) (length j.types) (length j.models) (length j.prior)) ≡ 0
        → judge (code_rows j.settings j.form j.classes j.types) ≡ 0
        → judge (room_rows (sizes_of j l) j.settings j.form j.classes) ≡ judge (unnamed.room_rows j l)
    room-is a b =
        let n = lengths (sizes_of j l) (length j.classes) (length j.types) (length j.models) (length j.prior) a in
        let c = codes j.settings j.form j.classes j.types b in
        ap (λ (n : ℕ). judge (row 3 (too_little (sizes_of j l) j.form) ∷ row 15 (too_few_to_trim j.settings n) ∷ [])) (all-samples n.classed c.classed)

    pub early-is : early j l ≡ unnamed.early j l
    unfolding refusal_before
    early-is = or-else-same refl (λ a. or-else-same codes-are (λ b. rw (room-is a b)))

    pub as-unnamed : outcome j l ≡ unnamed.outcome j l
    unfolding outcome
    as-unnamed =
        ⊎_elim
        (λ (quiet : early j l ≡ 0). let s = (ready j l quiet).writes.sound in rw (early-is, all_words (s.class_count ∙ words-length j) s.classed))
        (λ (h : early j l ≡ 0 → ⊥). rw (← early-is, ne_eqb (early j l) 0 h))
        (eq-or-ne (early j l) 0)
