-- The words of a job's search: how many, and what each of them holds.
-- Assumes nothing.
use Prim.Native.Nat.{ℕ, ◌/◌, ◌%◌, ◌≤◌, ◌<◌}
use mathlib.Core.Path.{◌≡◌, refl, sym, ap, ◌∙◌}
use lib.IntN.{ℤ, pos, nat_abs, ◌+ℤ◌, ◌-ℤ◌, +ℤ-neg_ℤ_cancel}
use lib.ListN.{length, get_or}
use Rattle.grid.proofs.Symbols.{lifted}
use Rattle.sample.specs.Word.{row_of, col_of, v_of, u_of, class_of}
use Rattle.sample.specs.Sample.{eighths_of}
use Rattle.sample.proofs.Word as word
use Rattle.plane.specs.Inner.{Small}
use Rattle.search.specs.Search.{halved, stored, natural, block_columns}
use Rattle.search.proofs.Range.{motion-within-223}
use Rattle.search.proofs.Words.{sample_words-length, sample_words-at, word_held}
use Rattle.job_task.specs.Task.{Task}
use Rattle.job_outcome.specs.Outcome.{samples, words}
use Rattle.job_outcome.specs.Demand3.{SampleIs, motion_of}

-- a stored motion stands for the motion
stored-eighths : (z : ℤ) → nat_abs z ≤ 223 → eighths_of (stored z) ≡ z
stored-eighths z h =
    let up : z +ℤ pos 223 ≡ pos (nat_abs (z +ℤ pos 223)) = lifted z 223 h in
    let same : stored z ≡ nat_abs (z +ℤ pos 223) = ap natural up in
    ap (λ (n : ℕ). pos n -ℤ pos 223) same ∙ (ap (λ (y : ℤ). y -ℤ pos 223) (sym up) ∙ +ℤ-neg_ℤ_cancel z (pos 223))

pub words-length : (j : Task) → length (words j) ≡ samples j
words-length j = sample_words-length j.input j.reference j.width j.height

module _ (j : Task) (s : Small j.width j.height) where
  -- the i-th word, and the i-th class beside it
  pub sample-is : (i : ℕ) → i < samples j → SampleIs j i (get_or (words j) i 0) (get_or j.classes i 0)
  sample-is i l =
      let m = motion-within-223 (halved j.input j.reference j.width j.height) (i / block_columns j.width) (i % block_columns j.width) in
      let h = word_held j.input j.reference j.width j.height s.narrow s.low i l in
      let w = sample_words-at j.input j.reference j.width j.height i l in
      record {
        row = ap row_of w ∙ word.row-of-word h;
        column = ap col_of w ∙ word.col-of-word h;
        down = ap (λ (n : ℕ). eighths_of (v_of n)) w ∙ (ap eighths_of (word.v-of-word h) ∙ stored-eighths (motion_of j i).dy m.0);
        across = ap (λ (n : ℕ). eighths_of (u_of n)) w ∙ (ap eighths_of (word.u-of-word h) ∙ stored-eighths (motion_of j i).dx m.1);
        bits = ap class_of w ∙ word.class-of-word h;
        sorted = refl;
      }
