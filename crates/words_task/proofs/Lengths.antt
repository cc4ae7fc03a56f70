-- What rows 1 and 2 say of the lists where they don't hold.
-- Assumes nothing.
use Prim.Native.Nat.{ℕ, ◌≤◌}
use mathlib.Core.Bool.{not}
use mathlib.Core.Path.{◌≡◌}
use borrow.Author.Tests.{ltb-false}
use lib.Dec.{eqb}
use Rattle.laws.specs.Refusal.{judge}
use Rattle.laws.proofs.Refusal.{neither, length-is, quiet}
use Rattle.sample.specs.Word.{most_samples}
use Rattle.job_task.specs.Rows.{other_types, other_numbers, prior_numbers}
use Rattle.words_task.specs.Rows.{list_rows}

pub record Lengths (words classes types models prior : ℕ) : Type 0 where
  pub few : words ≤ most_samples
  pub classed : classes ≡ words
  pub six : types ≡ other_types
  pub numbers : models ≡ other_numbers
  pub places : prior ≡ prior_numbers

pub lengths : (words classes types models prior : ℕ) → judge (list_rows words classes types models prior) ≡ 0 → Lengths words classes types models prior
lengths words classes types models prior e =
    let q = quiet (list_rows words classes types models prior) tt e in
    let c = neither (not (eqb classes words)) _ q.1.0 in
    let t = neither (not (eqb types other_types)) _ c.1 in
    let m = neither (not (eqb models other_numbers)) (not (eqb prior prior_numbers)) t.1 in
    record {
      few = ltb-false most_samples words q.0;
      classed = length-is classes words c.0;
      six = length-is types other_types t.0;
      numbers = length-is models other_numbers m.0;
      places = length-is prior prior_numbers m.1;
    }
