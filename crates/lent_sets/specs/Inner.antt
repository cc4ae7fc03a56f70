-- What the functions below the public calls answer; no public contract cites it.
-- Assumes nothing.
use Rattle.std.specs.Prelude.{ℕ, Bool, List, ◌≡◌, length, Float, Result, IfOk}
use Rattle.laws.specs.Chosen.{Front}
use Rattle.sample.specs.declared.MotionSample.{MotionSample}
use Rattle.class_rows.specs.Rows.{set_refusal}
use Rattle.named_samples.specs.Named.{named_samples}
use Rattle.refusal.specs.declared.Refusal.{Refusal}
use Rattle.refusal.specs.Number.{refusal_number}

-- the rows' refusal, and where that is none the named samples in front of a list, so many
pub record Judges (wrong : Bool) (set : ℕ) (fours : List (List Float)) (classes : List ℕ) (room : List MotionSample) (r : Result ℕ Refusal) : Type 0 where
  pub judged : refusal_number r ≡ set_refusal wrong set (length fours) classes
  pub gathered : IfOk r (λ n. Front (named_samples set fours classes) room n)
