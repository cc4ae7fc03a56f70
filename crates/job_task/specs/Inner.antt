-- What the functions below the public calls ask and answer; no public contract cites it.
-- Assumes nothing.
use Rattle.std.specs.Prelude.{◌≤◌, ◌<◌, false, ◌≡◌}
use Rattle.class_set.specs.Set.{all_classes}
use Rattle.job_task.specs.declared.Settings.{Settings}
use Rattle.job_task.specs.Rows.{elects}

-- settings that rows 4, 19, 5 and 14 let pass: unless the job elects the type asked for and the trim code; the reference,
-- the flag, the elect code, the set, the start
pub record InRange (s : Settings) : Type 0 where
  pub some-type : elects s ≡ false → 1 ≤ s.gm_type
  pub last_type : elects s ≡ false → s.gm_type ≤ 3
  pub some_reference : 1 ≤ s.reference
  pub last_reference : s.reference ≤ 7
  pub flagged : s.flag ≤ 1
  pub trimming : elects s ≡ false → s.trim ≤ 1
  pub electing : s.elect ≤ 1
  pub some_class : 1 ≤ s.set
  pub last-class : s.set ≤ all_classes
  pub low : s.start < 8
