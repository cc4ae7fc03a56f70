-- `replay::try_cases`: no more cases failed than were tried.
-- Assumes nothing.
use Rattle.std.proofs.Common.{◌≤◌}
use denote.Param.Always.{always_mut}
use Rattle.replay.proofs.try_cases.Given as goal

abbrev pub invariant-loop-case : goal.invariant-loop-case
invariant-loop-case g l = (l.failures ≤ l.case) × (always_mut g.F.FnMut l.initial.holds → always_mut g.F.FnMut l.holds)
