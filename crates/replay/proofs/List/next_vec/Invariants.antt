-- `List::next_vec`: there are as many items as turns.
-- Assumes nothing.
use Rattle.std.proofs.Common.{◌≡◌, vec_len}
use denote.Param.Always.{always_mut}
use Rattle.replay.proofs.List.next_vec.Given as goal

abbrev pub invariant-loop : goal.invariant-loop
invariant-loop g l = (vec_len l.items ≡ l.counter) × (always_mut g.F.FnMut l.initial.next → always_mut g.F.FnMut l.next)
