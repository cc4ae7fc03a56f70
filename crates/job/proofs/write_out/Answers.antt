-- `job::write_out`: the two calls' answers and what they leave are the definition's parts.
-- Assumes nothing.
use mathlib.Core.Path.{ap}
use lib.ListN.{length}
use borrow.Author.Rules.{rules}
use Rattle.header.specs.declared.Written.{Written}
use Rattle.std.proofs.Common.{Ok}
use Rattle.job_model.specs.Modelled.{modelled_in}
use Rattle.job.specs.Inner.{report_of}
use Rattle.job.proofs.Ending.{finish-same}
use Rattle.job.proofs.write_out.Goals as goal

pub returns : goal.returns
returns c = let a = c.args in
    let w = c.encode_inter_global_motion-w.ensures in
    finish-same (ap (λ (w : Written). report_of (modelled_in (Ok a.m)) w.bits (length a.words.now)) w.value) c.store.ensures.blocks_after w.header_after
