use Rattle.std.proofs.Common.{rules}
use Rattle.header.specs.Count.{header_count}
use Rattle.header.proofs.Header.length.Goals as goal

pub returns : goal.returns
unfolding header_count
returns c = search rules
