-- `word_elect::elect`: the words elect what the samples they stand for elect.
-- Assumes nothing.
use Rattle.std.proofs.Common.{◌∙◌}
use Rattle.sample.specs.Sample.{sample_of}
use Rattle.elect.proofs.Mapped.{elected-mapped}
use Rattle.word_elect.proofs.elect.Goals as goal

pub returns : goal.returns
returns c = c.elected.ensures ∙ elected-mapped sample_of c.args.flag c.args.words.now
