-- The candidate of the words is that of the samples they stand for.
-- Assumes nothing.
use Rattle.std.proofs.Common.{sym, ◌∙◌}
use Rattle.sample.specs.Sample.{sample_of}
use Rattle.trim.proofs.Mapped.{model-mapped}
use Rattle.word_elect.proofs.WordsElectorate.candidate.Goals as goal

pub returns : goal.returns
returns c = let a = c.args in c.quantize_trimmed.ensures ∙ sym (model-mapped sample_of a.gm_type a.self.0.now a.flag)
