-- A fit after trimming as the numbers that pass to C: its refusal, the samples that it used, and six numbers.
-- docs/RULES.md, 'Trimming'.
-- Assumes nothing.
use Rattle.fit_numbers.specs.Numbers.{numbers_of}
use Rattle.trim.specs.declared.Trimmed.{Trimmed}
use Rattle.trim_numbers.specs.declared.TrimmedAnswer.{TrimmedAnswer}

abbrev pub answer_of : Trimmed → TrimmedAnswer
answer_of t = record { refusal = (numbers_of t.fitted).refusal; used = t.used; numbers = (numbers_of t.fitted).numbers }
