-- `word_trim::fit_in_room`: the trim's answer is the call's, in as much room as the list takes.
-- Assumes nothing.
use mathlib.Core.Path.{refl, ◌∙◌}
use lib.ListN.{length}
use Rattle.sample.specs.Sample.{sample_of}
use Rattle.trim.proofs.Answers.{trimmed-accepted}
use Rattle.word_trim.proofs.Rounds.{list-asked, list-few}
use Rattle.word_trim.proofs.fit_in_room.Goals as goal

pub trimmed-requires : goal.trimmed-requires
trimmed-requires c = let a = c.args in
    list-asked a.gm_type (length a.words.now) _ _ c.if-words-le-SHORT.true c.if-words-le-SHORT.true c.requires

pub returns-then-words-le-SHORT : goal.returns-then-words-le-SHORT
returns-then-words-le-SHORT c = let a = c.args in
    c.trimmed.ensures.answers ∙ trimmed-accepted sample_of a.gm_type a.words.now (length a.words.now) refl c.requires

pub trimmed-requires-2 : goal.trimmed-requires-2
trimmed-requires-2 c = let a = c.args in
    let few = list-few a.gm_type (length a.words.now) c.requires in
    list-asked a.gm_type (length a.words.now) _ _ few few c.requires

pub returns : goal.returns
returns c = let a = c.args in
    c.trimmed-2.ensures.answers ∙ trimmed-accepted sample_of a.gm_type a.words.now (length a.words.now) refl c.requires
