-- `word_trim::place_in_room`: the answer is the trim's on the grid, in as much room as the list takes.
-- Assumes nothing.
use lib.ListN.{length}
use Rattle.trim.proofs.Answers.{model-few}
use Rattle.word_trim.proofs.place_in_room.Goals as goal

pub placed-requires : goal.placed-requires
placed-requires c = record { passes = c.requires; long = c.if-words-le-SHORT.true; room = c.if-words-le-SHORT.true }

pub returns-then-words-le-SHORT : goal.returns-then-words-le-SHORT
returns-then-words-le-SHORT c = c.placed.ensures

pub placed-requires-2 : goal.placed-requires-2
placed-requires-2 c = let a = c.args in
    let few = model-few a.gm_type a.flag (length a.words.now) c.requires in
    record { passes = c.requires; long = few; room = few }

pub returns : goal.returns
returns c = c.placed-2.ensures
