-- `better`: the test is the definition's own, and the rows count in both cases.
-- Assumes nothing.
use borrow.Author.Tests.{lt-ltb, le-ltb}
use Rattle.stage.proofs.better.Goals as goal

pub returns-then-new-best : goal.returns-then-new-best
returns-then-new-best c = rw (lt-ltb c.args.new.cost c.args.best.cost c.if-new-best.true)

pub returns-else-new-best : goal.returns-else-new-best
returns-else-new-best c = rw (le-ltb c.args.new.cost c.args.best.cost c.if-new-best.false)
