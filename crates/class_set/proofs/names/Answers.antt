-- `class_set::names`: a class over the last, or its bit. Assumes nothing.
use mathlib.Core.Path.{sym, ◌∙◌}
use borrow.Author.Tests.{lt-leb}
use Rattle.class_set.proofs.Named.{named-by-bit, none_over}
use Rattle.class_set.proofs.names.Goals as goal

pub returns-then-class-le-LAST_CLASS : goal.returns-then-class-le-LAST_CLASS
returns-then-class-le-LAST_CLASS c = sym (named-by-bit c.args.set c.args.class c.if-class-le-LAST_CLASS.true)

pub returns-else-class-le-LAST_CLASS : goal.returns-else-class-le-LAST_CLASS
returns-else-class-le-LAST_CLASS c = lt-leb _ _ c.if-class-le-LAST_CLASS.false ∙ sym (none_over c.args.set c.args.class c.if-class-le-LAST_CLASS.false)
