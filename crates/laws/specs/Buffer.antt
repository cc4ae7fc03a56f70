-- A lent buffer that was written from its front: the new part, and after it what was there.
-- docs/RULES.md, 'When a call says no'.
-- Assumes nothing.
use Rattle.std.specs.Prelude.{List, ◌++◌, length, drop}

abbrev pub onto : {A : Type 0} → List A → List A → List A
onto new old = new ++ drop (length new) old
