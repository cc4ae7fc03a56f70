-- A set of classes (docs/RULES.md, 'Sets of classes'): a number whose bit c names class c. Which classes it names, the elements of the
-- named classes by a list of classes, and the conditions of its two rows.
-- Assumes nothing.
use Rattle.std.specs.Prelude.{ℕ, ◌/◌, ◌%◌, ◌^◌, Bool, false, List, ltb, eqb, length}
use Rattle.laws.specs.Refusal.{choose}
use Rattle.laws.specs.Chosen.{chosen_by}
use Rattle.class.specs.Class.{last_class}

-- classes 0 to 4
abbrev pub all_classes : ℕ
all_classes = 31

-- whether the set names a class; there is none over the last
unfoldable pub names : ℕ → ℕ → Bool
names set class = choose (ltb last_class class) false (eqb (set / 2 ^ class % 2) 1)

-- row 4: the set names a class over the last
abbrev pub names_over : ℕ → Bool
names_over set = ltb all_classes set

-- row 19: the set is empty
abbrev pub names_none : ℕ → Bool
names_none set = eqb set 0

-- the elements of the named classes, in their order, by a class for each
abbrev pub chosen : {A : Type 0} → ℕ → List A → List ℕ → List A
chosen set xs classes = chosen_by (names set) xs classes

-- how many of the classes are named
abbrev pub named_count : ℕ → List ℕ → ℕ
named_count set classes = length (chosen set classes classes)
