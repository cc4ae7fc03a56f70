-- What a call that reads seven models gives: docs/RULES.md, 'Reading by the standard', rows 2, 4, 8, 9.
-- Assumes nothing.
use Rattle.std.specs.Prelude.{ℕ, ◌+◌, ◌*◌, not, List, [], ◌∷◌, ltb, eqb, ℤ, pos, length, replicate}
use Rattle.laws.specs.Call.{answered}
use Rattle.laws.specs.Refusal.{Row, row, judge, or_else}
use Rattle.models.specs.Models.{priors_out}
use Rattle.header.specs.Reading.{ReadModels, models_read}
use Rattle.header_read.specs.declared.Models.{Models}

-- row 2, row 4 for the flag, row 8
abbrev pub prior_rows : ℕ → List ℤ → List Row
prior_rows flag qs = row 2 (not (eqb (length qs) 42)) ∷ row 4 (ltb 1 flag) ∷ row 8 (priors_out qs) ∷ []

-- row 9: the bits read from position `at` on are more than the bytes hold
abbrev pub end_rows : List ℕ → ℕ → ReadModels → List Row
end_rows header at t = row 9 (ltb (8 * length header) (at + t.bits)) ∷ []

unfoldable pub read_refusal : List ℕ → ℕ → ℕ → List ℤ → ℕ
read_refusal header at flag qs = or_else (judge (prior_rows flag qs)) (judge (end_rows header at (models_read header at flag qs)))

abbrev pub no_models : ℕ → Models
no_models n = record { refusal = n; types = replicate 7 0; params = replicate 42 (pos 0); bits = 0 }

abbrev pub the_models : ReadModels → Models
the_models t = record { refusal = 0; types = t.types; params = t.params; bits = t.bits }

unfoldable pub models : List ℕ → ℕ → ℕ → List ℤ → Models
models header at flag qs = answered no_models (read_refusal header at flag qs) (the_models (models_read header at flag qs))
