-- What the functions below the public calls answer; no public contract cites it.
-- Assumes nothing.
use Rattle.std.specs.Prelude.{Bool, List, [], ◌∷◌}
use Rattle.laws.specs.Refusal.{Row, row, both}
use Rattle.models.specs.Models.{priors_out}
use Rattle.run.specs.declared.Run.{Run}
use Rattle.run.specs.Run.{codes_wrong}

-- what a reader judges ahead of the plain call, which judges an inter frame's prior itself
abbrev pub reader_rows : Run → Bool → List Row
reader_rows run intra = row 4 (codes_wrong run.flag run.form) ∷ row 8 (both intra (priors_out run.prior)) ∷ []
