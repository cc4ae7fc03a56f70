-- What the functions below the public calls ask and answer; no public contract cites it.
-- Assumes nothing.
use Rattle.std.specs.Prelude.{ℕ, [], ◌∷◌, ltb, replicate}
use Rattle.laws.specs.Call.{answered}
use Rattle.laws.specs.Refusal.{row, judge}
use Rattle.header_read.specs.Called.{no_models}
use Rattle.header_read.specs.declared.Models.{Models}
use Rattle.key_frame.specs.Key.{identities}

-- a key frame's models, whatever bytes, position and prior
abbrev pub key_models : ℕ → Models
key_models flag = answered no_models (judge (row 4 (ltb 1 flag) ∷ [])) (record { refusal = 0; types = replicate 7 0; params = identities 7; bits = 0 })
