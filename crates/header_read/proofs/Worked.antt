-- Worked values of docs/RULES.md, read: the header of 17 bits, and the examples of rows 2, 4, 8 and 9.
-- Assumes nothing.
use mathlib.Core.List.{List, [], ◌∷◌}
use mathlib.Core.Path.{◌≡◌, refl}
use lib.IntN.{ℤ, pos, negsuc}
use Rattle.bits.specs.Bits.{bit_at}
use Rattle.bits.specs.Ns.{bit_length, ns}
use Rattle.subexp.specs.Ladder.{subexp}
use Rattle.subexp.specs.Recenter.{symbol_of}
use Rattle.grid.specs.Symbols.{place_of}
use Rattle.models.specs.Models.{filler, priors_out}
use Rattle.header.specs.Coefficient.{coefficient}
use Rattle.header.specs.Reading.{six_filled, model_read, reference_read, models_read}
use Rattle.header.proofs.Worked.{identities, prior}
use Rattle.header_read.specs.Called.{read_refusal, no_models, models}

-- slot 3 of reference 1 is 8,193
abbrev prior_out : List ℤ
prior_out = pos 0 ∷ pos 0 ∷ pos 65536 ∷ pos 8193 ∷ pos 0 ∷ pos 65536 ∷ identities

pub record Worked : Type 0 where
  -- high, prior identity: reference 1 TRANSLATION (8192, −8192), the rest identity
  pub seventeen_bits : models (0xA4 ∷ 0x20 ∷ 0x00 ∷ []) 0 1 prior
      ≡ record { refusal = 0; types = 1 ∷ 0 ∷ 0 ∷ 0 ∷ 0 ∷ 0 ∷ 0 ∷ []; params = pos 8192 ∷ negsuc 8191 ∷ pos 65536 ∷ pos 0 ∷ pos 0 ∷ pos 65536 ∷ identities; bits = 17 }
  -- and from bit 3 of a byte on
  pub from_bit_3 : models (0xF4 ∷ 0x84 ∷ 0x00 ∷ []) 3 1 prior
      ≡ record { refusal = 0; types = 1 ∷ 0 ∷ 0 ∷ 0 ∷ 0 ∷ 0 ∷ 0 ∷ []; params = pos 8192 ∷ negsuc 8191 ∷ pos 65536 ∷ pos 0 ∷ pos 0 ∷ pos 65536 ∷ identities; bits = 17 }
  pub ends_a_byte_early : models (0xA4 ∷ 0x20 ∷ []) 0 1 prior ≡ no_models 9
  pub empty_header : models [] 0 1 prior ≡ no_models 9
  pub short_prior : models [] 0 2 identities ≡ no_models 2
  pub no_such_flag : models [] 0 2 prior_out ≡ no_models 4
  pub prior_slot_3 : models [] 0 1 prior_out ≡ no_models 8

pub worked : Worked
unfolding bit_at bit_length ns subexp symbol_of place_of priors_out filler coefficient six_filled model_read reference_read models_read read_refusal models
worked = record { seventeen_bits = refl; from_bit_3 = refl; ends_a_byte_early = refl; empty_header = refl; short_prior = refl; no_such_flag = refl; prior_slot_3 = refl }
