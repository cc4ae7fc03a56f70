-- Worked values of docs/RULES.md, 'Key frames': what is accepted without a byte or a prior, each row with the one behind it, and what is read.
-- Assumes nothing.
use Prim.Native.Nat.{ℕ}
use mathlib.Core.Bool.{true, false}
use mathlib.Core.List.{List, [], ◌∷◌}
use mathlib.Core.Path.{◌≡◌, refl}
use lib.IntN.{ℤ, pos}
use lib.ListN.{replicate, drop}
use Rattle.bits.specs.Bits.{put_bit}
use Rattle.models.specs.Models.{types_over, models_wrong, model_wrong, slot_wrong, filler, priors_out}
use Rattle.header.specs.Writing.{header_bits, reference_bits, model_bits, write_refusal}
use Rattle.header.specs.declared.Written.{Written}
use Rattle.header_read.specs.Called.{no_models}
use Rattle.frame_header.specs.Frame.{frame_bits, frame_read, frame_written, frame_after, frame_models}
use Rattle.key_frame.specs.Key.{identities, some_type, key_refusal}

abbrev none : List ℕ
none = replicate 7 0

-- slot 0 of reference 1 is 8,192
abbrev moved : List ℤ
moved = pos 8192 ∷ drop 1 (identities 7)

abbrev three : List ℤ
three = pos 1 ∷ pos 2 ∷ pos 3 ∷ []

abbrev wild : List ℤ
wild = replicate 42 (pos 99999999)

abbrev wrote : ℕ → ℕ → Written
wrote n bits = record { refusal = n; bits = bits }

pub record Worked : Type 0 where
  pub no_bits : frame_written true 3 none (identities 7) 1 (identities 7) 1 ≡ wrote 0 0
  pub no_padding : frame_after true 3 none (identities 7) 1 (identities 7) (0xFF ∷ []) ≡ 0xFF ∷ []
  pub no_byte_no_prior : frame_written true 0 none (identities 7) 1 three 0 ≡ wrote 0 0
  pub wild_prior : frame_written true 0 none (identities 7) 1 wild 0 ≡ wrote 0 0
  pub six_types : frame_written true 0 (replicate 6 0) (identities 7) 1 [] 0 ≡ wrote 2 0
  pub no_such_type : frame_written true 0 (4 ∷ replicate 6 0) (identities 7) 1 [] 0 ≡ wrote 4 0
  pub no_such_flag : frame_written true 8 none (identities 7) 2 [] 0 ≡ wrote 4 0
  pub no_such_start : frame_written true 8 none (identities 7) 1 [] 0 ≡ wrote 14 0
  pub start_before_type : frame_written true 8 (1 ∷ replicate 6 0) (identities 7) 1 [] 0 ≡ wrote 14 0
  pub a_type : frame_written true 0 (1 ∷ replicate 6 0) (identities 7) 1 [] 0 ≡ wrote 7 0
  pub a_number : frame_written true 0 none moved 1 [] 0 ≡ wrote 7 0
  pub read_of_no_bytes : frame_models true [] 99 1 three ≡ record { refusal = 0; types = none; params = identities 7; bits = 0 }
  pub read_with_flag_2 : frame_models true [] 99 2 three ≡ no_models 4
  -- an inter frame of seven identities has its seven bits
  pub inter_bits : frame_written false 0 none (identities 7) 1 (identities 7) 1 ≡ wrote 0 7
  pub inter_byte : frame_after false 0 none (identities 7) 1 (identities 7) (0xFF ∷ []) ≡ 0x00 ∷ []

pub worked : Worked
unfolding put_bit types_over models_wrong model_wrong slot_wrong filler priors_out header_bits reference_bits model_bits write_refusal
    frame_bits frame_read some_type key_refusal frame_written frame_after frame_models
worked =
    record {
      no_bits = refl;
      no_padding = refl;
      no_byte_no_prior = refl;
      wild_prior = refl;
      six_types = refl;
      no_such_type = refl;
      no_such_flag = refl;
      no_such_start = refl;
      start_before_type = refl;
      a_type = refl;
      a_number = refl;
      read_of_no_bytes = refl;
      read_with_flag_2 = refl;
      inter_bits = refl;
      inter_byte = refl;
    }
