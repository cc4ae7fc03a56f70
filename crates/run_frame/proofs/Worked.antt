-- Worked values of docs/RULES.md, 'A run of frames': a run begun high in form 1, what it hands on, and the rows of a run handed in.
-- Assumes nothing.
use Prim.Native.Nat.{ℕ}
use mathlib.Core.Bool.{true, false}
use mathlib.Core.List.{List, [], ◌∷◌, ◌++◌, map}
use mathlib.Core.Path.{◌≡◌, refl}
use lib.IntN.{ℤ, pos, negsuc}
use lib.ListN.{replicate}
use Rattle.bits.specs.Bits.{put_bit}
use Rattle.bits.specs.Ns.{bit_length, ns_bits}
use Rattle.subexp.specs.Ladder.{subexp_bits}
use Rattle.subexp.specs.Recenter.{code_of}
use Rattle.grid.specs.Grid.{quantize, nearest_ordinal}
use Rattle.grid.specs.Symbols.{symbol_of, place_of}
use Rattle.models.specs.Models.{types_over, models_wrong, model_wrong, slot_wrong, filler, priors_out}
use Rattle.header.specs.Coefficient.{coefficient_bits}
use Rattle.header.specs.Writing.{header_bits, reference_bits, model_bits, write_refusal}
use Rattle.header_read.specs.declared.Models.{Models}
use Rattle.frame_header.specs.Frame.{frame_bits}
use Rattle.key_frame.specs.Key.{identities, some_type, key_refusal}
use Rattle.run.specs.declared.Run.{Run}
use Rattle.run.specs.Run.{run_of, fresh, started, switch_refusal, switched}
use Rattle.run_frame.specs.Frame.{framed_refusal, framed, framed_left, read_in}
use Rattle.run_frame.specs.Recovery.{Event, switch, frame, Handed, code, bytes, turn, turns}

-- reference 1 TRANSLATION by these two numbers, the rest identity
abbrev moved : ℤ → ℤ → List ℤ
moved down right = down ∷ right ∷ pos 65536 ∷ pos 0 ∷ pos 0 ∷ pos 65536 ∷ identities 6

abbrev inter : List ℕ → List ℤ → Event
inter types ps = frame false types ps 0 (replicate 6 0xFF)

abbrev translation : List ℕ
translation = 1 ∷ replicate 6 0

abbrev p : Event
p = inter translation (moved (pos 8192) (negsuc 8191))

abbrev q : Event
q = inter translation (moved (pos 16384) (negsuc 16383))

-- reference 2 ROTZOOM, the rest identity
abbrev turned : Event
turned = inter (0 ∷ 2 ∷ replicate 5 0) (identities 1 ++ (pos 1024 ∷ pos 0 ∷ pos 65538 ∷ pos 2 ∷ negsuc 1 ∷ pos 65538 ∷ []) ++ identities 5)

-- off the grid of low precision
abbrev off : Event
off = inter translation (moved (pos 24576) (negsuc 8191))

abbrev events : List Event
events = p ∷ p ∷ turned ∷ p ∷ switch 0 ∷ off ∷ q ∷ switch 3 ∷ switch 2 ∷ frame true (replicate 7 0) (identities 7) 2 (replicate 6 0xFF) ∷ q ∷ q ∷ []

abbrev three : ℕ → ℕ → ℕ → Handed
three a b c = bytes false 0 (a ∷ b ∷ c ∷ replicate 3 0xFF)

-- slot 0 of reference 1 is one beyond its range
abbrev wild : ℕ → ℕ → Run
wild flag form = run_of (moved (pos 4194305) (pos 0)) flag form

abbrev key : Run → List ℕ → ℕ → ℕ
key run types start = (framed run true types (identities 7) start 0).written.refusal

pub record Worked : Type 0 where
  pub handed_on : (turns turn (fresh 1 1) events).handed
      ≡ three 0xA4 0x20 0x00
      ∷ three 0xA0 0x00 0x00
      ∷ three 0x64 0x44 0x00
      ∷ three 0xA4 0x20 0x00
      ∷ code 0
      ∷ three 0xA4 0x00 0x00
      ∷ code 2
      ∷ bytes true 2 (replicate 6 0xFF)
      ∷ three 0xA4 0x20 0x00
      ∷ three 0xA0 0x00 0x00
      ∷ []
  pub bits : map (λ (m : Models). m.bits) (turns turn (fresh 1 1) events).models ≡ 17 ∷ 17 ∷ 24 ∷ 17 ∷ 17 ∷ 0 ∷ 17 ∷ 17 ∷ []
  pub ends : (turns turn (fresh 1 1) events).run ≡ run_of (moved (pos 16384) (negsuc 16383)) 0 2
  pub no_such_start : (started 2 1).refusal ∷ (started 1 0).refusal ∷ (started 1 3).refusal ∷ [] ≡ 4 ∷ 4 ∷ 4 ∷ []
  pub switch_of_a_wild_run : (switched (wild 1 1) 1).refusal ∷ (switched (wild 1 1) 3).refusal ∷ (switched (wild 2 1) 1).refusal ∷ [] ≡ 8 ∷ 4 ∷ 4 ∷ []
  pub key_of_a_wild_run : key (wild 1 1) (replicate 7 0) 0 ∷ key (wild 1 1) translation 0 ∷ key (wild 2 1) (replicate 7 0) 0 ∷ key (fresh 1 0) (replicate 7 0) 9 ∷ [] ≡ 8 ∷ 7 ∷ 4 ∷ 4 ∷ []
  pub inter_of_a_wild_run : (framed (wild 1 1) false (replicate 7 0) (identities 7) 0 0).written.refusal ≡ 8
  pub read_of_a_wild_run : (read_in (wild 1 1) true [] 0).models.refusal ≡ 8

pub worked : Worked
unfolding quantize nearest_ordinal symbol_of place_of put_bit bit_length ns_bits subexp_bits code_of types_over models_wrong model_wrong slot_wrong filler priors_out
    coefficient_bits header_bits reference_bits model_bits write_refusal frame_bits some_type key_refusal started switch_refusal framed_refusal framed framed_left read_in
worked =
    record {
      handed_on = refl;
      bits = refl;
      ends = refl;
      no_such_start = refl;
      switch_of_a_wild_run = refl;
      key_of_a_wild_run = refl;
      inter_of_a_wild_run = refl;
      read_of_a_wild_run = refl;
    }
