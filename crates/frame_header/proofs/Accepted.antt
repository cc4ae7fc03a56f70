-- What an accepted writing says of a frame's models: those that are coded can be read back, and those that aren't are identities.
-- Assumes nothing.
use Prim.Native.Nat.{ℕ, zero, suc, ◌+◌, ◌-◌, ◌*◌, ◌≤◌, ◌<◌}
use mathlib.Core.Bool.{Bool, true, false}
use mathlib.Core.List.{List, [], ◌∷◌, ◌++◌, append-nil}
use mathlib.Core.Path.{◌≡◌, refl, ap, sym, subst, ◌∙◌}
use native.Mathlib.Omega.{arith}
use borrow.Author.Tests.{ltb-false}
use lib.Dec.{lit<}
use lib.IntN.{ℤ, pos}
use lib.ListN.{length, get_or, take, drop, replicate}
use lib.Seq.{take_all}
use Rattle.laws.specs.Refusal.{judge}
use Rattle.laws.proofs.Below.{each-fails}
use Rattle.laws.proofs.Refusal.{neither, length-is, quiet, or-else-quiet}
use Rattle.models.specs.Models.{filler, types_over, models_wrong}
use Rattle.header.proofs.Accepted as writing
use Rattle.header.proofs.RoundTrip.{Coded, coded-seven, valid-model, one_more, six-more}
use Rattle.header.proofs.Valid.{ValidModel, six_of}
use Rattle.frame_header.specs.Frame.{coded, frame_refusal}
use Rattle.key_frame.specs.Key.{identities, type_at, some_type, key_code_rows, key_model_rows, key_refusal}
use Rattle.key_frame.proofs.Enough.{lengths}

-- ---- seven models of which none is coded

module _ (types : List ℕ) (ps : List ℤ) (flag : ℕ) where
  pub record Plain : Type 0 where
    pub seven : length types ≡ 7
    pub numbers : length ps ≡ 42
    pub known : types_over types ≡ false
    pub flagged : flag ≤ 1
    pub plain : some_type types ≡ false
    pub right : models_wrong types flag ps ≡ false

  pub key-plain : (start : ℕ) → key_refusal start types ps flag ≡ 0 → Plain
  unfolding key_refusal
  key-plain start e =
      let both = or-else-quiet (judge (key_code_rows types ps flag)) (judge (key_model_rows start types ps flag)) e in
      let codes = quiet (key_code_rows types ps flag) tt both.0 in
      let wrong = neither (some_type types) (models_wrong types flag ps) (quiet (key_model_rows start types ps flag) tt both.1).1.0 in
      let l = lengths types ps flag both.0 in
      record { seven = l.0; numbers = l.1; known = codes.1.0; flagged = ltb-false 1 flag codes.1.1.0; plain = wrong.0; right = wrong.1 }

  module _ (p : Plain) where
    type-plain : (k : ℕ) → k < 7 → get_or types k 0 ≡ 0
    unfolding some_type
    type-plain k l = length-is (get_or types k 0) 0 (each-fails (type_at types) (length types) p.plain k (omega (arith, p.seven)))

    types-plain : (n r : ℕ) → r + n ≤ 7 → take n (drop r types) ≡ replicate n 0
    types-plain zero r l = refl
    types-plain (suc n) r l =
        one_more types n r (omega (arith, p.seven))
        ∙ rw (type-plain r (omega arith), types-plain n (r + 1) (omega arith))

    six-plain : (r : ℕ) → r < 7 → six_of ps (6 * r) ≡ pos 0 ∷ pos 0 ∷ pos 65536 ∷ pos 0 ∷ pos 0 ∷ pos 65536 ∷ []
    unfolding filler
    six-plain r l =
        let v : ValidModel 0 flag ps (6 * r) =
        subst (λ (t : ℕ). ValidModel t flag ps (6 * r)) (type-plain r l) (valid-model types flag ps r (omega (arith, p.seven)) p.known p.right) in
        rw (
          v.filled 0 (lit< tt) refl,
          v.filled 1 (lit< tt) refl,
          v.filled 2 (lit< tt) refl,
          v.filled 3 (lit< tt) refl,
          v.filled 4 (lit< tt) refl,
          v.filled 5 (lit< tt) refl,
        )

    models-plain : (n r : ℕ) → r + n ≤ 7 → take (6 * n) (drop (6 * r) ps) ≡ identities n
    models-plain zero r l = refl
    models-plain (suc n) r l =
        six-more ps n r (omega (arith, p.numbers))
        ∙ ap (λ (six : List ℤ). six ++ take (6 * n) (drop (6 * (r + 1)) ps)) (six-plain r (omega arith))
        ∙ ap (λ (rest : List ℤ). pos 0 ∷ pos 0 ∷ pos 65536 ∷ pos 0 ∷ pos 0 ∷ pos 65536 ∷ rest) (models-plain n (r + 1) (omega arith))

-- ---- of either kind

-- the first n references are coded, and the others are identities
pub record Carried (n : ℕ) (types : List ℕ) (ps : List ℤ) (flag : ℕ) (qs : List ℤ) : Type 0 where
  pub front : Coded n types ps flag qs
  pub other-types : take n types ++ replicate (7 - n) 0 ≡ types
  pub other_models : take (6 * n) ps ++ identities (7 - n) ≡ ps

module _ (types : List ℕ) (ps : List ℤ) (flag : ℕ) (qs : List ℤ) (start room : ℕ) where
  pub carried : (intra : Bool) → frame_refusal intra start types ps flag qs room ≡ 0 → Carried (coded intra) types ps flag qs
  carried true e =
      let p = key-plain types ps flag start e in
      record {
        front = record { types_there = omega arith; models_there = omega arith; valid = λ r l. absurd (omega arith); priors = λ r l. absurd (omega arith) };
        other-types = sym (types-plain types ps flag p 7 0 (omega arith)) ∙ take_all 7 types (omega (arith, p.seven));
        other_models = sym (models-plain types ps flag p 7 0 (omega arith)) ∙ take_all 42 ps (omega (arith, p.numbers));
      }
  carried false e =
      let w = (writing.accepted types ps flag qs start room e).writable in
      record {
        front = coded-seven types ps flag qs w;
        other-types = append-nil (take 7 types) ∙ take_all 7 types (omega (arith, w.seven));
        other_models = append-nil (take 42 ps) ∙ take_all 42 ps (omega (arith, w.models));
      }

  pub flag-low : (intra : Bool) → frame_refusal intra start types ps flag qs room ≡ 0 → flag ≤ 1
  flag-low true e = (key-plain types ps flag start e).flagged
  flag-low false e = (writing.accepted types ps flag qs start room e).flagged
