-- A key frame: no bit and no byte of it, whatever is lent and whatever its prior; read as seven identities, whatever bytes, position and prior.
-- Assumes nothing.
use Prim.Native.Nat.{ℕ, ◌≤◌}
use mathlib.Core.Bool.{Bool, true, false}
use mathlib.Core.List.{List, []}
use mathlib.Core.Logic.{⊎_elim}
use mathlib.Core.Path.{◌≡◌, refl, ◌∙◌}
use borrow.Author.Tests.{le-ltb}
use lib.Dec.{eqb}
use lib.IntN.{ℤ}
use lib.ListN.{replicate}
use Rattle.laws.specs.Call.{answered}
use Rattle.laws.specs.Refusal.{choose}
use Rattle.laws.proofs.Call.{answered-refused}
use Rattle.laws.proofs.Cases.{eq-or-ne}
use Rattle.header.specs.Writing.{not_written}
use Rattle.frame_header.specs.Frame.{frame_bits, frame_read, frame_written, frame_after, frame_models}
use Rattle.key_frame.specs.Key.{identities, key_refusal}
use Rattle.frame_header.specs.Inner.{key_models}

either-alike : (b : Bool) (old : List ℕ) → choose b old old ≡ old
either-alike true old = refl
either-alike false old = refl

no_bits : (n : ℕ) → answered not_written n (record { refusal = 0; bits = 0 }) ≡ not_written n
no_bits n =
    ⊎_elim
    (λ (e : n ≡ 0). rw e)
    (λ (e : n ≡ 0 → ⊥). answered-refused not_written n _ e)
    (eq-or-ne n 0)

module _ (types : List ℕ) (ps : List ℤ) (flag : ℕ) (qs : List ℤ) where
  pub key-bits : frame_bits true types ps flag qs ≡ []
  unfolding frame_bits
  key-bits = refl

  -- the refusal, or 0, and no bits, whatever the room and the prior
  pub key-written : (start room : ℕ) → frame_written true start types ps flag qs room ≡ not_written (key_refusal start types ps flag)
  unfolding frame_written frame_bits
  key-written start room = no_bits (key_refusal start types ps flag)

  -- every byte as it was, refused or not
  pub key-after : (start : ℕ) (header : List ℕ) → frame_after true start types ps flag qs header ≡ header
  unfolding frame_after
  key-after start header = either-alike (eqb (key_refusal start types ps flag) 0) header

module _ (header : List ℕ) (at flag : ℕ) (qs : List ℤ) where
  -- whatever bytes, position and prior
  pub key-models : frame_models true header at flag qs ≡ key_models flag
  unfolding frame_models frame_read
  key-models = refl

  pub key-read : flag ≤ 1 → frame_models true header at flag qs ≡ record { refusal = 0; types = replicate 7 0; params = identities 7; bits = 0 }
  key-read l = key-models ∙ rw (le-ltb 1 flag l)
