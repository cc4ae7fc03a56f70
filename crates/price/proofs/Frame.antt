-- A frame's price is what its writer then counts, at every start and in any buffer with room: both judge the models alike, and the start of bit 0 is no row's.
-- Assumes nothing.
use Prim.Native.Nat.{ℕ, zero, suc}
use mathlib.Core.Bool.{Bool, true, false}
use mathlib.Core.List.{List}
use mathlib.Core.Path.{◌≡◌, refl, ap, sym, ◌∙◌}
use native.Mathlib.Omega.{arith}
use borrow.Author.Tests.{ne_eqb}
use lib.IntN.{ℤ}
use lib.ListN.{length}
use Rattle.laws.specs.Refusal.{judge, or_else}
use Rattle.laws.specs.Call.{answered}
use Rattle.laws.proofs.Call.{answered-accepted, answered-refused}
use Rattle.laws.proofs.Refusal.{or-else-quiet, quiet}
use Rattle.header.specs.Count.{header_count}
use Rattle.header.specs.Writing.{code_rows, model_rows, room_rows, write_refusal}
use Rattle.frame_header.specs.Frame.{frame_count, frame_refusal, frame_written}
use Rattle.key_frame.specs.Key.{key_code_rows, key_model_rows, key_refusal}
use Rattle.header.specs.declared.Written.{Written}
use Rattle.frame_header.proofs.RoundTrip.{bits-counted}
use Rattle.price.specs.Frame.{frame_price_refusal, not_priced, frame_price}

module _ (types : List ℕ) (ps : List ℤ) (flag : ℕ) (qs : List ℤ) where
  -- the writer's groups of rows, at bit 0
  pub inter-refusal : frame_price_refusal false types ps flag qs ≡ or_else (judge (code_rows types ps flag qs)) (judge (model_rows 0 types ps flag qs))
  unfolding frame_price_refusal
  inter-refusal = refl

  pub inter-count : header_count types ps flag qs ≡ frame_count false types ps flag qs
  unfolding header_count frame_count
  inter-count = refl

  pub key-price-refusal : frame_price_refusal true types ps flag qs ≡ key_refusal 0 types ps flag
  unfolding frame_price_refusal key_refusal
  key-price-refusal = refl

  pub priced : (intra : Bool) → frame_price_refusal intra types ps flag qs ≡ 0 → frame_price intra types ps flag qs ≡ record { refusal = 0; bits = frame_count intra types ps flag qs }
  unfolding frame_price
  priced intra e = answered-accepted not_priced (frame_price_refusal intra types ps flag qs) _ e

  pub not-priced : (intra : Bool) (n : ℕ) → n ≡ frame_price_refusal intra types ps flag qs → (n ≡ 0 → ⊥) → not_priced n ≡ frame_price intra types ps flag qs
  unfolding frame_price
  not-priced intra n e some =
      ap not_priced e ∙ sym (answered-refused not_priced (frame_price_refusal intra types ps flag qs) _ (λ z. some (e ∙ z)))

  -- a key frame takes no bit
  pub key-price : (n : ℕ) → n ≡ frame_price_refusal true types ps flag qs → not_priced n ≡ frame_price true types ps flag qs
  unfolding frame_price frame_count
  key-price n e = ap not_priced e ∙ none (frame_price_refusal true types ps flag qs)
    where
      none : (n : ℕ) → not_priced n ≡ answered not_priced n (not_priced 0)
      none zero = refl
      none (suc n) = rw (ne_eqb (suc n) 0 (λ z. omega arith))

  -- what the writer takes is priced
  key-passes : (start : ℕ) → key_refusal start types ps flag ≡ 0 → frame_price_refusal true types ps flag qs ≡ 0
  unfolding frame_price_refusal key_refusal
  key-passes start e =
      let p = or-else-quiet (judge (key_code_rows types ps flag)) (judge (key_model_rows start types ps flag)) e in
      rw (p.0, (quiet (key_model_rows start types ps flag) tt p.1).1.0)

  inter-passes : (start room : ℕ) → write_refusal start types ps flag qs room ≡ 0 → frame_price_refusal false types ps flag qs ≡ 0
  unfolding frame_price_refusal write_refusal
  inter-passes start room e =
      let p = or-else-quiet (judge (code_rows types ps flag qs)) _ e in
      let m = or-else-quiet (judge (model_rows start types ps flag qs)) (judge (room_rows start types ps flag qs room)) p.1 in
      let q = quiet (model_rows start types ps flag qs) tt m.0 in
      rw (p.0, q.1.0, q.1.1.0)

  passes : (intra : Bool) (start room : ℕ) → frame_refusal intra start types ps flag qs room ≡ 0 → frame_price_refusal intra types ps flag qs ≡ 0
  passes true start room e = key-passes start e
  passes false start room e = inter-passes start room e

  -- where the writer takes a frame, its price is what the writer reports, whatever the start and the bytes
  pub price-written : (intra : Bool) (start : ℕ) (old : List ℕ) → frame_refusal intra start types ps flag qs (length old) ≡ 0
      → frame_price intra types ps flag qs ≡ record { refusal = 0; bits = (frame_written intra start types ps flag qs (length old)).bits }
  price-written intra start old e =
      priced intra (passes intra start (length old) e)
      ∙ ap (λ (w : Written). record { refusal = 0; bits = w.bits }) (sym (bits-counted types ps flag qs start old intra e))
