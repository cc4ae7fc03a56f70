-- Each block of a written frame, in any form that is known by its number, judged without its neighbours.
-- Assumes nothing.
use Prim.Native.Nat.{ℕ, ◌*◌, ◌<◌, ◌≤◌}
use mathlib.Core.List.{List, ◌++◌}
use mathlib.Core.Path.{◌≡◌, ap, ◌∙◌}
use lib.ListN.{length, drop}
use Rattle.sample.specs.Word.{most_samples}
use Rattle.class.specs.Class.{Classed, words_in}
use Rattle.class.proofs.Samples.{Sound}
use Rattle.layout.specs.Form.{block_bytes, blocks_of, count_at}
use Rattle.layout.specs.Codec.{Codec, content_right}
use Rattle.layout.specs.Layout.{form_of, frame_of, total_of, ordinal_of}
use Rattle.layout.proofs.Fitting.{Words}
use Rattle.layout.proofs.Judged.{sound}
use Rattle.layout.proofs.Lawful.{Lawful}
use Rattle.forms.specs.Forms.{codec_of, form_in, read_alone}
use Rattle.block.specs.Frame.{frame_bytes, block_at}
use Rattle.block.proofs.RoundTrip.{alone-accepted, alone-fields}

module _ (k : Codec) (lawful : Lawful k) (own : codec_of k.form.number ≡ k) (frame : ℕ) (xs : List Classed) (after : List ℕ)
    (few : length xs ≤ most_samples) (storable : Sound k.last 0 xs) (words : Words (words_in xs)) where
  -- each says the form's number
  pub form-back : (o : ℕ) → o < blocks_of k.form (length xs) → form_of (block_at (frame_bytes k frame xs ++ after) o) ≡ k.form.number
  form-back o l =
      let b = block_at (frame_bytes k frame xs ++ after) o in
      (sound k.form (content_right k 0) (frame_of b) (total_of b) (ordinal_of b) (drop (block_bytes * o) (frame_bytes k frame xs ++ after))
      (alone-accepted k lawful frame xs after few storable words o l)).head.form_is

  pub alone-read : (o : ℕ) → o < blocks_of k.form (length xs)
      → read_alone (drop (block_bytes * o) (frame_bytes k frame xs ++ after)) ≡ record { refusal = 0; frame = frame; ordinal = o; count = count_at k.form (length xs) o }
  alone-read o l =
      let codec-is : codec_of (form_in (drop (block_bytes * o) (frame_bytes k frame xs ++ after))) ≡ k = ap codec_of (form-back o l) ∙ own in
      let f = alone-fields k lawful frame xs after few storable words o l in
      rw (codec-is, alone-accepted k lawful frame xs after few storable words o l, f.0, f.2, f.3)
