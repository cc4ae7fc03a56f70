-- The job's own blocks, read back: the frame, every block alone, each word and each class; what is read is what was stored.
-- Assumes nothing.
use Prim.Native.Nat.{ℕ, ◌*◌, ◌≤◌, ◌<◌}
use mathlib.Core.Bool.{false}
use mathlib.Core.List.{List, [], ◌∷◌, append-nil}
use mathlib.Core.Logic.{⊎_elim}
use mathlib.Core.Path.{◌≡◌, refl, sym, ap, ◌∙◌}
use native.Mathlib.Omega.{arith}
use borrow.Author.Tests.{ltb-false, eqb-false, ne_eqb}
use lib.Dec.{ltb, eqb}
use lib.ListN.{length, drop}
use Rattle.laws.specs.Buffer.{onto}
use Rattle.laws.specs.Refusal.{choose}
use Rattle.laws.proofs.Buffer.{onto-front}
use Rattle.laws.proofs.Cases.{eq-or-ne}
use Rattle.laws.proofs.Refusal.{neither}
use Rattle.sample.specs.Word.{most_samples}
use Rattle.class.specs.Class.{Classed, words_in, classes_in}
use Rattle.class.proofs.Samples as class
use Rattle.layout.specs.Codec.{Codec}
use Rattle.layout.specs.Form.{block_bytes, blocks_of, count_at}
use Rattle.layout.proofs.Fitting.{Words}
use Rattle.layout.proofs.Cut.{ordinal-of-start}
use Rattle.forms.specs.declared.BlockRead.{BlockRead}
use Rattle.forms.specs.Forms.{codec_of, no_form, form_in, read_alone}
use Rattle.forms.proofs.Lawful.{first, second, lawful, number_is}
use Rattle.block.specs.Frame.{frame_bytes, samples_in}
use Rattle.block.proofs.RoundTrip.{frame-length}
use Rattle.frame_store.specs.InForm.{store_refusal_in}
use Rattle.frame_store.proofs.Rows.{storing}
use Rattle.frame_read.specs.Read.{codec_in, read_both, bare_words_left, classes_left}
use Rattle.frame_read.proofs.Stored.{carried}
use Rattle.frame_read.proofs.RoundTrip.{reads_in, read-stored-in, words-stored-in, classes-stored-in}
use Rattle.job_task.specs.Task.{Sheet}
use Rattle.job_task.proofs.Ready.{Sound}
use Rattle.job_outcome.specs.Words.{Finished, samples, classed_words}
use Rattle.job_outcome.specs.Demand3.{block_form, own_blocks, samples_read, words_read, classes_read, BlocksRead}
use Rattle.job_outcome.proofs.Alone.{form-back, alone-read}

-- a form is known by its number
number-held : (form : ℕ) → no_form form ≡ false → (codec_of form).form.number ≡ form
number-held form f =
    let q = neither (eqb form 0) (ltb 2 form) f in
    let some : form ≡ 0 → ⊥ = eqb-false form 0 q.0 in
    let last : form ≤ 2 = ltb-false 2 form q.1 in
    ⊎_elim (λ (e : form ≡ 1). ap (λ (k : Codec). k.form.number) (first form e) ∙ sym e)
    (λ (n : form ≡ 1 → ⊥). ap (λ (k : Codec). k.form.number) (second form n) ∙ (let two : ◌≡◌ {A = ℕ} 2 form = omega (arith, some, last, n) in two))
    (eq-or-ne form 1)

carried-is : (frame : ℕ) (xs : List Classed) → carried frame xs ≡ choose (eqb (length xs) 0) 0 frame
carried-is frame [] = refl
carried-is frame (x ∷ xs) = rw (ne_eqb (length (x ∷ xs)) 0 (omega arith))

module _ (j : Sheet) (s : Sound j) where
  class_each : length j.classes ≡ length j.words
  class_each = s.class_count

  words-in : words_in (classed_words j) ≡ j.words
  words-in = class.words_of j.words j.classes class_each

  classes-in : classes_in (classed_words j) ≡ j.classes
  classes-in = class.classes-of j.words j.classes class_each

  samples-count : length (classed_words j) ≡ samples j
  samples-count = class.classed-length j.words j.classes class_each

  few : length (classed_words j) ≤ most_samples
  few = rw (class.classed-length j.words j.classes class_each) s.few

  sound : class.Sound (codec_of j.form).last 0 (classed_words j)
  sound = record { in_order = rw words-in s.in_order; bare = rw words-in s.bare; held = rw classes-in s.held }

  fit : Words j.words
  fit = record { fit = s.fit }

  -- storing them is never refused
  module _ (room : ℕ) (enough : block_bytes * blocks_of (block_form j) (samples j) ≤ room) where
    pub stored : store_refusal_in j.form j.settings.frame j.words j.classes room ≡ 0
    stored =
        storing j.form j.settings.frame j.words j.classes room
        (record {
          few_enough = s.few;
          class_each = class_each;
          known = s.classed;
          in_order = s.in_order;
          bare = s.bare;
          held = s.held;
          room_enough = enough;
          used = s.used;
        })

module _ (j : Sheet) (s : Sound j) (o : Finished) (old : List ℕ) (enough : block_bytes * blocks_of (block_form j) (samples j) ≤ length old)
    (left : o.blocks ≡ onto (frame_bytes (codec_of j.form) j.settings.frame (classed_words j)) old) (count : o.report.samples ≡ samples j) where
  accepted : store_refusal_in j.form j.settings.frame j.words j.classes (length old) ≡ 0
  accepted = stored j s (length old) enough

  bytes-are : own_blocks j o ≡ frame_bytes (codec_of j.form) j.settings.frame (classed_words j)
  bytes-are =
      let all = frame_bytes (codec_of j.form) j.settings.frame (classed_words j) in
      let n : length all ≡ block_bytes * blocks_of (block_form j) (samples j) =
      frame-length (codec_of j.form) (lawful j.form) j.settings.frame (classed_words j) ∙ ap (λ (n : ℕ). block_bytes * blocks_of (block_form j) n) (samples-count j s) in
      rw (left, ← n) (onto-front all old)

  read : (room class_room : ℕ) → samples j ≤ room → samples j ≤ class_room
      → read_both (own_blocks j o) room class_room ≡ record { refusal = 0; frame = choose (eqb (samples j) 0) 0 j.settings.frame; samples = samples j }
  read room class_room w c =
      let f = j.settings.frame in
      let frame_is : carried f (classed_words j) ≡ choose (eqb (samples j) 0) 0 f = carried-is f (classed_words j) ∙ ap (λ (n : ℕ). choose (eqb n 0) 0 f) (samples-count j s) in
      ap (λ (b : List ℕ). read_both b room class_room) bytes-are
      ∙ (read-stored-in j.form f j.words j.classes (length old) accepted (fit j s) room class_room w c ∙ rw frame_is)

  samples-same : samples_read j o ≡ classed_words j
  samples-same =
      ap (λ (b : List ℕ). samples_in (codec_in b) b) bytes-are
      ∙ (reads_in j.form j.settings.frame j.words j.classes (length old) accepted (fit j s)).samples_is

  same : words_read j o ≡ j.words
  same = ap words_in samples-same ∙ words-in j s

  same_classes : classes_read j o ≡ j.classes
  same_classes = ap classes_in samples-same ∙ classes-in j s

  every : (k : ℕ) → k < blocks_of (block_form j) (samples j)
      → read_alone (drop (block_bytes * k) (own_blocks j o)) ≡ record { refusal = 0; frame = j.settings.frame; ordinal = k; count = count_at (block_form j) (samples j) k }
  every k l =
      let n = samples-count j s in
      let below : k < blocks_of (block_form j) (length (classed_words j)) = rw n l in
      let counted : ℕ → BlockRead = λ m. record { refusal = 0; frame = j.settings.frame; ordinal = k; count = count_at (block_form j) m k } in
      ap (λ (b : List ℕ). read_alone (drop (block_bytes * k) b)) (bytes-are ∙ sym (append-nil (frame_bytes (codec_of j.form) j.settings.frame (classed_words j))))
      ∙ (alone-read (codec_of j.form) (lawful j.form) (number_is j.form) j.settings.frame (classed_words j) [] (few j s) (sound j s) (rw (words-in j s) (fit j s)) k below ∙ ap counted n)

  -- a frame that has samples has a first block
  held : 1 ≤ samples j → form_in (own_blocks j o) ≡ j.form
  held some =
      let bytes = frame_bytes (codec_of j.form) j.settings.frame (classed_words j) in
      let first-begins : (block_form j).capacity * 0 < length (classed_words j) = omega (arith, samples-count j s, some) in
      let below : 0 < blocks_of (block_form j) (length (classed_words j)) = ordinal-of-start (block_form j) (lawful j.form).fits.some_samples (length (classed_words j)) 0 first-begins in
      ap form_in (bytes-are ∙ sym (append-nil bytes))
      ∙ (form-back (codec_of j.form) (lawful j.form) (number_is j.form) j.settings.frame (classed_words j) [] (few j s) (sound j s) (rw (words-in j s) (fit j s)) 0 below
      ∙ number-held j.form s.formed)

  kept : (buffer classes : List ℕ) → samples j ≤ length buffer → samples j ≤ length classes
      → bare_words_left (own_blocks j o) buffer (length classes) ≡ onto (words_read j o) buffer
  kept buffer classes w c =
      ap (λ (b : List ℕ). bare_words_left b buffer (length classes)) bytes-are
      ∙ (words-stored-in j.form j.settings.frame j.words j.classes (length old) accepted (fit j s) buffer (length classes) w c
      ∙ ap (λ (ws : List ℕ). onto ws buffer) (sym same))

  kept-classes : (buffer classes : List ℕ) → samples j ≤ length buffer → samples j ≤ length classes
      → classes_left (own_blocks j o) (length buffer) classes ≡ onto (classes_read j o) classes
  kept-classes buffer classes w c =
      ap (λ (b : List ℕ). classes_left b (length buffer) classes) bytes-are
      ∙ (classes-stored-in j.form j.settings.frame j.words j.classes (length old) accepted (fit j s) (length buffer) classes w c
      ∙ ap (λ (cs : List ℕ). onto cs classes) (sym same_classes))

  pub blocks-read : BlocksRead j o
  blocks-read =
      record {
        used = s.used;
        held = held;
        frame = read;
        every_block = every;
        same = same;
        same_classes = same_classes;
        left = kept;
        left_classes = kept-classes;
        reported = count;
      }
