-- The answers of the calls of a run, and what they leave, by the tests that led to them.
-- Assumes nothing.
use Prim.Native.Nat.{ℕ}
use mathlib.Core.Bool.{Bool, true, false}
use mathlib.Core.List.{List, [], ◌∷◌}
use mathlib.Core.Logic.{⊎_elim}
use mathlib.Core.Path.{◌≡◌, refl, sym, ap, ◌∙◌}
use native.Mathlib.Omega.{arith}
use lib.Dec.{ltb}
use lib.IntN.{ℤ}
use lib.ListN.{length}
use Rattle.laws.specs.Call.{answered}
use Rattle.laws.specs.Refusal.{row, choose, judge, or_else}
use Rattle.laws.proofs.Call.{answered-accepted, answered-refused, left-accepted, left-refused}
use Rattle.laws.proofs.Cases.{eq-or-ne, outcome}
use Rattle.laws.proofs.Refusal.{or-else-refused, or_else_none, quiet, neither}
use Rattle.models.specs.Models.{priors_out}
use Rattle.header.specs.declared.Written.{Written}
use Rattle.header.specs.Writing.{not_written}
use Rattle.header.proofs.Accepted as writing
use Rattle.header_read.specs.declared.Models.{Models}
use Rattle.header_read.specs.Called.{read_refusal}
use Rattle.forms.specs.Forms.{no_form}
use Rattle.frame_header.specs.Frame.{frame_bits, frame_refusal, frame_placed, frame_written, frame_after, frame_models}
use Rattle.frame_header.proofs.Intra.{key-after}
use Rattle.run.specs.declared.Run.{Run}
use Rattle.run_frame.specs.declared.Framed.{Framed}
use Rattle.run.specs.Run.{run_of, codes_wrong, run_refusal}
use Rattle.run_frame.specs.Inner.{reader_rows}
use Rattle.run_frame.specs.Frame.{first_rows, framed_refusal, run_after, not_framed, framed, framed_left, read_on, not_read, read_in}
use Rattle.run_frame.proofs.Accepted.{prior-after, answer-accepted, answer-refused}

-- ---- a frame read

-- a run that isn't refused reads as the plain call does
pub read_plain : (run : Run) (intra : Bool) (header : List ℕ) (at : ℕ) → run_refusal run ≡ 0
    → read_in run intra header at ≡ read_on run (frame_models intra header at run.flag run.prior)
unfolding read_in
read_plain run intra header at e = answered-accepted (not_read run) (run_refusal run) (read_on run (frame_models intra header at run.flag run.prior)) e

-- an inter frame's prior out of range is refused by the plain call
inter-out : (run : Run) (header : List ℕ) (at : ℕ) → length run.prior ≡ 42 → codes_wrong run.flag run.form ≡ false → priors_out run.prior ≡ true
    → read_on run (frame_models false header at run.flag run.prior) ≡ read_in run false header at
unfolding read_in frame_models read_refusal
inter-out run header at long codes out = rw (codes, long, (neither (ltb 1 run.flag) (no_form run.form) codes).0, out)

module _ (run : Run) (header : List ℕ) (at : ℕ) where
  -- what the reader judges ahead is the run's own refusal, where it is one
  reader-stops : (intra : Bool) → (judge (reader_rows run intra) ≡ 0 → ⊥) → judge (reader_rows run intra) ≡ run_refusal run
  reader-stops true h = refl
  reader-stops false h =
      ⊎_elim
      (λ (codes : codes_wrong run.flag run.form ≡ true). rw codes)
      (λ (codes : codes_wrong run.flag run.form ≡ false). absurd (h (rw codes)))
      (outcome (codes_wrong run.flag run.form))

  -- where it is none, the plain call says the rest
  reader-passes : (intra : Bool) → length run.prior ≡ 42 → judge (reader_rows run intra) ≡ 0
      → read_on run (frame_models intra header at run.flag run.prior) ≡ read_in run intra header at
  reader-passes true long e = sym (read_plain run true header at e)
  reader-passes false long e =
      let codes : codes_wrong run.flag run.form ≡ false = (quiet (reader_rows run false) tt e).0 in
      ⊎_elim
      (λ (out : priors_out run.prior ≡ true). inter-out run header at long codes out)
      (λ (out : priors_out run.prior ≡ false). sym (read_plain run false header at (rw (codes, out))))
      (outcome (priors_out run.prior))

  module _ (intra : Bool) where
    pub read-refused : (r : ℕ) → r ≡ judge (reader_rows run intra) → (r ≡ 0 → ⊥) → not_read run r ≡ read_in run intra header at
    unfolding read_in
    read-refused r e h =
        let s : r ≡ run_refusal run = e ∙ reader-stops intra (λ z. h (e ∙ z)) in
        ap (not_read run) s ∙ sym (answered-refused (not_read run) (run_refusal run) _ (λ z. h (s ∙ z)))

    module _ (long : length run.prior ≡ 42) (right : judge (reader_rows run intra) ≡ 0) (m : Models) (e : m ≡ frame_models intra header at run.flag run.prior) where
      pub plain-refused : (m.refusal ≡ 0 → ⊥) → record { models = m; run = run } ≡ read_in run intra header at
      plain-refused h =
          ap (λ (r : Run). record { models = m; run = r }) (sym (left-refused m.refusal (run_of m.params run.flag run.form) run h))
          ∙ ap (read_on run) e
          ∙ reader-passes intra long right

      pub plain-read : m.refusal ≡ 0 → (next : Run) → next ≡ run_of m.params run.flag run.form → record { models = m; run = next } ≡ read_in run intra header at
      plain-read z next n =
          ap (λ (r : Run). record { models = m; run = r }) (n ∙ sym (left-accepted m.refusal (run_of m.params run.flag run.form) run z))
          ∙ ap (read_on run) e
          ∙ reader-passes intra long right

-- ---- a frame written

-- the number in the plain call's answer is its refusal
number-of : (n : ℕ) (w : Written) → w.refusal ≡ 0 → (answered not_written n w).refusal ≡ n
number-of n w e =
    ⊎_elim
    (λ (z : n ≡ 0). ap (λ (a : Written). a.refusal) (answered-accepted not_written n w z) ∙ e ∙ sym z)
    (λ (h : n ≡ 0 → ⊥). ap (λ (a : Written). a.refusal) (answered-refused not_written n w h))
    (eq-or-ne n 0)

plain-number : (intra : Bool) (start : ℕ) (types : List ℕ) (ps : List ℤ) (flag : ℕ) (qs : List ℤ) (room : ℕ)
    → (frame_written intra start types ps flag qs room).refusal ≡ frame_refusal intra start types ps flag qs room
unfolding frame_written
plain-number intra start types ps flag qs room =
    number-of (frame_refusal intra start types ps flag qs room) (record { refusal = 0; bits = length (frame_bits intra types ps flag qs) }) refl

-- where a prior is out of range, an accepted frame is a key frame, and touches no byte
untouched : (intra : Bool) (start : ℕ) (types : List ℕ) (ps : List ℤ) (flag : ℕ) (qs : List ℤ) (header : List ℕ)
    → frame_refusal intra start types ps flag qs (length header) ≡ 0 → priors_out qs ≡ true → frame_after intra start types ps flag qs header ≡ header
untouched true start types ps flag qs header e o = key-after types ps flag qs start header
untouched false start types ps flag qs header e o =
    let within : priors_out qs ≡ false = (writing.accepted types ps flag qs start (length header) e).writable.within in
    absurd (differ (sym within ∙ o))
  where
    differ : false ≡ true → ⊥
    differ p = let z : ◌≡◌ {A = ℕ} 0 1 = cc in omega arith

module _ (run : Run) (intra : Bool) (types : List ℕ) (ps : List ℤ) (start : ℕ) (header : List ℕ) where
  abbrev refusal : ℕ
  refusal = framed_refusal run intra types ps start (length header)

  abbrev plain : ℕ
  plain = frame_refusal intra start types ps run.flag run.prior (length header)

  abbrev last : ℕ
  last = judge (row 8 (priors_out run.prior) ∷ [])

  -- the bytes after an answer, and it
  pub record Framing (answer : Framed) (after : List ℕ) : Type 0 where
    pub answers : answer ≡ framed run intra types ps start (length header)
    pub leaves : after ≡ framed_left run intra types ps start header

  refused-by : (r : ℕ) → r ≡ refusal → (r ≡ 0 → ⊥) → (after : List ℕ) → after ≡ header → Framing (not_framed run r) after
  unfolding framed_left
  refused-by r e h after b =
      let some : refusal ≡ 0 → ⊥ = λ z. h (e ∙ z) in
      record {
        answers = ap (not_framed run) e ∙ sym (answer-refused run intra types ps start (length header) some);
        leaves = b ∙ sym (left-refused refusal (frame_placed intra start (frame_bits intra types ps run.flag run.prior) header) header some);
      }

  pub first-refused : (r : ℕ) → r ≡ judge (first_rows run (length types) (length ps)) → (r ≡ 0 → ⊥) → Framing (not_framed run r) header
  unfolding framed_refusal
  first-refused r e h = refused-by r (e ∙ or-else-refused (judge (first_rows run (length types) (length ps))) (or_else plain last) (λ z. h (e ∙ z))) h header refl

  module _ (first : judge (first_rows run (length types) (length ps)) ≡ 0) (w : Written) (after : List ℕ)
      (answer : w ≡ frame_written intra start types ps run.flag run.prior (length header)) (bytes : after ≡ frame_after intra start types ps run.flag run.prior header) where
    later : refusal ≡ or_else plain last
    unfolding framed_refusal
    later = sym (or_else_none (judge (first_rows run (length types) (length ps))) (or_else plain last) first)

    number : w.refusal ≡ plain
    number = ap (λ (a : Written). a.refusal) answer ∙ plain-number intra start types ps run.flag run.prior (length header)

    pub plain-refuses : (r : ℕ) → r ≡ w.refusal → (r ≡ 0 → ⊥) → Framing (not_framed run r) after
    unfolding frame_after
    plain-refuses r e h =
        let some : plain ≡ 0 → ⊥ = λ z. h (e ∙ number ∙ z) in
        refused-by r (e ∙ number ∙ or-else-refused plain last some ∙ sym later) h after
        (bytes ∙ left-refused plain (frame_placed intra start (frame_bits intra types ps run.flag run.prior) header) header some)

    module _ (accepts : w.refusal ≡ 0) where
      none : plain ≡ 0
      none = sym number ∙ accepts

      pub prior-refuses : priors_out run.prior ≡ true → Framing (not_framed run 8) after
      prior-refuses o =
          let eight : 8 ≡ refusal = ap (λ (b : Bool). choose b 8 0) (sym o) ∙ or_else_none plain last none ∙ sym later in
          refused-by 8 eight (λ z. omega arith) after (bytes ∙ untouched intra start types ps run.flag run.prior header none o)

      pub frame-accepted : priors_out run.prior ≡ false → (next : Run) → next ≡ run_of ps run.flag run.form → Framing (record { written = w; run = next }) after
      unfolding framed_left frame_after frame_written
      frame-accepted o next n =
          let done : List ℕ = frame_placed intra start (frame_bits intra types ps run.flag run.prior) header in
          let accepted : refusal ≡ 0 = later ∙ sym (or_else_none plain last none) ∙ ap (λ (b : Bool). choose b 8 0) o in
          let written : w ≡ record { refusal = 0; bits = length (frame_bits intra types ps run.flag run.prior) } =
          answer ∙ answered-accepted not_written plain (record { refusal = 0; bits = length (frame_bits intra types ps run.flag run.prior) }) none in
          let run-after : next ≡ run_after run intra ps =
          n ∙ ap (λ (p : List ℤ). run_of p run.flag run.form) (sym (prior-after intra start types ps run.flag run.prior (length header) none)) in
          record {
            answers = rw (written, run-after) (sym (answer-accepted run intra types ps start (length header) accepted));
            leaves = bytes ∙ left-accepted plain done header none ∙ sym (left-accepted refusal done header accepted);
          }
