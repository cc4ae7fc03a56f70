-- What an answer of 0 says of a job: each group of rows is quiet, and a quiet row is a fact.
-- Assumes nothing.
use Prim.Native.Nat.{ℕ, ◌*◌, ◌≤◌}
use mathlib.Core.Bool.{Bool, false, not}
use mathlib.Core.List.{List}
use mathlib.Core.Path.{◌≡◌, sym, ap, ◌∙◌}
use native.Mathlib.Omega.{arith}
use borrow.Author.Tests.{ltb-false, eqb-false}
use lib.Dec.{ltb, eqb}
use lib.IntN.{ℤ}
use lib.ListN.{length}
use Rattle.laws.specs.Refusal.{judge, choose}
use Rattle.laws.proofs.Refusal.{neither, length-is, quiet, or-else-quiet}
use Rattle.plane.specs.Inner.{Small}
use Rattle.class.specs.Class.{last_class, class_over}
use Rattle.class_set.specs.Set.{all_classes, names_over}
use Rattle.search.specs.Search.{sample_count}
use Rattle.search.specs.Refusal as search
use Rattle.search.proofs.Rows as search-rows
use Rattle.search.proofs.Words.{sample_words-length, sample_count-le-4096, sample_words-storable, sample_words-bare, sample_words-fit}
use Rattle.fit.specs.Fitted.{no_type}
use Rattle.models.specs.Models.{types_over}
use Rattle.layout.specs.Form.{block_bytes, blocks_of}
use Rattle.forms.specs.Forms.{codec_of, no_form}
use Rattle.frame_number.specs.Shutter.{closed_refusal}
use Rattle.frame_number.proofs.InUse.{in_use}
use Rattle.job_task.specs.declared.Settings.{Settings}
use Rattle.job_task.specs.declared.Sizes.{Sizes}
use Rattle.job_task.specs.Task.{Task, Lent, sheet_of, sizes_of, search_task, search_lent}
use Rattle.job_task.specs.Rows.{other_types, other_numbers, prior_numbers, header_bytes, elects, unless_elects, size_rows, code_rows, model_rows, room_rows, refusal_before, early}
use Rattle.job_task.specs.Inner.{InRange}
use Rattle.job_task.proofs.Ready.{Sound, Ready}

-- ---- the groups

module _ (z : Sizes) (s : Settings) (form : ℕ) (classes types : List ℕ) (models prior : List ℤ) where
  pub record AllQuiet : Type 0 where
    pub sizes : judge (size_rows z (length classes) (length types) (length models) (length prior)) ≡ 0
    pub codes : judge (code_rows s form classes types) ≡ 0
    pub handed : judge (model_rows s form classes types models prior) ≡ 0
    pub room : judge (room_rows z s form classes) ≡ 0
    pub shutter : closed_refusal s.frame ≡ 0

  pub all_quiet : refusal_before z s form classes types models prior ≡ 0 → AllQuiet
  unfolding refusal_before
  all_quiet e =
      let a = or-else-quiet (judge (size_rows z (length classes) (length types) (length models) (length prior))) _ e in
      let b = or-else-quiet (judge (code_rows s form classes types)) _ a.1 in
      let c = or-else-quiet (judge (model_rows s form classes types models prior)) _ b.1 in
      let d = or-else-quiet (judge (room_rows z s form classes)) (closed_refusal s.frame) c.1 in
      record { sizes = a.0; codes = b.0; handed = c.0; room = d.0; shutter = d.1 }

  pub quiet_all : AllQuiet → refusal_before z s form classes types models prior ≡ 0
  unfolding refusal_before
  quiet_all q = rw (q.sizes, q.codes, q.handed, q.room) q.shutter

-- ---- rows 1 and 2

pub record Lengths (z : Sizes) (classes types models prior : ℕ) : Type 0 where
  pub sides : Small z.width z.height
  pub large : search.too_large z.width z.height ≡ false
  pub planes : search.wrong_length z.width z.height z.input z.reference classes ≡ false
  pub classed : classes ≡ sample_count z.width z.height
  pub six : types ≡ other_types
  pub numbers : models ≡ other_numbers
  pub places : prior ≡ prior_numbers

pub lengths : (z : Sizes) (classes types models prior : ℕ) → judge (size_rows z classes types models prior) ≡ 0 → Lengths z classes types models prior
lengths z classes types models prior e =
    let q = quiet (size_rows z classes types models prior) tt e in
    let two = neither (search.wrong_length z.width z.height z.input z.reference classes) _ q.1.0 in
    let t = neither (not (eqb types other_types)) _ two.1 in
    let m = neither (not (eqb models other_numbers)) (not (eqb prior prior_numbers)) t.1 in
    let planes = neither (not (eqb z.reference _)) _ (neither (not (eqb z.input _)) _ two.0).1 in
    record {
      sides = search-rows.small z.width z.height q.0;
      large = q.0;
      planes = two.0;
      classed = length-is classes (sample_count z.width z.height) planes.1;
      six = length-is types other_types t.0;
      numbers = length-is models other_numbers m.0;
      places = length-is prior prior_numbers m.1;
    }

-- ---- rows 4, 19, 5 and 14

pub record Codes (s : Settings) (form : ℕ) (classes types : List ℕ) : Type 0 where
  pub classed : class_over last_class classes ≡ false
  pub known : types_over types ≡ false
  pub formed : no_form form ≡ false
  pub range : InRange s

-- of a job that doesn't elect
unless-elects : (s : Settings) (b : Bool) → elects s ≡ false → unless_elects s b ≡ b
unless-elects s b a = ap (λ (e : Bool). choose e false b) a

record Asked (s : Settings) : Type 0 where
  some : 1 ≤ s.gm_type
  last : s.gm_type ≤ 3

asked : (s : Settings) → elects s ≡ false → unless_elects s (no_type s.gm_type) ≡ false → Asked s
asked s a e =
    let q = neither (eqb s.gm_type 0) (ltb 3 s.gm_type) (sym (unless-elects s (no_type s.gm_type) a) ∙ e) in
    let some : s.gm_type ≡ 0 → ⊥ = eqb-false s.gm_type 0 q.0 in
    record { some = omega arith; last = ltb-false 3 s.gm_type q.1 }

pub codes : (s : Settings) (form : ℕ) (classes types : List ℕ) → judge (code_rows s form classes types) ≡ 0 → Codes s form classes types
codes s form classes types e =
    let q = quiet (code_rows s form classes types) tt e in
    let four = neither (class_over last_class classes) _ q.0 in
    let kind = neither (unless_elects s (no_type s.gm_type)) _ four.1 in
    let over = neither (types_over types) _ kind.1 in
    let flags = neither (ltb 1 s.flag) _ over.1 in
    let trims = neither (unless_elects s (ltb 1 s.trim)) _ flags.1 in
    let elect = neither (ltb 1 s.elect) _ trims.1 in
    let last = neither (names_over s.set) (no_form form) elect.1 in
    let some : s.set ≡ 0 → ⊥ = eqb-false s.set 0 q.1.0 in
    let five = neither (eqb s.reference 0) (ltb 7 s.reference) q.1.1.0 in
    let one : s.reference ≡ 0 → ⊥ = eqb-false s.reference 0 five.0 in
    record {
      classed = four.0;
      known = over.0;
      formed = last.1;
      range = record {
        some-type = λ a. (asked s a kind.0).some;
        last_type = λ a. (asked s a kind.0).last;
        some_reference = omega arith;
        last_reference = ltb-false 7 s.reference five.1;
        flagged = ltb-false 1 s.flag flags.0;
        trimming = λ a. ltb-false 1 s.trim (sym (unless-elects s (ltb 1 s.trim) a) ∙ trims.0);
        electing = ltb-false 1 s.elect elect.0;
        some_class = omega arith;
        last-class = ltb-false all_classes s.set last.0;
        low = omega (arith, ltb-false 7 s.start q.1.1.1.0);
      };
    }

-- ---- the search of a job whose rows are quiet is accepted

search-accepts : (t : search.Task) (l : search.Lent) → search.too_large t.width t.height ≡ false
    → search.wrong_length t.width t.height (length t.input) (length t.ref) (length t.classes) ≡ false
    → class_over last_class t.classes ≡ false
    → search.too_short t.width t.height (length l.input_half) (length l.ref_half) (length l.words) ≡ false
    → search.refusal t l ≡ 0
unfolding search.verdict
search-accepts t l a b c d = rw (a, b, c, d)

module _ (j : Task) (l : Lent) where
  pub ready : early j l ≡ 0 → Ready j l
  ready e =
      let z : Sizes = sizes_of j l in
      let q = all_quiet z j.settings j.form j.classes j.types j.models j.prior e in
      let n = lengths z (length j.classes) (length j.types) (length j.models) (length j.prior) q.sizes in
      let c = codes j.settings j.form j.classes j.types q.codes in
      let m = quiet (model_rows j.settings j.form j.classes j.types j.models j.prior) tt q.handed in
      let needed : ℕ = block_bytes * blocks_of (codec_of j.form).form (sample_count j.width j.height) in
      let last = quiet (room_rows z j.settings j.form j.classes) tt q.room in
      let three = neither (search.too_short j.width j.height (length l.input_half) (length l.ref_half) (length l.words)) _ last.0 in
      let room = neither (ltb (length l.blocks) needed) (ltb (length l.header) header_bytes) three.1 in
      let found : search.refusal (search_task j) (search_lent l) ≡ 0 = search-accepts (search_task j) (search_lent l) n.large n.planes c.classed three.0 in
      let counted = sample_words-length j.input j.reference j.width j.height in
      let sound : Sound (sheet_of j) =
      record {
        few = rw counted (sample_count-le-4096 j.width j.height n.sides.narrow n.sides.low);
        in_order = sample_words-storable j.input j.reference j.width j.height n.sides.narrow n.sides.low;
        bare = sample_words-bare j.input j.reference j.width j.height n.sides.narrow n.sides.low;
        fit = sample_words-fit j.input j.reference j.width j.height n.sides.narrow n.sides.low;
        class_count = n.classed ∙ sym counted;
        classed = c.classed;
        formed = c.formed;
        held = m.1.1.0;
        six = n.six;
        numbers = n.numbers;
        places = n.places;
        range = c.range;
        known = c.known;
        right = m.0;
        within = m.1.0;
        enough = last.1.0;
        used = in_use j.settings.frame q.shutter;
      } in
      record {
        small = n.sides;
        searched = found;
        writes = record {
          sound = sound;
          blocks_room = rw counted (ltb-false (length l.blocks) needed room.0);
          header_room = ltb-false (length l.header) header_bytes room.1;
        };
      }
