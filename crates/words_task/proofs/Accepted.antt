-- What an answer of 0 says of a job from its words on: all that its model and what it writes rest on.
-- Assumes nothing.
use Prim.Native.Nat.{ℕ, ◌*◌, ◌^◌, ◌<◌}
use mathlib.Core.Bool.{Bool, true, false, not}
use mathlib.Core.List.{List}
use mathlib.Core.Path.{◌≡◌, refl}
use borrow.Author.Tests.{ltb-false, not-false}
use lib.Dec.{ltb}
use lib.ListN.{length, get_or}
use Rattle.laws.specs.Refusal.{judge, both}
use Rattle.laws.proofs.Refusal.{neither, quiet, or-else-quiet}
use Rattle.sample.specs.Storable.{storable}
use Rattle.class.specs.Class.{all_bare}
use Rattle.layout.specs.Form.{block_bytes, blocks_of}
use Rattle.forms.specs.Forms.{codec_of}
use Rattle.frame_number.specs.Shutter.{closed_refusal}
use Rattle.frame_number.proofs.InUse.{in_use}
use Rattle.job_task.specs.Task.{Sheet}
use Rattle.job_task.specs.Rows.{header_bytes, code_rows}
use Rattle.job_task.proofs.Ready.{Writes}
use Rattle.job_task.proofs.Accepted.{codes}
use Rattle.words_task.specs.Rows.{list_rows, handed_rows, word_rows, room_rows, refusal_of_words, early}
use Rattle.words_task.proofs.Lengths.{lengths}

both_true : (a b : Bool) → both a b ≡ true → (a ≡ true) × (b ≡ true)
both_true true b e = (refl, e)
both_true false b e = (e, cc)

-- words that are there are words of 32 bits
pub ready : (j : Sheet) (blocks header : List ℕ) → ((i : ℕ) → get_or j.words i 0 < 2 ^ 32) → early j (length blocks) (length header) ≡ 0 → Writes j blocks header
unfolding refusal_of_words
ready j blocks header fit e =
    let s = j.settings in
    let lists = list_rows (length j.words) (length j.classes) (length j.types) (length j.models) (length j.prior) in
    let handed = handed_rows s.flag j.types j.models j.prior in
    let words = word_rows j.form j.words j.classes in
    let room = room_rows s j.form (length j.words) j.classes (length blocks) (length header) in
    let p = or-else-quiet (judge lists) _ e in
    let q = or-else-quiet (judge (code_rows s j.form j.classes j.types)) _ p.1 in
    let r = or-else-quiet (judge handed) _ q.1 in
    let t = or-else-quiet (judge words) _ r.1 in
    let u = or-else-quiet (judge room) (closed_refusal s.frame) t.1 in
    let n = lengths (length j.words) (length j.classes) (length j.types) (length j.models) (length j.prior) p.0 in
    let c = codes s j.form j.classes j.types q.0 in
    let m = quiet handed tt r.0 in
    let w = quiet words tt t.0 in
    let o = quiet room tt u.0 in
    let stored = both_true (storable j.words) (all_bare j.words) (not-false (both (storable j.words) (all_bare j.words)) w.0) in
    let three = neither (ltb (length blocks) (block_bytes * blocks_of (codec_of j.form).form (length j.words))) (ltb (length header) header_bytes) o.0 in
    record {
      sound = record {
        few = n.few;
        in_order = stored.0;
        bare = stored.1;
        fit = fit;
        class_count = n.classed;
        classed = c.classed;
        formed = c.formed;
        held = w.1.0;
        six = n.six;
        numbers = n.numbers;
        places = n.places;
        range = c.range;
        known = c.known;
        right = m.0;
        within = m.1.0;
        enough = o.1.0;
        used = in_use s.frame u.1;
      };
      blocks_room = ltb-false (length blocks) (block_bytes * blocks_of (codec_of j.form).form (length j.words)) three.0;
      header_room = ltb-false (length header) header_bytes three.1;
    }
