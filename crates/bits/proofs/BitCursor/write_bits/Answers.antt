-- `bits::BitCursor::write_bits`: a field that begins with a byte is put as it is; one in the middle of a byte is put together with the byte's bits
-- before it, which are put where they are. Assumes nothing.
use Prim.Native.Nat.{ℕ, ◌+◌, ◌*◌, ◌/◌, ◌%◌}
use mathlib.Core.Path.{◌≡◌, ap, ◌∙◌}
use native.Mathlib.Omega.{arith}
use Rattle.bits.specs.Bits.{put_bits}
use Rattle.bits.specs.Fields.{field_bits}
use Rattle.bits.proofs.Fields.{length-field_bits}
use Rattle.bits.proofs.Words.{put-joined}
use Rattle.bits.proofs.BitCursor.write_bits.Goals as goal
use Rattle.bits.proofs.BitCursor.write_bits.Goals.{then-used-n-le-BYTE, else-used-n-le-BYTE+then-used-eq0, else-used-n-le-BYTE+else-used-eq0}

pub returns : goal.returns
returns c = let a = c.args in
    let place : 8 * (a.self.at / 8) + a.self.at % 8 ≡ a.self.at = omega arith in
    let put = λ (j : ℕ). put_bits a.buffer.now j (field_bits a.n a.value) in
    record {
      at = omega (arith, length-field_bits a.n a.value);
      buffer =
          elim c.if-used-n-le-BYTE.branch [
            | then-used-n-le-BYTE w ↦ w.buffer-is ∙ w.store_inside.ensures ∙ ap put place
            | else-used-n-le-BYTE+then-used-eq0 w ↦
                let whole : 8 * (a.self.at / 8) ≡ a.self.at = omega arith in
                w.buffer-is ∙ w.store_word.ensures ∙ ap put whole
            | else-used-n-le-BYTE+else-used-eq0 w ↦
                w.buffer-is ∙ w.store_word-else-used-eq0.ensures
                ∙ ap (λ (x : ℕ). put_bits a.buffer.now (8 * (a.self.at / 8)) (field_bits (a.self.at % 8 + a.n) x)) w.joined-word.ensures
                ∙ put-joined a.buffer.now (a.self.at / 8) (a.self.at % 8) a.n a.value (omega arith) (omega arith)
                ∙ ap put place
          ];
    }
