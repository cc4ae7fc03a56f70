-- `quantize::quantized_slot`: the grid accepts the slot, and its answer is read back from its bits.
-- Assumes nothing.
use Rattle.grid.specs.declared.Quantized.{Quantized}
use Rattle.quantize.proofs.Slots.{accepted-answer}
use native.Mathlib.Omega.{arith}
use mathlib.Core.Path.{ap, ◌∙◌}
use mir.Syntax.{w32}
use Rattle.laws.proofs.Signed.{result-reads}
use Rattle.quantize.proofs.quantized_slot.Goals as goal

pub returns : goal.returns
returns c = let z = c.grid_number in
    rw (result-reads w32 c.quantize_global_param-q.result.value (omega arith), ← z.ensures)
    (ap (λ (q : Quantized). q.value) (rw (result-reads w32 z.result z.type_inv) at c.quantize_global_param-q.ensures)
    ∙ accepted-answer c.args.gm_type c.args.flag c.args.slot z.result c.requires.0 c.requires.1 c.requires.2)
