-- A frame's samples stored in a run, in the form that it holds; nothing in the run moves. docs/RULES.md, 'A run of frames', 'When a call says no'.
-- Assumes nothing.
use Rattle.std.specs.Prelude.{ℕ, List, length}
use Rattle.laws.specs.Buffer.{onto}
use Rattle.laws.specs.Call.{answered, left}
use Rattle.laws.specs.Refusal.{or_else}
use Rattle.class.specs.Class.{classed}
use Rattle.layout.specs.Form.{blocks_of}
use Rattle.forms.specs.Forms.{codec_of}
use Rattle.block.specs.declared.Stored.{Stored}
use Rattle.block.specs.Frame.{frame_bytes, not_stored}
use Rattle.frame_store.specs.Store.{list_refusal}
use Rattle.frame_store.specs.InForm.{store_refusal_in}
use Rattle.run.specs.declared.Run.{Run}
use Rattle.run.specs.Run.{run_refusal}

-- rows 1, 2 and 4 of the lists, then 4 and 8 of the run, then 12, 13, 3 and 17; the lists' rows, judged again in the last group, are quiet there
unfoldable pub store_in_run_refusal : Run → ℕ → List ℕ → List ℕ → ℕ → ℕ
store_in_run_refusal run frame ws cs room = or_else (list_refusal ws cs) (or_else (run_refusal run) (store_refusal_in run.form frame ws cs room))

-- the answer of a call that stores a frame in a run, and the blocks it leaves
abbrev pub stored_in_run : Run → ℕ → List ℕ → List ℕ → ℕ → Stored
stored_in_run run frame ws cs room =
    answered not_stored (store_in_run_refusal run frame ws cs room) (record { refusal = 0; blocks = blocks_of (codec_of run.form).form (length ws) })

abbrev pub stored_in_run_left : Run → ℕ → List ℕ → List ℕ → List ℕ → List ℕ
stored_in_run_left run frame ws cs old =
    left (store_in_run_refusal run frame ws cs (length old)) (onto (frame_bytes (codec_of run.form) frame (classed ws cs)) old) old
