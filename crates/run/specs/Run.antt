-- A run of frames: the prior, the flag and the form that it holds, its start, and a switch between two frames. docs/RULES.md, 'A run of frames'.
-- Assumes nothing.
use Rattle.std.specs.Prelude.{ℕ, Bool, List, [], ◌∷◌, ltb, eqb, ℤ, pos, replicate}
use Rattle.laws.specs.Call.{answered, left}
use Rattle.laws.specs.Refusal.{row, choose, either, judge, or_else}
use Rattle.models.specs.Models.{priors_out}
use Rattle.forms.specs.Forms.{no_form}
use Rattle.key_frame.specs.Key.{identities}
use Rattle.run.specs.declared.Run.{Run}
use Rattle.run.specs.declared.Moved.{Moved}

abbrev pub run_of : List ℤ → ℕ → ℕ → Run
run_of prior flag form = record { prior = prior; flag = flag; form = form }

-- row 4: the flag is 0 or 1, the form 1 or 2
abbrev pub codes_wrong : ℕ → ℕ → Bool
codes_wrong flag form = either (ltb 1 flag) (no_form form)

-- a run handed in: row 4 for its flag and form, then row 8 for its prior
abbrev pub run_refusal : Run → ℕ
run_refusal run = judge (row 4 (codes_wrong run.flag run.form) ∷ row 8 (priors_out run.prior) ∷ [])

-- what `start` and `switch` answer
abbrev pub moved : ℕ → Run → Moved
moved n run = record { refusal = n; run = run }

-- ---- the start

-- the first prior is identity
abbrev pub fresh : ℕ → ℕ → Run
fresh flag form = run_of (identities 7) flag form

-- what a refused start gives
abbrev pub no_run : Run
no_run = run_of (replicate 42 (pos 0)) 0 0

unfoldable pub started : ℕ → ℕ → Moved
started flag form = answered (λ n. moved n no_run) (judge (row 4 (codes_wrong flag form) ∷ [])) (moved 0 (fresh flag form))

-- ---- a switch

-- row 4 for the code and for the run, then row 8
unfoldable pub switch_refusal : Run → ℕ → ℕ
switch_refusal run code = or_else (judge (row 4 (ltb 2 code) ∷ [])) (run_refusal run)

-- codes 0 and 1 are flags, 2 is form 2; the prior stays
abbrev pub switched_to : Run → ℕ → Run
switched_to run code = choose (eqb code 2) (run_of run.prior run.flag 2) (run_of run.prior code run.form)

abbrev pub switched : Run → ℕ → Moved
switched run code = moved (switch_refusal run code) (left (switch_refusal run code) (switched_to run code) run)
