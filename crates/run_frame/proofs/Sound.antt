-- A run never comes to be refused: from an accepted start on its flag and form are codes and its prior is in range, whatever is asked of it.
-- Assumes nothing.
use Prim.Native.Nat.{ℕ, ◌≤◌}
use mathlib.Core.Bool.{Bool, true, false}
use mathlib.Core.List.{List, [], ◌∷◌}
use mathlib.Core.Logic.{⊎_elim}
use mathlib.Core.Path.{◌≡◌, refl, sym, ap, subst, ◌∙◌}
use native.Mathlib.Omega.{arith}
use borrow.Author.Tests.{eq-eqb, ne_eqb, le-ltb, ltb-false}
use lib.Dec.{ltb}
use lib.IntN.{ℤ}
use lib.ListN.{length}
use Rattle.laws.specs.Refusal.{row, judge}
use Rattle.laws.proofs.Call.{left-accepted, left-refused}
use Rattle.laws.proofs.Cases.{eq-or-ne}
use Rattle.laws.proofs.Refusal.{neither, quiet, or-else-quiet}
use Rattle.models.specs.Models.{priors_out}
use Rattle.header.proofs.Accepted as writing
use Rattle.header.proofs.Priors.{models-prior}
use Rattle.forms.specs.Forms.{no_form}
use Rattle.frame_header.specs.Frame.{frame_refusal}
use Rattle.key_frame.specs.Key.{identities}
use Rattle.frame_header.proofs.Accepted.{key-plain}
use Rattle.run.specs.declared.Run.{Run}
use Rattle.run_frame.specs.declared.Framed.{Framed}
use Rattle.run.specs.declared.Moved.{Moved}
use Rattle.run.specs.Run.{codes_wrong, run_refusal, started, switch_refusal, switched_to, switched}
use Rattle.run_frame.specs.Frame.{framed_refusal, prior_after, framed}
use Rattle.run_frame.specs.Recovery.{Event, switch, frame, Turn, turn, turns}
use Rattle.run_frame.proofs.Accepted.{accepted, prior-after, answer-accepted, answer-refused}
use Rattle.run.proofs.Moves.{start-accepted}

-- what a run that isn't refused holds
module _ (run : Run) (right : run_refusal run ≡ 0) where
  codes-right : codes_wrong run.flag run.form ≡ false
  codes-right = (quiet (row 4 (codes_wrong run.flag run.form) ∷ row 8 (priors_out run.prior) ∷ []) tt right).0

  prior-right : priors_out run.prior ≡ false
  prior-right = (quiet (row 4 (codes_wrong run.flag run.form) ∷ row 8 (priors_out run.prior) ∷ []) tt right).1.0

-- ---- the start

identities-in : priors_out (identities 7) ≡ false
unfolding priors_out
identities-in = refl

pub start-sound : (flag form : ℕ) → codes_wrong flag form ≡ false → run_refusal (started flag form).run ≡ 0
start-sound flag form e = subst (λ (m : Moved). run_refusal m.run ≡ 0) (start-accepted flag form e) (rw (e, identities-in))

-- ---- a switch

switched-right : (run : Run) (c : ℕ) → switch_refusal run c ≡ 0 → run_refusal (switched_to run c) ≡ 0
unfolding switch_refusal
switched-right run c e =
    let groups = or-else-quiet (judge (row 4 (ltb 2 c) ∷ [])) (run_refusal run) e in
    let few : c ≤ 2 = ltb-false 2 c (quiet (row 4 (ltb 2 c) ∷ []) tt groups.0).0 in
    let codes = neither (ltb 1 run.flag) (no_form run.form) (codes-right run groups.1) in
    let prior : priors_out run.prior ≡ false = prior-right run groups.1 in
    ⊎_elim
    (λ (two : c ≡ 2). rw (eq-eqb c 2 two, codes.0, prior))
    (λ (other : c ≡ 2 → ⊥).
    let low : c ≤ 1 = omega arith in
    rw (ne_eqb c 2 other, le-ltb 1 c low, codes.1, prior))
    (eq-or-ne c 2)

pub switch-sound : (run : Run) (c : ℕ) → run_refusal run ≡ 0 → run_refusal (switched run c).run ≡ 0
switch-sound run c right =
    ⊎_elim
    (λ (e : switch_refusal run c ≡ 0). subst (λ (r : Run). run_refusal r ≡ 0) (sym (left-accepted (switch_refusal run c) (switched_to run c) run e)) (switched-right run c e))
    (λ (h : switch_refusal run c ≡ 0 → ⊥). subst (λ (r : Run). run_refusal r ≡ 0) (sym (left-refused (switch_refusal run c) (switched_to run c) run h)) right)
    (eq-or-ne (switch_refusal run c) 0)

-- ---- a frame

-- the models of a frame that the plain call accepts are priors in range
pub models-in : (intra : Bool) (start : ℕ) (types : List ℕ) (ps : List ℤ) (flag : ℕ) (qs : List ℤ) (room : ℕ)
    → frame_refusal intra start types ps flag qs room ≡ 0 → priors_out ps ≡ false
models-in true start types ps flag qs room e =
    let p = key-plain types ps flag start e in
    models-prior types flag ps (omega (arith, p.seven, p.numbers)) p.known p.right
models-in false start types ps flag qs room e =
    let w = (writing.accepted types ps flag qs start room e).writable in
    models-prior types flag ps (omega (arith, w.seven, w.models)) w.known w.right

pub frame-sound : (run : Run) (intra : Bool) (types : List ℕ) (ps : List ℤ) (start room : ℕ) → run_refusal run ≡ 0
    → run_refusal (framed run intra types ps start room).run ≡ 0
frame-sound run intra types ps start room right =
    ⊎_elim
    (λ (e : framed_refusal run intra types ps start room ≡ 0).
    let plain = (accepted run intra types ps start room e).plain in
    let next : priors_out (prior_after intra ps) ≡ false =
    ap priors_out (prior-after intra start types ps run.flag run.prior room plain) ∙ models-in intra start types ps run.flag run.prior room plain in
    subst (λ (a : Framed). run_refusal a.run ≡ 0) (sym (answer-accepted run intra types ps start room e)) (rw (codes-right run right, next)))
    (λ (h : framed_refusal run intra types ps start room ≡ 0 → ⊥).
    subst (λ (a : Framed). run_refusal a.run ≡ 0) (sym (answer-refused run intra types ps start room h)) right)
    (eq-or-ne (framed_refusal run intra types ps start room) 0)

-- ---- whatever is asked

-- over any kind of event whose one turn keeps the run so
module _ {E : Type 0} (t : Run → E → Turn) (one : (run : Run) (e : E) → run_refusal run ≡ 0 → run_refusal (t run e).run ≡ 0) where
  pub sound-by : (run : Run) (es : List E) → run_refusal run ≡ 0 → run_refusal (turns t run es).run ≡ 0
  sound-by run [] right = right
  sound-by run (e ∷ es) right = sound-by (t run e).run es (one run e right)

pub turn-sound : (run : Run) (e : Event) → run_refusal run ≡ 0 → run_refusal (turn run e).run ≡ 0
turn-sound run (switch c) right = switch-sound run c right
turn-sound run (frame intra types ps start lent) right = frame-sound run intra types ps start (length lent) right

pub run_sound : (flag form : ℕ) → codes_wrong flag form ≡ false → (es : List Event) → run_refusal (turns turn (started flag form).run es).run ≡ 0
run_sound flag form e es = sound-by turn turn-sound (started flag form).run es (start-sound flag form e)
