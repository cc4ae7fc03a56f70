-- The promise of a run, by induction over what is asked of it: each turn's frame is read back by a reader in the same run, and leaves both in the same run again.
-- The induction is over any kind of event whose one turn is recovered.
-- Assumes nothing.
use Prim.Native.Nat.{ℕ}
use mathlib.Core.Bool.{Bool, true, false}
use mathlib.Core.List.{List, [], ◌∷◌, ◌++◌, append_assoc}
use mathlib.Core.Logic.{⊎_elim}
use mathlib.Core.Path.{◌≡◌, refl, sym, ap, ◌∙◌}
use borrow.Author.Tests.{eq-eqb}
use lib.Dec.{eqb}
use lib.IntN.{ℤ}
use lib.ListN.{length}
use Rattle.laws.specs.Refusal.{both}
use Rattle.laws.proofs.Call.{left-accepted, left-refused}
use Rattle.laws.proofs.Cases.{eq-or-ne}
use Rattle.header_read.specs.declared.Models.{Models}
use Rattle.frame_header.specs.Frame.{frame_bits, frame_models}
use Rattle.frame_header.proofs.RoundTrip.{accepted-read}
use Rattle.run.specs.declared.Run.{Run}
use Rattle.run_frame.specs.declared.Framed.{Framed}
use Rattle.run_frame.specs.declared.FrameModels.{FrameModels}
use Rattle.run.specs.Run.{run_of, run_refusal, started, switch_refusal, switched_to, switched}
use Rattle.run_frame.specs.Frame.{framed_refusal, framed, framed_left, read_on, read_in}
use Rattle.run_frame.specs.Recovery.{Event, switch, frame, Handed, code, bytes, Turn, turn, turns, Reading, read_one, behind, read_all, Recovered, Recovery}
use Rattle.run_frame.proofs.Accepted.{accepted, run-right, prior-after, answer-accepted, answer-refused}
use Rattle.run_frame.proofs.Answers.{read_plain}
use Rattle.run_frame.proofs.Plain.{left-plain}

-- ---- what is read of two lists, one behind the other

both-assoc : (a b c : Bool) → both a (both b c) ≡ both (both a b) c
both-assoc true b c = refl
both-assoc false b c = refl

behind-assoc : (a b c : Reading) → behind a (behind b c) ≡ behind (behind a b) c
behind-assoc a b c = rw (append_assoc a.models b.models c.models, both-assoc a.accepted b.accepted c.accepted)

read-append : (run : Run) (hs ks : List Handed) → read_all run (hs ++ ks) ≡ behind (read_all run hs) (read_all (read_all run hs).run ks)
read-append run [] ks = refl
read-append run (h ∷ hs) ks =
    let next : Run = (read_one run h).run in
    ap (behind (read_one run h)) (read-append next hs ks) ∙ behind-assoc (read_one run h) (read_all next hs) (read_all (read_all next hs).run ks)

-- ---- the induction

module _ {E : Type 0} (t : Run → E → Turn) (one : (run : Run) (e : E) → Recovered run (t run e)) where
  pub recovered-by : (run : Run) (es : List E) → Recovered run (turns t run es)
  recovered-by run [] = refl
  recovered-by run (e ∷ es) =
      let here : Turn = t run e in
      let rest : Turn = turns t here.run es in
      read-append run here.handed rest.handed
      ∙ ap (λ (a : Reading). behind a (read_all a.run rest.handed)) (one run e)
      ∙ ap (behind (record { run = here.run; models = here.models; accepted = true })) (recovered-by here.run es)

-- ---- a switch

pub switch_unmoved : (run : Run) (c : ℕ) → ((switched run c).refusal ≡ 0 → ⊥) → (switched run c).run ≡ run
switch_unmoved run c h = left-refused (switch_refusal run c) (switched_to run c) run h

switch-recovered : (run : Run) (c : ℕ) → Recovered run (turn run (switch c))
switch-recovered run c =
    let n : ℕ = switch_refusal run c in
    ⊎_elim
    (λ (e : n ≡ 0).
    ap (read_all run) (left-accepted n (code c ∷ []) [] e)
    ∙ ap (λ (b : Bool). record { run = (switched run c).run; models = []; accepted = both b true }) (eq-eqb n 0 e))
    (λ (h : n ≡ 0 → ⊥).
    ap (read_all run) (left-refused n (code c ∷ []) [] h)
    ∙ ap (λ (r : Run). record { run = r; models = []; accepted = true }) (sym (switch_unmoved run c h)))
    (eq-or-ne n 0)

-- ---- a frame

module _ (run : Run) (intra : Bool) (types : List ℕ) (ps : List ℤ) (start : ℕ) where
  pub frame_unmoved : (room : ℕ) → ((framed run intra types ps start room).written.refusal ≡ 0 → ⊥) → (framed run intra types ps start room).run ≡ run
  frame_unmoved room h =
      ap (λ (a : Framed). a.run)
      (answer-refused run intra types ps start room (λ e. h (ap (λ (a : Framed). a.written.refusal) (answer-accepted run intra types ps start room e))))

  module _ (lent : List ℕ) where
    abbrev refusal : ℕ
    refusal = framed_refusal run intra types ps start (length lent)

    abbrev answer : Framed
    answer = framed run intra types ps start (length lent)

    abbrev header : List ℕ
    header = framed_left run intra types ps start lent

    abbrev own : ℕ → Models
    own bits = record { refusal = 0; types = types; params = ps; bits = bits }

    -- the reader gives the models, and goes on in the writer's run
    read_back : refusal ≡ 0 → read_in run intra header start ≡ record { models = own answer.written.bits; run = answer.run }
    read_back e =
        let a = accepted run intra types ps start (length lent) e in
        let right : run_refusal run ≡ 0 = run-right run intra types ps start (length lent) a in
        let bits : ℕ = length (frame_bits intra types ps run.flag run.prior) in
        read_plain run intra header start right
        ∙ ap (read_on run)
        (ap (λ (b : List ℕ). frame_models intra b start run.flag run.prior) (left-plain run right intra types ps start lent)
        ∙ accepted-read types ps run.flag run.prior start lent intra a.plain)
        ∙ ap (λ (p : List ℤ). record { models = own bits; run = run_of p run.flag run.form })
        (sym (prior-after intra start types ps run.flag run.prior (length lent) a.plain))
        ∙ ap (λ (w : Framed). record { models = own w.written.bits; run = w.run }) (sym (answer-accepted run intra types ps start (length lent) e))

    frame-recovered : Recovered run (turn run (frame intra types ps start lent))
    frame-recovered =
        let models : List Models = own answer.written.bits ∷ [] in
        ⊎_elim
        (λ (e : refusal ≡ 0).
        ap (read_all run) (left-accepted refusal (bytes intra start header ∷ []) [] e)
        ∙ ap (λ (a : FrameModels). record { run = a.run; models = a.models ∷ []; accepted = both (eqb a.models.refusal 0) true }) (read_back e)
        ∙ ap (λ (l : List Models). record { run = answer.run; models = l; accepted = true }) (sym (left-accepted refusal models [] e)))
        (λ (h : refusal ≡ 0 → ⊥).
        ap (read_all run) (left-refused refusal (bytes intra start header ∷ []) [] h)
        ∙ ap (λ (r : Run). record { run = r; models = []; accepted = true }) (sym (ap (λ (a : Framed). a.run) (answer-refused run intra types ps start (length lent) h)))
        ∙ ap (λ (l : List Models). record { run = answer.run; models = l; accepted = true }) (sym (left-refused refusal models [] h)))
        (eq-or-ne refusal 0)

-- ---- the promise

pub turn-recovered : (run : Run) (e : Event) → Recovered run (turn run e)
turn-recovered run (switch c) = switch-recovered run c
turn-recovered run (frame intra types ps start lent) = frame-recovered run intra types ps start lent

-- from any run, right or not
pub recovered : (run : Run) (es : List Event) → Recovered run (turns turn run es)
recovered = recovered-by turn turn-recovered

pub recovery : Recovery
recovery = record { recovers = λ flag form es. recovered (started flag form).run es; switch_unmoved = switch_unmoved; frame_unmoved = frame_unmoved }
