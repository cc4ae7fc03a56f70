-- What a run promises: whatever is asked of it, a reader begun alike and handed what was accepted recovers each frame's models and ends in the same run,
-- and what is refused moves nothing. docs/RULES.md, 'A run of frames'.
-- Assumes nothing.
use Rattle.std.specs.Prelude.{ℕ, Bool, true, List, [], ◌∷◌, ◌++◌, ◌≡◌, eqb, ℤ, length}
use Rattle.laws.specs.Call.{left}
use Rattle.laws.specs.Refusal.{both}
use Rattle.header_read.specs.declared.Models.{Models}
use Rattle.run.specs.declared.Run.{Run}
use Rattle.run_frame.specs.declared.Framed.{Framed}
use Rattle.run_frame.specs.declared.FrameModels.{FrameModels}
use Rattle.run.specs.Run.{started, switch_refusal, switched}
use Rattle.run_frame.specs.Frame.{framed_refusal, framed, framed_left, read_in}

-- what is asked of a run: a switch by its code; a frame by its kind, types, models, start and the bytes lent
pub data Event : Type 0 where
  switch : ℕ → Event
  frame : Bool → List ℕ → List ℤ → ℕ → List ℕ → Event

-- what a reader is handed: a switch's code; a frame's kind, start and header
pub data Handed : Type 0 where
  code : ℕ → Handed
  bytes : Bool → ℕ → List ℕ → Handed

-- ---- the writer

-- the run after, what is handed on, and the models written
pub record Turn : Type 0 where
  pub run : Run
  pub handed : List Handed
  pub models : List Models

-- nothing is handed on of what is refused
abbrev pub turn : Run → Event → Turn
turn run (switch c) = record { run = (switched run c).run; handed = left (switch_refusal run c) (code c ∷ []) []; models = [] }
turn run (frame intra types ps start lent) =
    let n : ℕ = framed_refusal run intra types ps start (length lent) in
    let answer : Framed = framed run intra types ps start (length lent) in
    record {
      run = answer.run;
      handed = left n (bytes intra start (framed_left run intra types ps start lent) ∷ []) [];
      models = left n (record { refusal = 0; types = types; params = ps; bits = answer.written.bits } ∷ []) [];
    }

-- one event after the other, whatever an event is
abbrev pub turns : {E : Type 0} → (Run → E → Turn) → Run → List E → Turn
turns t run [] = record { run = run; handed = []; models = [] }
turns t run (e ∷ es) =
    let here : Turn = t run e in
    let rest : Turn = turns t here.run es in
    record { run = rest.run; handed = here.handed ++ rest.handed; models = here.models ++ rest.models }

-- ---- the reader

-- the run after, the models read, and whether nothing was refused
pub record Reading : Type 0 where
  pub run : Run
  pub models : List Models
  pub accepted : Bool

abbrev pub read_one : Run → Handed → Reading
read_one run (code c) = record { run = (switched run c).run; models = []; accepted = eqb (switched run c).refusal 0 }
read_one run (bytes intra start header) =
    let answer : FrameModels = read_in run intra header start in
    record { run = answer.run; models = answer.models ∷ []; accepted = eqb answer.models.refusal 0 }

abbrev pub behind : Reading → Reading → Reading
behind a b = record { run = b.run; models = a.models ++ b.models; accepted = both a.accepted b.accepted }

abbrev pub read_all : Run → List Handed → Reading
read_all run [] = record { run = run; models = []; accepted = true }
read_all run (h ∷ hs) = behind (read_one run h) (read_all (read_one run h).run hs)

-- ---- the promise

-- a reader that begins in the run `begun` accepts all that was handed on, gives the models written, and ends in the writer's run
abbrev pub Recovered : Run → Turn → Type 0
Recovered begun w = read_all begun w.handed ≡ record { run = w.run; models = w.models; accepted = true }

pub record Recovery : Type 0 where
  pub recovers : (flag form : ℕ) (es : List Event) → Recovered (started flag form).run (turns turn (started flag form).run es)
  pub switch_unmoved : (run : Run) (c : ℕ) → ((switched run c).refusal ≡ 0 → ⊥) → (switched run c).run ≡ run
  pub frame_unmoved : (run : Run) (intra : Bool) (types : List ℕ) (ps : List ℤ) (start room : ℕ)
      → ((framed run intra types ps start room).written.refusal ≡ 0 → ⊥) → (framed run intra types ps start room).run ≡ run
