-- The steps of a job, one after the other, make its outcome: refused before the search, refused after it, or accepted.
-- Assumes nothing.
use Prim.Native.Nat.{ℕ, ◌≤◌}
use mathlib.Core.Bool.{Bool, true, false}
use mathlib.Core.List.{List, [], ◌∷◌}
use mathlib.Core.Logic.{⊎_elim}
use mathlib.Core.Path.{◌≡◌, refl, sym, ap, ◌∙◌}
use native.Mathlib.Omega.{arith}
use borrow.Author.Tests.{ne_eqb, lt-ltb}
use lib.Dec.{ltb}
use lib.IntN.{ℤ}
use lib.ListN.{length, take}
use Rattle.laws.specs.Buffer.{onto}
use Rattle.laws.specs.Chosen.{Front}
use Rattle.laws.specs.Refusal.{choose}
use Rattle.laws.proofs.Buffer.{onto-front}
use Rattle.laws.proofs.Call.{answered-accepted, answered-refused, left-accepted}
use Rattle.laws.proofs.Cases.{eq-or-ne}
use Rattle.class_set.specs.Set.{chosen}
use Rattle.class_set.proofs.Chosen.{chosen-count, named-few}
use Rattle.search.specs.declared.Searched.{Searched}
use Rattle.search.specs.Refusal as search
use Rattle.frame_store.specs.InForm.{stored_in_left, store_refusal_in}
use Rattle.header.specs.Writing.{written}
use Rattle.job_task.specs.declared.Settings.{Settings}
use Rattle.job_task.specs.Task.{Task, Lent, lend, Sheet, sheet_of, search_task, search_lent}
use Rattle.job_task.specs.Rows.{early}
use Rattle.job_task.proofs.Ready.{Sound, Writes, Ready}
use Rattle.job_task.proofs.Accepted.{ready}
use Rattle.job_model.specs.Modelled.{Modelled, modelled, modelled_as, not_modelled}
use Rattle.job_outcome.specs.declared.Report.{Report}
use Rattle.job_outcome.specs.Words as sheet
use Rattle.job_outcome.specs.Words.{Finished, finish, from_words}
use Rattle.job_outcome.specs.Outcome.{Ended, ended, samples, words, late, refused, outcome}
use Rattle.job_outcome.specs.Done.{Done}
use Rattle.job_outcome.proofs.Demand3.{as-words, done}
use Rattle.job_outcome.proofs.Stages.{refused-early, refused-late, ends-accepted}
use Rattle.job_outcome.proofs.Samples.{words-length}
use Rattle.job_outcome.proofs.Blocks.{stored}
use Rattle.job_outcome.proofs.Written.{bits-written, header-written}
use Rattle.refusal.specs.Number.{number_of}
use Rattle.refusal.specs.declared.Refusal.{Refusal}
use Rattle.refusal.proofs.Rows.{above-zero}
use Rattle.job.specs.Inner.{Naming, report_of, written_out, finished}

-- ---- the words that a model is of: the named ones are at most all, and as many as row 15 counts

pub naming : (j : Sheet) → Sound j → Naming j.settings j.types j.models j.words j.classes
naming j s =
    let few : length (sheet.named j) ≤ 4096 = omega (arith, named-few j.settings.set j.words j.classes, s.few) in
    record {
      classed = sym s.class_count;
      few = s.few;
      modelling = record {
        fitting = record { range = s.range; few = few; enough = rw (chosen-count j.settings.set j.words j.classes s.class_count) s.enough };
        six = s.six;
        numbers = s.numbers;
      };
    }

-- ---- the search of a job that is ready

-- with no samples the words are as they were, and none of them is read
no_words : (ws : List ℕ) → length ws ≡ 0 → [] ≡ ws
no_words [] e = refl
no_words (w ∷ ws) e = absurd (omega arith)

front-words : (n : ℕ) (ws old : List ℕ) → length ws ≡ n → take n (choose (ltb 0 n) (onto ws old) old) ≡ ws
front-words n ws old e =
    ⊎_elim
    (λ (z : n ≡ 0). rw z (no_words ws (e ∙ z)))
    (λ (z : n ≡ 0 → ⊥). rw (lt-ltb 0 n (omega arith)) (ap (λ (k : ℕ). take k (onto ws old)) (sym e) ∙ onto-front ws old))
    (eq-or-ne n 0)

words-of-either : (b : Bool) (x y : search.Lent) → (choose b x y).words ≡ choose b x.words y.words
words-of-either true x y = refl
words-of-either false x y = refl

module _ (j : Task) (l : Lent) (r : Ready j l) {found : Searched} {left : search.Lent} (d : search.Done (search_task j) (search_lent l) found left) where
  pub found-samples : found.samples ≡ samples j
  unfolding search.answer
  found-samples = ap (λ (f : Searched). f.samples) d.answers ∙ rw r.searched

  words-left : left.words ≡ choose (ltb 0 (samples j)) (onto (words j) l.words) l.words
  unfolding search.leaves
  words-left = ap (λ (b : search.Lent). b.words) d.buffers ∙ rw r.searched (words-of-either (ltb 0 (samples j)) _ _)

  pub found-words : take found.samples left.words ≡ words j
  found-words = rw (found-samples, words-left) (front-words (samples j) (words j) l.words (words-length j))

  pub found_front : Front (words j) left.words found.samples
  found_front = record { counted = found-samples ∙ sym (words-length j); front = found-words }

  pub found-naming : Naming j.settings j.types j.models (take found.samples left.words) j.classes
  found-naming = rw found-words (naming (sheet_of j) r.writes.sound)

-- ---- what follows from the words, by the model's refusal

pub finish-same : {r r' : Report} {b b' h h' : List ℕ} → r ≡ r' → b ≡ b' → h ≡ h' → finish r b h ≡ finish r' b' h'
finish-same p q s = rw (p, q, s)

module _ (j : Sheet) where
  abbrev model : Modelled
  model = modelled j.settings j.types j.models (sheet.named j)

  abbrev whole : Modelled
  whole = modelled_as j.settings j.types j.models (sheet.named j)

  with-model : sheet.late j ≡ 0 → model ≡ whole
  unfolding modelled
  with-model z = answered-accepted not_modelled (sheet.late j) whole z

  with_none : (sheet.late j ≡ 0 → ⊥) → model ≡ not_modelled (sheet.late j)
  unfolding modelled
  with_none h = answered-refused not_modelled (sheet.late j) whole h

  abbrev finished_of : List ℕ → List ℕ → Finished
  finished_of blocks header = finished j.settings j.form j.types j.models j.prior j.words j.classes blocks header

  module _ (blocks header : List ℕ) where
    finished-refused : (sheet.late j ≡ 0 → ⊥) → finished_of blocks header ≡ finish (refused (sheet.late j)) blocks header
    unfolding finished
    finished-refused h = rw (with_none h, ne_eqb (sheet.late j) 0 h)

    module _ (r : Writes j blocks header) (z : sheet.late j ≡ 0) where
      report-is : report_of whole (written j.settings.start whole.types whole.models j.settings.flag j.prior (length header)).bits (length j.words) ≡ sheet.accepted j
      report-is = rw (bits-written j r.sound z header r.header_room) refl

      blocks-are : stored_in_left j.form j.settings.frame j.words j.classes blocks ≡ sheet.blocks_by j blocks
      blocks-are =
          let n = length blocks in
          left-accepted (store_refusal_in j.form j.settings.frame j.words j.classes n) (sheet.blocks_by j blocks) blocks (stored j r.sound n r.blocks_room)

      finished-accepted : finished_of blocks header ≡ finish (sheet.accepted j) (sheet.blocks_by j blocks) (sheet.header_by j header)
      unfolding finished
      finished-accepted = rw (with-model z) (finish-same report-is blocks-are (header-written j r.sound z header r.header_room))

    -- either way it is how a job from its words on ends
    pub finished_from : Writes j blocks header → finished_of blocks header ≡ from_words j blocks header
    finished_from r =
        ⊎_elim
        (λ (z : sheet.late j ≡ 0). finished-accepted r z ∙ rw z)
        (λ (h : sheet.late j ≡ 0 → ⊥). finished-refused h ∙ rw (ne_eqb (sheet.late j) 0 h))
        (eq-or-ne (sheet.late j) 0)

-- ---- the outcome

-- the report and the five buffers, from what the search left and what followed
abbrev ended_by : search.Lent → Finished → Ended
ended_by left f = ended f.report (lend left.input_half left.ref_half left.words f.blocks f.header)

module _ (j : Task) (l : Lent) (quiet : early j l ≡ 0) {found : Searched} {left : search.Lent} (d : search.Done (search_task j) (search_lent l) found left) where
  by-words : ended_by left (finished_of (sheet_of j) l.blocks l.header) ≡ outcome j l
  by-words =
      let w = (ready j l quiet).writes in
      ⊎_elim
      (λ (z : late j ≡ 0). rw (d.buffers, finished-accepted (sheet_of j) l.blocks l.header w z ∙ sym (as-words j l z)) (sym (ends-accepted j l quiet z)))
      (λ (h : late j ≡ 0 → ⊥). rw (d.buffers, finished-refused (sheet_of j) l.blocks l.header h) (sym (refused-late j l quiet h)))
      (eq-or-ne (late j) 0)

  pub ended-found : {f : Finished} → f ≡ finished j.settings j.form j.types j.models j.prior (take found.samples left.words) j.classes l.blocks l.header
      → ended_by left f ≡ outcome j l
  ended-found e =
      let s = j.settings in
      ap (ended_by left) (e ∙ ap (λ (ws : List ℕ). finished s j.form j.types j.models j.prior ws j.classes l.blocks l.header) (found-words j l (ready j l quiet) d)) ∙ by-words

-- ---- the code's two ways through `finish`, and the call's refusal

module _ (s : Settings) (form : ℕ) (ts : List ℕ) (ms qs : List ℤ) (ws cs blocks header : List ℕ) {m : Modelled} (e : m ≡ modelled s ts ms (chosen s.set ws cs)) where
  pub finish-refused : (m.refusal ≡ 0 → ⊥) → {report : Report} → report ≡ refused m.refusal → finish report blocks header ≡ finished s form ts ms qs ws cs blocks header
  unfolding finished
  finish-refused h q = rw (← e, ne_eqb m.refusal 0 h) (ap (λ (r : Report). finish r blocks header) q)

  pub finish-written : m.refusal ≡ 0 → {f : Finished} → f ≡ written_out m s form qs ws cs blocks header → f ≡ finished s form ts ms qs ws cs blocks header
  unfolding finished
  finish-written z q = rw (← e, z) q

-- a row that holds has a number
pub numbered : (r : Refusal) → number_of r ≡ 0 → ⊥
numbered r z = let h = above-zero r in omega (arith, h, z)

pub done_refused : (j : Task) (l : Lent) {n : ℕ} → n ≡ early j l → (n ≡ 0 → ⊥) → {report : Report} → report ≡ refused n → Done j l (ended report l)
done_refused j l e h q = done j l (ap (λ (r : Report). ended r l) (q ∙ ap refused e) ∙ sym (refused-early j l (λ z. h (e ∙ z))))
