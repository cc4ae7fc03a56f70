-- Demand 3 holds of every accepted job, and what it says of reading back of every accepted job from its words on; and what attaches it to a job's contract.
-- Assumes nothing.
use Prim.Native.Nat.{ℕ, ◌*◌, ◌≤◌, ◌<◌}
use mathlib.Core.List.{List}
use mathlib.Core.Logic.{◌⊎◌, inl, inr, ⊎_elim}
use mathlib.Core.Path.{◌≡◌, refl, sym, ap, ◌∙◌, subst}
use native.Mathlib.Omega.{arith}
use borrow.Author.Tests.{ne_eqb}
use lib.IntN.{ℤ}
use lib.ListN.{length, take, drop}
use Rattle.laws.proofs.Cases.{eq-or-ne}
use Rattle.header.specs.Reading.{ReadModels}
use Rattle.header_read.proofs.Count.{counted}
use Rattle.score.specs.Score.{slot}
use Rattle.fit.specs.Fitted.{type_of}
use Rattle.quantize.specs.Quantize.{params, row_first}
use Rattle.quantize.specs.OnGrid.{grid_number_at, NearestAt}
use Rattle.quantize.proofs.NearestSlots.{quantized-nearest}
use Rattle.job_model.specs.Modelled.{own, stored}
use Rattle.job_task.specs.Task.{Task, Lent, Sheet, sheet_of}
use Rattle.job_task.proofs.Ready.{Sound, Writes, Ready}
use Rattle.job_task.proofs.Accepted.{ready}
use Rattle.job_outcome.specs.declared.Report.{Report}
use Rattle.job_outcome.specs.Words.{Finished, finish, named, own_type, fit_words, types, models, bits, fit_in, late, refused, accepted, blocks_by, header_by, from_words}
use Rattle.job_outcome.specs.Outcome as job
use Rattle.job_outcome.specs.Outcome.{Ended, ended, finished_in, left_by_job, outcome}
use Rattle.job_outcome.specs.Demand3.{named_read, header_read, own_place, own_read, HeaderRead, NearestRead, CountRead, ReadBack, Demand3}
use Rattle.job_outcome.specs.Done.{Done}
use Rattle.job_outcome.proofs.Stages.{ends-accepted, accepted-stages}
use Rattle.job_outcome.proofs.Samples.{words-length, sample-is}
use Rattle.job_outcome.proofs.Blocks.{blocks-read}
use Rattle.job_outcome.proofs.Seven.{type-own, type-other, number-other}
use Rattle.job_outcome.proofs.Written.{place-le, type-is, some-model, as-identity, as-fitted, stored-six, own_back, header-back, bits-end}

module _ (j : Sheet) (blocks header : List ℕ) (r : Writes j blocks header) (fits : late j ≡ 0) where
  abbrev s : Sound j
  s = r.sound

  abbrev o : Finished
  o = finish (accepted j) (blocks_by j blocks) (header_by j header)

  abbrev flag : ℕ
  flag = j.settings.flag

  abbrev fitted : List ℤ
  fitted = own j.settings (named j)

  -- what the standard reads of the header at exit
  back : header_read j o ≡ record { types = types j; params = models j; bits = length (bits j) }
  back = header-back j s fits header r.header_room

  own-read : own_read j o ≡ fitted
  own-read = ap (λ (m : ReadModels). row_first (own_type j) (take 6 (drop (6 * own_place j) m.params))) back ∙ own_back j s fits

  named_back : named_read j o ≡ named j
  named_back = let b = blocks-read j s o blocks r.blocks_room refl refl in rw (b.same, b.same_classes)

  header-read : HeaderRead j o
  header-read =
      let p = place-le j s fits in
      record {
        types = ap (λ (m : ReadModels). m.types) back;
        models = ap (λ (m : ReadModels). m.params) back;
        ends = rw back (bits-end j s fits header r.header_room);
        other-types = λ k h. rw back (type-other (own_place j) (own_type j) j.types s.six p k h);
        other_models = λ k i h m. rw back (number-other (own_place j) (stored j.settings (named j)) j.models (stored-six j s fits) s.numbers p k i h m);
        own-type = rw back (type-own (own_place j) (own_type j) j.types s.six p);
        own-model = λ some. own-read ∙ as-fitted j s fits some;
        own_identity = λ none. own-read ∙ as-identity j s fits none;
      }

  module _ (some : 1 ≤ own_type j) (i : ℕ) (h : i < 6) where
    nearest-fitted : (i < 2) ⊎ (2 ≤ type_of (fit_in j)) → NearestAt (own_type j) flag i (grid_number_at (fit_in j) flag (fit_words j) i) (slot (params (fit_in j) flag (fit_words j)) i)
    nearest-fitted g =
        subst (λ (k : ℕ). NearestAt k flag i (grid_number_at (fit_in j) flag (fit_words j) i) (slot (params (fit_in j) flag (fit_words j)) i)) (type-is j s fits some)
        (quantized-nearest (fit_in j) flag (fit_words j) i (some-model j s fits some) (h, g))

  -- none of IDENTITY, two of a TRANSLATION, six of the others
  nearest-read : NearestRead j o
  nearest-read i h g =
      ⊎_elim
      (λ (p : (1 ≤ own_type j) × (i < 2)). rw (own-read ∙ as-fitted j s fits p.0, named_back) (nearest-fitted p.0 i h (inl p.1)))
      (λ (p : 2 ≤ own_type j).
      let some : 1 ≤ own_type j = omega (arith, p) in
      rw (own-read ∙ as-fitted j s fits some, named_back) (nearest-fitted some i h (inr (rw (type-is j s fits some) p))))
      g

  count-read : CountRead j o
  count-read =
      let consumed : length (bits j) ≡ (header_read j o).bits = sym (ap (λ (m : ReadModels). m.bits) back) in
      let parts = counted o.header j.settings.start flag j.prior s.places s.within in
      record { consumed = consumed; sum = consumed ∙ parts.adds_up; type-bits = parts.type-bits; coefficient-bits = parts.slot-bits }

  pub read_back : ReadBack j (finish (accepted j) (blocks_by j blocks) (header_by j header))
  read_back =
      record {
        blocks = blocks-read j s o blocks r.blocks_room refl refl;
        header = header-read;
        score = rw (own-read, named_back);
        nearest = nearest-read;
        count = count-read;
      }

-- ---- from any words on

module _ (j : Sheet) (blocks header : List ℕ) where
  pub words-accepted : (from_words j blocks header).report.refusal ≡ 0 → late j ≡ 0
  words-accepted e =
      ⊎_elim (λ (z : late j ≡ 0). z) (λ (h : late j ≡ 0 → ⊥). absurd (h (sym (ap (λ (o : Finished). o.report.refusal) (words-refused h)) ∙ e))) (eq-or-ne (late j) 0)
    where
      words-refused : (late j ≡ 0 → ⊥) → from_words j blocks header ≡ finish (refused (late j)) blocks header
      words-refused h = rw (ne_eqb (late j) 0 h)

  pub words_back : Writes j blocks header → (from_words j blocks header).report.refusal ≡ 0 → ReadBack j (from_words j blocks header)
  words_back r e =
      let z = words-accepted e in
      let same : from_words j blocks header ≡ finish (accepted j) (blocks_by j blocks) (header_by j header) = rw z in
      subst (λ (o : Finished). ReadBack j o) (sym same) (read_back j blocks header r z)

-- ---- the contract

-- the report with so many samples
abbrev counting : Task → ℕ → Report
counting j n =
    record {
      refusal = 0;
      types = types (sheet_of j);
      models = models (sheet_of j);
      score = (accepted (sheet_of j)).score;
      bits = length (bits (sheet_of j));
      samples = n;
    }

module _ (j : Task) (l : Lent) where
  -- an accepted job is the job from its search's words on
  pub as-words : late (sheet_of j) ≡ 0 → finished_in (ended (job.accepted j) (left_by_job j l)) ≡ finish (accepted (sheet_of j)) (blocks_by (sheet_of j) l.blocks) (header_by (sheet_of j) l.header)
  as-words z = ap (λ (n : ℕ). finish (counting j n) (blocks_by (sheet_of j) l.blocks) (header_by (sheet_of j) l.header)) (sym (words-length j))

  demand-3 : Ready j l → late (sheet_of j) ≡ 0 → Demand3 j (ended (job.accepted j) (left_by_job j l))
  demand-3 r z =
      let back : ReadBack (sheet_of j) (finished_in (ended (job.accepted j) (left_by_job j l))) =
      subst (λ (o : Finished). ReadBack (sheet_of j) o) (sym (as-words z)) (read_back (sheet_of j) l.blocks l.header r.writes z) in
      record { back = back; each = λ i h. rw (back.blocks.same, back.blocks.same_classes) (sample-is j r.small i h) }

  pub holds : (outcome j l).report.refusal ≡ 0 → Demand3 j (outcome j l)
  holds e =
      let q = accepted-stages j l e in
      subst (λ (o : Ended). Demand3 j o) (sym (ends-accepted j l q.0 q.1)) (demand-3 (ready j l q.0) q.1)

  -- every outcome of the definition carries demand 3
  pub done : {o : Ended} → o ≡ outcome j l → Done j l o
  done e = record { leaves = e; holds = subst (λ (p : Ended). p.report.refusal ≡ 0 → Demand3 j p) (sym e) holds }
