-- A job's seven models can be written from its start on, in 125 bytes, and are read back there: the six others pass row 7, and its own is on the grid, or the identity.
-- Assumes nothing.
use Prim.Native.Nat.{ℕ, ◌+◌, ◌*◌, ◌-◌, ◌≤◌}
use mathlib.Core.Bool.{true, false}
use mathlib.Core.List.{List}
use mathlib.Core.Logic.{⊎_elim}
use mathlib.Core.Path.{◌≡◌, sym, ap, ◌∙◌, subst}
use native.Mathlib.Omega.{arith}
use lib.IntN.{ℤ}
use lib.ListN.{length, take, drop}
use Rattle.laws.proofs.Cases.{outcome, eq-or-ne}
use Rattle.bits.proofs.Buffer.{length-put_bits}
use Rattle.models.specs.Models.{model_wrong}
use Rattle.header.specs.Reading.{models_read}
use Rattle.header.specs.Writing.{bits_placed, bytes_for, write_refusal, written, header_after}
use Rattle.header.proofs.Accepted.{not-refused, answer-written, bytes-written}
use Rattle.header.proofs.RoundTrip.{Writable, round_trip, at-most-125-bytes}
use Rattle.sample.specs.Sample.{sample_of}
use Rattle.fit.specs.Fitted.{type_of}
use Rattle.quantize.specs.Quantize.{params, row_first}
use Rattle.quantize.proofs.Accepted.{row-first-twice}
use Rattle.quantize.proofs.OnGrid.{OnGrid, quantized-on-grid}
use Rattle.elect.specs.Elect.{identity_params}
use Rattle.elect.proofs.OwnModel.{own-right}
use Rattle.elect.proofs.Codable.{winner-codable}
use Rattle.job_model.specs.Modelled.{winner, own, stored}
use Rattle.job_model.proofs.OwnType as own-type
use Rattle.job_model.proofs.Refusals.{fit-type}
use Rattle.job_task.specs.Task.{Sheet}
use Rattle.job_task.specs.Rows.{header_bytes, elects}
use Rattle.job_task.proofs.Ready.{Sound}
use Rattle.job_outcome.specs.Words.{named, own_type, fit_words, types, models, bits, fit_in, late}
use Rattle.job_outcome.proofs.Seven.{seven-types, types-known, all-numbers, own-six, models-right, row-first-length}

module _ (j : Sheet) (s : Sound j) (fits : late j ≡ 0) where
  abbrev kind : ℕ
  kind = own_type j

  abbrev flag : ℕ
  flag = j.settings.flag

  abbrev start : ℕ
  start = j.settings.start

  abbrev place : ℕ
  place = j.settings.reference - 1

  -- the job's own model on the grid, x first, and as it is stored
  abbrev fitted : List ℤ
  fitted = own j.settings (named j)

  abbrev kept : List ℤ
  kept = stored j.settings (named j)

  pub place-le : place ≤ 6
  place-le = omega (arith, s.range.some_reference, s.range.last_reference)

  last_type : kind ≤ 3
  last_type = own-type.last_type j.settings (named j) s.range fits

  -- IDENTITY
  pub as-identity : kind ≡ 0 → fitted ≡ identity_params
  as-identity = own-type.as-identity j.settings (named j) s.range fits

  -- a fitted model
  module _ (some : 1 ≤ kind) where
    pub type-is : type_of (fit_in j) ≡ kind
    type-is = fit-type j.settings (named j) s.range fits some

    pub some-model : type_of (fit_in j) ≡ 0 → ⊥
    some-model e = omega (arith, type-is, some)

    pub as-fitted : fitted ≡ params (fit_in j) flag (fit_words j)
    as-fitted = own-type.as-fitted j.settings (named j) s.range fits some

    on-grid : OnGrid kind flag fitted
    on-grid =
        subst (λ (p : List ℤ). OnGrid kind flag p) (sym as-fitted)
        (subst (λ (k : ℕ). OnGrid k flag (params (fit_in j) flag (fit_words j))) type-is (quantized-on-grid (fit_in j) flag (fit_words j) some-model))

  six : length fitted ≡ 6
  six = ⊎_elim (λ (n : kind ≡ 0). ap length (as-identity n)) (λ (h : kind ≡ 0 → ⊥). (on-grid (omega (arith, h))).six) (eq-or-ne kind 0)

  pub stored-six : length kept ≡ 6
  stored-six = row-first-length kind fitted ∙ six

  -- ---- row 7 never holds of the job's own model

  elected-right : elects j.settings ≡ true → model_wrong kind flag kept 0 ≡ false
  elected-right e =
      let w = winner j.settings (named j) in
      let z = sym (own-type.refusal-elected j.settings (named j) e) ∙ fits in
      ap (λ (k : ℕ). model_wrong k flag (row_first k fitted) 0) (own-type.elected-type j.settings (named j) e z)
      ∙ ap (λ (p : List ℤ). model_wrong w.gm_type flag (row_first w.gm_type p) 0) (own-type.elected-own j.settings (named j) e z)
      ∙ winner-codable sample_of flag (named j) z

  asked-right : elects j.settings ≡ false → model_wrong kind flag kept 0 ≡ false
  asked-right a =
      let t = own-type.type-asked j.settings (named j) a in
      let some : 1 ≤ kind = omega (arith, t, s.range.some-type a) in
      own-right kind flag some last_type fitted (on-grid some)

  pub fitted-right : model_wrong kind flag kept 0 ≡ false
  fitted-right =
      ⊎_elim (λ (e : elects j.settings ≡ true). elected-right e) (λ (a : elects j.settings ≡ false). asked-right a) (outcome (elects j.settings))

  -- nor of the seven
  pub writable : Writable (types j) (models j) flag j.prior
  writable =
      record {
        seven = seven-types place kind j.types s.six place-le;
        models = all-numbers place kept j.models stored-six s.numbers place-le;
        priors = s.places;
        known = types-known place kind j.types s.six place-le s.known last_type;
        right = models-right place kind flag j.types kept j.models s.six stored-six s.numbers place-le s.right fitted-right;
        within = s.within;
      }

  -- the model at the job's reference, exchanged back
  pub own_back : row_first kind (take 6 (drop (6 * place) (models j))) ≡ fitted
  own_back =
      ap (row_first kind) (own-six place kept j.models stored-six s.numbers place-le)
      ∙ row-first-twice kind fitted (omega (arith, six))

  module _ (old : List ℕ) (room : header_bytes ≤ length old) where
    room_enough : bytes_for start (length (bits j)) ≤ length old
    room_enough = omega (arith, at-most-125-bytes flag (types j) (models j) j.prior start s.range.low)

    pub header-back : models_read (bits_placed start (bits j) old) start flag j.prior ≡ record { types = types j; params = models j; bits = length (bits j) }
    header-back = round_trip (types j) (models j) flag j.prior writable start old room_enough

    pub bits-end : start + length (bits j) ≤ 8 * length (bits_placed start (bits j) old)
    bits-end = rw (length-put_bits old start _) (omega (arith, room_enough))

    pub write-accepted : write_refusal start (types j) (models j) flag j.prior (length old) ≡ 0
    write-accepted =
        not-refused (types j) (models j) flag j.prior start (length old)
        (record { writable = writable; flagged = s.range.flagged; low = s.range.low; roomy = room_enough })

    pub header-written : header_after start (types j) (models j) flag j.prior old ≡ bits_placed start (bits j) old
    header-written = bytes-written (types j) (models j) flag j.prior start old write-accepted

    pub bits-written : written start (types j) (models j) flag j.prior (length old) ≡ record { refusal = 0; bits = length (bits j) }
    bits-written = answer-written (types j) (models j) flag j.prior start (length old) write-accepted
