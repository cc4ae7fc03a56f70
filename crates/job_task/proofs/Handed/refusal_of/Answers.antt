-- `job_task::Handed::refusal_of`: the first group that refuses answers; the quiet ones before it give the later ones what they ask for.
-- Assumes nothing.
use mathlib.Core.Path.{◌≡◌}
use borrow.Author.Rules.{rules}
use Rattle.std.proofs.Common.{Err}
use Rattle.job_task.specs.Rows.{refusal_before}
use Rattle.job_task.proofs.Groups.{stops, goes_on}
use Rattle.job_task.proofs.Handed.refusal_of.Goals as goal

pub returns-in_err-sizes_refusal : goal.returns-in_err-sizes_refusal
unfolding refusal_before
returns-in_err-sizes_refusal c = let r = c.in_err-sizes_refusal.field-0.0 in
    let e : c.from_residual.result ≡ Err r = search rules in
    rw e (stops r _ c.in_err-sizes_refusal.ensures)

pub returns-in_err-codes_refusal : goal.returns-in_err-codes_refusal
unfolding refusal_before
returns-in_err-codes_refusal c = let r = c.in_err-codes_refusal.field-0.0 in
    let e : c.from_residual-in_err-codes_refusal.result ≡ Err r = search rules in
    rw e (goes_on c.in_ok-sizes_refusal.ensures (stops r _ c.in_err-codes_refusal.ensures))

pub returns-in_err-models_refusal : goal.returns-in_err-models_refusal
unfolding refusal_before
returns-in_err-models_refusal c = let r = c.in_err-models_refusal.field-0.0 in
    let e : c.from_residual-in_err-models_refusal.result ≡ Err r = search rules in
    rw e (goes_on c.in_ok-sizes_refusal.ensures (goes_on c.in_ok-codes_refusal.ensures (stops r _ c.in_err-models_refusal.ensures)))

pub returns-in_err-room_refusal : goal.returns-in_err-room_refusal
unfolding refusal_before
returns-in_err-room_refusal c = let r = c.in_err-room_refusal.field-0.0 in
    let e : c.from_residual-in_err-room_refusal.result ≡ Err r = search rules in
    rw e
    (goes_on c.in_ok-sizes_refusal.ensures (goes_on c.in_ok-codes_refusal.ensures
    (goes_on c.in_ok-models_refusal.ensures (stops r _ c.in_err-room_refusal.ensures))))

pub returns : goal.returns
unfolding refusal_before
returns c = goes_on c.in_ok-sizes_refusal.ensures (goes_on c.in_ok-codes_refusal.ensures
    (goes_on c.in_ok-models_refusal.ensures (goes_on c.in_ok-room_refusal.ensures c.refusal_of.ensures)))
