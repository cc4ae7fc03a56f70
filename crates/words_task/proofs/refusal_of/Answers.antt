-- `words_task::refusal_of`: the first group that refuses answers.
-- Assumes nothing.
use mathlib.Core.Path.{◌≡◌}
use borrow.Author.Rules.{rules}
use Rattle.std.proofs.Common.{Err}
use Rattle.job_task.proofs.Groups.{stops, goes_on}
use Rattle.words_task.specs.Rows.{refusal_of_words}
use Rattle.words_task.proofs.refusal_of.Goals as goal

pub returns-in_err-lists_refusal : goal.returns-in_err-lists_refusal
unfolding refusal_of_words
returns-in_err-lists_refusal c = let r = c.in_err-lists_refusal.field-0.0 in
    let e : c.from_residual.result ≡ Err r = search rules in
    rw e (stops r _ c.in_err-lists_refusal.ensures)

pub returns-in_err-codes_refusal : goal.returns-in_err-codes_refusal
unfolding refusal_of_words
returns-in_err-codes_refusal c = let r = c.in_err-codes_refusal.field-0.0 in
    let e : c.from_residual-in_err-codes_refusal.result ≡ Err r = search rules in
    rw e (goes_on c.in_ok-lists_refusal.ensures (stops r _ c.in_err-codes_refusal.ensures))

pub returns-in_err-models_refusal : goal.returns-in_err-models_refusal
unfolding refusal_of_words
returns-in_err-models_refusal c = let r = c.in_err-models_refusal.field-0.0 in
    let e : c.from_residual-in_err-models_refusal.result ≡ Err r = search rules in
    rw e (goes_on c.in_ok-lists_refusal.ensures (goes_on c.in_ok-codes_refusal.ensures (stops r _ c.in_err-models_refusal.ensures)))

pub returns-in_err-words_refusal : goal.returns-in_err-words_refusal
unfolding refusal_of_words
returns-in_err-words_refusal c = let r = c.in_err-words_refusal.field-0.0 in
    let e : c.from_residual-in_err-words_refusal.result ≡ Err r = search rules in
    rw e
    (goes_on c.in_ok-lists_refusal.ensures (goes_on c.in_ok-codes_refusal.ensures
    (goes_on c.in_ok-models_refusal.ensures (stops r _ c.in_err-words_refusal.ensures))))

pub returns-in_err-room_refusal : goal.returns-in_err-room_refusal
unfolding refusal_of_words
returns-in_err-room_refusal c = let r = c.in_err-room_refusal.field-0.0 in
    let e : c.from_residual-in_err-room_refusal.result ≡ Err r = search rules in
    rw e
    (goes_on c.in_ok-lists_refusal.ensures (goes_on c.in_ok-codes_refusal.ensures
    (goes_on c.in_ok-models_refusal.ensures (goes_on c.in_ok-words_refusal.ensures (stops r _ c.in_err-room_refusal.ensures)))))

pub returns : goal.returns
unfolding refusal_of_words
returns c = goes_on c.in_ok-lists_refusal.ensures (goes_on c.in_ok-codes_refusal.ensures
    (goes_on c.in_ok-models_refusal.ensures (goes_on c.in_ok-words_refusal.ensures (goes_on c.in_ok-room_refusal.ensures c.refusal_of.ensures))))
