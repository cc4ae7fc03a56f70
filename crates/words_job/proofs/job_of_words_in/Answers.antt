-- `words_job::job_of_words_in`: refused by its rows it leaves all as it was; otherwise what follows from the words is its outcome, with its read-back.
-- Assumes nothing.
use Prim.Native.Nat.{ℕ, ◌^◌, ◌<◌}
use mathlib.Core.Path.{sym, ◌∙◌}
use native.Mathlib.Omega.{arith}
use borrow.Author.Rules.{rules}
use lib.ListN.{get_or}
use Rattle.job_task.specs.Task.{Sheet, sheet_from}
use Rattle.words_task.proofs.Accepted.{ready}
use Rattle.job.proofs.Ending.{naming, numbered}
use Rattle.words_job.proofs.Ending.{done_refused, done-finished}
use Rattle.words_job.proofs.job_of_words_in.Goals as goal

pub returns-in-Err : goal.returns-in-Err
returns-in-Err c = let a = c.args in
    let j : Sheet = sheet_from a.words.now a.handed in
    let fit : (i : ℕ) → get_or a.words.now i 0 < 2 ^ 32 = λ i. omega (arith, c.type_inv.words i) in
    done_refused j a.blocks.now a.header.now fit (c.number.ensures ∙ c.in-Err.ensures) (λ z. numbered c.in-Err.refusal (sym c.number.ensures ∙ z)) c.refused.ensures

pub finish-requires : goal.finish-requires
finish-requires c = let a = c.args in
    let j : Sheet = sheet_from a.words.now a.handed in
    let fit : (i : ℕ) → get_or a.words.now i 0 < 2 ^ 32 = λ i. omega (arith, c.type_inv.words i) in
    naming j (ready j a.blocks.now a.header.now fit (sym c.in-Ok.ensures)).sound

pub returns-in-Ok : goal.returns-in-Ok
returns-in-Ok c = let a = c.args in
    let j : Sheet = sheet_from a.words.now a.handed in
    let fit : (i : ℕ) → get_or a.words.now i 0 < 2 ^ 32 = λ i. omega (arith, c.type_inv.words i) in
    done-finished j a.blocks.now a.header.now fit (sym c.in-Ok.ensures) c.finish.ensures
