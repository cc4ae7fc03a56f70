use Prim.Native.Nat.{ℕ, ◌+◌}
use mathlib.Core.Bool.{Bool}
use mathlib.Core.List.{◌++◌}
use mathlib.Core.Path.{◌≡◌, refl, sym, ap, ◌∙◌}
use native.Mathlib.Omega.{arith}
use lib.ListN.{take, drop, get_or, set, length-set}
use lib.Ieee.{Float, nan}
use Rattle.laws.specs.Chosen.{chosen_by}
use Rattle.laws.specs.Refusal.{choose}
use Rattle.laws.proofs.Chosen.{chosen-again, chosen-done}
use Rattle.word_trim.specs.Inner.{at_most}
use Rattle.word_trim.proofs.keep.Goals.{then-squares-i, else-squares-i}
use Rattle.word_trim.proofs.keep.Goals as goal

-- counted or not, by the test
counted : (limit s : Float) (n r : ℕ) (b : Bool) → at_most limit s ≡ b → r ≡ choose b (n + 1) n → r ≡ choose (at_most limit s) (n + 1) n
counted limit s n r b h e = e ∙ ap (λ (t : Bool). choose t (n + 1) n) (sym h)

pub loop-i-init : goal.loop-i-init
loop-i-init c = (omega arith, omega arith, refl, refl)

pub loop-i-preserved : goal.loop-i-preserved
loop-i-preserved c = let a = c.args in
    let l = c.loop-i in
    let inside = c.loop-i-test.true in
    let words = a.words.now in
    let squares = a.squares.now in
    let p = at_most a.limit in
    let next = set l.kept l.n (get_or words l.i 0) in
    let label = get_or squares l.i nan in
    let moved = chosen-again p words squares l.i l.n l.kept 0 nan inside (omega arith) (omega arith) l.invariant.3 in
    let rest = chosen_by p (drop (l.i + 1) words) (drop (l.i + 1) squares) in
    elim c.if-squares-i.branch [
      | then-squares-i w ↦ (omega arith, rw w.n-is (omega arith), length-set l.kept l.n (get_or words l.i 0) ∙ l.invariant.2, ap (λ (k : ℕ). take k next ++ rest) (counted a.limit label l.n c.if-squares-i.n _ w.if-squares-i.true w.n-is) ∙ moved)
      | else-squares-i w ↦ (omega arith, rw w.n-is (omega arith), length-set l.kept l.n (get_or words l.i 0) ∙ l.invariant.2, ap (λ (k : ℕ). take k next ++ rest) (counted a.limit label l.n c.if-squares-i.n _ w.if-squares-i.false w.n-is) ∙ moved)
    ]

pub returns : goal.returns
returns c = let a = c.args in
    let l = c.loop-i in record { front = chosen-done (at_most a.limit) a.words.now a.squares.now l.i l.n l.kept c.loop-i-test.false (omega arith) l.invariant.3; kept_len_unchanged = l.invariant.2 }
