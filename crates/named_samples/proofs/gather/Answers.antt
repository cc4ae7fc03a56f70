use borrow.Author.Rules.{rules}
use Prim.Native.Nat.{ℕ, ◌+◌, ◌<◌, ◌≤◌}
use mathlib.Core.Bool.{Bool, true, false}
use mathlib.Core.List.{[], ◌++◌}
use mathlib.Core.Path.{◌≡◌, sym, ap, ◌∙◌}
use native.Mathlib.Omega.{arith}
use lib.ListN.{length, take, drop, get_or, set, length-set, length-map}
use Rattle.std.proofs.lemmas.List.{get_or-map}
use Rattle.laws.specs.Refusal.{choose}
use Rattle.laws.proofs.Chosen.{chosen-again, chosen-done}
use Rattle.sample.specs.declared.MotionSample.{MotionSample}
use Rattle.trim.specs.Inner.{no_sample}
use Rattle.class_set.specs.Set.{names, chosen}
use Rattle.named_samples.specs.Named.{lent_sample, samples_of}
use Rattle.named_samples.proofs.gather.Goals.{then-names, else-names}
use Rattle.named_samples.proofs.gather.Goals as goal

-- one more where the class is named, none where it isn't
record Counts (b : Bool) (n k m : ℕ) : Type 0 where
  is : m ≡ choose b (n + 1) n
  few : m ≤ k + 1

module _ (b : Bool) (n k : ℕ) {m : ℕ} (few : n ≤ k) where
  counts-one : b ≡ true → m ≡ n + 1 → Counts b n k m
  counts-one t e = record { is = rw t e; few = omega arith }

  counts-none : b ≡ false → m ≡ n → Counts b n k m
  counts-none t e = record { is = rw t e; few = omega arith }

pub loop-i-preserved : goal.loop-i-preserved
loop-i-preserved c = let a = c.args in
    let l = c.loop-i in
    let fours = a.samples.now in
    let inside : l.i < length fours = search rules in
    let long : l.i < length (samples_of fours) = rw (length-map fours lent_sample) inside in
    let b = names a.set (get_or a.classes.now l.i 0) in
    let counted : Counts b l.n l.i c.if-names.n =
    elim c.if-names.branch [
      | then-names w ↦ counts-one b l.n l.i l.invariant.0 (sym c.names.ensures ∙ w.if-names.true) w.n-is
      | else-names w ↦ counts-none b l.n l.i l.invariant.0 (sym c.names.ensures ∙ w.if-names.false) w.n-is
    ] in
    let read : c.lent_sample.result ≡ get_or (samples_of fours) l.i no_sample = c.lent_sample.ensures ∙ sym (get_or-map lent_sample fours l.i [] no_sample inside) in
    let rest = chosen a.set (drop (l.i + 1) (samples_of fours)) (drop (l.i + 1) a.classes.now) in (
      counted.few,
      length-set l.out l.n c.lent_sample.result ∙ l.invariant.1,
      ap (λ (s : MotionSample). take c.if-names.n (set l.out l.n s) ++ rest) read
          ∙ rw counted.is
          (chosen-again (names a.set) (samples_of fours) a.classes.now l.i l.n l.out no_sample 0 long (search rules) (search rules) l.invariant.2),
    )

pub returns : goal.returns
returns c = let a = c.args in
    let l = c.loop-i in
    let fours = a.samples.now in
    let past : length (samples_of fours) ≤ l.i = rw (length-map fours lent_sample) (search rules) in
    chosen-done (names a.set) (samples_of fours) a.classes.now l.i l.n l.out past (search rules) l.invariant.2
