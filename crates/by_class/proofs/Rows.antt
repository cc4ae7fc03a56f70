-- What the rows of a list and of a set let pass, and the answer of a call that judges, moves the named samples to the front of a buffer and takes them.
-- Assumes nothing.
use Prim.Native.Nat.{ℕ, ◌≤◌}
use mathlib.Core.Bool.{Bool, false, not}
use mathlib.Core.List.{List, [], ◌∷◌}
use mathlib.Core.Path.{◌≡◌, sym, ap, ◌∙◌}
use native.Mathlib.Omega.{arith}
use borrow.Author.Tests.{ltb-false}
use lib.Dec.{eqb}
use lib.ListN.{length, take}
use Rattle.laws.specs.Chosen.{Front}
use Rattle.laws.specs.Refusal.{row, either}
use Rattle.laws.proofs.Call.{answered-accepted, answered-refused}
use Rattle.laws.proofs.Refusal.{or-else-quiet, quiet, neither, length-is}
use Rattle.sample.specs.Word.{most_samples}
use Rattle.class.specs.Class.{last_class, class_over}
use Rattle.class_set.specs.Set.{names_over, chosen}
use Rattle.fit.specs.Fitted.{too_many}
use Rattle.refusal.specs.declared.Refusal.{Refusal}
use Rattle.refusal.specs.Number.{number_of}
use Rattle.refusal.proofs.Rows.{above-zero}
use Rattle.by_class.specs.ByClass.{by_class}
use Rattle.class_rows.specs.Rows.{lets_pass, empty_refusal, set_refusal}

-- what rows 1, 2 and 4 let pass
pub record Passed (wrong : Bool) (set samples : ℕ) (classes : List ℕ) : Type 0 where
  pub few : samples ≤ most_samples
  pub classed : length classes ≡ samples
  pub right : wrong ≡ false
  pub held : class_over last_class classes ≡ false
  pub named : names_over set ≡ false

pub passed : (wrong : Bool) (set samples : ℕ) (classes : List ℕ) → lets_pass wrong set samples classes ≡ 0 → Passed wrong set samples classes
passed wrong set samples classes e =
    let codes = either wrong (either (class_over last_class classes) (names_over set)) in
    let q = quiet (row 1 (too_many samples) ∷ row 2 (not (eqb (length classes) samples)) ∷ row 4 codes ∷ []) tt e in
    let n = neither wrong (either (class_over last_class classes) (names_over set)) q.1.1.0 in
    let m = neither (class_over last_class classes) (names_over set) n.1 in
    record {
      few = ltb-false most_samples samples q.0;
      classed = length-is (length classes) samples q.1.0;
      right = n.0;
      held = m.0;
      named = m.1;
    }

-- ---- a call in code, by the number r that its rows answer and the condition b that it asks for row 4

module _ {A : Type 0} (wrong : Bool) (set : ℕ) (xs : List A) (cs : List ℕ) {b : Bool} (w : b ≡ wrong) {r : ℕ} (e : r ≡ set_refusal b set (length xs) cs) where
  judged : r ≡ set_refusal wrong set (length xs) cs
  judged = e ∙ ap (λ (x : Bool). set_refusal x set (length xs) cs) w

  pub call-passed : r ≡ 0 → Passed wrong set (length xs) cs
  call-passed z = passed wrong set (length xs) cs (or-else-quiet (lets_pass wrong set (length xs) cs) (empty_refusal set) (sym judged ∙ z)).0

  module _ {B : Type 0} (refused : ℕ → B) (call : List A → B) where
    pub call-refused : (r ≡ 0 → ⊥) → refused r ≡ by_class refused wrong call set xs cs
    call-refused h =
        ap refused judged ∙ sym (answered-refused refused (set_refusal wrong set (length xs) cs) (call (chosen set xs cs)) (λ z. h (judged ∙ z)))

    pub call-answered : {answer : B} → r ≡ 0 → answer ≡ call (chosen set xs cs) → answer ≡ by_class refused wrong call set xs cs
    call-answered z a =
        a ∙ sym (answered-accepted refused (set_refusal wrong set (length xs) cs) (call (chosen set xs cs)) (sym judged ∙ z))

    -- over the named elements, moved to the front
    pub call-accepted : {out : List A} {n : ℕ} → r ≡ 0 → Front (chosen set xs cs) out n → call (take n out) ≡ by_class refused wrong call set xs cs
    call-accepted z f = call-answered z (ap call f.front)

-- ---- by the refusal that the rows answer

module _ {A : Type 0} (wrong : Bool) (set : ℕ) (xs : List A) (cs : List ℕ) {b : Bool} (w : b ≡ wrong) (x : Refusal) (e : number_of x ≡ set_refusal b set (length xs) cs) where
  pub named-refused : {k : ℕ} → k ≡ number_of x → {B : Type 0} (refused : ℕ → B) (call : List A → B) → refused k ≡ by_class refused wrong call set xs cs
  named-refused {k} n refused call = call-refused wrong set xs cs w (n ∙ e) refused call (λ z. let h = above-zero x in absurd (omega (arith, h, n, z)))
