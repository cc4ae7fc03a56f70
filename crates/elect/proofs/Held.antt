-- Who is held after any turns is nobody or a candidate inside the gate; an election is refused for 16 alone, and 16 of any type ends it.
-- Assumes nothing.
use Prim.Native.Nat.{ℕ, ◌≤◌}
use mathlib.Core.Bool.{Bool, true, false}
use mathlib.Core.List.{List, [], ◌∷◌, ◌++◌}
use mathlib.Core.Logic.{◌⊎◌, inl, inr, ⊎_elim}
use mathlib.Core.Path.{◌≡◌, refl, sym, ap, subst, ◌∙◌}
use native.Mathlib.Omega.{arith}
use borrow.Author.Tests.{eqb-true}
use lib.Dec.{eqb, lit≤}
use lib.Ieee.{Float, lt}
use Rattle.laws.specs.Loops.{fold}
use Rattle.laws.specs.Refusal.{choose}
use Rattle.sample.specs.declared.MotionSample.{MotionSample}
use Rattle.trim.specs.declared.TrimmedModel.{TrimmedModel}
use Rattle.elect.specs.declared.Elected.{Elected}
use Rattle.elect.specs.Elect.{floor, error_from, energy_from, gate, candidate_from, unfit, elected_as, nobody, stopped, beats, held_after, judged, turn, types, winner_from}
use Rattle.elect.specs.Inside.{Inside}
use Rattle.elect.proofs.Turns.{turn-ended, turn-stops}

-- either way of a test
either_way : (P : Elected → Type 0) (b : Bool) (x y : Elected) → (b ≡ true → P x) → (b ≡ false → P y) → P (choose b x y)
either_way P true x y f g = f refl
either_way P false x y f g = g refl

-- the types of an election
abbrev Kinds : List ℕ → Type 0
Kinds [] = Unit {0}
Kinds (k ∷ ks) = ((1 ≤ k) × (k ≤ 3)) × Kinds ks

module _ {A : Type 0} (read : A → MotionSample) (flag : ℕ) (xs : List A) (energy : Float) where
  -- ---- who is held

  abbrev pub Holds : Elected → Type 0
  Holds e = e.refusal ≡ 0 → (e ≡ nobody energy) ⊎ Inside read flag xs energy e

  module _ (h : Elected) (held : Holds h) (kind : ℕ) (least : 1 ≤ kind) (most : kind ≤ 3) where
    abbrev c : TrimmedModel
    c = candidate_from read flag xs kind

    abbrev err : Float
    err = error_from read c.params xs

    after_holds : c.refusal ≡ 0 → unfit kind c.params ≡ false → Holds (held_after energy h kind c.params err)
    unfolding held_after
    after_holds fitted fit =
        either_way Holds (lt (gate energy) err) h (choose (beats err h) (elected_as 0 kind c.params err) h) (λ above. held)
        (λ under.
        either_way Holds (beats err h) (elected_as 0 kind c.params err) h
        (λ wins z. inr (record { some-type = least; last_type = most; fitted = fitted; numbers = refl; fit = fit; error = refl; under = under }))
        (λ loses. held))

    abbrev next : Elected
    next = choose (unfit kind c.params) h (held_after energy h kind c.params err)

    next-holds : c.refusal ≡ 0 → Holds next
    next-holds fitted =
        either_way Holds (unfit kind c.params) h (held_after energy h kind c.params err) (λ no. held) (λ fit. after_holds fitted fit)

    judged-holds : Holds (judged read xs energy h kind c)
    judged-holds =
        either_way Holds (eqb c.refusal 16) (stopped 16) (choose (eqb c.refusal 0) next h) (λ e z. absurd (omega arith))
        (λ no. either_way Holds (eqb c.refusal 0) next h (λ e. next-holds (eqb-true c.refusal 0 e)) (λ e. held))

    turn_holds : Holds (turn read flag xs energy h kind)
    unfolding turn
    turn_holds = either_way Holds (eqb h.refusal 0) (judged read xs energy h kind c) h (λ e. judged-holds) (λ e. held)

  turns-hold : (kinds : List ℕ) → Kinds kinds → (h : Elected) → Holds h → Holds (fold (turn read flag xs energy) kinds h)
  turns-hold [] k h held = held
  turns-hold (kind ∷ kinds) k h held =
      turns-hold kinds k.1 (turn read flag xs energy h kind) (turn_holds h held kind k.0.0 k.0.1)

  -- ---- 16

  -- not refused, or refused with 16 and zeros
  abbrev pub Numbered : Elected → Type 0
  Numbered e = (e.refusal ≡ 0) ⊎ (e ≡ stopped 16)

  module _ (h : Elected) (n : Numbered h) (kind : ℕ) where
    abbrev own : TrimmedModel
    own = candidate_from read flag xs kind

    after-numbered : Numbered (held_after energy h kind own.params (error_from read own.params xs))
    unfolding held_after
    after-numbered =
        either_way Numbered (lt (gate energy) (error_from read own.params xs)) h _ (λ e. n)
        (λ e. either_way Numbered (beats (error_from read own.params xs) h) (elected_as 0 kind own.params (error_from read own.params xs)) h (λ q. inl refl) (λ q. n))

    judged-numbered : Numbered (judged read xs energy h kind own)
    judged-numbered =
        either_way Numbered (eqb own.refusal 16) (stopped 16) _ (λ e. inr refl)
        (λ e.
        either_way Numbered (eqb own.refusal 0) _ h
        (λ q. either_way Numbered (unfit kind own.params) h _ (λ u. n) (λ u. after-numbered)) (λ q. n))

    turn-numbered : Numbered (turn read flag xs energy h kind)
    unfolding turn
    turn-numbered = either_way Numbered (eqb h.refusal 0) (judged read xs energy h kind own) h (λ e. judged-numbered) (λ e. n)

    -- 16 stays to the end
    turn-stays : h.refusal ≡ 16 → (turn read flag xs energy h kind).refusal ≡ 16
    turn-stays z =
        sym (ap (λ (w : Elected). w.refusal) (turn-ended read flag xs energy h kind (λ q. let x : ◌≡◌ {A = ℕ} 16 0 = sym z ∙ q in absurd (omega arith)))) ∙ z

    -- a type's 16, also where another is held
    turn-sixteen : own.refusal ≡ 16 → (turn read flag xs energy h kind).refusal ≡ 16
    turn-sixteen e =
        ⊎_elim
        (λ (z : h.refusal ≡ 0). sym (ap (λ (w : Elected). w.refusal) (turn-stops read flag xs energy h kind z own refl e)))
        (λ (z : h ≡ stopped 16). turn-stays (ap (λ (w : Elected). w.refusal) z))
        n

  turns-numbered : (kinds : List ℕ) (h : Elected) → Numbered h → Numbered (fold (turn read flag xs energy) kinds h)
  turns-numbered [] h n = n
  turns-numbered (kind ∷ kinds) h n = turns-numbered kinds (turn read flag xs energy h kind) (turn-numbered h n kind)

  turns-stay : (kinds : List ℕ) (h : Elected) → Numbered h → h.refusal ≡ 16 → (fold (turn read flag xs energy) kinds h).refusal ≡ 16
  turns-stay [] h n e = e
  turns-stay (kind ∷ kinds) h n e = turns-stay kinds (turn read flag xs energy h kind) (turn-numbered h n kind) (turn-stays h n kind e)

  turns-sixteen : (before after : List ℕ) (kind : ℕ) (h : Elected) → Numbered h → (candidate_from read flag xs kind).refusal ≡ 16
      → (fold (turn read flag xs energy) (before ++ (kind ∷ after)) h).refusal ≡ 16
  turns-sixteen [] after kind h n e = turns-stay after (turn read flag xs energy h kind) (turn-numbered h n kind) (turn-sixteen h n kind e)
  turns-sixteen (b ∷ before) after kind h n e = turns-sixteen before after kind (turn read flag xs energy h b) (turn-numbered h n b) e

-- ---- the election

module _ {A : Type 0} (read : A → MotionSample) (flag : ℕ) (xs : List A) where
  abbrev energy : Float
  energy = energy_from read xs

  three-kinds : Kinds types
  three-kinds = ((lit≤ tt, lit≤ tt), ((lit≤ tt, lit≤ tt), ((lit≤ tt, lit≤ tt), tt)))

  -- the answer, its numbers x first, is nobody's or a candidate's inside the gate
  pub winner-inside : (winner_from read flag xs).refusal ≡ 0 → (winner_from read flag xs ≡ nobody energy) ⊎ Inside read flag xs energy (winner_from read flag xs)
  unfolding winner_from
  winner-inside =
      either_way (Holds read flag xs energy) (lt energy floor) (nobody energy) (fold (turn read flag xs energy) types (nobody energy)) (λ e z. inl refl)
      (λ e. turns-hold read flag xs energy types three-kinds (nobody energy) (λ z. inl refl))

  -- refused for 16 alone, and then all zeros
  pub winner-numbered : Numbered read flag xs energy (winner_from read flag xs)
  unfolding winner_from
  winner-numbered =
      either_way (Numbered read flag xs energy) (lt energy floor) (nobody energy) (fold (turn read flag xs energy) types (nobody energy)) (λ e. inl refl)
      (λ e. turns-numbered read flag xs energy types (nobody energy) (inl refl))

  -- 16 of any type ends the call
  pub sixteen-ends : (before after : List ℕ) (kind : ℕ) → types ≡ before ++ (kind ∷ after) → lt energy floor ≡ false
      → (candidate_from read flag xs kind).refusal ≡ 16 → (winner_from read flag xs).refusal ≡ 16
  unfolding winner_from
  sixteen-ends before after kind split moving e =
      ap (λ (b : Bool). (choose b (nobody energy) (fold (turn read flag xs energy) types (nobody energy))).refusal) moving
      ∙ ap (λ (kinds : List ℕ). (fold (turn read flag xs energy) kinds (nobody energy)).refusal) split
      ∙ turns-sixteen read flag xs energy before after kind (nobody energy) (inl refl) e

  -- ---- the winner by its type

  -- type 0 is nobody's
  pub winner-none : (winner_from read flag xs).refusal ≡ 0 → (winner_from read flag xs).gm_type ≡ 0 → winner_from read flag xs ≡ nobody energy
  winner-none e z =
      ⊎_elim
      (λ (n : winner_from read flag xs ≡ nobody energy). n)
      (λ (i : Inside read flag xs energy (winner_from read flag xs)). absurd (omega (arith, i.some-type, z)))
      (winner-inside e)

  -- any other is a candidate's inside the gate
  pub winner-some : (winner_from read flag xs).refusal ≡ 0 → 1 ≤ (winner_from read flag xs).gm_type → Inside read flag xs energy (winner_from read flag xs)
  winner-some e l =
      ⊎_elim
      (λ (n : winner_from read flag xs ≡ nobody energy). let z = ap (λ (w : Elected). w.gm_type) n in absurd (omega (arith, l, z)))
      (λ (i : Inside read flag xs energy (winner_from read flag xs)). i)
      (winner-inside e)

  pub winner-last : (winner_from read flag xs).refusal ≡ 0 → (winner_from read flag xs).gm_type ≤ 3
  winner-last e =
      ⊎_elim
      (λ (n : winner_from read flag xs ≡ nobody energy). let z = ap (λ (w : Elected). w.gm_type) n in omega (arith, z))
      (λ (i : Inside read flag xs energy (winner_from read flag xs)). i.last_type)
      (winner-inside e)

  -- the score is that of the winner's numbers over all samples
  pub winner-score : (winner_from read flag xs).refusal ≡ 0 → (winner_from read flag xs).score ≡ error_from read (winner_from read flag xs).params xs
  winner-score e =
      ⊎_elim
      (λ (n : winner_from read flag xs ≡ nobody energy). subst (λ (w : Elected). w.score ≡ error_from read w.params xs) (sym n) refl)
      (λ (i : Inside read flag xs energy (winner_from read flag xs)). i.error)
      (winner-inside e)
