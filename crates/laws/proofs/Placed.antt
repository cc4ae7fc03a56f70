-- Parts written one after the other are their whole, written at once.
-- Assumes nothing.
use Prim.Native.Nat.{ℕ, suc, ◌+◌, ◌≤◌, ◌<◌, ◌-◌}
use mathlib.Core.List.{List, [], ◌∷◌, ◌++◌, append-nil, append_assoc}
use mathlib.Core.Path.{◌≡◌, sym, ap, ◌∙◌}
use native.Mathlib.Numerals.{add-one}
use native.Mathlib.Omega.{arith}
use lib.ListN.{length, take, drop, set, get_or, length-append, length-take, length-drop}
use lib.Seq.{take-append_seam, drop-append_seam, drop-drop, sets, sets-eq, drop-cons, set-append_seam, take_all, length-take-le}
use Rattle.laws.specs.Buffer.{onto}
use Rattle.laws.specs.Placed.{placed}

module _ {A : Type 0} where
  -- the second part right after the first
  pub placed-after : (a b old : List A) → placed (length a) b (onto a old) ≡ onto (a ++ b) old
  placed-after a b old =
      rw (take-append_seam a (drop (length a) old), drop-append_seam a (drop (length a) old), drop-drop (length b) (length a) old, length-append a b)
      (sym (append_assoc a b (drop (length a + length b) old)))

  pub placed_at : (n : ℕ) (a b old : List A) → length a ≡ n → placed n b (onto a old) ≡ onto (a ++ b) old
  placed_at n a b old e = rw (← e) (placed-after a b old)

  -- one element right after the first part
  pub set_after : (n : ℕ) (a old : List A) (x : A) → length a ≡ n → n < length old → set (onto a old) n x ≡ onto (a ++ (x ∷ [])) old
  set_after n a old x e h =
      rw (← e)
      (let l : length a < length old = omega arith in
      rw (
        drop-cons old (length a) x l,
        set-append_seam a (get_or old (length a) x) (drop (suc (length a)) old) x,
        length-append a (x ∷ []),
        add-one (length a),
        append_assoc a (x ∷ []) (drop (suc (length a)) old),
      ))

  -- a part in its place is the front up to it, written over
  pub placed-front : (at : ℕ) (new old : List A) → at ≤ length old → placed at new old ≡ onto (take at old ++ new) old
  placed-front at new old h =
      ap (λ (r : List A). take at old ++ (new ++ r)) (drop-drop (length new) at old)
      ∙ sym (append_assoc (take at old) new (drop (at + length new) old))
      ∙ ap (λ (n : ℕ). take at old ++ new ++ drop n old) (sym (length-append (take at old) new ∙ ap (λ (n : ℕ). n + length new) (length-take-le at old h)))

  -- all of it
  pub onto-whole : (new old : List A) → length old ≤ length new → onto new old ≡ new
  onto-whole new old h = rw (lib.ListN.drop_of_length-le old h) (append-nil new)

  pub placed-length : (at : ℕ) (new old : List A) → at + length new ≤ length old → length (placed at new old) ≡ length old
  placed-length at new old h =
      rw (length-append (take at old) (onto new (drop at old)), length-append new (drop (length new) (drop at old)), length-drop (length new) (drop at old), length-drop at old, length-take at old)
      (omega arith)

  -- the stores of straight-line code
  pub sets-placed : (at : ℕ) (new old : List A) → at + length new ≤ length old → sets old at new ≡ placed at new old
  sets-placed at new old h =
      sets-eq new old at h ∙ append_assoc (take at old) new (drop (at + length new) old)
      ∙ ap (λ (r : List A). take at old ++ (new ++ r)) (sym (drop-drop (length new) at old))

  -- a part from a position to the end, lent
  pub tail-whole : (a : ℕ) (l : List A) → take (length l - a) (drop a l) ≡ drop a l
  tail-whole a l = take_all (length l - a) (drop a l) (rw (length-drop a l) (omega arith))

  -- and back, written from its front
  pub tail-placed : (a : ℕ) (old new last : List A) → last ≡ onto new (take (length old - a) (drop a old))
      → take a old ++ (last ++ drop (length old - a) (drop a old)) ≡ placed a new old
  tail-placed a old new last e =
      let rest : length (drop a old) ≤ length old - a = rw (length-drop a old) (omega arith) in
      rw (lib.ListN.drop_of_length-le (drop a old) rest, append-nil last, e, tail-whole a old)
