use Prim.Native.Nat.{ℕ, zero, suc, ◌+◌, ◌*◌, ◌-◌, ◌^◌, ◌≤◌, ◌<◌}
use mathlib.Core.List.{List, [], ◌∷◌, ◌++◌}
use mathlib.Core.Path.{◌≡◌, ap, sym, ◌∙◌, subst}
use native.Mathlib.Nat.{add-zero, zero-div}
use native.Mathlib.Omega.{arith}
use lib.IntN.{ℤ}
use lib.ListN.{length, get_or}
use Rattle.bits.specs.Inner.{Room, Wrote}
use Rattle.bits.specs.Fields.{field_bits}
use Rattle.bits.proofs.Fields.{length-field_bits}
use Rattle.bits.proofs.Buffer.{Reached, reached-first, reached-room, reached-more}
use Rattle.header.specs.Inner.{Identities}
use Rattle.header.specs.Writing.{model_bits, reference_bits, references_bits, header_bits}
use Rattle.header.proofs.RoundTrip.{model-coded}
use Rattle.header.proofs.Header.write.Goals as goal

module _ (flag : ℕ) (types : List ℕ) (ps qs : List ℤ) where
  -- the references from r on
  abbrev left : ℕ → List ℕ
  left r = references_bits flag ps qs types (7 - r) r

  abbrev one : ℕ → List ℕ
  one r = reference_bits flag ps qs (get_or types r 0) (6 * r)

  one-identity : (r : ℕ) → get_or types r 0 ≡ 0 → one r ≡ 0 ∷ []
  unfolding reference_bits model_bits
  one-identity r e = rw e

  left-more : (r : ℕ) → r < 7 → left r ≡ one r ++ left (r + 1)
  left-more r h =
      let n : 7 - r ≡ suc (7 - (r + 1)) = omega arith in
      ap (λ (k : ℕ). references_bits flag ps qs types k r) n

  -- a run of identities is a field of zeros
  zeros : (n r : ℕ) → Identities types r n → r + n ≤ 7 → left r ≡ field_bits n 0 ++ left (r + n)
  zeros zero r s h = ap left (sym (add-zero r))
  zeros (suc n) r s h =
      let first : get_or types r 0 ≡ 0 = subst (λ (k : ℕ). get_or types k 0 ≡ 0) (add-zero r) (s.each 0 (omega arith)) in
      let e : r + 1 + n ≡ r + suc n = omega arith in
      let rest = zeros n (r + 1) (record { within = omega (arith, s.within); each = λ i l. next s.each i l }) (omega arith) in
      left-more r (omega arith) ∙ rw (one-identity r first, zero-div (2 ^ n), ← e) (ap (λ (t : List ℕ). 0 ∷ t) rest)
    where
      next : ((i : ℕ) → i < suc n → get_or types (r + i) 0 ≡ 0) → (i : ℕ) → i < n → get_or types (r + 1 + i) 0 ≡ 0
      next each i l = subst (λ (k : ℕ). get_or types k 0 ≡ 0) (let e : r + suc i ≡ r + 1 + i = omega arith in e) (each (suc i) (omega arith))

  -- the bits xs come next, up to reference s
  module _ {l₀ all l : List ℕ} {j₀ j : ℕ} (r s : ℕ) (xs : List ℕ) (e : left r ≡ xs ++ left s) (w : Reached l₀ j₀ all l j (left r)) where
    ahead : Reached l₀ j₀ all l j (xs ++ left s)
    ahead = rw e at w

    room : Room l₀ j₀ (length all) → Room l j (length xs)
    room = reached-room xs (left s) ahead

    more : (l' : List ℕ) (j' : ℕ) → Wrote l j xs l' j' → Reached l₀ j₀ all l' j' (left s)
    more = reached-more xs (left s) ahead

pub loop-r-init : goal.loop-r-init
unfolding header_bits
loop-r-init c = (omega arith, reached-first _ _ _)

pub write-next-requires-clause-right : goal.write-next-requires-clause-right
write-next-requires-clause-right c = let h = c.args.self in
    let e = c.model.ensures in
    rw (e.gm_type, e.flag, e.params, e.first) (model-coded h.types.now h.params.now h.flag h.prior.now c.loop-r.r c.requires.0 (omega arith)).right

pub write-next-requires-clause-room : goal.write-next-requires-clause-room
write-next-requires-clause-room c = let h = c.args.self in
    let e = c.model.ensures in
    let l = c.loop-r in
    let more-bits = left-more h.flag h.types.now h.params.now h.prior.now l.r (omega arith) in
    rw (e.gm_type, e.flag, e.params, e.prior, e.first) (room h.flag h.types.now h.params.now h.prior.now l.r (l.r + 1) (one h.flag h.types.now h.params.now h.prior.now l.r) more-bits l.invariant.1 c.requires.1)

pub loop-r-preserved-then-n-eq0 : goal.loop-r-preserved-then-n-eq0
loop-r-preserved-then-n-eq0 c = let h = c.args.self in
    let e = c.model.ensures in
    let l = c.loop-r in
    let more-bits = left-more h.flag h.types.now h.params.now h.prior.now l.r (omega arith) in (
      omega arith,
      more h.flag h.types.now h.params.now h.prior.now l.r (l.r + 1) (one h.flag h.types.now h.params.now h.prior.now l.r) more-bits
          l.invariant.1 _ _ (rw (e.gm_type, e.flag, e.params, e.prior, e.first) at c.write-next.ensures),
    )

pub write_bits-next-requires : goal.write_bits-next-requires
write_bits-next-requires c = let h = c.args.self in
    let seven = c.requires.0.ready.all.seven in
    let l = c.loop-r in
    let n = c.identities-n.result in
    let within = c.identities-n.ensures.within in
    let run = zeros h.flag h.types.now h.params.now h.prior.now n l.r c.identities-n.ensures (omega (arith, within, seven)) in (
      omega (arith, within, seven),
      rw (length-field_bits n 0) at (room h.flag h.types.now h.params.now h.prior.now l.r (l.r + n) (field_bits n 0) run l.invariant.1 c.requires.1),
    )

pub loop-r-preserved : goal.loop-r-preserved
loop-r-preserved c = let h = c.args.self in
    let seven = c.requires.0.ready.all.seven in
    let l = c.loop-r in
    let n = c.identities-n.result in
    let within = c.identities-n.ensures.within in
    let run = zeros h.flag h.types.now h.params.now h.prior.now n l.r c.identities-n.ensures (omega (arith, within, seven)) in (
      omega (arith, within, seven),
      more h.flag h.types.now h.params.now h.prior.now l.r (l.r + n) (field_bits n 0) run l.invariant.1 _ _ c.write_bits-next.ensures,
    )
