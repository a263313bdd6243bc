use Rattle.std.proofs.Common.{rules, ◌≡◌, ◌<◌, ◌≤◌, ◌*◌, ◌+◌, ℕ, List, arith, lit<, get_or, ◌∙◌, inl, inr}
use Rattle.std.proofs.lemmas.Bool.{cases_lt}
use Rattle.std.proofs.lemmas.Nat.Bits.{bit_at-trailing_zeros}
use Rattle.std.specs.Int.{bit_at}
use Rattle.ntru_ring.specs.Planes.{bit_of}
use Rattle.ntru_ring.proofs.Vectors.Planes.{bit_of_word, below_lead, zero_at, nonzero_at}
use mir.Syntax.{w64}
use mir.Val.{Fits}
use Rattle.ntru_ring.proofs.planes_three.Planes3.lead.Goals as goal

-- the place of the lowest bit of a word that isn't zero lies before the end
inside : (m : List ℕ) (w t : ℕ) → t < 64 → bit_at (get_or m w 0) t ≡ 1 → ((k : ℕ) → 761 ≤ k → bit_of m k ≡ 0) → 64 * w + t < 761
inside m w t l b e = elim (cases_lt (64 * w + t) 761) [
  | inl h ↦ h
  | inr h ↦ absurd (omega (arith, bit_of_word m w t l, b, e (64 * w + t) h))
]

pub returns-then-self-k-ne0-clause-within : goal.returns-then-self-k-ne0-clause-within
returns-then-self-k-ne0-clause-within c =
    let p = c.args.self.now in
    let w = c.loop-k.k in
    let f : Fits w64 (get_or p.nonzero w 0) = search rules in
    let z = bit_at-trailing_zeros w64 (get_or p.nonzero w 0) (omega (arith, c.if-self-k-ne0.true)) f.fits in
    omega (arith, inside p.nonzero w _ z.0 z.1 p.end)

pub returns-then-self-k-ne0-clause-before : goal.returns-then-self-k-ne0-clause-before
returns-then-self-k-ne0-clause-before c = λ k l.
    let p = c.args.self.now in
    let w = c.loop-k.k in
    let f : Fits w64 (get_or p.nonzero w 0) = search rules in
    let z = bit_at-trailing_zeros w64 (get_or p.nonzero w 0) (omega (arith, c.if-self-k-ne0.true)) f.fits in
    let h = inside p.nonzero w _ z.0 z.1 p.end in
    zero_at p.nonzero p.negative k (omega arith) p.inside (below_lead p.nonzero w _ k c.loop-k.invariant z.2 z.0 l)

pub returns-then-self-k-ne0-clause-there : goal.returns-then-self-k-ne0-clause-there
returns-then-self-k-ne0-clause-there c = λ l.
    let p = c.args.self.now in
    let w = c.loop-k.k in
    let f : Fits w64 (get_or p.nonzero w 0) = search rules in
    let z = bit_at-trailing_zeros w64 (get_or p.nonzero w 0) (omega (arith, c.if-self-k-ne0.true)) f.fits in
    nonzero_at p.nonzero p.negative _ l p.inside (bit_of_word p.nonzero w _ z.0 ∙ z.1)

pub returns-clause-before : goal.returns-clause-before
returns-clause-before c = λ k l.
    let p = c.args.self.now in
    zero_at p.nonzero p.negative k l p.inside
    (below_lead p.nonzero 12 0 k (λ i h. c.loop-k.invariant i (omega arith)) (λ j h. absurd (omega arith)) (lit< tt) (omega arith))
