use Rattle.std.proofs.Common.{◌≡◌, ◌<◌, ◌≤◌, ℕ, length, get_or, ℤ, ◌+ℤ◌, ◌∙◌, arith, length-set}
use Rattle.std.specs.Int.{bit_at}
use Rattle.ntru_ring.specs.Reduction.{centred}
use Rattle.ntru_ring.specs.Planes.{from_bits}
use Rattle.ntru_ring.proofs.Vectors.Planes.{inside_planes, sum_is, sum_end, words_put}
use Rattle.ntru_ring.proofs.planes_three.Planes3.add.Goals as goal

pub invariant_of-result : goal.invariant_of-result
invariant_of-result c =
    let p = c.args.self.now in
    let q = c.args.o.now in
    let v = c.loop-k.invariant in
    let i = inside_planes c.loop-k.nonzero c.loop-k.negative v.nonzero_length v.negative_length (λ i j l. v.inside i j (omega arith)) in
    record {
      inside = i;
      end = sum_end p.nonzero p.negative q.nonzero q.negative c.loop-k.nonzero c.loop-k.negative (record { inside = p.inside; end = p.end }) (record { inside = q.inside; end = q.end }) v.nonzero_length (λ i j l. v.done i j (omega arith)) i;
    }

pub returns : goal.returns
returns c =
    let p = c.args.self.now in
    let q = c.args.o.now in
    let v = c.loop-k.invariant in
    sum_is p.nonzero p.negative q.nonzero q.negative c.loop-k.nonzero c.loop-k.negative (record { inside = p.inside; end = p.end }) (record { inside = q.inside; end = q.end }) v.nonzero_length (λ i j l. v.done i j (omega arith))

pub loop-k-preserved : goal.loop-k-preserved
loop-k-preserved c =
    let p = c.args.self.now in
    let q = c.args.o.now in
    let v = c.loop-k.invariant in
    let r = c.loop-k.nonzero in
    let s = c.loop-k.negative in
    let k = c.loop-k.k in
    let sum = c.add-sum.result in
    let one = c.word.ensures in
    let other = c.word-in-loop-k.ensures in
    let short_r : k < length r = omega arith in
    let short_s : k < length s = omega arith in
    let sum_of : ℕ → ℕ → ℤ = λ i j. centred 1 (from_bits (bit_at (get_or p.nonzero i 0) j) (bit_at (get_or p.negative i 0) j) +ℤ from_bits (bit_at (get_or q.nonzero i 0) j) (bit_at (get_or q.negative i 0) j)) in
    let here : (j : ℕ) → from_bits (bit_at sum.nonzero j) (bit_at sum.negative j) ≡ sum_of k j = λ j. rw (← one.nonzero, ← one.negative, ← other.nonzero, ← other.negative) (c.add-sum.ensures j) in
    record {
      nonzero_length = length-set r k sum.nonzero ∙ v.nonzero_length;
      negative_length = length-set s k sum.negative ∙ v.negative_length;
      inside = λ i j l. words_put (λ i a b. bit_at b j ≤ bit_at a j) r s k sum.nonzero sum.negative short_r short_s (sum.inside j) (λ i h. v.inside i j h) i l;
      done = λ i j l. words_put (λ i a b. from_bits (bit_at a j) (bit_at b j) ≡ sum_of i j) r s k sum.nonzero sum.negative short_r short_s (here j) (λ i h. v.done i j h) i l;
    }
