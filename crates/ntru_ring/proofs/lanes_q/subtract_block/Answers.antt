use Rattle.std.proofs.Common.{arith, ◌≡◌, sym, ap, ◌∙◌, lit<, subst, All, map, neg_ℤ, to_z, of_z, length, List, ℤ}
use Rattle.std.proofs.lemmas.Grind.{common_steps}
use Rattle.std.proofs.lemmas.Simd.{length-chunk}
use lib.Lanes.{chunk, put_chunk}
use Rattle.ntru_ring.specs.Ring.{plus, scale}
use Rattle.ntru_ring.specs.Reduction.{reduced, IsWithin, IsNear}
use Rattle.ntru_ring.proofs.Rings.Congruence.{reduced_within}
use Rattle.ntru_ring.proofs.Numbers.Ranges.{stored}
use Rattle.ntru_ring.proofs.Vectors.Blocks.{kept_lanes, near_all}
use Rattle.ntru_ring.proofs.Rings.Places.{chunk_within}
use mir.Syntax.{w16}
use Rattle.ntru_ring.proofs.lanes_q.subtract_block.Goals as goal

loaded : (l z : List ℤ) → l ≡ z → All (IsWithin 2295) z → map (to_z w16) (map (of_z w16) l) ≡ z
loaded l z e w = ap (λ t. map (to_z w16) (map (of_z w16) t)) e ∙ kept_lanes 2295 z (lit< tt) w

pub estimated-lanes-requires-clause-x_length : goal.estimated-lanes-requires-clause-x_length
estimated-lanes-requires-clause-x_length c =
    let a = c.args.a.now in
    ap length (loaded c.load.result (chunk c.args.at 8 a) c.load.ensures (chunk_within 2295 c.args.at 8 a c.requires.a_within)) ∙ length-chunk c.args.at 8 a c.requires.a_place

pub estimated-lanes-requires-clause-y_length : goal.estimated-lanes-requires-clause-y_length
estimated-lanes-requires-clause-y_length c =
    let b = c.args.b.now in
    ap length (loaded c.load-2.result (chunk c.args.at 8 b) c.load-2.ensures (chunk_within 2295 c.args.at 8 b c.requires.b_within)) ∙ length-chunk c.args.at 8 b c.requires.b_place

pub estimated-lanes-requires-clause-x_within : goal.estimated-lanes-requires-clause-x_within
estimated-lanes-requires-clause-x_within c =
    let w = chunk_within 2295 c.args.at 8 c.args.a.now c.requires.a_within in
    subst (All (IsWithin 2295)) (sym (loaded c.load.result (chunk c.args.at 8 c.args.a.now) c.load.ensures w)) w

pub estimated-lanes-requires-clause-y_within : goal.estimated-lanes-requires-clause-y_within
estimated-lanes-requires-clause-y_within c =
    let w = chunk_within 2295 c.args.at 8 c.args.b.now c.requires.b_within in
    subst (All (IsWithin 2295)) (sym (loaded c.load-2.result (chunk c.args.at 8 c.args.b.now) c.load-2.ensures w)) w

pub centred_lanes-requires-clause-near : goal.centred_lanes-requires-clause-near
centred_lanes-requires-clause-near c =
    let w = c.estimated-lanes.ensures.near in subst (All IsNear) (sym (kept_lanes 6967 c.estimated-lanes.result (lit< tt) (near_all c.estimated-lanes.result w))) w

pub store-requires-clause-within : goal.store-requires-clause-within
store-requires-clause-within c =
    let w = subst (All (IsWithin 2295)) (sym c.centred_lanes.ensures) (reduced_within 2295 _) in
    subst (All (IsWithin 2295)) (sym (kept_lanes 2295 c.centred_lanes.result (lit< tt) w)) w

pub returns : goal.returns
returns c =
    let a = c.args.a.now in
    let b = c.args.b.now in
    let k = c.args.at in
    let x = loaded c.load.result (chunk k 8 a) c.load.ensures (chunk_within 2295 k 8 a c.requires.a_within) in
    let y = loaded c.load-2.result (chunk k 8 b) c.load-2.ensures (chunk_within 2295 k 8 b c.requires.b_within) in
    let w = subst (All (IsWithin 2295)) (sym c.centred_lanes.ensures) (reduced_within 2295 _) in
    let near = c.estimated-lanes.ensures.near in
    let n = neg_ℤ (to_z w16 (of_z w16 c.args.factor)) in
    let sums : c.centred_lanes.result ≡ reduced 2295 (plus (chunk k 8 a) (scale (neg_ℤ c.args.factor) (chunk k 8 b))) =
    c.centred_lanes.ensures ∙ ap (reduced 2295) (kept_lanes 6967 c.estimated-lanes.result (lit< tt) (near_all c.estimated-lanes.result near)) ∙ c.estimated-lanes.ensures.same
    ∙ ap (λ t. reduced 2295 (plus t (scale n (map (to_z w16) (map (of_z w16) c.load-2.result))))) x ∙ ap (λ t. reduced 2295 (plus (chunk k 8 a) (scale n t))) y
    ∙ ap (λ t. reduced 2295 (plus (chunk k 8 a) (scale (neg_ℤ t) (chunk k 8 b)))) (stored w16 2295 c.args.factor c.requires.factor_within (lit< tt)) in
    c.store.ensures ∙ ap (put_chunk k a) (kept_lanes 2295 c.centred_lanes.result (lit< tt) w ∙ sums)

pub centred_lanes-requires-clause-length : goal.centred_lanes-requires-clause-length
centred_lanes-requires-clause-length c = grind (arith, common_steps)
