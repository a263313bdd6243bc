use Rattle.std.proofs.Common.{◌≡◌, ℕ, subst, arith}
use Rattle.sntrup761.specs.Draws.{drawn_g, drawn_f}
use Rattle.sntrup761.proofs.Tries.{AreWithout, no-g, no-f, keys-are}
use Rattle.sntrup761.proofs.keys.keys_of.Goals as goal

pub returns-in-Pair : goal.returns-in-Pair
returns-in-Pair c =
    let i = c.loop-for_g.invariant in
    keys-are c.args.seed.now c.loop-for_g.for_g c.loop-for_g.for_f c.draw_g-g.result.coefficients
    c.draw_f-f.result.coefficients c.in-Pair.h.coefficients c.in-Pair.v.coefficients
    (omega arith) (omega arith) i.without_g i.without_f c.draw_g-g.ensures c.draw_f-f.ensures c.in-Pair.ensures

pub returns-else-for_f-lt-TRIES_FOR_F : goal.returns-else-for_f-lt-TRIES_FOR_F
returns-else-for_f-lt-TRIES_FOR_F c =
    let i = c.loop-for_g.invariant in
    let all : c.loop-for_g.for_f ≡ 4 = omega arith in
    no-f c.args.seed.now (subst (λ (n : ℕ). AreWithout 2295 (drawn_f c.args.seed.now) n) all i.without_f)

pub returns-after-loop-for_g : goal.returns-after-loop-for_g
returns-after-loop-for_g c =
    let i = c.loop-for_g.invariant in
    let all : c.loop-for_g.for_g ≡ 16 = omega arith in
    no-g c.args.seed.now (subst (λ (n : ℕ). AreWithout 1 (drawn_g c.args.seed.now) n) all i.without_g)
