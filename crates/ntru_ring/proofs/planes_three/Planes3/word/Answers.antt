use Rattle.std.proofs.Common.{get_or}
use mir.Syntax.{w64}
use mir.Val.{Fits}
use Rattle.std.proofs.Common.{rules}
use Rattle.ntru_ring.proofs.Vectors.Planes.{inside_word}
use Rattle.ntru_ring.proofs.planes_three.Planes3.word.Goals as goal

pub invariant_of-result : goal.invariant_of-result
invariant_of-result c =
    let p = c.args.self.now in
    let f : Fits w64 (get_or p.negative c.args.k 0) = search rules in
    record { inside = inside_word p.nonzero p.negative c.args.k f.fits p.inside }
