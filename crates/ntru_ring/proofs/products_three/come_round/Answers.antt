use Rattle.std.proofs.Common.{get_or, replicate, rules}
use mir.Syntax.{w64}
use mir.Val.{Fits}
use Rattle.ntru_ring.proofs.Vectors.Rounds.{round_low, round_rest}
use Rattle.ntru_ring.proofs.products_three.come_round.Goals as goal

pub returns-clause-low : goal.returns-clause-low
returns-clause-low c =
    let f : Fits w64 (get_or c.args.words.now 10 0) = search rules in
    round_low c.args.words.now (replicate 11 0) f.fits

pub returns-clause-rest : goal.returns-clause-rest
returns-clause-rest c = λ k l. round_rest _ k l
