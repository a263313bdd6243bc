use Rattle.std.proofs.Common.{sym, ap, ◌∙◌}
use Rattle.std.proofs.lemmas.Bool.Decides.{Decides-int_eq}
use Rattle.std.proofs.lemmas.Slice.Eq.{slice_eq-Decides}
use Rattle.ntru_ring.specs.Ring.{one_of}
use Rattle.ntru_ring.proofs.Eliminating.Inverses.{unit_is}
use Rattle.ntru_inverse.proofs.inverses_q.certified.Goals as goal

pub returns-then-eq : goal.returns-then-eq
returns-then-eq c =
    let same = (slice_eq-Decides Decides-int_eq c.trial.result.coefficients c.monomial.result.coefficients c.eq.result c.eq.ensures).0 c.if-eq.true in
    sym c.trial.ensures ∙ same ∙ c.monomial.ensures ∙ unit_is 760 ∙ ap one_of (sym c.args.f.now.length)
