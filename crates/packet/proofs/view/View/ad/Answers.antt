use Rattle.std.proofs.Common.{sym, subst, arith}
use Rattle.std.proofs.lemmas.List.{length-take-le}
use Rattle.packet.specs.Parts.{IsViewed}
use Rattle.packet.proofs.Viewed.{viewed_ad, viewed_len}
use Rattle.packet.proofs.view.View.ad.Goals as goal

pub slice_bounds-result-end : goal.slice_bounds-result-end
slice_bounds-result-end c =
    let viewed = subst (IsViewed c.self.inside.bytes.now) c.self.view_is c.self.invariant in
    sym (length-take-le _ _ (omega (arith, viewed_len _ _ viewed)))

pub returns : goal.returns
returns c =
    let viewed = subst (IsViewed c.self.inside.bytes.now) c.self.view_is c.self.invariant in
    rw c.ciphertext_place-end.ensures.value (viewed_ad _ _ viewed)
