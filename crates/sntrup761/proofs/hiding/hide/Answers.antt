use Rattle.std.proofs.Common.{List, ℤ, All, sym, subst}
use Rattle.ntru_codec.specs.Elements.{IsMultipleOf3}
use Rattle.sntrup761.specs.Sizes.{encrypted-rounded}
use Rattle.sntrup761.proofs.hiding.hide.Goals as goal

pub rounded_encode-rounded-requires : goal.rounded_encode-rounded-requires
rounded_encode-rounded-requires c =
    subst (λ (a : List ℤ). All IsMultipleOf3 a) (sym c.encrypt.ensures)
    (encrypted-rounded c.args.r.now.coefficients c.rq_decode.result.coefficients)
