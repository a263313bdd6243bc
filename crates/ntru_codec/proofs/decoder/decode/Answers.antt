use Rattle.std.proofs.Common.{◌<◌, List, ℕ, arith, length, sym, ◌∙◌, subst}
use Rattle.std.specs.List.{AllZip}
use Rattle.std.proofs.lemmas.List.{take_all}
use Rattle.ntru_codec.proofs.Undo.{decoded-below}
use Rattle.ntru_codec.proofs.decoder.decode.Goals as goal

pub returns-clause-below : goal.returns-clause-below
returns-clause-below c =
    let limits = c.args.limits.now in
    let P : List ℕ → Type 0 = λ xs. AllZip ◌<◌ xs limits in
    subst P (sym c.decode_into.ensures ∙ take_all (length limits) c.decode_into.new.out (omega arith)) (decoded-below c.args.bytes.now limits c.requires.limits)
