use Rattle.std.proofs.Common.{arith, sym, ◌∙◌, ◌≡◌, ◌++◌, [], ◌∷◌, codes}
use Rattle.std.proofs.lemmas.Grind.{common_steps}
use Rattle.hex.specs.Hex.{encode_lower}
use Rattle.answer_lines.specs.Texts.{escaped}
use Rattle.answer_lines.proofs.Escaping.{other_byte}
use Rattle.answer_lines.proofs.texts.put_escaped.Goals as goal

pub returns-clause-bytes : goal.returns-clause-bytes
returns-clause-bytes c =
    let e : escaped c.args.byte ≡ codes "\\x" ++ encode_lower (c.args.byte ∷ []) = other_byte c.args.byte (sym c.is_plain.ensures ∙ c.if-is_plain.false) in
    grind (arith, common_steps)
