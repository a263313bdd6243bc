use Rattle.std.proofs.Common.{◌∙◌}
use Rattle.scripts.proofs.Making.{taken_is, two_lines}
use Rattle.scripts.proofs.make.taken_text.Goals as goal

pub returns : goal.returns
returns c =
    two_lines _ _ _ _ _ _ _ _ _ _ _ _ _ _ _ c.new-lines.ensures c.side_name.ensures.name c.side_name-2.ensures.name c.from.ensures c.text.ensures.bytes c.text-2.ensures.bytes
    c.number.ensures.bytes c.text-3.ensures.bytes c.text-4.ensures.bytes c.text-5.ensures.bytes
    ∙ taken_is c.args.side c.args.round c.args.nth
