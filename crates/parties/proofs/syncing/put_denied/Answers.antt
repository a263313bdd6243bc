use Rattle.std.proofs.Common.{List, ap, ap₂, append_assoc, codes, decimal, ℕ, ◌++◌, ◌∙◌}
use Rattle.parties.proofs.syncing.put_denied.Goals as goal

pub returns : goal.returns
returns c =
    c.text-2.ensures.bytes
    ∙ ap (λ (l : List ℕ). l ++ codes "\n") (c.number.ensures.bytes ∙ ap₂ (λ (l : List ℕ) (n : ℕ). l ++ decimal n) c.text.ensures.bytes c.from.ensures)
    ∙ append_assoc (c.args.line.now ++ codes "refused Denied ") (decimal c.args.rule) (codes "\n")
    ∙ append_assoc c.args.line.now (codes "refused Denied ") (decimal c.args.rule ++ codes "\n")
