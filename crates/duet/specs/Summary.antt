-- What a made script comes to, in six lines.
use Rattle.std.specs.Prelude.{ℕ, List, ◌++◌, codes, decimal}
use Rattle.duet.specs.declared.tally.Tally.{Tally}

-- a name, First's number and Second's
unfoldable pub sides_text : List ℕ → ℕ → ℕ → List ℕ
sides_text name first second = name ++ codes " " ++ decimal first ++ codes " " ++ decimal second ++ codes "\n"

unfoldable pub summary_lines : Tally → List ℕ
summary_lines t =
    codes "rounds " ++ decimal t.rounds ++ codes "\n"
    ++ sides_text (codes "said") t.first.said t.second.said
    ++ sides_text (codes "opened") t.first.opened t.second.opened
    ++ sides_text (codes "refused") t.first.refused t.second.refused
    ++ sides_text (codes "epoch") t.first.epoch t.second.epoch
    ++ sides_text (codes "missing") t.first.missing t.second.missing
