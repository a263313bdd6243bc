use Rattle.std.proofs.Common.{rules, tests, ◌≡◌, ◌==◌, position}
use Rattle.std.proofs.lemmas.Iterator.{YieldsList-from_slice}
use Rattle.std.proofs.lemmas.Iterator.Search.{position_from_yields_List}
use Rattle.script_parts.proofs.Splitting.{cut_halves, no_halves}
use Rattle.script_parts.proofs.split.cut_at.Goals.{After-position}
use Rattle.script_parts.proofs.split.cut_at.Goals as goal

-- `position` found the first mark
first_mark : (c : After-position) → c.position.result ≡ position (λ byte. byte == c.args.mark) c.args.text.now
first_mark c =
    position_from_yields_List (λ byte. byte == c.args.mark) _ _ c.position.result c.position.ensures.ran (YieldsList-from_slice c.args.text.now cc) (λ x b q k. search (rules, tests))

pub returns-in-Some : goal.returns-in-Some
returns-in-Some c = cut_halves c.args.mark c.args.text.now c.position.result c.in-Some.at (first_mark (goal.at.returns-in-Some c).After-position) c.in-Some.is

pub returns-in-None : goal.returns-in-None
returns-in-None c = no_halves c.args.mark c.args.text.now c.position.result (first_mark (goal.at.returns-in-None c).After-position) c.in-None.is
