use Rattle.std.proofs.Common.{sym, ◌∙◌}
use Rattle.scripts.specs.Lined.{lined_deed}
use Rattle.scripts.proofs.Reading.{next_read, none_left, matched_line}
use Rattle.scripts.proofs.lines.Lines.next.Goals as goal

pub invariant_of-self : goal.invariant_of-self
invariant_of-self c = (next_read _ _ _ c.self.invariant c.in-Some.ensures.line).0

pub returns-in-None : goal.returns-in-None
returns-in-None c = sym c.self.view_is ∙ none_left _ c.in-None.ensures.line

pub returns-in-Some : goal.returns-in-Some
returns-in-Some c =
    let read = (next_read _ _ _ c.self.invariant c.in-Some.ensures.line).1 in
    matched_line lined_deed c.parse.result _ _ _ _ c.parse.ensures read.1 (sym c.self.view_is ∙ read.2)
