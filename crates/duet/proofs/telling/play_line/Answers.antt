use Rattle.std.proofs.Common.{Err, ◌∙◌, ap, ap₂, subst}
use Rattle.dr_model.specs.Machines.Sides.{step_on}
use Rattle.dr_ports.specs.Ports.{appended}
use Rattle.dr_ports.specs.Writing.{Writes}
use Rattle.dr_ports.proofs.WritingLemmas.{writes_behind, writes_first}
use Rattle.duet.specs.Held.{DuetNow, shown}
use Rattle.duet.specs.Replies.{reply_line, reply_of, shown_lines}
use Rattle.scripts.specs.Sides.{acting_side}
use Rattle.scripts.specs.Seen.{event_of}
use Rattle.duet.proofs.Showing.{shown-same}
use Rattle.duet.proofs.telling.play_line.Goals as goal

pub returns-in-Ok-clause-writes : goal.returns-in-Ok-clause-writes
unfolding reply_of
returns-in-Ok-clause-writes g c =
    let k = g.K.Kem.mechanism in
    let event = event_of c.args.line.now in
    let sides = c.args.duet.now.sides in
    let line = ap₂ reply_line c.side.ensures c.step-answer.ensures.answer in
    let same = ap (λ (d : DuetNow). shown event d.sides) c.step-answer.ensures.next ∙ shown-same k sides event in
    writes_behind _ _ _ (reply_line (acting_side event) (step_on k sides event).answer) (shown_lines (acting_side event) (step_on k sides event).shown) _
    (c.in-Ok.ensures.writes.whole ∙ ap (appended (g.O.Sink.at c.args.out.now).taken) line) c.in-Ok.ensures.writes.cause.passed
    (subst (λ bytes. Writes (g.O.Sink.at c.tell.new.out) (g.O.Sink.at c.write_shown.new.out) bytes c.write_shown.result)
    (ap (shown_lines (acting_side event)) same) c.write_shown.ensures)

pub returns-in-Err-clause-writes : goal.returns-in-Err-clause-writes
unfolding reply_of
returns-in-Err-clause-writes g c =
    let k = g.K.Kem.mechanism in
    let event = event_of c.args.line.now in
    let sides = c.args.duet.now.sides in
    let line = ap₂ reply_line c.side.ensures c.step-answer.ensures.answer in
    writes_first _ _ (reply_line (acting_side event) (step_on k sides event).answer) (shown_lines (acting_side event) (step_on k sides event).shown) _
    (subst (λ bytes. Writes {T = Unit} (g.O.Sink.at c.args.out.now) (g.O.Sink.at c.tell.new.out) bytes (Err c.in-Err.field-0))
    line c.in-Err.ensures.writes)
