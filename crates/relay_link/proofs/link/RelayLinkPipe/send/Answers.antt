use Rattle.std.proofs.Common.{sym, rules, ap, arith, subst, length, take, Bool, List, ℕ, ◌∙◌, ◌+◌, ◌++◌, ◌≤◌, ◌≡◌}
use Rattle.std.proofs.lemmas.Grind.{common_steps}
use Rattle.std.specs.Prelude.{if◌then◌else◌, is_ok, vec_len}
use Rattle.std.proofs.lemmas.List.{length-append, length-take, take-take}
use Rattle.dr_ports.specs.Wires.{Took}
use Rattle.relay_wire.specs.Frames.{Held, IsPartial}
use Rattle.relay_link.specs.Connections.{LinkConnection, connection_port}
use Rattle.relay_link.specs.Desks.{DeskNow, HasAnswered, answers, waits}
use Rattle.relay_link.specs.Serving.{IsServing}
use Rattle.relay_link.proofs.Sending.{frame_stands, part_stands, took}
use Rattle.relay_link.proofs.link.RelayLinkPipe.send.Goals as goal

-- what stands then, by what the desk did
stands : (c : LinkConnection) (desk : DeskNow) (reader : Held) (is : IsServing c desk reader.bytes) (piece items : List ℕ) (fed left : Held) (d : DeskNow)
    → items ≡ c.sent ++ piece → fed.bytes ≡ reader.bytes ++ piece → HasAnswered desk d fed left → IsServing (record c { kept = d.kept; sent = items }) d left.bytes
stands c desk reader is piece items fed left d one two (waits partial same still) =
    subst (λ (x : DeskNow). IsServing (record c { kept = x.kept; sent = items }) x left.bytes) (sym still)
    (subst (λ (k : ℕ). IsServing (record c { kept = k; sent = items }) desk left.bytes) (sym is.same)
    (part_stands c desk reader.bytes is piece items left.bytes one (ap (λ (h : Held). h.bytes) same ∙ two) (subst (λ (h : Held). IsPartial h.bytes) (sym same) partial)))
stands c desk reader is piece items fed left d one two (answers whole none place next) =
    frame_stands c desk reader.bytes is piece items fed.bytes left.bytes d one two whole next none

-- as many bytes were given and are held as were fed
all_there : (desk d : DeskNow) (fed left : Held) → HasAnswered desk d fed left → left.place + length left.bytes ≡ fed.place + length fed.bytes
all_there desk d fed left (waits partial same still) = ap (λ (h : Held). h.place + length h.bytes) same
all_there desk d fed left (answers whole none place next) = omega (arith, place, ap length none)

pub invariant_of-self-2 : goal.invariant_of-self-2
invariant_of-self-2 c =
    let old : LinkConnection = record { start = c.self.inside.start.value; kept = c.self.inside.desk.kept; sent = c.self.inside.sent.items; at = c.self.inside.at; faults = c.self.inside.faults } in
    let piece = take c.feed-count.result c.args.bytes.now in
    let fits : c.feed-count.result ≤ c.min.result = omega (arith, c.feed-count.ensures.bound, length-take c.min.result c.args.bytes.now) in
    let items : c.extend_from_slice.new.self.items ≡ c.self.inside.sent.items ++ piece =
    c.extend_from_slice.ensures.items ∙ ap (λ (ok : Bool). if ok then c.self.inside.sent.items ++ piece else c.self.inside.sent.items) (ap is_ok c.unwrap.ensures) in
    let len : vec_len c.extend_from_slice.new.self ≡ vec_len c.self.inside.sent + length piece =
    c.extend_from_slice.ensures.len ∙ ap (λ (ok : Bool). if ok then vec_len c.self.inside.sent + length piece else vec_len c.self.inside.sent) (ap is_ok c.unwrap.ensures) in
    let fed : c.feed-count.new.self.bytes ≡ c.self.inside.reader.bytes ++ piece =
    c.feed-count.ensures.taken ∙ ap (λ (b : List ℕ). c.self.inside.reader.bytes ++ b) (take-take c.feed-count.result c.min.result c.args.bytes.now fits) in (
      stands old c.self.inside.desk c.self.inside.reader c.self.invariant.0 piece c.extend_from_slice.new.self.items c.feed-count.new.self c.answer_next.new.reader c.answer_next.new.self
          items fed c.answer_next.ensures,
      omega (arith, len, fits, length-take c.feed-count.result c.args.bytes.now, c.min.ensures, c.len-free.ensures, c.self.invariant.1),
      omega (arith, c.extend_from_slice.ensures.capacity, c.self.invariant.2),
      omega (arith, all_there _ _ _ _ c.answer_next.ensures, len, ap length fed, length-append c.self.inside.reader.bytes piece, c.feed-count.ensures.place, c.self.invariant.3),
    )

pub returns-clause-sends : goal.returns-clause-sends
returns-clause-sends c =
    let old : LinkConnection = record { start = c.self.inside.start.value; kept = c.self.inside.desk.kept; sent = c.self.inside.sent.items; at = c.self.inside.at; faults = c.self.inside.faults } in
    let piece = take c.feed-count.result c.args.bytes.now in
    let items : c.extend_from_slice.new.self.items ≡ c.self.inside.sent.items ++ piece =
    c.extend_from_slice.ensures.items ∙ ap (λ (ok : Bool). if ok then c.self.inside.sent.items ++ piece else c.self.inside.sent.items) (ap is_ok c.unwrap.ensures) in
    record {
      bound = search rules;
      progress = search rules;
      content = subst (λ (f : LinkConnection). Took piece (connection_port f) (connection_port (record old { sent = c.extend_from_slice.new.self.items }))) c.self.view_is
          (subst (λ (b : List ℕ). Took piece (connection_port old) (connection_port (record old { sent = b }))) (sym items) (took old c.self.inside.desk c.self.inside.reader.bytes c.self.invariant.0 piece));
      err = tt;
      goes = search rules;
      cause = search rules;
      gate = search rules;
      same = grind (arith, common_steps);
    }
