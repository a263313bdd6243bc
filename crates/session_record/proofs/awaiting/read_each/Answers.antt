use Rattle.std.proofs.Common.{◌≡◌, ◌∙◌, ◌+◌, List, length, Ok, Err, sym, ap, arith}
use Rattle.std.proofs.lemmas.List.{length_push}
use Rattle.std.proofs.lemmas.Result.{err_from_is_err_and}
use Rattle.bodies.proofs.Listed.{last_in-push}
use Rattle.dr_base.specs.Position.{position_at}
use Rattle.dr_base.specs.declared.position.Position.{Position}
use Rattle.grammar.specs.Reader.{Read}
use Rattle.grammar.proofs.Loops.{items-none, items-more, items-fault}
use Rattle.session_record.specs.Awaiting.{last_waiting, waiting_item}
use Rattle.session_record.proofs.awaiting.read_each.Goals as goal

pub positions-init : goal.positions-init
positions-init c =
    let start = c.args.cursor.now in
    record {
      read = items-none (waiting_item c.args.heading.now.side c.args.heading.now.epoch c.args.sent) start.at start.rest
          ∙ ap (λ l. Ok (record { value = l; at = start.at; rest = start.rest })) (sym c.new-list.ensures);
      last = ap last_waiting (sym c.new-list.ensures);
      long = ap (λ (l : List Position). length l) c.new-list.ensures;
    }

pub returns-in_err-one : goal.returns-in_err-one
returns-in_err-one c =
    let start = c.args.cursor.now in
    let here = c.positions.cursor in
    let before : Read (List Position) = record { value = c.positions.list; at = here.at; rest = here.rest } in
    let p = err_from_is_err_and c.from_residual.result c.from_residual.ensures.1 in
    let next : waiting_item c.args.heading.now.side c.args.heading.now.epoch c.args.sent c.positions.list c.positions.cursor.at c.positions.cursor.rest ≡ Err c.in_err-one.field-0.0 =
    cc (c.in_err-one.ensures, c.positions.invariant.last) in
    rw (p.1, p.2)
    (items-fault (waiting_item c.args.heading.now.side c.args.heading.now.epoch c.args.sent) start.at start.rest c.positions.counter before c.in_err-one.field-0.0
    c.positions.invariant.read next c.args.count (omega arith))

pub positions-preserved : goal.positions-preserved
positions-preserved c =
    let start = c.args.cursor.now in
    let here = c.positions.cursor in
    let behind = c.read_one.new.cursor in
    let list = c.positions.list in
    let before : Read (List Position) = record { value = list; at = here.at; rest = here.rest } in
    let one : Read Position = record { value = c.in_ok-one.one; at = behind.at; rest = behind.rest } in
    let next : waiting_item c.args.heading.now.side c.args.heading.now.epoch c.args.sent c.positions.list c.positions.cursor.at c.positions.cursor.rest
    ≡ Ok (record { value = c.in_ok-one.one; at = c.read_one.new.cursor.at; rest = c.read_one.new.cursor.rest }) = cc (c.in_ok-one.ensures, c.positions.invariant.last) in
    let more = items-more (waiting_item c.args.heading.now.side c.args.heading.now.epoch c.args.sent) start.at start.rest c.positions.counter before one c.positions.invariant.read next in
    record {
      read = rw c.push.ensures more;
      last = sym (last_in-push (position_at 0 0) list c.in_ok-one.one) ∙ ap last_waiting (sym c.push.ensures);
      long = ap (λ (l : List Position). length l) c.push.ensures ∙ length_push list c.in_ok-one.one ∙ ap (λ n. n + 1) c.positions.invariant.long;
    }
