use Rattle.std.proofs.Common.{◌≡◌, ◌∙◌, ◌+◌, List, length, Ok, Err, sym, ap, arith}
use Rattle.std.proofs.lemmas.List.{length_push}
use Rattle.std.proofs.lemmas.Result.{err_from_is_err_and}
use Rattle.dr_base.specs.declared.key.Kept.{Kept}
use Rattle.grammar.specs.Reader.{Read}
use Rattle.grammar.proofs.Loops.{items-none, items-more, items-fault}
use Rattle.session_record.specs.Lists.{kept_item, last_position}
use Rattle.dr_base.specs.Position.{position_at}
use Rattle.session_record.proofs.Lasts.{last_of-push}
use Rattle.session_record.proofs.kept.read_each.Goals as goal

pub keys-init : goal.keys-init
keys-init c =
    let start = c.args.cursor.now in
    record {
      read = rw c.requires.empty (items-none (kept_item c.args.heading.now.side c.args.heading.now.epoch c.args.reach) start.at start.rest);
      last = ap last_position (sym c.requires.empty);
      long = ap (λ (l : List Kept). length l) c.requires.empty;
    }

pub returns-in_err-one : goal.returns-in_err-one
returns-in_err-one c =
    let start = c.args.cursor.now in
    let here = c.keys.cursor in
    let before : Read (List Kept) = record { value = c.keys.list.items; at = here.at; rest = here.rest } in
    let p = err_from_is_err_and c.from_residual.result c.from_residual.ensures.1 in
    let next : kept_item c.args.heading.now.side c.args.heading.now.epoch c.args.reach c.keys.list.items c.keys.cursor.at c.keys.cursor.rest ≡ Err c.in_err-one.field-0.0 =
    cc (c.in_err-one.ensures, c.keys.invariant.last) in
    rw (p.1, p.2)
    (items-fault (kept_item c.args.heading.now.side c.args.heading.now.epoch c.args.reach) start.at start.rest c.keys.counter before c.in_err-one.field-0.0
    c.keys.invariant.read next c.args.count (omega arith))

pub keys-preserved : goal.keys-preserved
keys-preserved c =
    let start = c.args.cursor.now in
    let here = c.keys.cursor in
    let behind = c.read_one.new.cursor in
    let list = c.keys.list.items in
    let before : Read (List Kept) = record { value = list; at = here.at; rest = here.rest } in
    let one : Read Kept = record { value = c.in_ok-one.one; at = behind.at; rest = behind.rest } in
    let next : kept_item c.args.heading.now.side c.args.heading.now.epoch c.args.reach c.keys.list.items c.keys.cursor.at c.keys.cursor.rest
    ≡ Ok (record { value = c.in_ok-one.one; at = c.read_one.new.cursor.at; rest = c.read_one.new.cursor.rest }) = cc (c.in_ok-one.ensures, c.keys.invariant.last) in
    let more = items-more (kept_item c.args.heading.now.side c.args.heading.now.epoch c.args.reach) start.at start.rest c.keys.counter before one c.keys.invariant.read next in
    record {
      read = rw c.push.ensures.items more;
      last = sym (last_of-push (position_at 0 0) list c.in_ok-one.one) ∙ ap last_position (sym c.push.ensures.items);
      long = ap (λ (l : List Kept). length l) c.push.ensures.items ∙ length_push list c.in_ok-one.one ∙ ap (λ n. n + 1) c.keys.invariant.long;
    }
