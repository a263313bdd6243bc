use Rattle.std.proofs.Common.{◌≡◌, ◌∙◌, ◌+◌, ◌∷◌, ◌++◌, [], List, length, ap, arith, rules}
use Rattle.std.proofs.lemmas.List.{length_push}
use Rattle.std.proofs.lemmas.Result.{err_from_is_err_and}
use Rattle.boxes.specs.Entries.{Entry}
use Rattle.boxes.specs.Seen.{entry_seen}
use Rattle.grammar.specs.Reader.{Read}
use Rattle.grammar.proofs.Loops.{items-none, items-more, items-fault}
use Rattle.session_record.specs.Lists.{entry_field}
use Rattle.session_record.proofs.inbox.read_entries.Goals as goal

pub entries-init : goal.entries-init
entries-init c =
    let start = c.args.cursor.now in
    record {
      read = rw c.requires.empty (items-none (λ _. entry_field c.args.heading.now.version c.args.heading.now.side c.args.heading.now.epoch) start.at start.rest);
      long = ap (λ (l : List Entry). length l) c.requires.empty;
    }

pub returns-in_err-one : goal.returns-in_err-one
returns-in_err-one c =
    let start = c.args.cursor.now in
    let here = c.entries.cursor in
    let before : Read (List Entry) = record { value = c.entries.inbox; at = here.at; rest = here.rest } in
    let p = err_from_is_err_and c.from_residual.result c.from_residual.ensures.1 in
    rw (p.1, p.2)
    (items-fault (λ _. entry_field c.args.heading.now.version c.args.heading.now.side c.args.heading.now.epoch) start.at start.rest c.entries.counter before c.in_err-one.field-0.0
    c.entries.invariant.read c.in_err-one.ensures.reads c.args.count (omega arith))

pub entries-preserved : goal.entries-preserved
entries-preserved c =
    let start = c.args.cursor.now in
    let here = c.entries.cursor in
    let next = c.read_entry.new.cursor in
    let entry = entry_seen c.in_ok-one.one in
    let before : Read (List Entry) = record { value = c.entries.inbox; at = here.at; rest = here.rest } in
    let one : Read Entry = record { value = entry; at = next.at; rest = next.rest } in
    let pushed : c.push.new.self ≡ c.entries.inbox ++ entry_seen c.in_ok-one.one ∷ [] = search rules in
    let more =
    items-more (λ _. entry_field c.args.heading.now.version c.args.heading.now.side c.args.heading.now.epoch) start.at start.rest c.entries.counter before one c.entries.invariant.read c.in_ok-one.ensures.reads in
    record {
      read = rw pushed more;
      long = ap (λ (l : List Entry). length l) pushed ∙ length_push c.entries.inbox entry ∙ ap (λ n. n + 1) c.entries.invariant.long;
    }
