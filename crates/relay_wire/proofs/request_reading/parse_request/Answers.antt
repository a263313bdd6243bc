use Rattle.std.proofs.Common.{◌≡◌, drop, sym, ◌∙◌, ap, arith}
use Rattle.std.proofs.lemmas.List.{drop-drop}
use Rattle.relay_wire.proofs.Guarded.{laid_alone, laid_behind}
use Rattle.relay_wire.proofs.request_reading.parse_request.Goals as goal

pub returns-then-first-eq-TOKEN-clause-laid : goal.returns-then-first-eq-TOKEN-clause-laid
returns-then-first-eq-TOKEN-clause-laid c =
    let bytes = c.args.frame.now.bytes.now in
    let front : c.in-Some.rest.now ≡ drop 1 c.body.result.now = sym (ap (drop 1) c.in-Some.ensures.cases.0) in
    let rest : c.in-Some.rest.now ≡ drop 3 bytes = front ∙ ap (drop 1) c.body.ensures ∙ drop-drop 1 2 bytes in
    laid_behind c.parse_guarded.result bytes c.in-Some.rest.now c.args.frame.now.place _ rest (omega (arith, c.place.ensures)) c.parse_guarded.ensures.laid c.parse_guarded.ensures.token

pub returns-clause-laid : goal.returns-clause-laid
returns-clause-laid c =
    let bytes = c.args.frame.now.bytes.now in
    let front : c.in-Some.rest.now ≡ drop 1 c.body.result.now = sym (ap (drop 1) c.in-Some.ensures.cases.0) in
    let rest : c.in-Some.rest.now ≡ drop 3 bytes = front ∙ ap (drop 1) c.body.ensures ∙ drop-drop 1 2 bytes in
    laid_alone c.parse_named.result bytes c.in-Some.rest.now c.args.frame.now.place _ rest (omega (arith, c.place-2.ensures)) c.parse_named.ensures.laid c.parse_named.ensures.bare
