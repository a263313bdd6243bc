use Rattle.std.proofs.Common.{◌≤◌, length, Ok, Err, refl, sym, ◌∙◌, ap, arith}
use Rattle.std.specs.Prelude.{is_some}
use Rattle.std.proofs.lemmas.Bool.{leb-true}
use Rattle.std.proofs.lemmas.List.{length-drop}
use Rattle.relay_guard.specs.Seen.{token_seen}
use Rattle.relay_wire.specs.Requests.{Asked}
use Rattle.relay_wire.specs.Seen.{asked_of}
use Rattle.relay_wire.proofs.Guarded.{guarded_is, laid_deeper, same_laid}
use Rattle.relay_wire.proofs.request_reading.parse_guarded.Goals as goal

pub parse_inner-requires : goal.parse_inner-requires
parse_inner-requires c =
    let many : 40 ≤ length c.args.bytes.now = leb-true _ _ (sym c.split_token.ensures.variant ∙ ap is_some c.in-Some.is) in
    record { ends = omega (arith, many, c.requires.ends, ap length c.in-Some.ensures.inner, length-drop 40 c.args.bytes.now) }

pub returns-in-Ok-clause-reads : goal.returns-in-Ok-clause-reads
returns-in-Ok-clause-reads c =
    let many : 40 ≤ length c.args.bytes.now = leb-true _ _ (sym c.split_token.ensures.variant ∙ ap is_some c.in-Some.is) in
    guarded_is c.args.bytes.now c.in-Some.inner.now (token_seen c.in-Some.token) (Ok (asked_of c.in-Ok.request)) many (sym c.in-Some.ensures.token) (sym c.in-Some.ensures.inner) c.in-Ok.ensures.reads
    ∙ sym (ap (λ (a : Asked). Ok a) c.with_token.ensures.asked)

pub returns-in-Ok-clause-laid : goal.returns-in-Ok-clause-laid
returns-in-Ok-clause-laid c =
    same_laid c.in-Ok.request c.with_token.result 42 c.args.bytes.now c.args.place c.with_token.ensures.name c.with_token.ensures.ask
    (laid_deeper c.in-Ok.request 2 40 c.args.bytes.now c.in-Some.inner.now c.args.place _ c.in-Some.ensures.inner refl c.in-Ok.ensures.laid)

pub returns-in-Err-clause-reads : goal.returns-in-Err-clause-reads
returns-in-Err-clause-reads c =
    let many : 40 ≤ length c.args.bytes.now = leb-true _ _ (sym c.split_token.ensures.variant ∙ ap is_some c.in-Some.is) in
    guarded_is c.args.bytes.now c.in-Some.inner.now (token_seen c.in-Some.token) (Err c.in-Err.bad.kind) many (sym c.in-Some.ensures.token) (sym c.in-Some.ensures.inner) c.in-Err.ensures.reads
