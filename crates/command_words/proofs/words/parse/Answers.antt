use Rattle.std.proofs.Common.{◌∙◌, string_bytes, map, sym, true≢false}
use Rattle.clap.specs.Simple.{app_of}
use Rattle.clap.specs.Walk.{texts}
use Rattle.command_words.proofs.Answering.{answered, are_texts, failed, unanswered}
use Rattle.command_words.proofs.words.parse.Goals as goal

pub returns-in-Err : goal.returns-in-Err
returns-in-Err c = failed (app_of c.in_ok-application.field-0) (map string_bytes c.args.words.now) (are_texts c.args.words.now) c.in_ok-application.ensures c.in-Err.error
    c.in-Err.ensures.kinds (λ memory. true≢false (sym (c.if-is_memory.ensures.1 memory)))

pub returns-in-Some : goal.returns-in-Some
returns-in-Some c =
    c.command_named.ensures
    ∙ answered (app_of c.in_ok-application.field-0) (map string_bytes c.args.words.now) (are_texts c.args.words.now) c.in_ok-application.ensures c.in-Ok.matches
    c.in-Ok.ensures.kinds c.in-Ok.ensures.matches c.in-Some.given.now c.in-Some.name.now (texts c.in_ok-values-in-Some.values.items)
    c.in-Some.ensures.name c.in-Some.ensures.rows c.in_ok-values-in-Some.ensures

pub returns : goal.returns
returns c = unanswered (app_of c.in_ok-application.field-0) (map string_bytes c.args.words.now) (are_texts c.args.words.now) c.in_ok-application.ensures c.in-Ok.matches
    c.in-Ok.ensures.kinds c.in-Ok.ensures.matches c.in-None.ensures.rows
