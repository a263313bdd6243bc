use Rattle.std.proofs.Common.{Option, ap, subst, sym, ◌∙◌}
use Rattle.std.specs.Prelude.{option_map}
use Rattle.relay_pipe.specs.Asking.{Asks}
use Rattle.relay_wire.specs.Requests.{Asked}
use Rattle.relay_wire.specs.Seen.{asked_of}
use Rattle.sync_model.specs.Tokens.{tagged}
use Rattle.client.specs.Syncing.Keys.{keys_seen}
use Rattle.client.specs.declared.syncing.keys.BoxKeys.{BoxKeys}
use Rattle.client.proofs.Syncs.Asking.{tagged_so, untagged}
use Rattle.client.proofs.syncing.steps.ask_tagged.Goals as goal

pub returns-in-None-clause-asks : goal.returns-in-None-clause-asks
returns-in-None-clause-asks g c = λ tokens is.
    subst (λ (a : Asked). Asks a (g.L.Pipe.port c.args.link.now) (g.L.Pipe.port c.ask.new.pipe) c.ask.result)
    (sym (untagged (option_map keys_seen c.args.keys.now) tokens (asked_of c.args.request) (ap (option_map keys_seen) c.in-None.is) c.requires.bare))
    c.ask.ensures.asks

pub returns-in-Some-clause-asks : goal.returns-in-Some-clause-asks
returns-in-Some-clause-asks g c = λ tokens is.
    let asked : Asked = asked_of c.args.request in
    subst (λ (o : Option BoxKeys). Asks (tagged (option_map keys_seen o) tokens asked) (g.L.Pipe.port c.args.link.now) (g.L.Pipe.port c.ask-in-Some.new.pipe) c.ask-in-Some.result)
    (sym c.in-Some.is)
    (subst (λ (a : Asked). Asks a (g.L.Pipe.port c.args.link.now) (g.L.Pipe.port c.ask-in-Some.new.pipe) c.ask-in-Some.result)
    (c.with_token.ensures.asked ∙ tagged_so (keys_seen c.in-Some.keys) tokens asked c.args.counter c.tag-tag.result is c.tag-tag.ensures)
    c.ask-in-Some.ensures.asks)
