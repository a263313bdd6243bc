use Rattle.std.proofs.Common.{ap, refl, ◌∙◌}
use Rattle.relay_wire.specs.Parts.{Lent}
use Rattle.relay_wire.specs.Requests.{acks, bare_request}
use Rattle.relay_wire.specs.Seen.{asked_of}
use Rattle.client.specs.Syncing.Keys.{keys_seen}
use Rattle.client.specs.Syncing.Rounds.{Idles, goes_on, heard_as, idles_on, stops}
use Rattle.std.specs.Prelude.{option_map}
use Rattle.sync_model.specs.Moves.{acking, acknowledged}
use Rattle.client.proofs.Syncs.Asking.{hears_again, hears_fault, hears_reply, once_more}
use Rattle.client.proofs.client.Client.acknowledge.Goals as goal

pub returns-in-Err-clause-round : goal.returns-in-Err-clause-round
returns-in-Err-clause-round g c = λ p kept n.
    hears_fault (option_map keys_seen c.args.boxes.now.keys) c.args.tokens.now c.ask_for.new.tokens (asked_of c.ack-request.result)
    (bare_request c.args.boxes.now.names.own (acks c.args.number)) (c.ack-request.ensures ∙ ap (λ (l : Lent). bare_request l.bytes (acks c.args.number)) c.lent.ensures)
    (g.L.Pipe.port c.args.link.now) (g.L.Pipe.port c.ask_for.new.link)
    (λ reply again turn. Idles p kept (heard_as p kept (acking n c.args.number) reply again) turn) (Unit {0}) c.in-Err.fault c.in-Err.ensures.answers tt

pub returns-in-Ok-None-clause-round : goal.returns-in-Ok-None-clause-round
returns-in-Ok-None-clause-round g c = λ p kept n.
    hears_again (option_map keys_seen c.args.boxes.now.keys) c.args.tokens.now c.ask_for.new.tokens (asked_of c.ack-request.result)
    (bare_request c.args.boxes.now.names.own (acks c.args.number)) (c.ack-request.ensures ∙ ap (λ (l : Lent). bare_request l.bytes (acks c.args.number)) c.lent.ensures)
    (g.L.Pipe.port c.args.link.now) (g.L.Pipe.port c.ask_for.new.link)
    (λ reply again turn. Idles p kept (heard_as p kept (acking n c.args.number) reply again) turn) (Unit {0}) (goes_on (acking n c.args.number))
    (rw c.in-Ok-None.field-0-is at c.in-Ok-None.ensures.answers) (λ reply. idles_on (acking n c.args.number) refl)

pub returns-in-Ok-None-clause-once : goal.returns-in-Ok-None-clause-once
returns-in-Ok-None-clause-once g c =
    once_more (option_map keys_seen c.args.boxes.now.keys) c.args.tokens.now c.ask_for.new.tokens (asked_of c.ack-request.result)
    (asked_of c.ack-request.result) refl (g.L.Pipe.port c.args.link.now) (g.L.Pipe.port c.ask_for.new.link)
    (rw c.in-Ok-None.field-0-is at c.in-Ok-None.ensures.answers)

pub returns-in-Err-acknowledged-clause-round : goal.returns-in-Err-acknowledged-clause-round
returns-in-Err-acknowledged-clause-round g c = λ p kept n.
    hears_reply (option_map keys_seen c.args.boxes.now.keys) c.args.tokens.now c.ask_for.new.tokens (asked_of c.ack-request.result)
    (bare_request c.args.boxes.now.names.own (acks c.args.number)) (c.ack-request.ensures ∙ ap (λ (l : Lent). bare_request l.bytes (acks c.args.number)) c.lent.ensures)
    (g.L.Pipe.port c.args.link.now) (g.L.Pipe.port c.ask_for.new.link)
    (λ reply again turn. Idles p kept (heard_as p kept (acking n c.args.number) reply again) turn) (Unit {0}) c.in-Ok-Some.reply (stops c.in-Err-acknowledged.fault)
    (rw c.in-Ok-Some.field-0-is at c.in-Ok-Some.ensures.answers) (c.in-Err-acknowledged.ensures p kept n)

pub returns-in-Ok-clause-round : goal.returns-in-Ok-clause-round
returns-in-Ok-clause-round g c = λ p kept n.
    hears_reply (option_map keys_seen c.args.boxes.now.keys) c.args.tokens.now c.ask_for.new.tokens (asked_of c.ack-request.result)
    (bare_request c.args.boxes.now.names.own (acks c.args.number)) (c.ack-request.ensures ∙ ap (λ (l : Lent). bare_request l.bytes (acks c.args.number)) c.lent.ensures)
    (g.L.Pipe.port c.args.link.now) (g.L.Pipe.port c.ask_for.new.link)
    (λ reply again turn. Idles p kept (heard_as p kept (acking n c.args.number) reply again) turn) (Unit {0}) c.in-Ok-Some.reply (goes_on (acknowledged p kept n).wait)
    (rw c.in-Ok-Some.field-0-is at c.in-Ok-Some.ensures.answers) (c.in-Ok.ensures p kept n)
