use Rattle.std.proofs.Common.{ap, false, true, ◌∙◌}
use Rattle.std.specs.Prelude.{option_map}
use Rattle.relay_guard.specs.declared.guard.Role.{Role}
use Rattle.relay_wire.specs.Seen.{asked_of, replied_of}
use Rattle.sync_model.specs.Tokens.{counter_under, tokens_by}
use Rattle.client.specs.Syncing.Keys.{keys_seen}
use Rattle.client.proofs.Syncs.Asking.{heard_so}
use Rattle.client.proofs.syncing.steps.ask_for.Goals as goal

pub returns-in-Err-clause-answers : goal.returns-in-Err-clause-answers
returns-in-Err-clause-answers g c =
    c.fault_of.ensures (option_map keys_seen c.args.keys.now) c.args.tokens.now c.args.tokens.now (asked_of c.args.request)
    (g.L.Pipe.port c.args.link.now) (g.L.Pipe.port c.ask_tagged.new.link)
    (c.in-Err.ensures.asks c.args.tokens.now (c.counter-counter.ensures ∙ ap (counter_under c.args.tokens.now) c.role_of-role.ensures))

pub returns-then-reads-clause-answers : goal.returns-then-reads-clause-answers
returns-then-reads-clause-answers g c = (
  replied_of c.in-Ok.reply,
  heard_so (option_map keys_seen c.args.keys.now) c.args.tokens.now c.reads.new.self (asked_of c.args.request) (replied_of c.in-Ok.reply)
      c.reads.result true (g.L.Pipe.port c.args.link.now) (g.L.Pipe.port c.ask_tagged.new.link)
      (c.in-Ok.ensures.asks c.args.tokens.now (c.counter-counter.ensures ∙ ap (counter_under c.args.tokens.now) c.role_of-role.ensures))
      c.reads.ensures.again
      (c.reads.ensures.counts ∙ ap (λ (r : Role). tokens_by r c.args.tokens.now (replied_of c.in-Ok.reply) c.reads.result) c.role_of-role.ensures) c.if-reads.true,
)

pub returns-else-reads-clause-answers : goal.returns-else-reads-clause-answers
returns-else-reads-clause-answers g c =
    heard_so (option_map keys_seen c.args.keys.now) c.args.tokens.now c.reads.new.self (asked_of c.args.request) (replied_of c.in-Ok.reply)
    c.reads.result false (g.L.Pipe.port c.args.link.now) (g.L.Pipe.port c.ask_tagged.new.link)
    (c.in-Ok.ensures.asks c.args.tokens.now (c.counter-counter.ensures ∙ ap (counter_under c.args.tokens.now) c.role_of-role.ensures))
    c.reads.ensures.again
    (c.reads.ensures.counts ∙ ap (λ (r : Role). tokens_by r c.args.tokens.now (replied_of c.in-Ok.reply) c.reads.result) c.role_of-role.ensures) c.if-reads.false
