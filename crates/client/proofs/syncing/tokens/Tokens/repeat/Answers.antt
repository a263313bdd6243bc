use Rattle.std.proofs.Common.{ap, sym, ◌+◌, ◌∙◌}
use Rattle.std.specs.Prelude.{option_map}
use Rattle.relay_wire.specs.Seen.{replied_of}
use Rattle.sync_model.specs.Tokens.{Tokens}
use Rattle.sync_model.proofs.Hearing.{never_without, once_only}
use Rattle.client.specs.Syncing.Keys.{keys_seen}
use Rattle.client.proofs.Syncs.Asking.{not_behind, repeats_so}
use Rattle.client.proofs.syncing.tokens.Tokens.repeat.Goals as goal

pub returns-in-None-clause-none : goal.returns-in-None-clause-none
returns-in-None-clause-none c = never_without (option_map keys_seen c.args.keys.now) c.args.self.now (replied_of c.args.reply.now) (ap (option_map keys_seen) c.in-None.is)

pub returns-then-denied-clause-none : goal.returns-then-denied-clause-none
returns-then-denied-clause-none c =
    once_only (option_map keys_seen c.args.keys.now) c.args.self.now (replied_of c.args.reply.now)
    (ap (λ (t : Tokens). t.again) (sym c.self.view_is) ∙ c.if-denied.true)

pub returns-in-None-behind-clause-none : goal.returns-in-None-behind-clause-none
returns-in-None-behind-clause-none c =
    not_behind (option_map keys_seen c.args.keys.now) c.args.self.now (replied_of c.args.reply.now) c.in-None-behind.ensures.none

pub returns-in-Some-behind-clause-some : goal.returns-in-Some-behind-clause-some
returns-in-Some-behind-clause-some c = (
  repeats_so (option_map keys_seen c.args.keys.now) (keys_seen c.in-Some.field-0) c.args.self.now (replied_of c.args.reply.now) (ap (option_map keys_seen) c.in-Some.is)
      (ap (λ (t : Tokens). t.again) (sym c.self.view_is) ∙ c.if-denied.false) c.in-Some-behind.ensures.some.0,
  ap (λ n. n + 1) c.in-Some-behind.ensures.some.1,
)
