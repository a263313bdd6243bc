use Rattle.std.proofs.Common.{◌++◌, ap}
use Rattle.std.specs.Prelude.{option_map}
use Rattle.relay_guard.specs.Seen.{token_seen}
use Rattle.relay_guard.proofs.Judging.{denies_tag, serves_token}
use Rattle.relay_guard.proofs.guard.Guard.judge.Goals as goal

pub returns-then-ne-clause-denied : goal.returns-then-ne-clause-denied
returns-then-ne-clause-denied c =
    denies_tag c.args.self.now c.args.role _ (token_seen c.in-Some.token)
    (c.args.head.now ++ (c.args.name.now ++ c.args.rest.now)) c.tag-tag.result c.ne.result
    (ap (option_map token_seen) c.in-Some.is) c.tag-tag.ensures c.ne.ensures c.if-ne.true

pub returns-clause-served : goal.returns-clause-served
returns-clause-served c =
    serves_token c.args.self.now c.args.role _ (token_seen c.in-Some.token)
    (c.args.head.now ++ (c.args.name.now ++ c.args.rest.now)) c.tag-tag.result c.ne.result
    (ap (option_map token_seen) c.in-Some.is) c.tag-tag.ensures c.ne.ensures c.if-ne.false
    c.last-last.result c.last-last.ensures c.if-token-last.false c.set_last.new.self c.set_last.ensures
