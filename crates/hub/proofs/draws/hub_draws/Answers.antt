use Rattle.std.proofs.Common.{ap, arith, length, ◌∙◌, ◌≡◌}
use Rattle.hub.specs.Peers.{peer_seeds}
use Rattle.hub.proofs.Seeds.{one_more_seed, seeds_long}
use Rattle.hub.proofs.draws.hub_draws.Goals as goal

pub push-requires : goal.push-requires
push-requires c =
    let long : length c.seeds.seeds.items ≡ length (peer_seeds c.seeds.number) = ap length c.seeds.invariant in
    omega (arith, long, seeds_long c.seeds.number, c.seeds-test.true, c.requires.few, c.seeds.auto.number-end)

pub seeds-preserved : goal.seeds-preserved
seeds-preserved c =
    c.push.ensures.items
    ∙ one_more_seed c.seeds.number c.seeds.seeds.items c.peer_key-key.result c.draw.result c.seeds.invariant
    c.peer_key-key.ensures c.draw.ensures
