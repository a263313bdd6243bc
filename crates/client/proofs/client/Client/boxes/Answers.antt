use Rattle.std.specs.Prelude.{option_map}
use Rattle.client.specs.Syncing.Keys.{keys_in, keys_seen}
use Rattle.client.specs.Syncing.Lines.{own_box, peers_box}
use Rattle.client.proofs.Syncs.Parties.{same_party}
use Rattle.client.proofs.client.Client.boxes.Goals as goal

pub returns-clause-party : goal.returns-clause-party
returns-clause-party g c = λ k prefix.
    same_party k prefix c.names.result.own (own_box c.args.self.now.kept) c.names.result.peers (peers_box c.args.self.now.kept)
    (option_map keys_seen c.box_keys.result) (keys_in c.args.self.now.kept) c.names.ensures.own c.names.ensures.peers c.box_keys.ensures
