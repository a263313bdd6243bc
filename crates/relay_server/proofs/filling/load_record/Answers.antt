use Rattle.relay_server.proofs.LoadedBoxes.{loads_so}
use Rattle.relay_server.proofs.filling.load_record.Goals as goal

pub returns : goal.returns
returns c = record {
  so = loads_so c.args.relay.now c.load.new.self c.args.place c.args.text.now c.requires.clean c.load.result c.load.ensures.count c.load.ensures.loads;
  count = c.load.ensures.count;
}
