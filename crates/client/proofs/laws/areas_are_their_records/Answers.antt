use Rattle.client.proofs.Areas.{same_area}
use Rattle.client.proofs.laws.areas_are_their_records.Goals as goal

pub returns : goal.returns
returns g c = λ kept other store again.
    same_area c.resting.ensures kept other store again (g.D.Disk.state c.args.first.now) (g.D.Disk.state c.args.second.now)
    (g.met.D.Disk.lawful c.args.first.now) (g.met.D.Disk.lawful c.args.second.now)
