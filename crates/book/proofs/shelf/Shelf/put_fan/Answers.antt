use Rattle.book.proofs.Fanning.Put.{few, may, put_failed, put_then}
use Rattle.book.proofs.shelf.Shelf.put_fan.Goals as goal

pub returns-in-Err : goal.returns-in-Err
returns-in-Err g c =
    put_failed g.K.Kem.mechanism c.args.self.now c.args.list.now c.args.text.now c.args.seeds.now.items c.requires.say
    (g.D.Disk.state c.args.disk.now) c.requires.ready
    (g.D.Disk.state c.stage_fan.new.disk) c.in-Err.fault c.stage_fan.new.self (g.met.D.Disk.lawful c.stage_fan.new.disk) c.in-Err.ensures

pub settle_fan-requires-clause-few : goal.settle_fan-requires-clause-few
settle_fan-requires-clause-few g c =
    few g.K.Kem.mechanism c.args.self.now c.args.list.now c.args.text.now c.args.seeds.now.items c.requires.say
    (g.D.Disk.state c.args.disk.now) c.requires.ready
    (g.D.Disk.state c.stage_fan.new.disk) c.stage_fan.new.self c.in-Ok.ensures

pub settle_fan-requires-clause-may : goal.settle_fan-requires-clause-may
settle_fan-requires-clause-may g c =
    may g.K.Kem.mechanism c.args.self.now c.args.list.now c.args.text.now c.args.seeds.now.items c.requires.say
    (g.D.Disk.state c.args.disk.now) c.requires.ready
    (g.D.Disk.state c.stage_fan.new.disk) c.stage_fan.new.self c.in-Ok.ensures

pub returns : goal.returns
returns g c =
    put_then g.K.Kem.mechanism c.args.self.now c.args.list.now c.args.text.now c.args.seeds.now.items c.requires.say
    (g.D.Disk.state c.args.disk.now) c.requires.ready
    (g.D.Disk.state c.stage_fan.new.disk) c.stage_fan.new.self c.in-Ok.ensures (g.D.Disk.state c.settle_fan.new.disk) c.settle_fan.new.self
    c.settle_fan.result c.settle_fan.ensures.takes c.settle_fan.ensures.same
