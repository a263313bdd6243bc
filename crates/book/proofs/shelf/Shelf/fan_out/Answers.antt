use Rattle.book.proofs.Fanning.Put.{fanned, still_all, unfanned}
use Rattle.book.proofs.shelf.Shelf.fan_out.Goals as goal

pub accept_fan-requires : goal.accept_fan-requires
accept_fan-requires g c =
    still_all g.K.Kem.mechanism c.args.self.now c.args.list.now c.args.text.now c.args.seeds.now.items c.requires.say
    (g.D.Disk.state c.args.disk.now) c.requires.open.1
    c.put_fan.new.self c.in-Ok.ensures.same

pub returns-in-Ok : goal.returns-in-Ok
returns-in-Ok g c =
    fanned g.K.Kem.mechanism c.args.self.now c.args.list.now c.args.text.now c.args.seeds.now.items c.requires.say
    (g.D.Disk.state c.args.disk.now) c.requires.open.1
    (g.D.Disk.state c.put_fan.new.disk) c.put_fan.new.self c.accept_fan.new.self c.requires.open.0 c.in-Ok.ensures c.accept_fan.ensures

pub returns-in-Err : goal.returns-in-Err
returns-in-Err g c =
    unfanned g.K.Kem.mechanism c.args.self.now c.args.list.now c.args.text.now c.args.seeds.now.items c.requires.say
    (g.D.Disk.state c.args.disk.now) c.requires.open.1
    (g.D.Disk.state c.put_fan.new.disk) c.put_fan.new.self c.close.new.self c.in-Err.fault c.in-Err.ensures c.close.ensures
