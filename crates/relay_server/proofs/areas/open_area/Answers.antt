use Rattle.std.proofs.Common.{refl}
use Rattle.relay_server.proofs.OpenedAreas.{area_opened}
use Rattle.relay_server.proofs.areas.open_area.Goals as goal

pub returns-in-Ok-clause-opened : goal.returns-in-Ok-clause-opened
returns-in-Ok-clause-opened g c =
    area_opened c.args.k c.in-Ok.store c.in-Ok._found (g.D.Disk.state c.args.disk.now) (g.D.Disk.state c.open.new.disk)
    c.in-Ok.ensures.opened.area c.in-Ok.ensures.opened.text c.in-Ok.ensures.opened.found c.in-Ok.ensures.opened.read c.in-Ok.ensures.opened.at_rest c.in-Ok.ensures.quiet

pub returns-in-Err-Damaged-clause-refused : goal.returns-in-Err-Damaged-clause-refused
returns-in-Err-Damaged-clause-refused g c =
    let all = c.in-Err-Damaged.ensures.refused.damaged c.in-Err-Damaged.slot c.in-Err-Damaged.at c.in-Err-Damaged.field-0-is in
    (refl, all.1, all.3, all.0)
