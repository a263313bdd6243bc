use Rattle.std.proofs.Common.{◌≡◌, ℕ, List, [], ◌∷◌, ◌++◌, ◌+◌, arith, rules, subst, sym}
use Rattle.slot_store.specs.Store.{SlotStore}
use Rattle.relay_server.specs.Areas.{AreOpened}
use Rattle.relay_server.proofs.OpenedAreas.{none_opened, one_more, opening_looked, refused}
use Rattle.relay_server.proofs.areas.open_areas.Goals as goal

pub areas-init : goal.areas-init
areas-init g c = none_opened c.args.count (g.D.Disk.state c.args.disk.now) c.new-stores.result.items c.new-stores.ensures.items

pub returns-in-Err-clause-refused : goal.returns-in-Err-clause-refused
returns-in-Err-clause-refused g c =
    refused c.locality.ensures c.areas.k c.args.count (g.D.Disk.state c.args.disk.now) (g.D.Disk.state c.areas.disk) (g.D.Disk.state c.open_area.new.disk) c.areas.stores.items
    (g.met.D.Disk.lawful c.areas.disk) c.requires.few (omega arith) c.areas.invariant c.open_area.ensures.any_moment c.open_area.ensures.still c.in-Err.error c.in-Err.ensures.refused

pub returns-in-Err-clause-looks : goal.returns-in-Err-clause-looks
returns-in-Err-clause-looks g c =
    opening_looked c.locality.ensures c.areas.k c.args.count (g.D.Disk.state c.args.disk.now) (g.D.Disk.state c.areas.disk) (g.D.Disk.state c.open_area.new.disk) c.areas.stores.items
    (g.met.D.Disk.lawful c.areas.disk) c.requires.few (omega arith) c.areas.invariant c.open_area.ensures.any_moment c.open_area.ensures.still

pub returns-in_default-clause-looks : goal.returns-in_default-clause-looks
returns-in_default-clause-looks g c =
    opening_looked c.locality.ensures c.areas.k c.args.count (g.D.Disk.state c.args.disk.now) (g.D.Disk.state c.areas.disk) (g.D.Disk.state c.open_area.new.disk) c.areas.stores.items
    (g.met.D.Disk.lawful c.areas.disk) c.requires.few (omega arith) c.areas.invariant c.open_area.ensures.any_moment c.open_area.ensures.still

pub areas-preserved : goal.areas-preserved
areas-preserved g c =
    let pushed : c.push.new.self.items ≡ c.areas.stores.items ++ c.in-Ok.store ∷ [] = search rules in
    subst (λ (xs : List SlotStore). AreOpened (c.areas.k + 1) c.args.count xs (g.D.Disk.state c.args.disk.now) (g.D.Disk.state c.open_area.new.disk)) (sym pushed)
    (one_more c.locality.ensures c.areas.k c.args.count (g.D.Disk.state c.args.disk.now) (g.D.Disk.state c.areas.disk) (g.D.Disk.state c.open_area.new.disk) c.areas.stores.items
    (g.met.D.Disk.lawful c.areas.disk) c.requires.few (omega arith) c.areas.invariant c.open_area.ensures.any_moment c.open_area.ensures.still c.in-Ok.store c.in-Ok.ensures.opened c.open_area.ensures.reads)

pub returns-clause-opened : goal.returns-clause-opened
returns-clause-opened g c =
    let all : c.areas.k ≡ c.args.count = search rules in
    subst (λ (n : ℕ). AreOpened n c.args.count c.areas.stores.items (g.D.Disk.state c.args.disk.now) (g.D.Disk.state c.areas.disk)) all c.areas.invariant
