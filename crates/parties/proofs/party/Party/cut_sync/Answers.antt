use Rattle.std.proofs.Common.{List, ap, arith, subst, sym, ℕ, ◌∙◌}
use Rattle.dr_disk.specs.MemoryDisks.{state_of}
use Rattle.dr_disk.specs.declared.memory.MemoryDisk.{MemoryDisk}
use Rattle.session_model.specs.Clients.{Client}
use Rattle.client.specs.Clients.{IsReady}
use Rattle.client.specs.Syncing.Moments.{moment}
use Rattle.scripts.specs.Sides.{side_text}
use Rattle.parties.specs.CutSyncs.{IsCutSync}
use Rattle.parties.specs.Shuts.{PartyNow}
use Rattle.parties.proofs.Closed.{held_open}
use Rattle.parties.proofs.CutSyncs.{cut_off}
use Rattle.parties.proofs.Stopped.Acts.{lawful_disk, ready_stopped}
use Rattle.parties.proofs.party.Party.cut_sync.Goals as goal

pub sync-ended-requires : goal.sync-ended-requires
sync-ended-requires g c = λ unclosed.
    let inside = c.self.inside in
    let held = held_open g.K.Kem.mechanism inside.client inside.disk inside.shut inside.client.kept
    (ap (λ (p : PartyNow). p.shut) c.self.view_is ∙ c.requires) c.self.invariant in
    subst (λ (d : MemoryDisk). IsReady inside.client.kept inside.client.store (state_of d)) (sym c.stop_after.ensures)
    (ready_stopped c.args.after inside.client.kept inside.client.store inside.disk held.ready)

pub open-requires : goal.open-requires
open-requires g c =
    let inside = c.self.inside in
    let held = held_open g.K.Kem.mechanism inside.client inside.disk inside.shut inside.client.kept
    (ap (λ (p : PartyNow). p.shut) c.self.view_is ∙ c.requires) c.self.invariant in
    let ready = subst (λ (d : MemoryDisk). IsReady inside.client.kept inside.client.store (state_of d)) (sym c.stop_after.ensures)
    (ready_stopped c.args.after inside.client.kept inside.client.store inside.disk held.ready) in
    let by = c.crash-left.ensures.left in
    let lawful = lawful_disk c.sync-ended.new.disk in
    let long = lawful.sized by.bytes (lawful.leaves_now c.args.mode by.bytes by.left) in
    omega (arith, ready.within, by.fresh.size, long, (c.sync-ended.ensures.syncs held.is_open).exact.syncs.passed.size)

pub returns-in-Ok-clause-cut : goal.returns-in-Ok-clause-cut
returns-in-Ok-clause-cut g c =
    let k = g.K.Kem.mechanism in
    let client = c.self.inside.client in
    let disk = c.self.inside.disk in
    let held = held_open k client disk c.self.inside.shut client.kept (ap (λ (p : PartyNow). p.shut) c.self.view_is ∙ c.requires) c.self.invariant in
    let ready = subst (λ (d : MemoryDisk). IsReady client.kept client.store (state_of d)) (sym c.stop_after.ensures)
    (ready_stopped c.args.after client.kept client.store disk held.ready) in
    let by = c.crash-left.ensures.left in
    let image = (lawful_disk c.sync-ended.new.disk).leaves_now c.args.mode by.bytes by.left in
    let syncs = (c.sync-ended.ensures.syncs held.is_open).exact in
    let cut = cut_off k c.side_prefix.result.now (moment client (state_of c.stop_after.new.self) (g.O.Sink.at c.args.out.now))
    (moment c.sync-ended.new.self (state_of c.sync-ended.new.disk) (g.O.Sink.at c.sync-ended.new.out)) ready
    syncs.replies syncs.syncs.passed by.bytes image c.in-Ok.client.kept (c.in-Ok.ensures.opened.read by.bytes by.fresh.seen) in
    subst (λ (x : Client). IsCutSync k (side_text c.args.side) x c.in-Ok.client.kept) (ap (λ (p : PartyNow). p.kept) c.self.view_is)
    (subst (λ (b : List ℕ). IsCutSync k b client.kept c.in-Ok.client.kept) c.side_prefix.ensures.name cut)

pub invariant_of-result : goal.invariant_of-result
invariant_of-result g c = record {
  is_open = c.in-Ok.ensures.opened.is_open;
  ready = c.in-Ok.ensures.opened.ready;
  passes = (c.in-Ok.ensures.fate c.crash-left.ensures.left.fresh.fate).1;
}
