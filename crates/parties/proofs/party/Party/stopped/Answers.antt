use Rattle.std.proofs.Common.{ap, if◌then◌else◌, refl, subst, sym, ◌∙◌}
use Rattle.dr_disk.specs.MemoryDisks.{state_of, stopped_after}
use Rattle.dr_disk.specs.declared.memory.MemoryDisk.{MemoryDisk}
use Rattle.dr_model.specs.Machines.Acts.{act_on}
use Rattle.dr_model.specs.Machines.Steps.{settled, step}
use Rattle.session_model.specs.Clients.{Client}
use Rattle.session_model.specs.declared.answer.Answer.TheVariants.{Stopped}
use Rattle.client.specs.Outcomes.{Acts, acknowledged, faulted, refused}
use Rattle.parties.specs.Acts.{IsChecked, act_of_call, ended_as}
use Rattle.parties.specs.declared.acts.Ended.{Ended}
use Rattle.parties.specs.Parties.{IsHeld}
use Rattle.parties.specs.Stops.{is_replaced, stopped_client}
use Rattle.parties.proofs.Stopped.Acts.{acknowledged_comes, cut_comes, cut_record, cut_undamaged, cut_within, ready_stopped, refused_comes}
use Rattle.parties.proofs.LawfulActs.{left_lawful, made_lawful}
use Rattle.parties.specs.Shuts.{PartyNow}
use Rattle.parties.proofs.Closed.{held_open, record_reads}
use Rattle.parties.proofs.party.Party.stopped.Goals as goal

pub invariant_of-result : goal.invariant_of-result
invariant_of-result g c =
    let k = g.K.Kem.mechanism in
    let client = c.self.inside.client in
    let disk = c.self.inside.disk in
    let held = held_open k client disk c.self.inside.shut client.kept (ap (λ (p : PartyNow). p.shut) c.self.view_is ∙ c.requires.open) c.self.invariant in
    let made = act_on k client.kept (act_of_call c.args.call) in
    let acts = subst (λ (d : MemoryDisk). Acts state_of made client c.perform.new.client d c.perform.new.disk (acknowledged c.in-Acknowledged.answer))
    c.stop_after.ensures (subst (λ (e : Ended). Acts state_of made client c.perform.new.client c.stop_after.new.self c.perform.new.disk (ended_as e)) c.in-Acknowledged.is c.perform.ensures.acts) in
    let comes = acknowledged_comes c.args.after c.args.mode made client c.perform.new.client (stopped_after c.args.after disk) c.perform.new.disk held.is_open
    (ready_stopped c.args.after client.kept client.store disk held.ready) refl refl
    c.in-Acknowledged.answer acts c.go_on.ensures.told in
    subst (λ (d : MemoryDisk). IsHeld c.perform.new.client d) (sym c.go_on.ensures.lifted) comes.1

pub returns-in-Acknowledged-clause-made : goal.returns-in-Acknowledged-clause-made
returns-in-Acknowledged-clause-made g c =
    let k = g.K.Kem.mechanism in
    let client = c.self.inside.client in
    let disk = c.self.inside.disk in
    let held = held_open k client disk c.self.inside.shut client.kept (ap (λ (p : PartyNow). p.shut) c.self.view_is ∙ c.requires.open) c.self.invariant in
    let made = act_on k client.kept (act_of_call c.args.call) in
    let acts = subst (λ (d : MemoryDisk). Acts state_of made client c.perform.new.client d c.perform.new.disk (acknowledged c.in-Acknowledged.answer))
    c.stop_after.ensures (subst (λ (e : Ended). Acts state_of made client c.perform.new.client c.stop_after.new.self c.perform.new.disk (ended_as e)) c.in-Acknowledged.is c.perform.ensures.acts) in
    let comes = acknowledged_comes c.args.after c.args.mode made client c.perform.new.client (stopped_after c.args.after disk) c.perform.new.disk held.is_open
    (ready_stopped c.args.after client.kept client.store disk held.ready) refl refl
    c.in-Acknowledged.answer acts c.go_on.ensures.told in
    comes.0 ∙ ap (λ (x : Client). stopped_client c.args.after c.args.mode x
    (settled x (act_on k x (act_of_call c.args.call)))) (ap (λ (p : PartyNow). p.kept) c.self.view_is)

pub returns-in-Refused-clause-made : goal.returns-in-Refused-clause-made
returns-in-Refused-clause-made g c =
    let k = g.K.Kem.mechanism in
    let client = c.self.inside.client in
    let disk = c.self.inside.disk in
    let held = held_open k client disk c.self.inside.shut client.kept (ap (λ (p : PartyNow). p.shut) c.self.view_is ∙ c.requires.open) c.self.invariant in
    let made = act_on k client.kept (act_of_call c.args.call) in
    let acts = subst (λ (d : MemoryDisk). Acts state_of made client c.perform.new.client d c.perform.new.disk (refused c.in-Refused.refusal))
    c.stop_after.ensures (subst (λ (e : Ended). Acts state_of made client c.perform.new.client c.stop_after.new.self c.perform.new.disk (ended_as e)) c.in-Refused.is c.perform.ensures.acts) in
    let comes = refused_comes c.args.after c.args.mode made client c.perform.new.client (stopped_after c.args.after disk) c.perform.new.disk held.is_open
    (ready_stopped c.args.after client.kept client.store disk held.ready) refl refl
    c.in-Refused.refusal acts in
    comes.0 ∙ ap (λ (x : Client). stopped_client c.args.after c.args.mode x
    (settled x (act_on k x (act_of_call c.args.call)))) (ap (λ (p : PartyNow). p.kept) c.self.view_is)

pub invariant_of-result-in-Refused : goal.invariant_of-result-in-Refused
invariant_of-result-in-Refused g c =
    let k = g.K.Kem.mechanism in
    let client = c.self.inside.client in
    let disk = c.self.inside.disk in
    let held = held_open k client disk c.self.inside.shut client.kept (ap (λ (p : PartyNow). p.shut) c.self.view_is ∙ c.requires.open) c.self.invariant in
    let made = act_on k client.kept (act_of_call c.args.call) in
    let acts = subst (λ (d : MemoryDisk). Acts state_of made client c.perform.new.client d c.perform.new.disk (refused c.in-Refused.refusal))
    c.stop_after.ensures (subst (λ (e : Ended). Acts state_of made client c.perform.new.client c.stop_after.new.self c.perform.new.disk (ended_as e)) c.in-Refused.is c.perform.ensures.acts) in
    let comes = refused_comes c.args.after c.args.mode made client c.perform.new.client (stopped_after c.args.after disk) c.perform.new.disk held.is_open
    (ready_stopped c.args.after client.kept client.store disk held.ready) refl refl
    c.in-Refused.refusal acts in
    subst (λ (d : MemoryDisk). IsHeld c.perform.new.client d) (sym c.go_on-in-Refused.ensures.lifted) comes.1

pub reopened-requires-clause-within : goal.reopened-requires-clause-within
reopened-requires-clause-within g c =
    let k = g.K.Kem.mechanism in
    let client = c.self.inside.client in
    let disk = c.self.inside.disk in
    let held = held_open k client disk c.self.inside.shut client.kept (ap (λ (p : PartyNow). p.shut) c.self.view_is ∙ c.requires.open) c.self.invariant in
    let made = act_on k client.kept (act_of_call c.args.call) in
    let cut = subst (λ (d : MemoryDisk). Acts state_of made client c.perform.new.client d c.perform.new.disk (faulted c.in-Faulted.field-0))
    c.stop_after.ensures (subst (λ (e : Ended). Acts state_of made client c.perform.new.client c.stop_after.new.self c.perform.new.disk (ended_as e)) c.in-Faulted.is c.perform.ensures.acts) in
    cut_within c.args.after c.args.mode made client c.perform.new.client (stopped_after c.args.after disk) c.perform.new.disk held.is_open
    (ready_stopped c.args.after client.kept client.store disk held.ready) refl refl
    c.in-Faulted.field-0 cut c.crash.result c.crash.ensures.left

pub reopened-requires-clause-holds : goal.reopened-requires-clause-holds
reopened-requires-clause-holds g c =
    let k = g.K.Kem.mechanism in
    let client = c.self.inside.client in
    let disk = c.self.inside.disk in
    let held = held_open k client disk c.self.inside.shut client.kept (ap (λ (p : PartyNow). p.shut) c.self.view_is ∙ c.requires.open) c.self.invariant in
    let n = c.args.after in
    let mode = c.args.mode in
    let made = act_on k client.kept (act_of_call c.args.call) in
    let cut = subst (λ (d : MemoryDisk). Acts state_of made client c.perform.new.client d c.perform.new.disk (faulted c.in-Faulted.field-0))
    c.stop_after.ensures (subst (λ (e : Ended). Acts state_of made client c.perform.new.client c.stop_after.new.self c.perform.new.disk (ended_as e)) c.in-Faulted.is c.perform.ensures.acts) in
    let checked = subst (λ (x : Client). IsChecked x (act_of_call c.args.call)) (sym (ap (λ (p : PartyNow). p.kept) c.self.view_is)) c.requires.checked in
    let next = made_lawful k client.kept (act_of_call c.args.call) cut.next c.laws.ensures.law c.lawful.ensures checked cut.made_is in
    record {
      kept = if is_replaced n mode client.kept cut.next.next then cut.next.next else client.kept;
      bytes = c.crash.ensures.left.bytes;
      told = c.crash.ensures.left.fresh.seen;
      has = record_reads k _ (state_of c.crash.result)
          (cut_record n mode made client c.perform.new.client (stopped_after n disk) c.perform.new.disk held.is_open
          (ready_stopped n client.kept client.store disk held.ready) refl refl c.in-Faulted.field-0 cut
          c.crash.result c.crash.ensures.left)
          (c.record_law.ensures.written k _
          (left_lawful k (is_replaced n mode client.kept cut.next.next) cut.next.next client.kept next c.lawful.ensures))
          c.crash.ensures.left.bytes c.crash.ensures.left.fresh.seen;
      undamaged = cut_undamaged n mode made client c.perform.new.client (stopped_after n disk) c.perform.new.disk held.is_open
          (ready_stopped n client.kept client.store disk held.ready) refl refl c.in-Faulted.field-0 cut
          c.crash.result c.crash.ensures.left;
    }

pub returns-in-Ok : goal.returns-in-Ok
returns-in-Ok g c =
    let k = g.K.Kem.mechanism in
    let client = c.self.inside.client in
    let disk = c.self.inside.disk in
    let held = held_open k client disk c.self.inside.shut client.kept (ap (λ (p : PartyNow). p.shut) c.self.view_is ∙ c.requires.open) c.self.invariant in
    let n = c.args.after in
    let mode = c.args.mode in
    let made = act_on k client.kept (act_of_call c.args.call) in
    let cut = subst (λ (d : MemoryDisk). Acts state_of made client c.perform.new.client d c.perform.new.disk (faulted c.in-Faulted.field-0))
    c.stop_after.ensures (subst (λ (e : Ended). Acts state_of made client c.perform.new.client c.stop_after.new.self c.perform.new.disk (ended_as e)) c.in-Faulted.is c.perform.ensures.acts) in
    let checked = subst (λ (x : Client). IsChecked x (act_of_call c.args.call)) (sym (ap (λ (p : PartyNow). p.kept) c.self.view_is)) c.requires.checked in
    let next = made_lawful k client.kept (act_of_call c.args.call) cut.next c.laws.ensures.law c.lawful.ensures checked cut.made_is in
    let lawful = left_lawful k (is_replaced n mode client.kept cut.next.next) cut.next.next
    client.kept next c.lawful.ensures in
    let has = cut_record n mode made client c.perform.new.client (stopped_after n disk) c.perform.new.disk held.is_open
    (ready_stopped n client.kept client.store disk held.ready) refl refl c.in-Faulted.field-0 cut
    c.crash.result c.crash.ensures.left in
    let comes = cut_comes n mode made client c.perform.new.client (stopped_after n disk) c.perform.new.disk held.is_open
    (ready_stopped n client.kept client.store disk held.ready) refl refl c.in-Faulted.field-0 cut in
    let opens = c.in-Ok.ensures _ (record_reads k _ (state_of c.crash.result) has (c.record_law.ensures.written k _ lawful)) in
    record {
      made = ap (λ (p : PartyNow). step Stopped p.kept) opens ∙ comes
          ∙ ap (λ (x : Client). stopped_client n mode x
          (settled x (act_on k x (act_of_call c.args.call)))) (ap (λ (p : PartyNow). p.kept) c.self.view_is);
      «open» = ap (λ (p : PartyNow). p.shut) opens;
    }
