use Rattle.std.proofs.Common.{Err, Ok, ap, ap₂, subst, sym, ◌∙◌}
use Rattle.dr_disk.specs.MemoryDisks.{state_of}
use Rattle.dr_disk.specs.declared.memory.MemoryDisk.{MemoryDisk}
use Rattle.dr_model.specs.Machines.Acts.{act_on}
use Rattle.session_model.specs.Clients.{Client}
use Rattle.session_model.specs.declared.answer.Answer.TheVariants.{Refused}
use Rattle.client.specs.Outcomes.{Acts, acknowledged, faulted, refused}
use Rattle.parties.specs.Acts.{IsChecked, act_of_call, ended_as}
use Rattle.parties.specs.Failing.{FailsAt}
use Rattle.parties.specs.Parties.{IsHeld, IsParty, IsClosedParty, found_on, shut_by}
use Rattle.parties.specs.Shuts.{PartyNow, shut_party}
use Rattle.parties.specs.declared.acts.Ended.{Ended}
use Rattle.parties.proofs.Closed.{held_open, is_unshut}
use Rattle.parties.proofs.LawfulActs.{made_lawful}
use Rattle.parties.proofs.Stopped.Fails.{acknowledged_passes, cut_fault, cut_found, cut_shut, left_whole, refused_passes}
use Rattle.parties.proofs.party.Party.failed.Goals as goal

pub perform-ended-requires-clause-open : goal.perform-ended-requires-clause-open
perform-ended-requires-clause-open g c =
    let inside = c.self.inside in
    (held_open g.K.Kem.mechanism inside.client inside.disk inside.shut inside.client.kept
    (ap (λ (p : PartyNow). p.shut) c.self.view_is ∙ c.requires.open) c.self.invariant).is_open

pub invariant_of-self : goal.invariant_of-self
invariant_of-self g c =
    let k = g.K.Kem.mechanism in
    let client = c.self.inside.client in
    let disk = c.self.inside.disk in
    let unshut = ap (λ (p : PartyNow). p.shut) c.self.view_is ∙ c.requires.open in
    let held = held_open k client disk c.self.inside.shut client.kept unshut c.self.invariant in
    let now = c.perform-ended.new in
    let made = act_on k client.kept (act_of_call c.args.call) in
    let acts = subst (λ (d : MemoryDisk). Acts state_of made client now.client d now.disk (acknowledged c.in-Acknowledged.answer))
    c.fail_at.ensures (subst (λ (e : Ended). Acts state_of made client now.client c.fail_at.new.self now.disk (ended_as e))
    c.in-Acknowledged.is c.perform-ended.ensures.acts) in
    let passes = acknowledged_passes c.args.at c.requires.counted made client now.client disk now.disk held
    c.in-Acknowledged.answer acts c.go_on.ensures.told in
    subst (λ s. IsParty k now.client c.go_on.new.self s) (sym (is_unshut k client.kept disk c.self.inside.shut unshut))
    (subst (λ (d : MemoryDisk). IsHeld now.client d) (sym c.go_on.ensures.lifted) passes.2)

pub invariant_of-self-in-Faulted : goal.invariant_of-self-in-Faulted
invariant_of-self-in-Faulted g c =
    let k = g.K.Kem.mechanism in
    let client = c.self.inside.client in
    let disk = c.self.inside.disk in
    let unshut = ap (λ (p : PartyNow). p.shut) c.self.view_is ∙ c.requires.open in
    let held = held_open k client disk c.self.inside.shut client.kept unshut c.self.invariant in
    let now = c.perform-ended.new in
    let made = act_on k client.kept (act_of_call c.args.call) in
    let cut = subst (λ (d : MemoryDisk). Acts state_of made client now.client d now.disk (faulted c.in-Faulted.call))
    c.fail_at.ensures (subst (λ (e : Ended). Acts state_of made client now.client c.fail_at.new.self now.disk (ended_as e))
    c.in-Faulted.is c.perform-ended.ensures.acts) in
    let checked = subst (λ (x : Client). IsChecked x (act_of_call c.args.call)) (sym (ap (λ (p : PartyNow). p.kept) c.self.view_is)) c.requires.checked in
    let next = made_lawful k client.kept (act_of_call c.args.call) cut.next c.laws.ensures.law c.lawful.ensures checked cut.made_is in
    let whole = left_whole c.args.at c.requires.counted made client now.client disk now.disk held c.in-Faulted.call cut k
    next c.lawful.ensures in
    subst (λ (d : MemoryDisk). IsClosedParty k d) (sym c.go_on.ensures.lifted)
    (cut_shut c.args.at c.requires.counted made client now.client disk now.disk held c.in-Faulted.call cut k
    (c.record_law.ensures.written k _ whole))

pub returns-in-Acknowledged : goal.returns-in-Acknowledged
returns-in-Acknowledged g c =
    let k = g.K.Kem.mechanism in
    let client = c.self.inside.client in
    let disk = c.self.inside.disk in
    let unshut = ap (λ (p : PartyNow). p.shut) c.self.view_is ∙ c.requires.open in
    let held = held_open k client disk c.self.inside.shut client.kept unshut c.self.invariant in
    let now = c.perform-ended.new in
    let made = act_on k client.kept (act_of_call c.args.call) in
    let acts = subst (λ (d : MemoryDisk). Acts state_of made client now.client d now.disk (acknowledged c.in-Acknowledged.answer))
    c.fail_at.ensures (subst (λ (e : Ended). Acts state_of made client now.client c.fail_at.new.self now.disk (ended_as e))
    c.in-Acknowledged.is c.perform-ended.ensures.acts) in
    let passes = acknowledged_passes c.args.at c.requires.counted made client now.client disk now.disk held
    c.in-Acknowledged.answer acts c.go_on.ensures.told in
    subst (λ (x : Client). FailsAt k c.args.at (act_of_call c.args.call) x
    (record { kept = now.client.kept; shut = shut_by k now.client.kept c.go_on.new.self c.self.inside.shut }) (Ok c.in-Acknowledged.answer))
    (ap (λ (p : PartyNow). p.kept) c.self.view_is) (
      passes.0,
      passes.1,
      ap (shut_by k now.client.kept c.go_on.new.self) (is_unshut k client.kept disk c.self.inside.shut unshut),
    )

pub returns-in-Refused : goal.returns-in-Refused
returns-in-Refused g c =
    let k = g.K.Kem.mechanism in
    let client = c.self.inside.client in
    let disk = c.self.inside.disk in
    let unshut = ap (λ (p : PartyNow). p.shut) c.self.view_is ∙ c.requires.open in
    let held = held_open k client disk c.self.inside.shut client.kept unshut c.self.invariant in
    let now = c.perform-ended.new in
    let made = act_on k client.kept (act_of_call c.args.call) in
    let acts = subst (λ (d : MemoryDisk). Acts state_of made client now.client d now.disk (refused c.in-Refused.refusal))
    c.fail_at.ensures (subst (λ (e : Ended). Acts state_of made client now.client c.fail_at.new.self now.disk (ended_as e))
    c.in-Refused.is c.perform-ended.ensures.acts) in
    let passes = refused_passes c.args.at c.requires.counted made client now.client disk now.disk held
    c.in-Refused.refusal acts in
    subst (λ (x : Client). FailsAt k c.args.at (act_of_call c.args.call) x
    (record { kept = now.client.kept; shut = shut_by k now.client.kept c.go_on.new.self c.self.inside.shut }) (Ok (Refused c.in-Refused.refusal)))
    (ap (λ (p : PartyNow). p.kept) c.self.view_is) (
      passes.0,
      passes.1,
      ap (shut_by k now.client.kept c.go_on.new.self) (is_unshut k client.kept disk c.self.inside.shut unshut),
    )

pub returns-in-Faulted : goal.returns-in-Faulted
returns-in-Faulted g c =
    let k = g.K.Kem.mechanism in
    let client = c.self.inside.client in
    let disk = c.self.inside.disk in
    let unshut = ap (λ (p : PartyNow). p.shut) c.self.view_is ∙ c.requires.open in
    let held = held_open k client disk c.self.inside.shut client.kept unshut c.self.invariant in
    let now = c.perform-ended.new in
    let made = act_on k client.kept (act_of_call c.args.call) in
    let cut = subst (λ (d : MemoryDisk). Acts state_of made client now.client d now.disk (faulted c.in-Faulted.call))
    c.fail_at.ensures (subst (λ (e : Ended). Acts state_of made client now.client c.fail_at.new.self now.disk (ended_as e))
    c.in-Faulted.is c.perform-ended.ensures.acts) in
    let checked = subst (λ (x : Client). IsChecked x (act_of_call c.args.call)) (sym (ap (λ (p : PartyNow). p.kept) c.self.view_is)) c.requires.checked in
    let next = made_lawful k client.kept (act_of_call c.args.call) cut.next c.laws.ensures.law c.lawful.ensures checked cut.made_is in
    let whole = left_whole c.args.at c.requires.counted made client now.client disk now.disk held c.in-Faulted.call cut k
    next c.lawful.ensures in
    let found = cut_found c.args.at c.requires.counted made client now.client disk now.disk held c.in-Faulted.call cut k
    (c.record_law.ensures.written k _ whole) in
    subst (λ (x : Client). FailsAt k c.args.at (act_of_call c.args.call) x
    (shut_party now.client.kept c.in-Faulted.call (found_on k now.client.kept c.go_on.new.self)) (Err c.in-Faulted.call))
    (ap (λ (p : PartyNow). p.kept) c.self.view_is) (
      cut_fault c.args.at c.requires.counted made client now.client disk now.disk held c.in-Faulted.call cut,
      ap₂ (λ (x y : Client). shut_party x c.in-Faulted.call y) cut.keeps (ap (found_on k now.client.kept) c.go_on.ensures.lifted ∙ found),
    )
