use Rattle.std.proofs.Common.{OnOk, Some, ap, arith, false, rules, subst, sym, take, true, ◌∙◌, ◌≡◌}
use Rattle.std.proofs.lemmas.List.{with_items_is}
use Rattle.session_record.specs.Record.{record_text}
use Rattle.session_record.specs.Versions.{is_newest}
use Rattle.slot_store.specs.Kept.{content_or_empty}
use Rattle.slot_store.specs.Store.{content}
use Rattle.client.specs.Clients.{ClientNow, IsReady, client_area}
use Rattle.client.specs.Opening.{IsMigrated}
use Rattle.client.proofs.Renewing.{migrated_calls, migration_stopped, newest_holds}
use Rattle.client.proofs.client.Client.renew.Goals.{in-Ok, in-Err}
use Rattle.client.proofs.client.Client.renew.Goals as goal

pub returns-then-is_newest-clause-ready : goal.returns-then-is_newest-clause-ready
returns-then-is_newest-clause-ready g c =
    let client : ClientNow = c.args.self.now in
    let text = c.content-text.result.now in
    let is = subst (λ (n : ClientNow). text ≡ content_or_empty (content n.store)) c.self.view_is c.content-text.ensures in
    let test : is_newest text ≡ true = sym c.is_newest.ensures ∙ c.if-is_newest.true in
    record {
      area = c.requires.area;
      within = c.requires.within;
      holds = newest_holds g.K.Kem.mechanism (c.record_law.ensures.newest g.K.Kem.mechanism) client.store client.kept text is
          c.are_bytes.ensures c.requires.some c.requires.reads test;
      rests = c.requires.rests;
    }

pub returns-clause-ready : goal.returns-clause-ready
returns-clause-ready g c =
    let now = g.D.Disk.state c.replace.new.disk in
    let area = subst (λ (n : ClientNow). n.store.area ≡ client_area) (sym c.self.view_is) c.requires.area in
    let written = ap (λ l. take c.encode_now-len.result l) (with_items_is c.lengthen.new.room c.encode_now-len.new.out
    (c.encode_now-len.auto.out ∙ c.deref_mut.ensures.len)) ∙ c.encode_now-len.ensures.written in
    elim c.match-replace.branch [
      | in-Ok w ↦
          subst (λ r. OnOk r (IsReady c.self.inside.core c.replace.new.self now)) (sym w.result-is)
          (record {
            area = c.replace.ensures.next.area ∙ area;
            within = omega (arith, c.requires.within, c.replace.ensures.replaces.any_moment.size);
            holds = w.in-Ok.ensures.holds ∙ ap Some written;
            rests = λ f left. (w.in-Ok.ensures.done f left).0;
          })
      | in-Err w ↦ search rules
    ]

pub returns-then-is_newest-clause-migrated : goal.returns-then-is_newest-clause-migrated
returns-then-is_newest-clause-migrated g c = λ text has old.
    let is = subst (λ (n : ClientNow). c.content-text.result.now ≡ content_or_empty (content n.store)) c.self.view_is c.content-text.ensures in
    let same : c.content-text.result.now ≡ text = is ∙ ap content_or_empty has in
    let newest : is_newest text ≡ true = subst (λ t. is_newest t ≡ true) same (sym c.is_newest.ensures ∙ c.if-is_newest.true) in
    absurd (let e : true ≡ false = sym newest ∙ old in cc)

pub returns-clause-migrated : goal.returns-clause-migrated
returns-clause-migrated g c = λ text has old.
    let start = g.D.Disk.state c.args.disk.now in
    let now = g.D.Disk.state c.replace.new.disk in
    let client : ClientNow = c.args.self.now in
    let area = subst (λ (n : ClientNow). n.store.area ≡ client_area) (sym c.self.view_is) c.requires.area in
    let held = subst (λ (n : ClientNow). content n.store ≡ Some text) (sym c.self.view_is) has in
    let written = ap (λ l. take c.encode_now-len.result l) (with_items_is c.lengthen.new.room c.encode_now-len.new.out
    (c.encode_now-len.auto.out ∙ c.deref_mut.ensures.len)) ∙ c.encode_now-len.ensures.written
    ∙ ap (λ (n : ClientNow). record_text n.kept) c.self.view_is in
    elim c.match-replace.branch [
      | in-Ok w ↦
          subst (IsMigrated text client.kept start now) (sym w.result-is)
          (migrated_calls text client.kept (content c.self.inside.store) _ held written start now w.in-Ok.ensures.calls.passed)
      | in-Err w ↦
          subst (IsMigrated text client.kept start now) (sym w.result-is)
          (migration_stopped text client.kept (content c.self.inside.store) _ held written start now c.self.inside.store.area area w.in-Err.fault.call
          w.in-Err.ensures.replaces.stopped w.in-Err.ensures.calls.few w.in-Err.ensures.kind)
    ]
