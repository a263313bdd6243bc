use Rattle.std.proofs.Common.{Err, List, Ok, Option, Some, ap, inr, subst, sym, ℕ, ◌+◌, ◌∙◌, ◌≡◌}
use Rattle.boxes.specs.Entries.{Entry}
use Rattle.boxes.specs.Posts.{Post}
use Rattle.dr_disk.specs.Calls.{Unwritten}
use Rattle.dr_disk.specs.Spans.{HavePassed}
use Rattle.dr_disk.proofs.Steps.{quiet_twice}
use Rattle.kem_laws.specs.Mechanism.{Mechanism}
use Rattle.session_model.specs.Clients.{Client}
use Rattle.session_model.specs.States.{State}
use Rattle.session_model.specs.declared.relay_keys.RelayKeys.{RelayKeys}
use Rattle.session_record.specs.Record.{record_text}
use Rattle.slot_store.specs.Found.{HasReadContent, found_as}
use Rattle.slot_store.specs.Stops.{calls_of}
use Rattle.slot_store.specs.Store.{content}
use Rattle.client.specs.Opening.{IsLeftAtRest, IsUnopened, OpensMigrating, client_record_fault}
use Rattle.client.specs.declared.refusals.OpenRefusal.TheVariants.{NoSession, StoreFault}
use Rattle.client.specs.Reading.{HasReadClient}
use Rattle.client.proofs.Openings.{left_unopened, opens_in, unopened, unopened_in}
use Rattle.client.proofs.Renewing.{IsRenewed, like_as_read, migrates_unopened, opening_moments, passed_both, renewed}
use Rattle.client.proofs.Settled.{still_settled}
use Rattle.client.proofs.client.Client.open.Given.{Over}
use Rattle.client.proofs.client.Client.open.Goals.{In-Ok-renew}
use Rattle.client.proofs.client.Client.open.Goals as goal

pub returns-in-Err-clause-unopened : goal.returns-in-Err-clause-unopened
returns-in-Err-clause-unopened g c =
    let k = g.K.Kem.mechanism in
    subst (IsUnopened g.D.Disk.state k c.args.disk.now c.open.new.disk) (sym c.refusal.ensures)
    (unopened g.D.Disk.state k c.args.disk.now c.open.new.disk c.in-Err.error c.in-Err.ensures.refused.damaged c.in-Err.ensures.memory
    c.in-Err.ensures.refused.fault)

pub returns-in-NoContent-clause-unopened : goal.returns-in-NoContent-clause-unopened
returns-in-NoContent-clause-unopened g c = (
  λ s told. c.in-Ok-open.ensures.opened.read s told ∙ ap (λ f. found_as f (content c.in-Ok-open.store)) c.in-NoContent.is,
  c.in-Ok-open.ensures.quiet,
)

pub returns-in-Err-clause-still : goal.returns-in-Err-clause-still
returns-in-Err-clause-still g c = λ was newest.
    let start = g.D.Disk.state c.args.disk.now in
    let now = g.D.Disk.state c.open.new.disk in
    subst (λ e. IsLeftAtRest start now (Err e)) (sym c.refusal.ensures)
    (left_unopened (client_record_fault g.K.Kem.mechanism) start now c.in-Err.error (c.in-Err.ensures.still was).unwritten c.in-Err.ensures.refused.damaged)

pub returns-in-NoContent-clause-still : goal.returns-in-NoContent-clause-still
returns-in-NoContent-clause-still g c = λ was newest.
    let left = c.in-Ok-open.ensures.still was in
    record { unwritten = left.unwritten; one_sync = left.one_sync }

pub returns-in_default-clause-in_worlds : goal.returns-in_default-clause-in_worlds
returns-in_default-clause-in_worlds g c = λ w side lawful reads.
    unopened_in g.K.Kem.mechanism w side (g.D.Disk.state c.args.disk.now) reads

pub returns-in-Err-clause-any_moment : goal.returns-in-Err-clause-any_moment
returns-in-Err-clause-any_moment g c =
    opening_moments g.K.Kem.mechanism (g.D.Disk.state c.args.disk.now) (g.D.Disk.state c.open.new.disk) c.open.ensures.any_moment

pub returns-in-NoContent-clause-any_moment : goal.returns-in-NoContent-clause-any_moment
returns-in-NoContent-clause-any_moment g c =
    opening_moments g.K.Kem.mechanism (g.D.Disk.state c.args.disk.now) (g.D.Disk.state c.open.new.disk) c.open.ensures.any_moment

pub returns-in-Err-clause-reads : goal.returns-in-Err-clause-reads
returns-in-Err-clause-reads g c = λ s told.
    like_as_read g.K.Kem.mechanism (g.D.Disk.state c.args.disk.now) s (c.open.ensures.reads s told)

pub returns-in-NoContent-clause-reads : goal.returns-in-NoContent-clause-reads
returns-in-NoContent-clause-reads g c = λ s told.
    like_as_read g.K.Kem.mechanism (g.D.Disk.state c.args.disk.now) s (c.open.ensures.reads s told)

pub returns-in-Err-clause-in_worlds : goal.returns-in-Err-clause-in_worlds
returns-in-Err-clause-in_worlds g c = λ w side lawful reads.
    opens_in g.K.Kem.mechanism (c.record_law.ensures.written g.K.Kem.mechanism) w side (g.D.Disk.state c.args.disk.now)
    (g.D.Disk.state c.open.new.disk) (Err c.refusal.result) lawful reads tt (returns-in-Err-clause-any_moment g c)
    (returns-in-Err-clause-reads g c)

pub returns-in-NoContent-clause-in_worlds : goal.returns-in-NoContent-clause-in_worlds
returns-in-NoContent-clause-in_worlds g c = λ w side lawful reads.
    opens_in g.K.Kem.mechanism (c.record_law.ensures.written g.K.Kem.mechanism) w side (g.D.Disk.state c.args.disk.now)
    (g.D.Disk.state c.open.new.disk) (Err NoSession) lawful reads tt (returns-in-NoContent-clause-any_moment g c)
    (returns-in-NoContent-clause-reads g c)

-- what is known once the record was renewed, or where that failed
renewed-ok : (g : Over) (c : In-Ok-renew g)
    → IsRenewed g.K.Kem.mechanism c.client_in-client.result.store c.client_in-client.result.kept (g.D.Disk.state c.args.disk.now)
    (g.D.Disk.state c.open.new.disk) (g.D.Disk.state c.renew.new.disk)
renewed-ok g c =
    renewed g.K.Kem.mechanism c.readings.ensures c.in-Ok-open.found c.in-Ok-open.store c.client_in-client.result.store c.client_in-client.result.kept
    (g.D.Disk.state c.args.disk.now) (g.D.Disk.state c.open.new.disk) (g.D.Disk.state c.renew.new.disk) c.in-Content.is
    c.in-Ok-open.ensures.opened.found c.client_in-client.ensures.store c.client_in-client.ensures.lawful c.client_in-client.ensures.read
    c.in-Ok-open.ensures.opened.read (λ d left. (c.in-Ok-open.ensures.opened.at_rest d left).1) c.open.ensures.any_moment
    c.renew.ensures.any_moment

pub returns-in-Ok-renew-clause-opened : goal.returns-in-Ok-renew-clause-opened
returns-in-Ok-renew-clause-opened g c =
    let all = renewed-ok g c in
    let ready = c.in-Ok-renew.ensures.ready in
    let mid = g.D.Disk.state c.open.new.disk in
    let now = g.D.Disk.state c.renew.new.disk in
    record {
      is_open = c.in-Ok-renew.ensures.open;
      ready = ready;
      read = λ s told. all.read s told ∙ ap (λ kept. Some (Ok kept)) (sym c.renew.ensures.keeps);
      alike = all.left;
      settled =
          still_settled c.resting.ensures c.renew.new.self.store mid now ready.area (g.met.D.Disk.lawful c.renew.new.disk)
          c.in-Ok-open.ensures.opened.settled c.renew.ensures.any_moment.told all.around ready.rests;
      quiet =
          quiet_twice (g.D.Disk.state c.args.disk.now) mid now c.in-Ok-open.ensures.quiet c.in-Ok-renew.ensures.quiet;
    }

pub returns-in-Ok-renew-clause-any_moment : goal.returns-in-Ok-renew-clause-any_moment
returns-in-Ok-renew-clause-any_moment g c = (renewed-ok g c).any_moment

pub returns-in-Ok-renew-clause-reads : goal.returns-in-Ok-renew-clause-reads
returns-in-Ok-renew-clause-reads g c = λ s told.
    (renewed-ok g c).left s ((g.met.D.Disk.lawful c.renew.new.disk).seen_now s told)

pub returns-in-Ok-renew-clause-still : goal.returns-in-Ok-renew-clause-still
returns-in-Ok-renew-clause-still g c = λ was newest.
    let state = g.D.Disk.state in
    let start = state c.args.disk.now in
    let left = c.in-Ok-open.ensures.still was in
    let text = (renewed-ok g c).newest newest was.bytes was.told in
    let same = sym (c.renew.ensures.still text.0 text.1 text.2) in
    record {
      unwritten = subst (λ d. Unwritten start (state d)) same left.unwritten;
      one_sync = subst (λ d. HavePassed 1 start (state d)) same left.one_sync;
    }

pub returns-in-Ok-renew-clause-in_worlds : goal.returns-in-Ok-renew-clause-in_worlds
returns-in-Ok-renew-clause-in_worlds g c = λ w side lawful reads.
    opens_in g.K.Kem.mechanism (c.record_law.ensures.written g.K.Kem.mechanism) w side (g.D.Disk.state c.args.disk.now)
    (g.D.Disk.state c.renew.new.disk) (Ok c.renew.new.self) lawful reads (returns-in-Ok-renew-clause-opened g c)
    (returns-in-Ok-renew-clause-any_moment g c) (returns-in-Ok-renew-clause-reads g c)

-- what is known once the record was renewed, or where that failed
renewed-err : (g : Over) (c : goal.After-drop-client-inside-in-Err-renew-13 g)
    → IsRenewed g.K.Kem.mechanism c.client_in-client.result.store c.client_in-client.result.kept (g.D.Disk.state c.args.disk.now)
    (g.D.Disk.state c.open.new.disk) (g.D.Disk.state c.renew.new.disk)
renewed-err g c =
    renewed g.K.Kem.mechanism c.readings.ensures c.in-Ok-open.found c.in-Ok-open.store c.client_in-client.result.store c.client_in-client.result.kept
    (g.D.Disk.state c.args.disk.now) (g.D.Disk.state c.open.new.disk) (g.D.Disk.state c.renew.new.disk) c.in-Content.is
    c.in-Ok-open.ensures.opened.found c.client_in-client.ensures.store c.client_in-client.ensures.lawful c.client_in-client.ensures.read
    c.in-Ok-open.ensures.opened.read (λ d left. (c.in-Ok-open.ensures.opened.at_rest d left).1) c.open.ensures.any_moment
    c.renew.ensures.any_moment

pub returns-in-Err-renew-clause-any_moment : goal.returns-in-Err-renew-clause-any_moment
returns-in-Err-renew-clause-any_moment g c = (renewed-err g c).any_moment

pub returns-in-Err-renew-clause-reads : goal.returns-in-Err-renew-clause-reads
returns-in-Err-renew-clause-reads g c = λ s told.
    (renewed-err g c).left s ((g.met.D.Disk.lawful c.renew.new.disk).seen_now s told)

pub returns-in-Err-renew-clause-still : goal.returns-in-Err-renew-clause-still
returns-in-Err-renew-clause-still g c = λ was newest.
    let state = g.D.Disk.state in
    let start = state c.args.disk.now in
    let left = c.in-Ok-open.ensures.still was in
    let text = (renewed-err g c).newest newest was.bytes was.told in
    let same = sym (c.renew.ensures.still text.0 text.1 text.2) in
    record { unwritten = subst (λ d. Unwritten start (state d)) same left.unwritten; one_sync = tt }

pub returns-in-Err-renew-clause-in_worlds : goal.returns-in-Err-renew-clause-in_worlds
returns-in-Err-renew-clause-in_worlds g c = λ w side lawful reads.
    opens_in g.K.Kem.mechanism (c.record_law.ensures.written g.K.Kem.mechanism) w side (g.D.Disk.state c.args.disk.now)
    (g.D.Disk.state c.renew.new.disk) (Err (StoreFault c.in-Err-renew.call)) lawful reads tt
    (returns-in-Err-renew-clause-any_moment g c) (returns-in-Err-renew-clause-reads g c)

-- the record that was found was read
read_of : {R : Type 0} (new old : R) (k : Mechanism) (session : R → Option State) (inbox : R → List Entry) (outbox : R → List Post)
    (relay : R → Option RelayKeys) (o : Option (List ℕ)) (text : List ℕ) → o ≡ Some text
    → HasReadContent (λ r t. HasReadClient k (session r) (inbox r) (outbox r) (relay r) t) old new o
    → HasReadClient k (session new) (inbox new) (outbox new) (relay new) text
read_of new old k session inbox outbox relay o text is =
    subst (HasReadContent (λ r t. HasReadClient k (session r) (inbox r) (outbox r) (relay r) t) old new) is

pub client_in-client-requires-clause-read : goal.client_in-client-requires-clause-read
client_in-client-requires-clause-read g c = λ text is.
    read_of c.open.new.reader _ g.K.Kem.mechanism (λ r. r.session) (λ r. r.room.inbox) (λ r. r.room.outbox) (λ r. r.keys)
    (content c.in-Ok-open.store) text is c.in-Ok-open.ensures.read

pub returns-in-Err-clause-migrates : goal.returns-in-Err-clause-migrates
returns-in-Err-clause-migrates g c = λ was s text told is old.
    let k = g.K.Kem.mechanism in
    subst (λ e. OpensMigrating g.D.Disk.state k text c.args.disk.now c.open.new.disk (Err e)) (sym c.refusal.ensures)
    (migrates_unopened g.D.Disk.state k text c.args.disk.now c.open.new.disk c.in-Err.error (c.in-Err.ensures.still was).unwritten)

pub returns-in-Ok-renew-clause-migrates : goal.returns-in-Ok-renew-clause-migrates
returns-in-Ok-renew-clause-migrates g c = λ was s text told is old.
    let held = (renewed-ok g c).has s text told is in
    let start = g.D.Disk.state c.args.disk.now in
    let mid = g.D.Disk.state c.open.new.disk in
    let now = g.D.Disk.state c.renew.new.disk in
    subst (λ (kept : Client). HavePassed (1 + calls_of (Some text) (Some (record_text kept))) start now) (sym c.renew.ensures.keeps)
    (passed_both 1 (calls_of (Some text) (Some (record_text c.client_in-client.result.kept))) start mid now (c.in-Ok-open.ensures.still was).one_sync
    (c.in-Ok-renew.ensures.migrated text held old))

pub returns-in-Err-renew-clause-migrates : goal.returns-in-Err-renew-clause-migrates
returns-in-Err-renew-clause-migrates g c = λ was s text told is old.
    let held = (renewed-err g c).has s text told is in
    inr (
      c.open.new.disk,
      c.client_in-client.result.kept,
      c.client_in-client.ensures.read text (ap content (sym c.client_in-client.ensures.store) ∙ held),
      (c.in-Ok-open.ensures.still was).one_sync,
      c.in-Err-renew.ensures.migrated text held old,
    )
