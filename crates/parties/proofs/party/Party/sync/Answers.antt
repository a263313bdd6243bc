use Rattle.std.proofs.Common.{ap, List, Ok, Result, subst, sym, ℕ, ◌∙◌}
use Rattle.std.specs.Prelude.{OnOk}
use Rattle.std.proofs.lemmas.Result.{on_ok_weaker}
use Rattle.dr_base.specs.declared.failed.Failed.{Failed}
use Rattle.dr_disk.specs.MemoryDisks.{state_of}
use Rattle.dr_ports.specs.Writing.{Writes}
use Rattle.relay_link.specs.Connections.{boxes_now, kept_before}
use Rattle.session_model.specs.Clients.{Client}
use Rattle.sync_model.specs.Scenes.{scene}
use Rattle.client.specs.Syncing.Moments.{moment}
use Rattle.client.specs.Syncing.Parties.{client_party}
use Rattle.client.specs.declared.syncing.faults.SyncFault.{SyncFault}
use Rattle.sync_model.specs.declared.more.More.{More}
use Rattle.parties.specs.SyncLines.{sync_lines}
use Rattle.parties.specs.Meetings.{Plays, Reaches}
use Rattle.scripts.specs.Sides.{side_text}
use Rattle.parties.specs.Shuts.{PartyNow}
use Rattle.parties.proofs.Closed.{held_open}
use Rattle.parties.proofs.Synced.{broken_lines, broken_reaches, ended_lines}
use Rattle.parties.proofs.party.Party.sync.Given.{Over}
use Rattle.parties.proofs.party.Party.sync.Goals as goal
use Rattle.parties.proofs.party.Party.sync.Goals.{in-Ok, in-Err}

-- what its meeting came to, from what the side kept
abbrev IsMet : (g : Over) (c : goal.Joined-meet g) → List ℕ → Client → Result More SyncFault → Type 0
IsMet g c prefix client result =
    let p = client_party g.K.Kem.mechanism prefix client in
    Plays p (scene p (kept_before c.args.lost) client (boxes_now c.args.relay.now))
    (moment c.self.inside.client (state_of c.self.inside.disk) (g.O.Sink.at c.args.out.now))
    (moment c.meet.new.client (state_of c.meet.new.disk) (g.O.Sink.at c.meet.new.out)) (boxes_now c.meet.new.link) result

met : (g : Over) (c : goal.Joined-meet g) → IsMet g c (side_text c.args.side) c.args.self.now.kept c.meet.result
met g c =
    subst (λ (x : Client). IsMet g c (side_text c.args.side) x c.meet.result) (ap (λ (p : PartyNow). p.kept) c.self.view_is)
    (subst (λ (b : List ℕ). IsMet g c b c.self.inside.client.kept c.meet.result) c.side_prefix.ensures.name c.meet.ensures.plays)

pub returns-clause-writes : goal.returns-clause-writes
returns-clause-writes g c =
    let side = c.args.side in
    let kept = c.args.self.now.kept in
    let old = g.O.Sink.at c.args.out.now in
    let before = moment c.self.inside.client (state_of c.self.inside.disk) old in
    let after = moment c.meet.new.client (state_of c.meet.new.disk) (g.O.Sink.at c.meet.new.out) in
    let p = client_party g.K.Kem.mechanism (side_text side) kept in
    let m = scene p (kept_before c.args.lost) kept (boxes_now c.args.relay.now) in
    elim c.match-meet.branch [
      | in-Ok w ↦
          subst (λ r. Writes old (g.O.Sink.at c.match-meet.out) (sync_lines p side m) r) (sym w.result-is)
          (subst (λ o. Writes {T = Unit} {E = Failed} old (g.O.Sink.at o) (sync_lines p side m) (Ok tt)) (sym w.out-is)
          (ended_lines p side m before after (boxes_now c.meet.new.link) w.in-Ok.field-0
          (subst (IsMet g c (side_text side) kept) w.in-Ok.is (met g c))))
      | in-Err w ↦
          subst (λ r. Writes old (g.O.Sink.at c.match-meet.out) (sync_lines p side m) r) (sym w.result-is)
          (subst (λ o. Writes {T = Unit} {E = Failed} old (g.O.Sink.at o) (sync_lines p side m) w.tell.result) (sym w.out-is)
          (broken_lines p side m before after (boxes_now c.meet.new.link) w.in-Err.fault (g.O.Sink.at w.tell.new.out) w.tell.result
          (subst (IsMet g c (side_text side) kept) w.in-Err.is (met g c)) w.tell.ensures))
    ]

-- where the call passes, the side has come as far as the scene
reaches : (g : Over) (c : goal.Joined-meet g)
    → let p = client_party g.K.Kem.mechanism (side_text c.args.side) c.args.self.now.kept in
    OnOk c.match-meet.result (Reaches (scene p (kept_before c.args.lost) c.args.self.now.kept (boxes_now c.args.relay.now))
    (moment c.meet.new.client (state_of c.meet.new.disk) (g.O.Sink.at c.meet.new.out)) (boxes_now c.meet.new.link))
reaches g c =
    let side = c.args.side in
    let kept = c.args.self.now.kept in
    let before = moment c.self.inside.client (state_of c.self.inside.disk) (g.O.Sink.at c.args.out.now) in
    let after = moment c.meet.new.client (state_of c.meet.new.disk) (g.O.Sink.at c.meet.new.out) in
    let boxes = boxes_now c.meet.new.link in
    let p = client_party g.K.Kem.mechanism (side_text side) kept in
    let m = scene p (kept_before c.args.lost) kept (boxes_now c.args.relay.now) in
    elim c.match-meet.branch [
      | in-Ok w ↦
          subst (λ (r : Result Unit Failed). OnOk r (Reaches m after boxes)) (sym w.result-is)
          (subst (IsMet g c (side_text side) kept) w.in-Ok.is (met g c)).0
      | in-Err w ↦
          subst (λ (r : Result Unit Failed). OnOk r (Reaches m after boxes)) (sym w.result-is)
          (broken_reaches p side m before after boxes w.in-Err.fault (g.O.Sink.at w.tell.new.out) w.tell.result
          (subst (IsMet g c (side_text side) kept) w.in-Err.is (met g c)) w.tell.ensures)
    ]

pub returns-clause-keeps : goal.returns-clause-keeps
returns-clause-keeps g c = on_ok_weaker c.match-meet.result (λ reached. reached.keeps) (reaches g c)

pub returns-clause-boxes : goal.returns-clause-boxes
returns-clause-boxes g c = on_ok_weaker c.match-meet.result (λ reached. reached.boxes_are) (reaches g c)

pub meet-requires : goal.meet-requires
meet-requires g c =
    let inside = c.self.inside in
    held_open g.K.Kem.mechanism inside.client inside.disk inside.shut inside.client.kept
    (ap (λ (p : PartyNow). p.shut) c.self.view_is ∙ c.requires.open) c.self.invariant
