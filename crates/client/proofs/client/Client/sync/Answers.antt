use Rattle.std.proofs.Common.{Err, None, Option, Some, ap, refl, subst, sym, ◌∙◌, ◌≡◌}
use Rattle.dr_disk.specs.declared.call.Call.{Call}
use Rattle.session_model.specs.Clients.{Client}
use Rattle.sync_model.specs.Parties.{Party}
use Rattle.client.specs.Clients.{ClientNow}
use Rattle.client.specs.Syncing.InOrder.{SyncsInOrder, spot}
use Rattle.client.specs.Syncing.Moments.{moment}
use Rattle.client.specs.Syncing.Syncs.{Syncs}
use Rattle.client.specs.declared.syncing.faults.SyncFault.TheVariants.{Closed}
use Rattle.client.proofs.Syncs.Arrivals.{opens}
use Rattle.client.proofs.Syncs.Spent.{sync_spends}
use Rattle.client.proofs.Syncs.Transfers.{carries, may_post, transfers}
use Rattle.client.proofs.Syncs.Worlds.{in_world}
use Rattle.client.proofs.client.Client.sync.Goals as goal

same_call : (x y : Call) → Some x ≡ Some y → x ≡ y
same_call x y is = cc is

not_both : {closed : Option Call} (call : Call) → closed ≡ Some call → closed ≡ None → ⊥
not_both call is none = let e : Some call ≡ None = sym is ∙ none in absurd (cc e)

pub returns-clause-syncs : goal.returns-clause-syncs
returns-clause-syncs g c = λ is_open.
    let k = g.K.Kem.mechanism in
    let prefix = c.args.prefix.now in
    let kept = c.args.self.now.kept in
    let a = moment c.args.self.now (g.D.Disk.state c.args.disk.now) (g.O.Sink.at c.args.out.now) in
    let b = moment c.sync_open.new.self (g.D.Disk.state c.sync_open.new.disk) (g.O.Sink.at c.sync_open.new.out) in
    let start = g.L.Pipe.port c.args.link.now in
    let now = g.L.Pipe.port c.sync_open.new.link in
    let party = c.boxes-boxes.ensures.party k prefix in
    let posts = may_post kept c.boxes-boxes.result.names.own c.boxes-boxes.result.names.peers (ap (λ (p : Party Client). p.own) party) (ap (λ (p : Party Client). p.peers) party)
    c.boxes-boxes.ensures.own c.boxes-boxes.ensures.peers c.may_post.ensures.packets c.may_post.ensures.few in
    record {
      exact = subst (λ (p : Party Client). Syncs p a b start now c.sync_open.result) party c.sync_open.ensures.exact.syncs;
      done = λ replies syncs.
          let transfer = transfers k prefix kept replies posts syncs.lawful in
          record {
            in_worlds = λ w side is_in fair. in_world k c.grounds.ensures prefix side w a b is_in replies fair start now c.sync_open.result syncs;
            spent = λ w side is_in fair.
                sync_spends k prefix side w c.grounds.ensures.erased is_in.lawful replies a b c.sync_open.result fair
                (in_world k c.grounds.ensures prefix side w a b is_in replies fair start now c.sync_open.result syncs);
            transfer = transfer;
            opens = opens k c.grounds.ensures prefix kept replies transfer;
            carries = carries k prefix a b start now c.sync_open.result replies posts (g.met.L.Pipe.ahead c.sync_open.new.link) syncs;
          };
    }

pub returns-in-Some-clause-closed : goal.returns-in-Some-clause-closed
returns-in-Some-clause-closed g c = λ call is.
    (ap (λ (x : Call). Err (Closed x)) (same_call c.in-Some.call call (sym (ap (λ (n : ClientNow). n.closed) (sym c.self.view_is) ∙ c.in-Some.is) ∙ is)), refl, refl, refl, refl)

pub returns-in-Some-clause-syncs : goal.returns-in-Some-clause-syncs
returns-in-Some-clause-syncs g c = λ is_open. absurd (not_both c.in-Some.call (ap (λ (n : ClientNow). n.closed) (sym c.self.view_is) ∙ c.in-Some.is) is_open)

pub returns-in-Some-clause-in_order : goal.returns-in-Some-clause-in_order
returns-in-Some-clause-in_order g c = λ is_open. absurd (not_both c.in-Some.call (ap (λ (n : ClientNow). n.closed) (sym c.self.view_is) ∙ c.in-Some.is) is_open)

pub returns-clause-closed : goal.returns-clause-closed
returns-clause-closed g c = λ call is. absurd (not_both call is (ap (λ (n : ClientNow). n.closed) (sym c.self.view_is) ∙ c.in_default.is))

pub returns-clause-in_order : goal.returns-clause-in_order
returns-clause-in_order g c = λ is_open.
    subst (λ (p : Party Client). SyncsInOrder g.D.Disk.state g.L.Pipe.port g.O.Sink.at p
    (spot c.args.self.now c.args.disk.now c.args.link.now c.args.out.now)
    (spot c.sync_open.new.self c.sync_open.new.disk c.sync_open.new.link c.sync_open.new.out) c.sync_open.result)
    (c.boxes-boxes.ensures.party g.K.Kem.mechanism c.args.prefix.now) c.sync_open.ensures.exact
