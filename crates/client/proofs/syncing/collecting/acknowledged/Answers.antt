use Rattle.std.proofs.Common.{subst, sym}
use Rattle.relay_wire.specs.Seen.{replied_of}
use Rattle.relay_wire.specs.declared.reply.Reply.{Reply}
use Rattle.sync_model.specs.Moves.{acking, move, acknowledged}
use Rattle.relay_pipe.specs.declared.faults.PeerKind.TheVariants.{Wrong}
use Rattle.client.specs.Syncing.Rounds.{Idles, goes_on, idles_to_end, stops}
use Rattle.sync_model.specs.Moves.{denied_by, no_such_box}
use Rattle.client.specs.declared.syncing.faults.SyncFault.TheVariants.{Peer, Refused}
use Rattle.client.specs.declared.syncing.faults.SyncRefusal.TheVariants.{Denied, Unknown}
use Rattle.std.proofs.Common.{refl}
use Rattle.client.proofs.Syncs.Turning.{idle_absent, idle_acked, idle_other, idle_wrong}
use Rattle.client.proofs.syncing.collecting.acknowledged.Goals as goal

pub returns-in-Acked : goal.returns-in-Acked
returns-in-Acked c = λ p kept n.
    subst (λ (r : Reply). Idles p kept (move p kept (acking n c.args.number) (replied_of r)) (goes_on (acknowledged p kept n).wait)) (sym c.in-Acked.is)
    (idle_acked p kept n c.args.number)

pub returns-then-other-number : goal.returns-then-other-number
returns-then-other-number c = λ p kept n.
    subst (λ (r : Reply). Idles p kept (move p kept (acking n c.args.number) (replied_of r)) (goes_on (acknowledged p kept n).wait)) (sym c.in-Absent.is)
    (idle_absent p kept n c.args.number c.in-Absent.other c.if-other-number.true)

pub returns-else-other-number : goal.returns-else-other-number
returns-else-other-number c = λ p kept n.
    subst (λ (r : Reply). Idles p kept (move p kept (acking n c.args.number) (replied_of r)) (stops (Peer 2 Wrong))) (sym c.in-Absent.is)
    (idle_other p kept n c.args.number c.in-Absent.other c.if-other-number.false)

pub returns-in-Unknown : goal.returns-in-Unknown
returns-in-Unknown c = λ p kept n.
    subst (λ (r : Reply). Idles p kept (move p kept (acking n c.args.number) (replied_of r)) (stops (Refused Unknown))) (sym c.in-Unknown.is)
    (idles_to_end no_such_box (Refused Unknown) refl refl)

pub returns-in_default : goal.returns-in_default
returns-in_default c = λ p kept n. idle_wrong p kept n c.args.number c.args.reply c.in_default.not-Acked c.in_default.not-Unknown c.in_default.not-Absent c.in_default.not-Denied

pub returns-in-Denied : goal.returns-in-Denied
returns-in-Denied c = λ p kept n.
    let rule = c.in-Denied.denied.rule in
    subst (λ (r : Reply). Idles p kept (move p kept (acking n c.args.number) (replied_of r)) (stops (Refused (Denied rule)))) (sym c.in-Denied.is)
    (idles_to_end (denied_by rule) (Refused (Denied rule)) refl refl)
