-- What the parts of a session stand for.
use Rattle.std.specs.Prelude.{List, option_map}
use Rattle.dr_base.specs.declared.key.Kept.{Kept}
use Rattle.session_model.specs.States.{Own, Phase, in_own, in_peers, Reception, State}
use Rattle.session_model.specs.declared.part.Own.{Own as CodeOwn}
use Rattle.session_model.specs.declared.part.Phase.{Phase as CodePhase}
use Rattle.session_model.specs.declared.part.Phase.TheVariants.{Own as InOwn, Peers as InPeers}
use Rattle.session_model.specs.declared.part.Reception.{Reception as CodeReception}
use Rattle.session_model.specs.declared.part.Head.{Head}

abbrev pub own_seen : CodeOwn → Own
own_seen own = record { secret = own.secret.items; agreement = own.agreement.items; chain = own.chain.bytes; sent = own.sent }

abbrev pub phase_seen : CodePhase → Phase
phase_seen (InOwn own) = in_own (own_seen own)
phase_seen (InPeers public) = in_peers public.items

abbrev pub reception_seen : CodeReception → Reception
reception_seen r = record { chain = r.chain.bytes; reach = r.reach }

-- the state that a session's head stands for, with these kept keys
abbrev pub seen : {K Work : Type 0} → Head K Work → List Kept → State
seen head kept = record {
  side = head.side;
  format = head.format;
  session = head.session;
  root = head.root.bytes;
  epoch = head.epoch;
  phase = phase_seen head.phase;
  previous = head.previous;
  receiving = option_map reception_seen head.receiving;
  kept = kept;
  awaiting = head.awaiting;
}
