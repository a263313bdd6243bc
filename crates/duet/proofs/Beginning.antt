-- Both sides and the boxes before the first deed.
use Rattle.std.proofs.Common.{◌≡◌, ℕ, [], sym, ap₂}
use Rattle.dr_base.specs.declared.position.Side.TheVariants.{First, Second}
use Rattle.session_model.specs.Clients.{Client}
use Rattle.dr_model.specs.Conversations.Conversation.{positions_after}
use Rattle.dr_model.specs.Machines.Worlds.{opening_world}
use Rattle.kem_laws.specs.Mechanism.{Mechanism}
use Rattle.dr_model.proofs.Worlds.OpeningWorlds.{opening_client}
use Rattle.duet.specs.Outcomes.{SidesBeside}
use Rattle.duet.specs.Relay.{opening_boxes}
use Rattle.duet.specs.Held.{beside, opening_duet}
use Rattle.duet.specs.Shuts.{both_open}
use Rattle.scripts.specs.Script.{Scripted}
use Rattle.duet.specs.Trace.{beginning}

-- what both keep in an opening world, and its boxes
pub opening_stands : (k : Mechanism) (script : Scripted) (room : ℕ)
    → beside (opening_duet k script.key script.formats script.guarded room) ≡ beginning k script
unfolding positions_after
opening_stands k script room =
    ap₂ (λ (first second : Client). let stands : SidesBeside = record {
      ends = record {
        key = script.key;
        first = first;
        second = second;
        posts = [];
        draws = (opening_world script.key script.formats).draws;
      };
      boxes = opening_boxes script.guarded script.key first;
      shuts = both_open;
    } in stands)
    (sym (opening_client k script.key script.formats First)) (sym (opening_client k script.key script.formats Second))
