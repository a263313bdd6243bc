-- What a session keeps in a view of a conversation.
use Rattle.std.specs.Prelude.{None, Option, Some, if◌then◌else◌, map, nat_le, option_map, ℕ, ◌-◌}
use Rattle.dr_base.specs.Position.{is_own}
use Rattle.fs_aead.specs.Chain.{chain_of}
use Rattle.kem_laws.specs.Mechanism.{Mechanism}
use Rattle.session_model.specs.BoxKeys.{relay_keys_of}
use Rattle.session_model.specs.Clients.{Client}
use Rattle.session_model.specs.Schedule.{session_of}
use Rattle.session_model.specs.States.{Own, Phase, Reception, State, in_own, in_peers, receiving_epoch}
use Rattle.session_model.specs.declared.relay_keys.RelayKeys.{RelayKeys}
use Rattle.dr_model.specs.Conversations.Conversation.{Conversation, count_of, previous_of}
use Rattle.dr_model.specs.Conversations.Posts.{key_of, turn_of_epoch}
use Rattle.dr_model.specs.Conversations.Views.{View, inbox_of, missing_of, outbox_of, reach_in}
use Rattle.dr_model.specs.Conversations.Formats.{side_format}

-- what a side holds of the keys of an own epoch that it has reached
abbrev pub view_own : Mechanism → Conversation → View → Own
view_own k c v =
    let turn = turn_of_epoch k c v.epoch in
    record {
      secret = turn.secret;
      agreement = turn.agreement;
      chain = chain_of turn.stream (count_of c v.epoch);
      sent = count_of c v.epoch;
    }

-- and of any epoch
abbrev pub view_phase : Mechanism → Conversation → View → Phase
view_phase k c v = if is_own v.side v.epoch then in_own (view_own k c v) else in_peers (turn_of_epoch k c v.epoch).public

-- how many texts the side said in its last epoch before the own one that stands or comes next
abbrev pub previous_in : Conversation → View → ℕ
previous_in c v =
    if is_own v.side v.epoch then previous_of c v.epoch
    else (if nat_le 1 v.epoch then count_of c (v.epoch - 1) else 0)

-- the stream of a peer's epoch, as far as the epoch was read
abbrev pub view_reception : Mechanism → Conversation → View → ℕ → Reception
view_reception k c v epoch = record {
  chain = chain_of (turn_of_epoch k c epoch).stream (reach_in c v epoch);
  reach = reach_in c v epoch;
}

-- what a session keeps in a view of a conversation
abbrev pub state_of : Mechanism → Conversation → View → State
state_of k c v = record {
  side = v.side;
  format = side_format c.formats v.side;
  session = session_of c.key;
  root = (turn_of_epoch k c v.epoch).root;
  epoch = v.epoch;
  phase = view_phase k c v;
  previous = previous_in c v;
  receiving = option_map (view_reception k c v) (receiving_epoch v.side v.epoch);
  kept = map (key_of k c) (missing_of c v);
  awaiting = v.awaiting;
}

-- the keys of the boxes at a relay, where the session has them
abbrev pub relay_in : Conversation → View → Option RelayKeys
relay_in c v = if v.keyed then Some (relay_keys_of c.key) else None

-- what a client keeps in a view of a conversation
abbrev pub client_at : Mechanism → Conversation → View → Client
client_at k c v = record {
  state = state_of k c v;
  inbox = inbox_of c v;
  outbox = outbox_of k c v;
  relay = relay_in c v;
}
