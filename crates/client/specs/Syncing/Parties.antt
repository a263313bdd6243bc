-- A client as a party of a sync, and a side of a world as one.
use Rattle.std.specs.Prelude.{Bool, List, Option, false, map, option_map, true, ℕ}
use Rattle.boxes.specs.Posts.{Post}
use Rattle.dr_base.specs.declared.position.Side.{Side}
use Rattle.dr_model.specs.Machines.Acts.{Act, act_on, dropping, taking}
use Rattle.dr_model.specs.Machines.WorldActs.{act_in}
use Rattle.dr_model.specs.Machines.Steps.{Step, settled}
use Rattle.dr_model.specs.Machines.WorldSides.{kept_in}
use Rattle.dr_model.specs.Machines.Worlds.{World}
use Rattle.kem_laws.specs.Mechanism.{Mechanism}
use Rattle.session_model.specs.Clients.{Client}
use Rattle.session_model.specs.declared.answer.Answer.{Answer}
use Rattle.session_model.specs.declared.answer.Answer.TheVariants.{Refused}
use Rattle.session_model.specs.declared.answer.Items.TheVariants.{Packets}
use Rattle.session_model.specs.declared.answer.Refusal.{Refusal}
use Rattle.session_model.specs.declared.answer.Refusal.TheVariants.{InboxFull}
use Rattle.session_model.specs.declared.answer.Which.TheVariants.{Oldest}
use Rattle.sync_model.specs.Parties.{Party, TookPacket}
use Rattle.sync_model.specs.Tokens.{SyncKeys}
use Rattle.client.specs.declared.syncing.keys.Boxes.{Boxes}
use Rattle.client.specs.Syncing.Keys.{keys_in, keys_seen}
use Rattle.client.specs.Syncing.Lines.{answer_line, end_line, own_box, peers_box, stored_line}

-- there is no room for the text of a packet
abbrev pub is_no_room : Refusal → Bool
is_no_room InboxFull = true
is_no_room _ = false

abbrev pub is_inbox_full : Answer → Bool
is_inbox_full (Refused refusal) = is_no_room refusal
is_inbox_full _ = false

-- a packet was taken, with this answer; a refusal has left all as it was
abbrev pub took_by : {S : Type 0} → List ℕ → Step S → TookPacket S
took_by prefix made = record { line = answer_line prefix made.answer; full = is_inbox_full made.answer; next = made.next }

-- the packets that wait in an outbox, the oldest first
abbrev pub waiting : Client → List (List ℕ)
waiting kept = map (λ (item : Post). item.packet) kept.outbox

-- ---- on what the client keeps

-- it takes a packet
abbrev pub taken_step : Mechanism → Client → List ℕ → Step Client
taken_step k kept packet = settled kept (act_on k kept (taking packet))

-- the oldest packet of the outbox has gone
abbrev pub oldest_sent : Act
oldest_sent = dropping (Oldest Packets 1)

abbrev pub sent_step : Mechanism → Client → Step Client
sent_step k kept = settled kept (act_on k kept oldest_sent)

-- with the names of two boxes, and the keys of the requests to them
abbrev pub party_of : Mechanism → List ℕ → List ℕ → List ℕ → Option SyncKeys → Party Client
party_of k prefix own peers keys = record {
  own = own;
  peers = peers;
  keys = keys;
  take = λ kept packet. took_by prefix (taken_step k kept packet);
  outbox = waiting;
  sent = λ kept. (sent_step k kept).next;
  stored_line = stored_line prefix;
  end_line = end_line prefix;
}

-- a client with its own box and its peer's, and with its session's keys
abbrev pub client_party : Mechanism → List ℕ → Client → Party Client
client_party k prefix first = party_of k prefix (own_box first) (peers_box first) (keys_in first)

-- with boxes as the code has them
abbrev pub party_at : Mechanism → List ℕ → Boxes → Party Client
party_at k prefix boxes =
    party_of k prefix boxes.names.own boxes.names.peers (option_map keys_seen boxes.keys)

-- ---- in a world

abbrev pub world_party : Mechanism → List ℕ → Side → World → Party World
world_party k prefix side first = record {
  own = own_box (kept_in k first side);
  peers = peers_box (kept_in k first side);
  keys = keys_in (kept_in k first side);
  take = λ w packet. took_by prefix (act_in k w side (taking packet));
  outbox = λ w. waiting (kept_in k w side);
  sent = λ w. (act_in k w side oldest_sent).next;
  stored_line = stored_line prefix;
  end_line = end_line prefix;
}
