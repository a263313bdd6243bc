-- The record of a client: what its session keeps, its inbox and its outbox, and the keys of its
-- boxes at a relay, as one text. Numbers are big-endian, and no field has a choice: in each version
-- a client has one text.
use Rattle.std.specs.Prelude.{ℕ, List, ◌++◌, Option, Result, Ok, Err}
use Rattle.boxes.specs.Entries.{Entry}
use Rattle.boxes.specs.Posts.{Post}
use Rattle.dr_base.specs.declared.position.Position.{Position}
use Rattle.grammar.specs.Reader.{Reader, mapped, both, whole}
use Rattle.kem_laws.specs.Mechanism.{Mechanism}
use Rattle.session_model.specs.Clients.{Client}
use Rattle.session_model.specs.States.{State}
use Rattle.session_model.specs.declared.relay_keys.RelayKeys.{RelayKeys}
use Rattle.session_record.specs.Awaiting.{awaiting_field, awaiting_text, sent_of}
use Rattle.session_record.specs.Groups.{Boxes, Keys, boxes_fields, boxes_text, heading_fields, heading_text, keys_fields, keys_text}
use Rattle.session_record.specs.Relay.{relay_field, relay_text}
use Rattle.session_record.specs.Versions.{newest}
use Rattle.session_record.specs.declared.groups.Heading.{Heading}
use Rattle.session_record.specs.declared.versions.Version.{Version}

-- a client from its parts in code
abbrev pub client_of : State → List Entry → List Post → Option RelayKeys → Client
client_of state inbox outbox relay =
    record { state = state; inbox = inbox; outbox = outbox; relay = relay }

-- a client in a version
pub record Saved : Type 0 where
  pub version : Version
  pub client : Client

-- ---- its groups, the texts that wait, and the keys of its boxes

abbrev pub Groups : Type 0
Groups = Heading × (Keys × (Boxes × (List Position × Option RelayKeys)))

abbrev pub heading_in : Version → State → Heading
heading_in version s = record {
  version = version;
  side = s.side;
  format = s.format;
  session = s.session;
  root = record { bytes = s.root };
  epoch = s.epoch;
}

abbrev pub keys_in : State → Keys
keys_in s =
    record { phase = s.phase; previous = s.previous; receiving = s.receiving; kept = s.kept }

abbrev pub boxes_in : Client → Boxes
boxes_in c = record { inbox = c.inbox; outbox = c.outbox }

abbrev pub of_saved : Saved → Groups
of_saved s =
    let state = s.client.state in (
      heading_in s.version state,
      (keys_in state, (boxes_in s.client, (state.awaiting, s.client.relay))),
    )

abbrev pub state_of_groups : Heading → Keys → List Position → State
state_of_groups h keys awaiting = record {
  side = h.side;
  format = h.format;
  session = h.session;
  root = h.root.bytes;
  epoch = h.epoch;
  phase = keys.phase;
  previous = keys.previous;
  receiving = keys.receiving;
  kept = keys.kept;
  awaiting = awaiting;
}

abbrev pub saved_of : Groups → Saved
saved_of g =
    let boxes = g.1.1.0 in
    let behind = g.1.1.1 in
    let state = state_of_groups g.0 g.1.0 behind.0 in
    record {
      version = g.0.version;
      client = client_of state boxes.inbox boxes.outbox behind.1;
    }

-- ---- read

unfoldable pub record_fields : Mechanism → Reader Groups
record_fields k =
    both heading_fields (λ heading.
    both (keys_fields k heading) (λ keys.
    both (boxes_fields k heading) (λ _.
    both (awaiting_field heading.version heading.side heading.epoch (sent_of keys.phase)) (λ _.
    relay_field heading.version))))

-- what a text is the record of, and in which version; else the offset of the first field that is
-- cut short or unlawful, or of the first byte after the record
unfoldable pub saved_read : Mechanism → List ℕ → Result Saved ℕ
saved_read k text = whole (mapped saved_of (record_fields k)) text

-- the client, whatever the version
abbrev pub without_version : Result Saved ℕ → Result Client ℕ
without_version (Ok s) = Ok s.client
without_version (Err at) = Err at

unfoldable pub record_read : Mechanism → List ℕ → Result Client ℕ
record_read k text = without_version (saved_read k text)

-- ---- printed

unfoldable pub saved_text : Saved → List ℕ
saved_text s =
    heading_text (heading_in s.version s.client.state)
    ++ (keys_text (keys_in s.client.state)
    ++ (boxes_text s.version (boxes_in s.client)
    ++ (awaiting_text s.version s.client.state.awaiting
    ++ relay_text s.version s.client.relay)))

-- the text of a client's record, which is that of the newest version
unfoldable pub record_text : Client → List ℕ
record_text c = saved_text (record { version = newest; client = c })
