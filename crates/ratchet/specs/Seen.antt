-- What the types of the code stand for.
use Rattle.std.specs.Prelude.{ℕ, Bool, true, false, List, [], Option, Some, None, Result, Ok, Err}
use Rattle.bodies.specs.Bodies.{Body}
use Rattle.dr_base.specs.declared.key.Kept.{Kept}
use Rattle.dr_base.specs.declared.key.Key32.{Key32}
use Rattle.dr_base.specs.declared.position.Position.{Position}
use Rattle.packet.specs.Packet.{Fields}
use Rattle.boxes.specs.Posts.{Post}
use Rattle.session_model.specs.Awaiting.{still_waiting}
use Rattle.session_model.specs.Taking.{ReceiveDraft}
use Rattle.session_model.specs.Saying.{SendDraft}
use Rattle.session_model.specs.Ways.{Way, position_of}
use Rattle.session_model.specs.States.{State}
use Rattle.session_model.specs.Refusals.{receive_refusal}
use Rattle.session_model.specs.declared.answer.Refusal.{Refusal}
use Rattle.session_model.specs.declared.refusals.ReceiveRefusal.{ReceiveRefusal}
use Rattle.session_model.specs.declared.part.Phase.{Phase as CodePhase}
use Rattle.session_model.specs.declared.part.Phase.TheVariants.{Own as InOwn, Peers as InPeers}

-- the bytes of a seed, none where none is given
abbrev pub seed_bytes : Option Key32 → List ℕ
seed_bytes None = []
seed_bytes (Some seed) = seed.bytes

-- a draft of a text: its packet under its position, and the head that the session would keep, as a
-- state without kept keys
pub record Said : Type 0 where
  pub post : Post
  pub head : State

-- a draft of a packet: its position, its text and kind, and the head that the session would keep;
-- the kept keys, where the packet changes them
pub record Received : Type 0 where
  pub position : Position
  pub kind : ℕ
  pub text : List ℕ
  pub head : State
  pub table : Option (List Kept)

-- the kept keys in room for them, where they are changed
abbrev pub room_seen : Bool → List Kept → Option (List Kept)
room_seen true table = Some table
room_seen false table = None

-- the kept keys with a change, if there is one
abbrev pub kept_in : List Kept → Option (List Kept) → List Kept
kept_in kept None = kept
kept_in kept (Some table) = table

-- the draft of a text, for a session of this state
abbrev pub said_of : State → Said → SendDraft
said_of s d = record { post = d.post; next = record d.head { kept = s.kept } }

-- the draft of a packet, for a session of this state
abbrev pub received_of : State → Received → ReceiveDraft
received_of s d = record {
  position = d.position;
  kind = d.kind;
  text = d.text;
  next = record d.head { kept = kept_in s.kept d.table };
}

-- the draft of a packet, for a session of this state, or why there is none
abbrev pub received_as : State → Result Received ReceiveRefusal → Result ReceiveDraft Refusal
received_as s (Ok d) = Ok (received_of s d)
received_as s (Err e) = Err (receive_refusal e)

abbrev pub drafted : Post → State → SendDraft
drafted post next = record { post = post; next = next }

abbrev pub received : Position → Body → State → ReceiveDraft
received position body next =
    record { position = position; kind = body.kind; text = body.content; next = next }

abbrev pub on_way : List ℕ → State → Way
on_way key next = record { key = key; next = next }

-- the way that a key and what is kept then make, or why there is none
abbrev pub way_found : Result (List ℕ) ReceiveRefusal → State → Result Way Refusal
way_found (Ok key) next = Ok (on_way key next)
way_found (Err e) next = Err (receive_refusal e)

-- an own epoch whose stream went on
abbrev pub went_on : CodePhase → Key32 → ℕ → CodePhase
went_on (InOwn own) chain sent = InOwn (record own { chain = chain; sent = sent })
went_on (InPeers public) chain sent = InPeers public

-- the draft that an opened body and what is kept then make, or why there is none
abbrev pub opened : Result Body ReceiveRefusal → Fields → State → Result ReceiveDraft Refusal
opened (Ok body) f next =
    Ok (received (position_of f) body
    (record next { awaiting = still_waiting body.receipt next.awaiting }))
opened (Err e) f next = Err (receive_refusal e)
