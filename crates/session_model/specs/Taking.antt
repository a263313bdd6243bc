-- What a session answers to a packet, and what it keeps once the packet is taken.
use Rattle.std.specs.Cmp.Lexicographic.{pointwise}
use Rattle.std.specs.Prelude.{Err, List, None, Ok, Option, Result, Some, if◌then◌else◌, nat_eq, ℕ}
use Rattle.bodies.specs.Bodies.{Body, opened_body}
use Rattle.dr_base.specs.Position.{peer_of, side_of}
use Rattle.dr_base.specs.declared.position.Position.{Position}
use Rattle.etm_aead.specs.Seal.{ciphertext_of, tag_of}
use Rattle.kem_laws.specs.Mechanism.{Mechanism}
use Rattle.packet.specs.Packet.{Fields, ad_of}
use Rattle.session_model.specs.Awaiting.{still_waiting}
use Rattle.session_model.specs.States.{State}
use Rattle.session_model.specs.Ways.{Way, position_of, way_of}
use Rattle.session_model.specs.declared.answer.Refusal.{Refusal}
use Rattle.session_model.specs.declared.answer.Refusal.TheVariants.{BadPadding, BadTag}

-- a packet that opens: its position, its text and its kind, and what the session keeps once it is
-- taken
pub record ReceiveDraft : Type 0 where
  pub position : Position
  pub kind : ℕ
  pub text : List ℕ
  pub next : State

-- what the opened bytes of a packet are, on the way to its key: a body, whose receipt is obeyed, unless they are none of
-- its version
abbrev pub opened_as : Fields → Way → Option Body → Result ReceiveDraft Refusal
opened_as f way None = Err BadPadding
opened_as f way (Some body) = Ok (record {
  position = position_of f;
  kind = body.kind;
  text = body.content;
  next = record way.next { awaiting = still_waiting body.receipt way.next.awaiting };
})

-- on the way to a packet's key: whether its tag is the one under that key, and then what its bytes are to whoever opens
-- it, the other party of the one whose epoch it is
abbrev pub opening_on : Fields → Way → Result ReceiveDraft Refusal
opening_on f way =
    if pointwise nat_eq f.tag (tag_of way.key (ad_of f) f.ciphertext)
    then opened_as f way (opened_body f.version (peer_of (side_of f.epoch)) (ciphertext_of way.key f.ciphertext))
    else Err BadTag

abbrev pub opened_by : Fields → Result Way Refusal → Result ReceiveDraft Refusal
opened_by f (Ok way) = opening_on f way
opened_by f (Err refusal) = Err refusal

-- the draft of a packet, or why it is refused
unfoldable pub draft_receive : Mechanism → State → Fields → Result ReceiveDraft Refusal
draft_receive k s f = opened_by f (way_of k s f)
