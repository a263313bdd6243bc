-- What is known of a packet that opened.
use Rattle.std.proofs.Common.{◌≡◌, Option, Some, None, Ok, nat_eq, refl, sym}
use Rattle.std.specs.Cmp.Lexicographic.{pointwise}
use Rattle.bodies.specs.Bodies.{Body, opened_body}
use Rattle.dr_base.specs.Position.{peer_of, side_of}
use Rattle.etm_aead.specs.Seal.{ciphertext_of, tag_of}
use Rattle.packet.specs.Packet.{Fields, ad_of}
use Rattle.session_model.specs.Awaiting.{still_waiting}
use Rattle.session_model.specs.Taking.{ReceiveDraft, opened_as, opening_on}
use Rattle.session_model.specs.Ways.{Way, position_of}
use Rattle.session_model.specs.declared.answer.Refusal.TheVariants.{BadTag}
use Rattle.session_model.proofs.Passing.{lets}

abbrev draft_with : Fields → Way → Body → ReceiveDraft
draft_with f way body = record {
  position = position_of f;
  kind = body.kind;
  text = body.content;
  next = record way.next { awaiting = still_waiting body.receipt way.next.awaiting };
}

-- its bytes are a body, whose text the draft has
pub record IsOpened (f : Fields) (way : Way) (draft : ReceiveDraft) : Type 0 where
  pub body : Body
  pub opens : opened_body f.version (peer_of (side_of f.epoch)) (ciphertext_of way.key f.ciphertext) ≡ Some body
  pub is : draft ≡ draft_with f way body

opened_with : (f : Fields) (way : Way) (o : Option Body) (draft : ReceiveDraft)
    → opened_body f.version (peer_of (side_of f.epoch)) (ciphertext_of way.key f.ciphertext) ≡ o → opened_as f way o ≡ Ok draft → IsOpened f way draft
opened_with f way None draft opens is = absurd (cc is)
opened_with f way (Some body) draft opens is =
    let through : Ok (draft_with f way body) ≡ Ok draft = is in
    record { body = body; opens = opens; is = sym (let same : draft_with f way body ≡ draft = cc in same) }

pub is_opened : (f : Fields) (way : Way) (draft : ReceiveDraft) → opening_on f way ≡ Ok draft → IsOpened f way draft
is_opened f way draft is =
    let bytes = opened_body f.version (peer_of (side_of f.epoch)) (ciphertext_of way.key f.ciphertext) in
    opened_with f way bytes draft refl
    (lets (pointwise nat_eq f.tag (tag_of way.key (ad_of f) f.ciphertext)) BadTag (opened_as f way bytes) draft is)
