-- Bytes that no session made are refused, where no tag is forged.
use Rattle.std.proofs.Common.{◌≡◌, ◌≢◌, ℕ, List, Option, Some, None, nat_eq, Result, Ok, Err, refl, sym, ap, ◌∙◌}
use Rattle.std.specs.Cmp.Lexicographic.{pointwise, same_text}
use Rattle.std.proofs.lemmas.Bool.{cond-false, false_from_ne_true}
use Rattle.cka.specs.Agreement.{agreement_size}
use Rattle.dr_base.specs.declared.position.Position.{Position}
use Rattle.dr_base.specs.declared.position.Side.{Side}
use Rattle.dr_base.specs.declared.position.Side.TheVariants.{First, Second}
use Rattle.etm_aead.specs.Seal.{tag_of}
use Rattle.kem_laws.specs.Mechanism.{Mechanism, IsLawfulMechanism}
use Rattle.packet.specs.Packet.{Fields, ad_of}
use Rattle.packet.specs.Reading.{read_packet}
use Rattle.packet.specs.declared.fault.Malformed.{Malformed}
use Rattle.session_model.specs.Clients.{Client, accept_receive, take_on, take_read}
use Rattle.session_model.specs.Taking.{draft_receive, opened_by, opening_on}
use Rattle.session_model.specs.Ways.{Way, way_of}
use Rattle.session_model.specs.declared.answer.Refusal.{Refusal}
use Rattle.session_model.specs.declared.answer.Refusal.TheVariants.{BadTag}
use Rattle.dr_model.specs.Conversations.ViewStates.{state_of}
use Rattle.dr_model.specs.Machines.Sides.{client_of}
use Rattle.dr_model.specs.Machines.Steps.{settled}
use Rattle.dr_model.specs.Machines.WorldSides.{sides_of}
use Rattle.dr_model.specs.Machines.Worlds.{World, made_at, read_refusal, refusal_of, taking_given, taking_made, view_of, way_refusal}
use Rattle.dr_model.specs.Theorems.Fairness.{IsUnforged}
use Rattle.dr_model.specs.Theorems.LawfulWorlds.{IsLawfulWorld}
use Rattle.dr_model.proofs.Taking.ArrivingPacket.{arrival, opened_on, taken_on}
use Rattle.dr_model.proofs.Taking.MadePositions.{made_at-is}
use Rattle.dr_model.proofs.Worlds.SeenWorlds.{seen_world}

-- a tag that isn't the one under the key
abbrev IsOther : Fields → Way → Type 0
IsOther f way = f.tag ≢ tag_of way.key (ad_of f) f.ciphertext

-- where the tag is looked at
bad_tag : (f : Fields) (way : Way) → IsOther f way → opening_on f way ≡ Err BadTag
bad_tag f way other =
    let tag = tag_of way.key (ad_of f) f.ciphertext in
    cond-false (pointwise nat_eq f.tag tag) _ (Err BadTag)
    (false_from_ne_true (pointwise nat_eq f.tag tag) (λ same. other (same_text f.tag tag (sym same))))

-- where there may be a way to the key
refused_by : (f : Fields) (ways : Result Way Refusal) → ((way : Way) → ways ≡ Ok way → IsOther f way)
    → opened_by f ways ≡ Err (way_refusal ways)
refused_by f (Ok way) other = bad_tag f way (other way refl)
refused_by f (Err refusal) other = refl

-- where the bytes may be a packet
refused_read : (k : Mechanism) (client : Client) (read : Result Fields Malformed)
    → ((f : Fields) (way : Way) → read ≡ Ok f → way_of k client.state f ≡ Ok way → IsOther f way)
    → take_read k client read ≡ Err (read_refusal k client.state read)
unfolding draft_receive
refused_read k client (Ok f) other =
    ap (accept_receive client) (refused_by f (way_of k client.state f) (λ way e. other f way refl e))
refused_read k client (Err fault) other = refl

refused_bytes : (k : Mechanism) (client : Client) (bytes : List ℕ)
    → ((f : Fields) (way : Way) → read_packet (agreement_size k) bytes ≡ Ok f → way_of k client.state f ≡ Ok way → IsOther f way)
    → take_on k client bytes ≡ Err (refusal_of k client.state bytes)
unfolding take_on
refused_bytes k client bytes other = refused_read k client (read_packet (agreement_size k) bytes) other

-- any bytes that no session made
pub foreign : (k : Mechanism) (w : World) (side : Side) (bytes : List ℕ) → IsUnforged k w side bytes
    → made_at k w bytes ≡ None
    → opened_on (sides_of k w) side (take_on k (client_of (sides_of k w) side) bytes)
    ≡ seen_world k (settled w (Err (refusal_of k (state_of k w.conversation (view_of w side)) bytes)))
foreign k w First bytes unforged none =
    ap (opened_on (sides_of k w) First) (refused_bytes k (client_of (sides_of k w) First) bytes (unforged none))
foreign k w Second bytes unforged none =
    ap (opened_on (sides_of k w) Second) (refused_bytes k (client_of (sides_of k w) Second) bytes (unforged none))

-- by the position that the bytes give
bytes_made : (k : Mechanism) (w : World) (side : Side) (bytes : List ℕ) (o : Option Position) → IsLawfulMechanism k
    → IsLawfulWorld k w → IsUnforged k w side bytes → made_at k w bytes ≡ o
    → taken_on k (sides_of k w) side (Some bytes) ≡ seen_world k (settled w (taking_made k w side bytes o))
bytes_made k w side bytes (Some p) law lawful unforged found =
    let made = made_at-is k w bytes p found in
    ap (λ bytes. opened_on (sides_of k w) side (take_on k (client_of (sides_of k w) side) bytes)) made.same
    ∙ arrival k w side p law lawful made.said
bytes_made k w side bytes None law lawful unforged found = foreign k w side bytes unforged found

-- any bytes
pub bytes_follow : (k : Mechanism) (w : World) (side : Side) (bytes : List ℕ) → IsLawfulMechanism k → IsLawfulWorld k w
    → IsUnforged k w side bytes
    → taken_on k (sides_of k w) side (Some bytes) ≡ seen_world k (taking_given k w side (Some bytes))
bytes_follow k w side bytes law lawful unforged = bytes_made k w side bytes (made_at k w bytes) law lawful unforged refl
