-- Faults after the agreement message.
use Rattle.std.proofs.Common.{◌≡◌, ℕ, ◌+◌, ◌^◌, ◌<◌, List, [], ◌∷◌, ◌++◌, true, length, take, get_or, Err, refl, sym, ap, subst, ◌∙◌, arith}
use Rattle.std.specs.Prelude.{nat_eq}
use Rattle.std.specs.List.{concat}
use Rattle.std.specs.Int.{w8, w16, w32, to_be_bytes}
use Rattle.std.proofs.lemmas.Bool.{eqb-false}
use Rattle.std.proofs.lemmas.List.{length-append, take_at}
use Rattle.dr_base.specs.declared.limits.TheConstants.{PACKET_FRAME}
use Rattle.packet.specs.Versions.{is_text_len, least_len}
use Rattle.packet.proofs.Known.{same_version, text_small}
use Rattle.packet.specs.declared.fault.Kind.TheVariants.{Text}
use Rattle.packet.specs.declared.fault.Malformed.{Malformed}
use Rattle.packet.specs.Packet.{Fields, agreement_len}
use Rattle.packet.specs.Reading.{◌>>=◌, lawful, field, ended}
use Rattle.packet.specs.Faults.{pieces_of, IsLong, IsFault}
use Rattle.packet.proofs.Steps.{by_fault, field_read, number_read}
use Rattle.dr_base.proofs.Widths.{exact16}
use Rattle.packet.proofs.Pieces.{packet_of-pieces}
use Rattle.packet.proofs.Sample.{made, zeros, zeros_len, IsHead, made_lawful}
use Rattle.packet.proofs.Standing.{Stands, one_more, failed, field_fault, number_fault}

not_empty : (n : ℕ) → (n ≡ 0 → ⊥) → 0 < n
not_empty n h = omega arith

-- the fields before the ciphertext, where its length is told
abbrev up_to_text : ℕ → List ℕ → ℕ → ℕ → ℕ → List ℕ → ℕ → List (List ℕ)
up_to_text version session epoch previous index message n =
    to_be_bytes w8 version ∷ session ∷ to_be_bytes w32 epoch ∷ to_be_bytes w32 previous ∷ to_be_bytes w32 index
    ∷ to_be_bytes w16 (length message) ∷ message ∷ to_be_bytes w16 n ∷ []

-- a fault after the agreement message
pub fault_in_text : (agreement : ℕ) (bytes : List ℕ) (fault : Malformed) (version : ℕ) (session : List ℕ) (epoch previous index : ℕ) (message rest : List ℕ)
    → IsHead version session epoch previous index
    → length message ≡ agreement_len agreement epoch → length message < 2 ^ 16
    → Stands agreement bytes 7 (31 + length message) (made version session epoch previous index message (zeros (least_len version)) (zeros 32)) rest
    → (do
      text_len ← lawful w16 (31 + length message) Text (is_text_len version) rest
      ciphertext ← field (33 + length message) text_len.0 text_len.1
      tag ← field (33 + length message + text_len.0) 32 ciphertext.1
      ended (PACKET_FRAME + length message + text_len.0) tag.1 (made version session epoch previous index message ciphertext.0 tag.0))
    ≡ Err fault
    → IsFault agreement bytes fault
fault_in_text agreement bytes fault version session epoch previous index message rest head message_len message_fits s7 e =
    by_fault (lawful w16 (31 + length message) Text (is_text_len version) rest) _ fault e
    (λ here. number_fault agreement bytes 7 (31 + length message) _ rest w16 (2 ^ 16) Text (is_text_len version) fault
    (λ g. length g.ciphertext) s7 (omega arith) exact16
    (λ g. refl) (λ g g_lawful fits same.
    let versions = same_version g.version version g_lawful.version_is head.version_is (ap (λ (l : List (List ℕ)). get_or l 0 []) same) in
    (text_small _ _ g_lawful.text_fits, subst (λ (v : ℕ). is_text_len v (length g.ciphertext) ≡ true) versions g_lawful.text_fits))
    (λ x. x) here)
    (λ text_len text_len_is e8.
    let n = number_read w16 (2 ^ 16) exact16
    (31 + length message) Text (is_text_len version) rest text_len s7.small text_len_is in
    let text_fits : is_text_len version text_len.0 ≡ true = n.passes in
    let zero_len : length (zeros text_len.0) ≡ text_len.0 = zeros_len text_len.0 in
    let s8 = one_more agreement bytes 7 (31 + length message) (33 + length message) _
    (made version session epoch previous index message (zeros text_len.0) (zeros 32)) rest text_len.1 s7 (omega arith)
    (made_lawful agreement version session epoch previous index message (zeros text_len.0) (zeros 32) head message_len (subst (λ (k : ℕ). is_text_len version k ≡ true) (sym zero_len) text_fits)
    (zeros_len 32))
    (λ h. message_fits) refl (n.parts ∙ ap (λ (k : ℕ). to_be_bytes w16 k ++ text_len.1) (sym zero_len))
    (omega arith) n.rest_small in
    by_fault (field (33 + length message) text_len.0 text_len.1) _ fault e8
    (λ here. field_fault agreement bytes 8 (33 + length message) text_len.0 _ text_len.1 fault s8 zero_len here)
    (λ ciphertext ciphertext_is e9.
    let c = field_read (33 + length message) text_len.0 text_len.1 ciphertext n.rest_small ciphertext_is in
    let s9 = one_more agreement bytes 8 (33 + length message) (33 + length message + text_len.0) _
    (made version session epoch previous index message ciphertext.0 (zeros 32)) text_len.1 ciphertext.1 s8 (omega arith)
    (made_lawful agreement version session epoch previous index message ciphertext.0 (zeros 32) head message_len (subst (λ (k : ℕ). is_text_len version k ≡ true) (sym c.1) text_fits)
    (zeros_len 32))
    (λ h. message_fits) (ap (up_to_text version session epoch previous index message) (c.1 ∙ sym zero_len)) c.0.parts
    (omega (arith, c.1)) c.0.rest_small in
    by_fault (field (33 + length message + text_len.0) 32 ciphertext.1) _ fault e9
    (λ here. field_fault agreement bytes 9 (33 + length message + text_len.0) 32 _ ciphertext.1 fault s9
    (zeros_len 32) here)
    (λ tag tag_is e10.
    let g = field_read (33 + length message + text_len.0) 32 ciphertext.1 tag c.0.rest_small tag_is in
    let whole : Fields = made version session epoch previous index message ciphertext.0 tag.0 in
    let s10 = one_more agreement bytes 9 (33 + length message + text_len.0)
    (PACKET_FRAME + length message + text_len.0) _ whole ciphertext.1 tag.1 s9 (omega arith)
    (made_lawful agreement version session epoch previous index message ciphertext.0 tag.0 head message_len (subst (λ (k : ℕ). is_text_len version k ≡ true) (sym c.1) text_fits) g.1)
    (λ h. message_fits) refl g.0.parts (omega (arith, g.1)) g.0.rest_small in
    let end = failed (nat_eq (length tag.1) 0) whole _ fault e10 in
    let more : 0 < length tag.1 = not_empty (length tag.1) (eqb-false _ _ end.0) in
    let long : IsLong agreement bytes (PACKET_FRAME + length message + text_len.0) = record {
      fields = whole;
      lawful = s10.lawful;
      before = ap (take (PACKET_FRAME + length message + text_len.0)) s10.parts ∙ take_at _ tag.1
          (PACKET_FRAME + length message + text_len.0) s10.len ∙ sym (packet_of-pieces whole);
      more = omega (arith, ap length s10.parts, length-append (concat (pieces_of whole)) tag.1, s10.len, more);
    } in
    subst (IsFault agreement bytes) end.1 long)))
