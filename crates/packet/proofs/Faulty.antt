-- The first fault that reading finds is that of the printer's words.
use Rattle.std.proofs.Common.{◌≡◌, ℕ, ◌+◌, ◌^◌, ◌<◌, true, List, [], ◌∷◌, ◌++◌, length, Err, refl, sym, ap, subst, ◌∙◌, arith}
use Rattle.std.specs.Prelude.{nat_eq, get_or}
use Rattle.std.specs.Int.{w8, w16, w32, to_be_bytes}
use Rattle.std.proofs.lemmas.Bool.{leb-true, le-leb, eqb-true, eq-eqb}
use Rattle.packet.specs.declared.fault.Kind.TheVariants.{Version, Epoch, Previous, Index, Agreement, Text}
use Rattle.packet.specs.declared.fault.Malformed.{Malformed}
use Rattle.dr_base.specs.declared.limits.TheConstants.{PACKET_FRAME}
use Rattle.packet.specs.Packet.{agreement_len}
use Rattle.dr_base.specs.Bytes.{AreBytes}
use Rattle.packet.specs.Reading.{◌>>=◌, lawful, field, ended, read_packet, is_version, is_epoch, is_previous, is_index, is_text_len}
use Rattle.packet.specs.Versions.{least_len}
use Rattle.packet.proofs.Known.{version_small}
use Rattle.packet.specs.Faults.{IsFault}
use Rattle.packet.proofs.Steps.{by_fault, field_read, number_read}
use Rattle.dr_base.proofs.Widths.{exact8, exact16, exact32}
use Rattle.packet.proofs.Printed.{previous_again, index_again}
use Rattle.packet.proofs.Read.{previous_fits, previous_none, index_from_one, index_fits}
use Rattle.packet.proofs.Sample.{made, zeros, zeros_len, same_epoch, IsHead, made_lawful, begun, begun_lawful, least_zeros}
use Rattle.packet.proofs.Standing.{Stands, one_more, field_fault, number_fault}
use Rattle.packet.proofs.TextFaults.{fault_in_text}

-- the fields before the agreement message, where its length is told
abbrev up_to_message : ℕ → List ℕ → ℕ → ℕ → ℕ → ℕ → List (List ℕ)
up_to_message version session epoch previous index n =
    to_be_bytes w8 version ∷ session ∷ to_be_bytes w32 epoch ∷ to_be_bytes w32 previous ∷ to_be_bytes w32 index ∷ to_be_bytes w16 n ∷ []

-- a fault after the index
fault_in_message : (agreement : ℕ) (bytes : List ℕ) (fault : Malformed) (version : ℕ) (session : List ℕ) (epoch previous index : ℕ) (rest : List ℕ) → IsHead version session epoch previous index
    → Stands agreement bytes 5 29 (begun agreement version session epoch previous index) rest
    → (do
      size ← lawful w16 29 Agreement (λ n. nat_eq n (agreement_len agreement epoch)) rest
      message ← field 31 size.0 size.1
      text_len ← lawful w16 (31 + size.0) Text (is_text_len version) message.1
      ciphertext ← field (33 + size.0) text_len.0 text_len.1
      tag ← field (33 + size.0 + text_len.0) 32 ciphertext.1
      ended (PACKET_FRAME + size.0 + text_len.0) tag.1 (made version session epoch previous index message.0 ciphertext.0 tag.0))
    ≡ Err fault
    → IsFault agreement bytes fault
fault_in_message agreement bytes fault version session epoch previous index rest head s5 e =
    by_fault (lawful w16 29 Agreement (λ n. nat_eq n (agreement_len agreement epoch)) rest) _ fault e
    (λ here. number_fault agreement bytes 5 29 _ rest w16 (2 ^ 16) Agreement
    (λ n. nat_eq n (agreement_len agreement epoch)) fault (λ g. length g.agreement) s5 (omega arith) exact16
    (λ g. refl)
    (λ g g_lawful fits same.
    let epochs = same_epoch g.epoch epoch g_lawful.epoch_fits head.epoch_fits
    (ap (λ (l : List (List ℕ)). get_or l 2 []) same) in
    (fits, eq-eqb _ _ (g_lawful.agreement_is ∙ ap (agreement_len agreement) epochs)))
    (λ x. x) here)
    (λ size size_is e6.
    let z = number_read w16 (2 ^ 16) exact16 29 Agreement
    (λ n. nat_eq n (agreement_len agreement epoch)) rest size s5.small size_is in
    let is : size.0 ≡ agreement_len agreement epoch = eqb-true _ _ z.passes in
    let zero_len : length (zeros (agreement_len agreement epoch)) ≡ size.0 = zeros_len
    (agreement_len agreement epoch) ∙ sym is in
    let s6 = one_more agreement bytes 5 29 31 _ (begun agreement version session epoch previous index) rest size.1 s5
    (omega arith) s5.lawful
    (λ h. absurd (omega arith)) refl (z.parts ∙ ap (λ (k : ℕ). to_be_bytes w16 k ++ size.1)
    (sym zero_len)) refl z.rest_small in
    by_fault (field 31 size.0 size.1) _ fault e6
    (λ here. field_fault agreement bytes 6 31 size.0 _ size.1 fault s6 zero_len here)
    (λ message message_is e7.
    let m = field_read 31 size.0 size.1 message z.rest_small message_is in
    let message_fits : length message.0 < 2 ^ 16 = omega (arith, m.1, z.fits) in
    let s7 = one_more agreement bytes 6 31 (31 + length message.0) _
    (made version session epoch previous index message.0 (zeros (least_len version)) (zeros 32)) size.1 message.1 s6 (omega arith)
    (made_lawful agreement version session epoch previous index message.0 (zeros (least_len version)) (zeros 32) head (m.1 ∙ is) (least_zeros version) (zeros_len 32))
    (λ h. message_fits) (ap (up_to_message version session epoch previous index)
    (m.1 ∙ sym zero_len)) m.0.parts refl m.0.rest_small in
    fault_in_text agreement bytes fault version session epoch previous index message.0 message.1 head (m.1 ∙ is) message_fits s7 (rw m.1 e7)))

-- what reading finds is the first fault
pub fault_is_first : (agreement : ℕ) (bytes : List ℕ) (fault : Malformed) → AreBytes bytes
    → read_packet agreement bytes ≡ Err fault → IsFault agreement bytes fault
unfolding read_packet
fault_is_first agreement bytes fault small e =
    let blank : List ℕ = zeros 16 in
    let head0 : IsHead 1 blank 0 0 1 = record {
      version_is = refl;
      session_len = zeros_len 16;
      epoch_fits = omega arith;
      previous_fits = omega arith;
      previous_none = λ h. refl;
      index_from_one = omega arith;
      index_fits = omega arith;
    } in
    let s0 : Stands agreement bytes 0 0 (begun agreement 1 blank 0 0 1) bytes = record {
      lawful = begun_lawful agreement 1 blank 0 0 1 head0;
      fits = λ h. absurd (omega arith);
      parts = refl;
      len = refl;
      small = small;
    } in
    by_fault (lawful w8 0 Version is_version bytes) _ fault e
    (λ here. number_fault agreement bytes 0 0 _ bytes w8 (2 ^ 8) Version is_version fault (λ g. g.version) s0
    (omega arith) exact8 (λ g. refl) (λ g g_lawful fits same. (version_small g.version g_lawful.version_is, g_lawful.version_is)) (λ x. x) here)
    (λ version version_is e1.
    let v = number_read w8 (2 ^ 8) exact8 0 Version is_version bytes version small version_is in
    let head1 : IsHead version.0 blank 0 0 1 = record {
      version_is = v.passes;
      session_len = head0.session_len;
      epoch_fits = head0.epoch_fits;
      previous_fits = head0.previous_fits;
      previous_none = head0.previous_none;
      index_from_one = head0.index_from_one;
      index_fits = head0.index_fits;
    } in
    let s1 = one_more agreement bytes 0 0 1 _ (begun agreement version.0 blank 0 0 1) bytes version.1 s0
    (omega arith) (begun_lawful agreement version.0 blank 0 0 1 head1)
    (λ h. absurd (omega arith)) refl v.parts refl v.rest_small in
    by_fault (field 1 16 version.1) _ fault e1
    (λ here. field_fault agreement bytes 1 1 16 _ version.1 fault s1 (zeros_len 16) here)
    (λ session session_is e2.
    let s = field_read 1 16 version.1 session v.rest_small session_is in
    let head2 : IsHead version.0 session.0 0 0 1 = record {
      version_is = v.passes;
      session_len = s.1;
      epoch_fits = head0.epoch_fits;
      previous_fits = head0.previous_fits;
      previous_none = head0.previous_none;
      index_from_one = head0.index_from_one;
      index_fits = head0.index_fits;
    } in
    let s2 = one_more agreement bytes 1 1 17 _ (begun agreement version.0 session.0 0 0 1) version.1 session.1 s1
    (omega arith) (begun_lawful agreement version.0 session.0 0 0 1 head2)
    (λ h. absurd (omega arith)) refl s.0.parts (omega (arith, s.1)) s.0.rest_small in
    by_fault (lawful w32 17 Epoch is_epoch session.1) _ fault e2
    (λ here. number_fault agreement bytes 2 17 _ session.1 w32 (2 ^ 32) Epoch is_epoch fault (λ g. g.epoch) s2
    (omega arith) exact32 (λ g. refl)
    (λ g g_lawful fits same. (omega (arith, g_lawful.epoch_fits), le-leb _ _ g_lawful.epoch_fits)) (λ x. x) here)
    (λ epoch epoch_is e3.
    let t = number_read w32 (2 ^ 32) exact32 17 Epoch is_epoch session.1 epoch s.0.rest_small epoch_is in
    let head3 : IsHead version.0 session.0 epoch.0 0 1 = record {
      version_is = v.passes;
      session_len = head2.session_len;
      epoch_fits = leb-true _ _ t.passes;
      previous_fits = head2.previous_fits;
      previous_none = λ h. refl;
      index_from_one = head2.index_from_one;
      index_fits = head2.index_fits;
    } in
    let s3 = one_more agreement bytes 2 17 21 _
    (begun agreement version.0 session.0 epoch.0 0 1) session.1 epoch.1 s2 (omega arith)
    (begun_lawful agreement version.0 session.0 epoch.0 0 1 head3)
    (λ h. absurd (omega arith)) refl t.parts refl t.rest_small in
    by_fault (lawful w32 21 Previous (is_previous epoch.0) epoch.1) _ fault e3
    (λ here. number_fault agreement bytes 3 21 _ epoch.1 w32 (2 ^ 32) Previous (is_previous epoch.0) fault
    (λ g. g.previous) s3 (omega arith) exact32 (λ g. refl)
    (λ g g_lawful fits same.
    let epochs = same_epoch g.epoch epoch.0 g_lawful.epoch_fits head3.epoch_fits
    (ap (λ (l : List (List ℕ)). get_or l 2 []) same) in (
      omega (arith, g_lawful.previous_fits),
      subst (λ (k : ℕ). is_previous k g.previous ≡ true) epochs
          (previous_again g.epoch g.previous g_lawful.previous_fits g_lawful.previous_none),
    ))
    (λ x. x) here)
    (λ previous previous_is e4.
    let p = number_read w32 (2 ^ 32) exact32 21 Previous
    (is_previous epoch.0) epoch.1 previous t.rest_small previous_is in
    let head4 : IsHead version.0 session.0 epoch.0 previous.0 1 = record {
      version_is = v.passes;
      session_len = head3.session_len;
      epoch_fits = head3.epoch_fits;
      previous_fits = previous_fits epoch.0 previous.0 p.passes;
      previous_none = previous_none epoch.0 previous.0 p.passes;
      index_from_one = head3.index_from_one;
      index_fits = head3.index_fits;
    } in
    let s4 = one_more agreement bytes 3 21 25 _
    (begun agreement version.0 session.0 epoch.0 previous.0 1) epoch.1 previous.1 s3 (omega arith)
    (begun_lawful agreement version.0 session.0 epoch.0 previous.0 1 head4)
    (λ h. absurd (omega arith)) refl p.parts refl p.rest_small in
    by_fault (lawful w32 25 Index is_index previous.1) _ fault e4
    (λ here. number_fault agreement bytes 4 25 _ previous.1 w32 (2 ^ 32) Index is_index fault (λ g. g.index) s4
    (omega arith) exact32 (λ g. refl)
    (λ g g_lawful fits same.
    (omega (arith, g_lawful.index_fits), index_again g.index g_lawful.index_from_one g_lawful.index_fits))
    (λ x. x) here)
    (λ index index_is e5.
    let i = number_read w32 (2 ^ 32) exact32 25 Index is_index previous.1 index p.rest_small index_is in
    let head5 : IsHead version.0 session.0 epoch.0 previous.0 index.0 = record {
      version_is = v.passes;
      session_len = head4.session_len;
      epoch_fits = head4.epoch_fits;
      previous_fits = head4.previous_fits;
      previous_none = head4.previous_none;
      index_from_one = index_from_one index.0 i.passes;
      index_fits = index_fits index.0 i.passes;
    } in
    let s5 = one_more agreement bytes 4 25 29 _
    (begun agreement version.0 session.0 epoch.0 previous.0 index.0) previous.1 index.1 s4 (omega arith)
    (begun_lawful agreement version.0 session.0 epoch.0 previous.0 index.0 head5)
    (λ h. absurd (omega arith)) refl i.parts refl i.rest_small in
    fault_in_message agreement bytes fault version.0 session.0 epoch.0 previous.0 index.0 index.1 head5 s5 e5)))))
