-- What is read was printed.
use Rattle.std.proofs.Common.{◌≡◌, ℕ, ◌+◌, ◌^◌, ◌≤◌, true, List, ◌++◌, length, Ok, sym, ap, subst, ◌∙◌, arith}
use Rattle.std.specs.Prelude.{nat_eq}
use Rattle.std.specs.Int.{w8, w16, w32, to_be_bytes}
use Rattle.std.proofs.lemmas.Bool.{leb-true, eqb-true}
use Rattle.std.proofs.lemmas.Bool.Decides.{nat_tests}
use Rattle.std.proofs.lemmas.List.{nil_from_length}
use Rattle.dr_base.specs.declared.limits.TheConstants.{INDEX_LIMIT}
use Rattle.packet.specs.declared.fault.Kind.TheVariants.{Version, Epoch, Previous, Index, Agreement, Text}
use Rattle.packet.specs.Packet.{Fields, IsLawful, agreement_len, packet_of}
use Rattle.dr_base.specs.Bytes.{AreBytes}
use Rattle.packet.specs.Reading.{lawful, field, read_packet, is_version, is_epoch, is_previous, is_index, is_text_len}
use Rattle.packet.proofs.Steps.{by_step, passed, field_read, number_read}
use Rattle.dr_base.proofs.Widths.{exact8, exact16, exact32}
use Rattle.packet.proofs.Printed.{grouped, packet_of-grouped}

-- one text after another
onto : (front : List ℕ) (a b c : List ℕ) → a ≡ front ++ b → b ≡ c → a ≡ front ++ c
onto front a b c e rest = e ∙ ap (λ (t : List ℕ). front ++ t) rest

pub previous_fits : (epoch n : ℕ) → is_previous epoch n ≡ true → n ≤ INDEX_LIMIT
previous_fits epoch n passes = grind (arith, nat_tests)

pub previous_none : (epoch n : ℕ) → is_previous epoch n ≡ true → epoch ≤ 1 → n ≡ 0
previous_none epoch n passes early = grind (arith, nat_tests)

pub index_from_one : (n : ℕ) → is_index n ≡ true → 1 ≤ n
index_from_one n passes = grind (arith, nat_tests)

pub index_fits : (n : ℕ) → is_index n ≡ true → n ≤ INDEX_LIMIT
index_fits n passes = grind (arith, nat_tests)

-- fields that were printed
abbrev pub WasPrinted : ℕ → List ℕ → Fields → Type 0
WasPrinted agreement bytes f = IsLawful agreement f × (bytes ≡ packet_of f)

pub read_was_printed : (agreement : ℕ) (bytes : List ℕ) (f : Fields) → AreBytes bytes → read_packet agreement bytes ≡ Ok f → WasPrinted agreement bytes f
unfolding read_packet
read_was_printed agreement bytes f small e =
    by_step (lawful w8 0 Version is_version bytes) _ f e (λ version version_is e1.
    by_step (field 1 16 version.1) _ f e1 (λ session session_is e2.
    by_step (lawful w32 17 Epoch is_epoch session.1) _ f e2 (λ epoch epoch_is e3.
    by_step (lawful w32 21 Previous (is_previous epoch.0) epoch.1) _ f e3 (λ previous previous_is e4.
    by_step (lawful w32 25 Index is_index previous.1) _ f e4 (λ index index_is e5.
    by_step (lawful w16 29 Agreement (λ n. nat_eq n (agreement_len agreement epoch.0)) index.1) _ f e5 (λ size size_is e6.
    by_step (field 31 size.0 size.1) _ f e6 (λ message message_is e7.
    by_step (lawful w16 (31 + size.0) Text (is_text_len version.0) message.1) _ f e7 (λ text_len text_len_is e8.
    by_step (field (33 + size.0) text_len.0 text_len.1) _ f e8 (λ ciphertext ciphertext_is e9.
    by_step (field (33 + size.0 + text_len.0) 32 ciphertext.1) _ f e9 (λ tag tag_is e10.
    let v = number_read w8 (2 ^ 8) exact8 0 Version is_version bytes version small version_is in
    let s = field_read 1 16 version.1 session v.rest_small session_is in
    let t = number_read w32 (2 ^ 32) exact32 17 Epoch is_epoch session.1 epoch s.0.rest_small epoch_is in
    let p = number_read w32 (2 ^ 32) exact32 21 Previous (is_previous epoch.0) epoch.1 previous t.rest_small previous_is in
    let i = number_read w32 (2 ^ 32) exact32 25 Index is_index previous.1 index p.rest_small index_is in
    let z = number_read w16 (2 ^ 16) exact16 29 Agreement (λ n. nat_eq n (agreement_len agreement epoch.0)) index.1 size i.rest_small size_is in
    let m = field_read 31 size.0 size.1 message z.rest_small message_is in
    let n = number_read w16 (2 ^ 16) exact16 (31 + size.0) Text (is_text_len version.0) message.1 text_len m.0.rest_small text_len_is in
    let c = field_read (33 + size.0) text_len.0 text_len.1 ciphertext n.rest_small ciphertext_is in
    let g = field_read (33 + size.0 + text_len.0) 32 ciphertext.1 tag c.0.rest_small tag_is in
    let made : Fields = record { version = version.0; session = session.0; epoch = epoch.0; previous = previous.0; index = index.0; agreement = message.0; ciphertext = ciphertext.0; tag = tag.0 } in
    let end = passed (nat_eq (length tag.1) 0) made f _ e10 in
    let made_lawful : IsLawful agreement made = record {
      version_is = v.passes;
      session_len = s.1;
      epoch_fits = leb-true _ _ t.passes;
      previous_fits = previous_fits epoch.0 previous.0 p.passes;
      previous_none = previous_none epoch.0 previous.0 p.passes;
      index_from_one = index_from_one index.0 i.passes;
      index_fits = index_fits index.0 i.passes;
      agreement_is = m.1 ∙ eqb-true _ _ z.passes;
      text_fits = subst (λ (k : ℕ). is_text_len version.0 k ≡ true) (sym c.1) n.passes;
      tag_len = g.1;
    } in
    let text : bytes ≡ grouped made =
    onto (to_be_bytes w8 version.0) bytes version.1 _ v.parts
    (onto session.0 version.1 session.1 _ s.0.parts
    (onto (to_be_bytes w32 epoch.0) session.1 epoch.1 _ t.parts
    (onto (to_be_bytes w32 previous.0) epoch.1 previous.1 _ p.parts
    (onto (to_be_bytes w32 index.0) previous.1 index.1 _ i.parts
    (onto (to_be_bytes w16 (length message.0)) index.1 size.1 _ (subst (λ (k : ℕ). index.1 ≡ to_be_bytes w16 k ++ size.1) (sym m.1) z.parts)
    (onto message.0 size.1 message.1 _ m.0.parts
    (onto (to_be_bytes w16 (length ciphertext.0)) message.1 text_len.1 _ (subst (λ (k : ℕ). message.1 ≡ to_be_bytes w16 k ++ text_len.1) (sym c.1) n.parts)
    (onto ciphertext.0 text_len.1 ciphertext.1 _ c.0.parts
    (onto tag.0 ciphertext.1 tag.1 _ g.0.parts (nil_from_length tag.1 (eqb-true _ _ end.0))))))))))) in
    subst (λ (y : Fields). WasPrinted agreement bytes y) end.1 (made_lawful, text ∙ sym (packet_of-grouped made))))))))))))
