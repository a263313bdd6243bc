use Rattle.std.proofs.Common.{◌∙◌, ◌≡◌, ◌++◌, ℕ, List, ap, length, subst, sym, true}
use Rattle.bodies.specs.Bodies.{sealed_body}
use Rattle.boxes.specs.Posts.{post_under}
use Rattle.etm_aead.specs.Seal.{ciphertext_of, tag_of}
use Rattle.etm_aead.specs.Undoing.{length-ciphertext_of}
use Rattle.packet.specs.Packet.{header_of, packet_of}
use Rattle.packet.specs.Versions.{is_text_len}
use Rattle.session_model.specs.Sealing.{posted}
use Rattle.ratchet.proofs.Printing.{printed}
use Rattle.ratchet.proofs.sealing.seal_packet.Goals as goal

pub write_ad-at_body-requires-clause-text_fits : goal.write_ad-at_body-requires-clause-text_fits
write_ad-at_body-requires-clause-text_fits c =
    let bytes = sealed_body c.args.version c.args.body.now in
    subst (λ (n : ℕ). is_text_len c.args.version n ≡ true)
    (length-ciphertext_of c.args.key bytes ∙ sym c.sealed_len-len.ensures.sealed)
    c.requires.lawful.text_fits

pub returns-clause-packet : goal.returns-clause-packet
unfolding posted packet_of
returns-clause-packet c =
    let p = c.args.position in
    let key = c.args.key in
    let bytes = sealed_body c.args.version c.args.body.now in
    let sealed = ciphertext_of key bytes in
    let header : ℕ → List ℕ = λ n. header_of c.args.version c.args.session.now p.epoch c.args.previous p.index c.args.agreement.now n in
    ap (post_under p) (printed _ _ _ _ _ _ _ _ _ _ _ c.write_ad-at_body.ensures.len c.write_ad-at_body.ensures.written c.put_sealed-at_tag.ensures
    c.seal_from-tag.ensures.sealed c.seal_from-tag.ensures.tag c.put.ensures
    ∙ ap (λ n. header n ++ sealed ++ tag_of key (header n) sealed) c.sealed_len-len.ensures.sealed
    ∙ ap (λ n. header n ++ sealed ++ tag_of key (header (length bytes)) sealed) (sym (length-ciphertext_of key bytes)))
