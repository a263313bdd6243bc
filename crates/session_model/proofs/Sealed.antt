-- What a packet seals of a body, in each format.
use Rattle.std.proofs.Common.{◌≡◌, ◌≢◌, ◌∙◌, ℕ, ◌-◌, ◌≤◌, true, List, length, map, take, Option, Some, None, nat_le, refl, ap, arith}
use Rattle.std.specs.Prelude.{IfSome, option_map, slice_index_or}
use Rattle.std.proofs.lemmas.Bool.{cond_both, le-leb, leb-true}
use Rattle.std.proofs.lemmas.Bool.Decides.{nat_tests}
use Rattle.std.proofs.lemmas.List.{length-take}
use Rattle.bodies.specs.Bodies.{Body, body_text, sealed_body}
use Rattle.bodies.specs.Formats.{version_of}
use Rattle.bodies.specs.Padding.{padded_len}
use Rattle.bodies.specs.Receipts.{Receipt, receipt_up_to}
use Rattle.bodies.specs.declared.format.Format.{Format}
use Rattle.bodies.specs.declared.format.Format.TheVariants.{Padded, Plain, Receipts}
use Rattle.bodies.specs.declared.limits.TheConstants.{BODY_LIMIT}
use Rattle.bodies.proofs.Lengths.{alone_text, length-body_head, length-plain, length-sealed, length-told, short-head}
use Rattle.dr_base.specs.declared.limits.TheConstants.{PADDED, PLAIN, RECEIPTS, RECEIPT_LIMIT, TEXT_LIMIT}
use Rattle.dr_base.specs.declared.position.Position.{Position}
use Rattle.etm_aead.specs.Seal.{ciphertext_of}
use Rattle.etm_aead.specs.Undoing.{length-ciphertext_of}
use Rattle.packet.specs.Versions.{is_text_len, is_version}
use Rattle.session_model.specs.Saying.{read_up_to, receipt_in}
use Rattle.session_model.specs.States.{State, receiving_epoch}

pub known_version : (format : Format) → is_version (version_of format) ≡ true
known_version Plain = refl
known_version Padded = refl
known_version Receipts = refl

-- a receipt lists few positions, or there is none
abbrev pub HasFewListed : Option Receipt → Type 0
HasFewListed receipt = IfSome receipt (λ r. length r.listed ≤ RECEIPT_LIMIT)

-- ---- how many bytes are sealed

-- a padded length is one that a packet which fills its bytes up may have
padded_fits : (n : ℕ) → n ≤ TEXT_LIMIT → is_text_len PADDED (padded_len n) ≡ true
unfolding is_text_len
padded_fits n short = grind (arith, nat_tests)

told_fits : (n : ℕ) → n ≤ BODY_LIMIT → is_text_len RECEIPTS (padded_len n) ≡ true
unfolding is_text_len
told_fits n short = grind (arith, nat_tests)

plain_fits : (body : Body) → length body.content ≤ TEXT_LIMIT → is_text_len PLAIN (length (sealed_body PLAIN body)) ≡ true
unfolding is_text_len
plain_fits body short = ap (is_text_len PLAIN) (length-plain body) ∙ le-leb (length body.content) TEXT_LIMIT short

length_fits : (format : Format) (body : Body) → HasFewListed body.receipt → length body.content ≤ TEXT_LIMIT
    → is_text_len (version_of format) (length (sealed_body (version_of format) body)) ≡ true
length_fits Plain body few short = plain_fits body short
length_fits Padded body few short =
    ap (is_text_len PADDED)
    (length-sealed PADDED body (λ is. absurd (omega arith))
    ∙ ap (λ (t : List ℕ). padded_len (length t)) (alone_text PADDED body (λ is. absurd (omega arith))))
    ∙ padded_fits (length body.content) short
length_fits Receipts body few short =
    ap (is_text_len RECEIPTS) (length-sealed RECEIPTS body (λ is. absurd (omega arith)))
    ∙ told_fits (length (body_text RECEIPTS body))
    (omega (arith, length-told body, length-body_head RECEIPTS body, short-head RECEIPTS body few))

-- of a body, as many bytes are sealed as a packet of the format may seal
pub sealed_fits : (format : Format) (key : List ℕ) (body : Body) → HasFewListed body.receipt
    → length body.content ≤ TEXT_LIMIT
    → is_text_len (version_of format) (length (ciphertext_of key (sealed_body (version_of format) body))) ≡ true
sealed_fits format key body few short =
    let version = version_of format in
    ap (is_text_len version) (length-ciphertext_of key (sealed_body version body)) ∙ length_fits format body few short

-- ---- the receipts that a session sends

few_up_to : (missing : List Position) (reached : Position) → length (receipt_up_to missing reached).listed ≤ RECEIPT_LIMIT
unfolding receipt_up_to
few_up_to missing reached =
    let last = slice_index_or missing (RECEIPT_LIMIT - 1) reached in
    cond_both (nat_le (length missing) RECEIPT_LIMIT) (record { bound = reached; listed = missing })
    (record { bound = last; listed = take RECEIPT_LIMIT missing }) (λ (r : Receipt). length r.listed ≤ RECEIPT_LIMIT)
    (λ few. leb-true (length missing) RECEIPT_LIMIT few) (λ many. omega (arith, length-take RECEIPT_LIMIT missing))

few_read : (missing : List Position) (reached : Option Position) → HasFewListed (option_map (receipt_up_to missing) reached)
few_read missing None = tt
few_read missing (Some p) = few_up_to missing p

-- list few positions
pub few_listed : (format : Format) (s : State) → HasFewListed (receipt_in format s)
few_listed Plain s = tt
few_listed Padded s = tt
few_listed Receipts s = few_read (map (λ kept. kept.position) s.kept) (read_up_to (receiving_epoch s.side s.epoch) s.receiving)

-- and a session of another format sends none
pub none_sent : (format : Format) (s : State) → version_of format ≢ RECEIPTS → receipt_in format s ≡ None
none_sent Plain s other = refl
none_sent Padded s other = refl
none_sent Receipts s other = absurd (other refl)
