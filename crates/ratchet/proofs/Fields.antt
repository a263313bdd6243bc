-- The packets of lawful states have lawful fields, and keys have 32 bytes.
use Rattle.std.proofs.Common.{◌≡◌, ℕ, ◌+◌, ◌≤◌, Bool, true, false, nat_eq, List, length, refl, sym, subst, arith}
use Rattle.std.specs.Prelude.{if◌then◌else◌}
use Rattle.std.proofs.lemmas.Bool.Decides.{nat_tests}
use Rattle.std.proofs.lemmas.Bool.{cond-false}
use Rattle.bodies.specs.Bodies.{Body}
use Rattle.bodies.specs.Formats.{version_of}
use Rattle.bodies.specs.declared.format.Format.{Format}
use Rattle.dr_base.specs.declared.limits.TheConstants.{TEXT_LIMIT, INDEX_LIMIT, LAST_EPOCH}
use Rattle.dr_base.specs.declared.position.Position.{Position}
use Rattle.fs_aead.specs.Chain.{next_chain}
use Rattle.etm_aead.specs.Undoing.{length-tag_of}
use Rattle.hmac_hkdf.proofs.Lengths.{length-hmac_of}
use Rattle.packet.specs.Packet.{IsLawful, agreement_len}
use Rattle.session_model.specs.Sealing.{sealing}
use Rattle.session_model.proofs.Sealed.{HasFewListed, known_version, sealed_fits}

-- a length that is right in epoch 0 is right as its own measure
own_measure : (b : Bool) (len n : ℕ) → len ≡ (if b then 0 else n) → len ≡ (if b then 0 else len)
own_measure true len n h = h
own_measure false len n h = refl

-- a body's packet has lawful fields, in each format
of_format : (format : Format) (session : List ℕ) (p : Position) (previous : ℕ) (agreement key : List ℕ) (body : Body) (n : ℕ)
    → length session ≡ 16 → p.epoch ≤ LAST_EPOCH → previous ≤ INDEX_LIMIT → (p.epoch ≤ 1 → previous ≡ 0) → 1 ≤ p.index → p.index ≤ INDEX_LIMIT
    → length agreement ≡ agreement_len n p.epoch → HasFewListed body.receipt → length body.content ≤ TEXT_LIMIT
    → IsLawful (length agreement) (sealing (version_of format) session p previous agreement key body)
of_format format session p previous agreement key body n s e fits none one most long few short = record {
  version_is = known_version format;
  session_len = s;
  epoch_fits = e;
  previous_fits = omega arith;
  previous_none = none;
  index_from_one = one;
  index_fits = omega arith;
  agreement_is = own_measure (nat_eq p.epoch 0) (length agreement) n long;
  text_fits = sealed_fits format key body few short;
  tag_len = length-tag_of _ _ _;
}

pub lawful_sealing : (version : ℕ) (format : Format) (session : List ℕ) (p : Position) (previous : ℕ) (agreement key : List ℕ) (body : Body) (n : ℕ)
    → version ≡ version_of format → length session ≡ 16
    → p.epoch ≤ LAST_EPOCH → previous ≤ INDEX_LIMIT → (p.epoch ≤ 1 → previous ≡ 0) → 1 ≤ p.index → p.index ≤ INDEX_LIMIT
    → length agreement ≡ agreement_len n p.epoch → HasFewListed body.receipt → length body.content ≤ TEXT_LIMIT
    → IsLawful (length agreement) (sealing version session p previous agreement key body)
lawful_sealing version format session p previous agreement key body n is s e fits none one most long few short =
    subst (λ (v : ℕ). IsLawful (length agreement) (sealing v session p previous agreement key body)) (sym is)
    (of_format format session p previous agreement key body n s e fits none one most long few short)

-- a chain key has 32 bytes
pub length-next_chain : (chain : List ℕ) → length (next_chain chain) ≡ 32
unfolding next_chain
length-next_chain chain = length-hmac_of _ _

-- after epoch 0 each agreement message has the full length
pub agreement_later : (n epoch : ℕ) → agreement_len n (epoch + 1) ≡ n
agreement_later n epoch = cond-false (nat_eq (epoch + 1) 0) 0 n (grind (arith, nat_tests))
