-- What a peer answers to a packet of the hub's.
use Rattle.std.proofs.Common.{Bool, Err, List, Ok, ap, arith, false, refl, if◌then◌else◌, length, sym, true, ℕ, ◌∙◌, ◌≡◌}
use Rattle.std.specs.Prelude.{nat_le}
use Rattle.std.proofs.lemmas.Bool.Decides.{nat_tests}
use Rattle.bodies.specs.declared.format.Format.TheVariants.{Plain}
use Rattle.client.specs.Beginning.{begin_of, begun_client}
use Rattle.client.specs.Drafting.{DraftsFor, IsReceivedOf}
use Rattle.dr_base.specs.declared.key.Key32.{Key32}
use Rattle.dr_base.specs.declared.limits.TheConstants.{INBOX_LIMIT}
use Rattle.dr_base.specs.declared.position.Side.TheVariants.{Second}
use Rattle.kem_laws.specs.Mechanism.{Mechanism}
use Rattle.ratchet.specs.Seen.{Received}
use Rattle.session_model.specs.Clients.{Client, TakenPacket, take_on}
use Rattle.session_model.specs.declared.answer.Answer.TheVariants.{Opened, Refused}
use Rattle.session_model.specs.declared.answer.Refusal.{Refusal}
use Rattle.hub.specs.Peers.{peer_key}
use Rattle.hub.specs.Receiving.{answer_to, taken_answer}

picked : (b : Bool) (e : Refusal) (t : TakenPacket) → b ≡ false
    → taken_answer (if b then Err e else Ok t) ≡ Opened t.position
picked true e t is = absurd (let no : true ≡ false = is in cc)
picked false e t is = refl

module _ (k : Mechanism) (number : ℕ) (packet : List ℕ) (key : Key32) (peer : Client) (keyed : key ≡ peer_key number)
    (is : peer ≡ begun_client k (begin_of Second Plain key)) where
  as_begun : taken_answer (take_on k peer packet) ≡ answer_to k number packet
  as_begun =
      ap (λ (c : Client). taken_answer (take_on k c packet)) is
      ∙ ap (λ (l : Key32). taken_answer (take_on k (begun_client k (begin_of Second Plain l)) packet)) keyed

  pub opened_answer : (draft : Received) → DraftsFor k peer packet (Ok draft) → IsReceivedOf k peer draft
      → Opened draft.position ≡ answer_to k number packet
  opened_answer draft drafts received =
      let room : nat_le INBOX_LIMIT (length peer.inbox) ≡ false =
      let lt = received.room in grind (arith, nat_tests) in
      sym (ap taken_answer drafts
      ∙ picked (nat_le INBOX_LIMIT (length peer.inbox)) _ _ room)
      ∙ as_begun

  pub refused_answer : (refusal : Refusal) → DraftsFor k peer packet (Err refusal)
      → Refused refusal ≡ answer_to k number packet
  refused_answer refusal drafts = sym (ap taken_answer drafts) ∙ as_begun
