-- The draft of a text leads a lawful session to a lawful state.
use Rattle.std.proofs.Common.{Bool, List, None, Ok, Option, Some, arith, false, length, refl, subst, sym, true, ℕ, ◌++◌, ◌+◌, ◌<◌, ◌∙◌, ◌≡◌, ◌≤◌}
use Rattle.std.specs.Prelude.{nat_le, option_map}
use Rattle.std.proofs.lemmas.Bool.Decides.{nat_tests}
use Rattle.std.proofs.lemmas.List.{length-append}
use Rattle.bodies.specs.Bodies.{Body}
use Rattle.cka.specs.Agreement.{agreement_size}
use Rattle.dr_base.specs.Position.{position_at}
use Rattle.dr_base.specs.declared.limits.TheConstants.{INDEX_LIMIT, LAST_EPOCH}
use Rattle.fs_aead.specs.Chain.{next_chain}
use Rattle.kem_laws.specs.Mechanism.{IsLawfulMechanism, IsPairOf, Mechanism}
use Rattle.prf_prng.specs.Root.{next_root, root_key}
use Rattle.prf_prng.proofs.Lengths.{length-next_root}
use Rattle.ratchet.proofs.Fields.{agreement_later, length-next_chain}
use Rattle.ratchet.proofs.LawfulTurn.{in_own_phase, in_peers_phase, lawful_on, lawful_turn}
use Rattle.session_model.specs.Contents.{Content}
use Rattle.session_model.specs.Awaiting.{waiting_with}
use Rattle.session_model.specs.LawfulStates.{IsLawfulState}
use Rattle.session_model.specs.Saying.{SendDraft, body_of, draft_own, draft_phase, draft_send, draft_turn, phase_check}
use Rattle.session_model.specs.States.{Own, Phase, State, in_own, in_peers}
use Rattle.session_model.proofs.Passing.{passes}

own_lawful : (k : Mechanism) (s : State) (own : Own) (body : Body) → IsLawfulState k s → s.phase ≡ in_own own
    → own.sent < INDEX_LIMIT → IsLawfulState k (draft_own s own body).next
own_lawful k s own body l held few =
    let was = in_own_phase k s own l held in
    let one : own.sent + 1 ≤ INDEX_LIMIT = omega arith in
    lawful_on k s own (record own { chain = next_chain own.chain; sent = own.sent + 1 })
    (waiting_with s.awaiting (position_at s.epoch (own.sent + 1))) l held few
    (record {
      secret_long = was.1.secret_long;
      secret_lawful = was.1.secret_lawful;
      agreement_long = was.1.agreement_long;
      chain_long = length-next_chain own.chain;
      few = one;
    }) refl refl

paired_lawful : (k : Mechanism) (s : State) (body : Body) (public seed : List ℕ) (pair : List ℕ × List ℕ) → IsLawfulMechanism k
    → IsLawfulState k s → s.phase ≡ in_peers public → s.epoch < LAST_EPOCH → IsPairOf k.meaning seed pair.0 pair.1
    → let sealed = k.meaning.encap_of public seed in
    IsLawfulState k (draft_turn s body (pair.1, sealed.0 ++ pair.0, sealed.1)).next
paired_lawful k s body public seed pair law l held more is =
    let sealed = k.meaning.encap_of public seed in
    let long = (in_peers_phase k s public l held).1 in
    let message : length (sealed.0 ++ pair.0) ≡ agreement_size k =
    omega (
      arith,
      length-append sealed.0 pair.0,
      law.ciphertext_long public seed sealed.0 sealed.1 long is.long refl,
      law.public_long seed pair.0 pair.1 is,
    ) in
    let one : 1 ≤ INDEX_LIMIT = omega arith in
    lawful_turn k s public (next_root s.root sealed.1)
    (record {
      secret = pair.1;
      agreement = sealed.0 ++ pair.0;
      chain = next_chain (root_key s.root sealed.1);
      sent = 1;
    }) (waiting_with s.awaiting (position_at (s.epoch + 1) 1)) l held more (length-next_root s.root sealed.1)
    (record {
      secret_long = law.secret_long seed pair.0 pair.1 is;
      secret_lawful = law.lawful seed pair.0 pair.1 is;
      agreement_long = message ∙ sym (agreement_later (agreement_size k) s.epoch);
      chain_long = length-next_chain (root_key s.root sealed.1);
      few = one;
    }) (omega arith) refl

turned_lawful : (k : Mechanism) (s : State) (body : Body) (public seed : List ℕ) (pair : Option (List ℕ × List ℕ)) (draft : SendDraft)
    → IsLawfulMechanism k → IsLawfulState k s → s.phase ≡ in_peers public → s.epoch < LAST_EPOCH → length seed ≡ 32
    → k.meaning.pair_of seed ≡ pair
    → (let sealed = k.meaning.encap_of public seed in
    option_map (draft_turn s body) (option_map (λ one. (one.1, sealed.0 ++ one.0, sealed.1)) pair) ≡ Some draft)
    → IsLawfulState k draft.next
turned_lawful k s body public seed None draft law l held more long pairs gives =
    absurd (let no : None ≡ Some draft = gives in cc)
turned_lawful k s body public seed (Some pair) draft law l held more long pairs gives =
    let sealed = k.meaning.encap_of public seed in
    let is : draft_turn s body (pair.1, sealed.0 ++ pair.0, sealed.1) ≡ draft = cc in
    subst (λ (d : SendDraft). IsLawfulState k d.next) is
    (paired_lawful k s body public seed pair law l held more (record { long = long; gives = pairs }))

phase_lawful : (k : Mechanism) (s : State) (body : Body) (seed : List ℕ) (phase : Phase) (needs : Bool) (draft : SendDraft)
    → IsLawfulMechanism k → IsLawfulState k s → s.phase ≡ phase → (needs ≡ true → length seed ≡ 32)
    → phase_check s.epoch phase ≡ Ok needs → draft_phase k s body seed phase ≡ Some draft → IsLawfulState k draft.next
phase_lawful k s body seed (in_own own) needs draft law l held whole checked gives =
    let few : own.sent < INDEX_LIMIT =
    let no = (passes (nat_le INDEX_LIMIT own.sent) _ (Ok false) needs checked).0 in grind (arith, nat_tests) in
    let is : draft_own s own body ≡ draft = cc in
    subst (λ (d : SendDraft). IsLawfulState k d.next) is (own_lawful k s own body l held few)
phase_lawful k s body seed (in_peers public) needs draft law l held whole checked gives =
    let past = passes (nat_le LAST_EPOCH s.epoch) _ (Ok true) needs checked in
    let more : s.epoch < LAST_EPOCH = let no = past.0 in grind (arith, nat_tests) in
    let asks : Ok true ≡ Ok needs = past.1 in
    turned_lawful k s body public seed (k.meaning.pair_of seed) draft law l held more (whole (cc asks)) refl gives

-- with a seed of 32 bytes where the text needs one
pub send_lawful : (k : Mechanism) (s : State) (content : Content) (seed : List ℕ) (needs : Bool) (draft : SendDraft) → IsLawfulMechanism k
    → IsLawfulState k s → (needs ≡ true → length seed ≡ 32) → phase_check s.epoch s.phase ≡ Ok needs
    → draft_send k s content seed ≡ Some draft → IsLawfulState k draft.next
unfolding draft_send
send_lawful k s content seed needs draft law l whole checked gives =
    phase_lawful k s (body_of s content) seed s.phase needs draft law l refl whole checked gives
