-- The drafts of what is said, as the code makes them.
use Rattle.std.proofs.Common.{◌≡◌, ℕ, ◌+◌, ◌≤◌, Bool, Ok, List, [], length, Option, Some, None, refl, sym, ◌∙◌, ap, arith}
use Rattle.std.specs.Prelude.{option_map}
use Rattle.bodies.specs.Bodies.{Body}
use Rattle.dr_base.specs.declared.limits.TheConstants.{TEXT_LIMIT}
use Rattle.dr_base.specs.declared.key.Kept.{Kept}
use Rattle.dr_base.specs.declared.key.Key32.{Key32}
use Rattle.fs_aead.specs.Stream.{Stream}
use Rattle.fs_aead.specs.Chain.{next_chain}
use Rattle.kem_laws.specs.Mechanism.{IsLawful, Mechanism}
use Rattle.cka.specs.Agreement.{turn_of, agreement_size}
use Rattle.session_model.specs.Contents.{Content, content_check}
use Rattle.session_model.proofs.Checked.{content_short, once_passed}
use Rattle.session_model.specs.Saying.{SendDraft, body_of, draft_own, draft_phase, draft_send, draft_turn, phase_check, send_check}
use Rattle.session_model.specs.States.{Own, in_own, in_peers, State}
use Rattle.session_model.specs.LawfulStates.{IsLawfulOwn}
use Rattle.ratchet.specs.Seen.{seed_bytes}
use Rattle.ratchet.proofs.Fields.{agreement_later, length-next_chain}

-- a draft of a head, with kept keys
abbrev pub with_kept : List Kept → SendDraft → SendDraft
with_kept kept d = record { post = d.post; next = record d.next { kept = kept } }

-- the draft in an own epoch, of a copy of the state's head
pub says_own : (k : Mechanism) (s head : State) (own : Own) (content : Content) (seed : List ℕ) (body : Body) (d : SendDraft)
    → s.phase ≡ in_own own → head ≡ record s { kept = [] } → body ≡ body_of s content
    → d ≡ draft_own head own body → draft_send k s content seed ≡ Some (with_kept s.kept d)
unfolding draft_send
says_own k s head own content seed body d held copy whole is =
    ap (draft_phase k s (body_of s content) seed) held
    ∙ ap (λ x. Some (with_kept s.kept x))
    (sym (is ∙ ap (λ x. draft_own x own body) copy ∙ ap (draft_own (record s { kept = [] }) own) whole))

-- a turn in a copy of the state's head
turned_with : (s : State) (body : Body) (turn : Option (List ℕ × List ℕ × List ℕ))
    → option_map (with_kept s.kept) (option_map (draft_turn (record s { kept = [] }) body) turn) ≡ option_map (draft_turn s body) turn
turned_with s body None = refl
turned_with s body (Some turn) = refl

-- the draft in a peer's epoch
pub says_turn : (k : Mechanism) (s head : State) (public : List ℕ) (content : Content) (given : Option Key32) (seed : Key32) (body : Body) (d : SendDraft)
    → s.phase ≡ in_peers public → head ≡ record s { kept = [] } → given ≡ Some seed → body ≡ body_of s content
    → option_map (draft_turn head body) (turn_of k public seed.bytes) ≡ Some d
    → draft_send k s content (seed_bytes given) ≡ Some (with_kept s.kept d)
unfolding draft_send
says_turn k s head public content given seed body d held copy is whole made =
    let turn = turn_of k public seed.bytes in
    ap (draft_phase k s (body_of s content) (seed_bytes given)) held
    ∙ ap (λ x. draft_phase k s (body_of s content) (seed_bytes x) (in_peers public)) is
    ∙ ap (λ x. option_map (draft_turn s x) turn) (sym whole)
    ∙ sym (turned_with s body turn)
    ∙ ap (λ x. option_map (with_kept s.kept) (option_map (draft_turn x body) turn)) (sym copy)
    ∙ ap (option_map (with_kept s.kept)) made

-- if there is one
pub says_none : (k : Mechanism) (s : State) (public : List ℕ) (content : Content) (given : Option Key32) (seed : Key32) → s.phase ≡ in_peers public
    → given ≡ Some seed → turn_of k public seed.bytes ≡ None → draft_send k s content (seed_bytes given) ≡ None
unfolding draft_send
says_none k s public content given seed held is none =
    ap (draft_phase k s (body_of s content) (seed_bytes given)) held
    ∙ ap (λ x. draft_phase k s (body_of s content) (seed_bytes x) (in_peers public)) is
    ∙ ap (option_map (draft_turn s (body_of s content))) none

-- what the holder of a turn and the stream after its first key keep
pub lawful_holder : (k : Mechanism) (epoch : ℕ) (own : Own) (secret : List ℕ) (resumed stream : Stream) → own.secret ≡ secret → length secret ≡ k.secret
    → IsLawful k.meaning secret → length own.agreement ≡ agreement_size k → own.chain ≡ stream.chain
    → resumed.count ≡ 0 → stream ≡ record { chain = next_chain resumed.chain; count = resumed.count + 1 } → own.sent ≡ stream.count → IsLawfulOwn k (epoch + 1) own
lawful_holder k epoch own secret resumed stream e long lawful message chain start next sent =
    let count : stream.count ≡ resumed.count + 1 = ap (λ (x : Stream). x.count) next in
    record {
      secret_long = ap length e ∙ long;
      secret_lawful = ap k.meaning.bad_byte e ∙ lawful;
      agreement_long = message ∙ sym (agreement_later (agreement_size k) epoch);
      chain_long = ap length (chain ∙ ap (λ (x : Stream). x.chain) next) ∙ length-next_chain resumed.chain;
      few = omega arith;
    }

-- what passed its check is short
pub checked_short : (s : State) (content : Content) (needs : Bool) → send_check s content ≡ Ok needs → length content.bytes ≤ TEXT_LIMIT
checked_short s content needs is =
    content_short s.format content (once_passed (content_check s.format content) (phase_check s.epoch s.phase) needs is).0
