-- Where a drafted text stands, and where the next one does.
use Rattle.std.proofs.Common.{◌≡◌, ℕ, ◌+◌, List, Option, Some, None, sym, ◌∙◌, ap, arith}
use Rattle.std.specs.Prelude.{option_map}
use Rattle.bodies.specs.Bodies.{Body}
use Rattle.kem_laws.specs.Mechanism.{Mechanism}
use Rattle.cka.specs.Agreement.{turn_of}
use Rattle.session_model.specs.Drafts.{IsSendDraft}
use Rattle.session_model.specs.Saying.{SendDraft, body_of, draft_own, draft_phase, draft_send, draft_turn}
use Rattle.session_model.specs.Sealing.{posted}
use Rattle.session_model.specs.States.{Phase, State, in_own, in_peers}

-- the index of the next text of a side
next_index : Phase → ℕ
next_index (in_own own) = own.sent + 1
next_index (in_peers public) = 1

-- what a draft is of, by the phase
record IsNextDraft (phase : Phase) (draft : SendDraft) : Type 0 where
  index : draft.post.position.index ≡ next_index phase
  after : next_index draft.next.phase ≡ next_index phase + 1

drafted_turn : (s : State) (body : Body) (public : List ℕ) (turn : Option (List ℕ × List ℕ × List ℕ)) (draft : SendDraft)
    → option_map (draft_turn s body) turn ≡ Some draft → IsNextDraft (in_peers public) draft
unfolding next_index posted
drafted_turn s body public None draft e = absurd (cc e)
drafted_turn s body public (Some turn) draft e =
    let is : draft ≡ draft_turn s body turn = sym (cc e) in
    record {
      index = ap (λ (d : SendDraft). d.post.position.index) is;
      after = ap (λ (d : SendDraft). next_index d.next.phase) is ∙ omega arith;
    }

drafted : (k : Mechanism) (s : State) (body : Body) (seed : List ℕ) (phase : Phase) (draft : SendDraft)
    → draft_phase k s body seed phase ≡ Some draft
    → IsNextDraft phase draft
unfolding next_index posted
drafted k s body seed (in_own own) draft e =
    let is : draft ≡ draft_own s own body = sym (cc e) in
    record { index = ap (λ (d : SendDraft). d.post.position.index) is; after = ap (λ (d : SendDraft). next_index d.next.phase) is }
drafted k s body seed (in_peers public) draft e = drafted_turn s body public (turn_of k public seed) draft e

drafts_next : (k : Mechanism) (s : State) (draft : SendDraft) → IsSendDraft k s draft → IsNextDraft s.phase draft
unfolding draft_send
drafts_next k s draft d = drafted k s (body_of s d.content) d.seed s.phase draft d.gives

-- once a draft is accepted, no other draft of the state before is one of the state that stands then
pub one_accepted : (k : Mechanism) (s : State) (first second : SendDraft) → IsSendDraft k s first → IsSendDraft k s second
    → IsSendDraft k first.next second → ⊥
one_accepted k s first second a b c =
    let one = drafts_next k s first a in
    let two = drafts_next k s second b in
    let three = drafts_next k first.next second c in
    omega (arith, one.after, two.index, three.index)
