-- What a draft keeps is lawful on top of a session's kept keys, where it is on top of none.
use Rattle.std.proofs.Common.{List, None, Option, Some, [], arith, false, refl, subst, sym, ℕ, ◌≡◌}
use Rattle.std.specs.Prelude.{All, option_map}
use Rattle.std.proofs.lemmas.List.Elements.{All-nil}
use Rattle.bodies.specs.Bodies.{Body}
use Rattle.boxes.specs.Posts.{Post}
use Rattle.cka.specs.Agreement.{turn_of}
use Rattle.dr_base.specs.Position.{is_own}
use Rattle.dr_base.specs.declared.key.Kept.{Kept}
use Rattle.kem_laws.specs.Mechanism.{Mechanism}
use Rattle.session_model.proofs.Latest.{latest-turn}
use Rattle.session_model.specs.Drafts.{IsSendDraft}
use Rattle.session_model.specs.LawfulStates.{IsLawfulKept, IsLawfulReception, IsLawfulState}
use Rattle.session_model.specs.Saying.{SendDraft, body_of, draft_own, draft_phase, draft_send, draft_turn}
use Rattle.session_model.specs.States.{Phase, Reception, State, in_own, in_peers, receiving_epoch}
use Rattle.ratchet.specs.Seen.{Said, kept_in, said_of}
use Rattle.ratchet.proofs.LawfulTurn.{in_peers_phase}

-- ---- without kept keys, and with them

reception_emptied : (kept : List Kept) (r : Option Reception) (epoch : Option ℕ) → IsLawfulReception kept r epoch
    → IsLawfulReception [] r epoch
reception_emptied kept None None h = refl
reception_emptied kept None (Some epoch) h = absurd h
reception_emptied kept (Some r) None h = absurd h
reception_emptied kept (Some r) (Some epoch) h = (h.0, h.1, All-nil _)

-- a lawful state is so without its kept keys
pub emptied : (k : Mechanism) (s : State) → IsLawfulState k s → IsLawfulState k (record s { kept = [] })
emptied k s l = record {
  session_long = l.session_long;
  root_long = l.root_long;
  epoch_fits = l.epoch_fits;
  phase = l.phase;
  previous = l.previous;
  receiving = reception_emptied s.kept s.receiving (receiving_epoch s.side s.epoch) l.receiving;
  kept = λ i j d lt below. absurd (omega arith);
  each = All-nil _;
  few = omega arith;
  waiting = l.waiting;
}

-- and with the kept keys of a change, if there is one, on top of none
pub changed : (k : Mechanism) (head : State) (kept : List Kept) (table : Option (List Kept))
    → IsLawfulState k (record head { kept = kept_in kept table }) → IsLawfulState k (record head { kept = kept_in [] table })
changed k head kept None l = emptied k (record head { kept = kept }) l
changed k head kept (Some table) l = l

-- what comes of a state is of the same side, and the state's kept keys may stand beside its stream
pub record Follows (s next : State) : Type 0 where
  pub side : next.side ≡ s.side
  pub before : IsLawfulReception [] next.receiving (receiving_epoch next.side next.epoch)
      → IsLawfulReception s.kept next.receiving (receiving_epoch next.side next.epoch)

pub filled : (k : Mechanism) (s head : State) → IsLawfulState k s → Follows s (record head { kept = s.kept })
    → IsLawfulState k (record head { kept = [] })
    → IsLawfulState k (record head { kept = s.kept })
filled k s head l after h = record {
  session_long = h.session_long;
  root_long = h.root_long;
  epoch_fits = h.epoch_fits;
  phase = h.phase;
  previous = h.previous;
  receiving = after.before h.receiving;
  kept = l.kept;
  each = subst (λ side. All (IsLawfulKept side) s.kept) (sym after.side) l.each;
  few = l.few;
  waiting = h.waiting;
}

-- ---- a text

turn_follows : (s : State) (body : Body) (turn : Option (List ℕ × List ℕ × List ℕ)) (draft : SendDraft)
    → IsLawfulReception s.kept s.receiving (receiving_epoch s.side s.epoch) → is_own s.side s.epoch ≡ false
    → option_map (draft_turn s body) turn ≡ Some draft → Follows s draft.next
turn_follows s body None draft l peers is = absurd (let no : None ≡ Some draft = is in cc)
turn_follows s body (Some turn) draft l peers is =
    let same : draft_turn s body turn ≡ draft = cc in
    subst (λ (d : SendDraft). Follows s d.next) same (record {
      side = refl;
      before = λ _. subst (IsLawfulReception s.kept s.receiving) (sym (latest-turn s.side s.epoch peers)) l;
    })

said_follows : (k : Mechanism) (s : State) (body : Body) (seed : List ℕ) (phase : Phase) (draft : SendDraft) → IsLawfulState k s
    → s.phase ≡ phase → draft_phase k s body seed phase ≡ Some draft → Follows s draft.next
said_follows k s body seed (in_own own) draft l held is =
    let same : draft_own s own body ≡ draft = cc in
    subst (λ (d : SendDraft). Follows s d.next) same (record { side = refl; before = λ _. l.receiving })
said_follows k s body seed (in_peers public) draft l held is =
    turn_follows s body (turn_of k public seed) draft l.receiving (in_peers_phase k s public l held).0 is

-- the draft of a text
pub lawful_said : (k : Mechanism) (s : State) (post : Post) (head : State) → IsLawfulState k s
    → IsLawfulState k (record head { kept = [] })
    → (let d : Said = record { post = post; head = head } in
    IsSendDraft k s (said_of s d) → IsLawfulState k (said_of s d).next)
unfolding draft_send
lawful_said k s post head l h of =
    filled k s head l (said_follows k s (body_of s of.content) of.seed s.phase _ l refl of.gives) h
