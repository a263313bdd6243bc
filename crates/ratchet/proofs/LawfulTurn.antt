-- A text that is said, in an own epoch or as a turn, leads from a lawful state to a lawful one.
use Rattle.std.proofs.Common.{◌≡◌, ℕ, ◌+◌, ◌<◌, ◌≤◌, true, false, List, length, sym, ◌∙◌, ap, subst, arith}
use Rattle.std.specs.Prelude.{not}
use Rattle.dr_base.specs.declared.limits.TheConstants.{INDEX_LIMIT, LAST_EPOCH}
use Rattle.dr_base.specs.Position.{is_own, position_at}
use Rattle.dr_base.specs.declared.position.Position.{Position}
use Rattle.session_model.specs.Awaiting.{AreWaiting, waiting_with}
use Rattle.session_model.specs.States.{Own, Phase, in_own, in_peers, State}
use Rattle.session_model.specs.LawfulStates.{IsLawfulOwn, IsLawfulPhase, IsLawfulPrevious, IsLawfulReception, IsLawfulState}
use Rattle.kem_laws.specs.Mechanism.{Mechanism}
use Rattle.dr_base.proofs.Parity.{own_next}
use Rattle.session_model.proofs.Latest.{latest-turn}
use Rattle.session_model.proofs.Waiting.{waiting-said, waiting-turned}

-- what is lawful in a peer's epoch
pub in_peers_phase : (k : Mechanism) (s : State) (public : List ℕ) → IsLawfulState k s → s.phase ≡ in_peers public
    → (is_own s.side s.epoch ≡ false) × (length public ≡ k.public)
in_peers_phase k s public l e = subst (IsLawfulPhase k s.side s.epoch) e l.phase

pub in_peers_previous : (k : Mechanism) (s : State) (public : List ℕ) → IsLawfulState k s → s.phase ≡ in_peers public
    → (s.previous ≤ INDEX_LIMIT) × (s.epoch ≡ 0 → s.previous ≡ 0)
in_peers_previous k s public l e = subst (IsLawfulPrevious s.previous s.epoch) e l.previous

-- the texts that wait, in a phase
in_phase_waiting : (k : Mechanism) (s : State) (phase : Phase) → IsLawfulState k s → s.phase ≡ phase
    → AreWaiting s.side s.epoch phase s.awaiting
in_phase_waiting k s phase l e = subst (λ (phase : Phase). AreWaiting s.side s.epoch phase s.awaiting) e l.waiting

-- what is lawful in an own epoch
pub in_own_phase : (k : Mechanism) (s : State) (own : Own) → IsLawfulState k s → s.phase ≡ in_own own
    → (is_own s.side s.epoch ≡ true) × IsLawfulOwn k s.epoch own
in_own_phase k s own l e = subst (IsLawfulPhase k s.side s.epoch) e l.phase

pub in_own_previous : (k : Mechanism) (s : State) (own : Own) → IsLawfulState k s → s.phase ≡ in_own own
    → (s.previous ≤ INDEX_LIMIT) × (s.epoch ≤ 1 → s.previous ≡ 0)
in_own_previous k s own l e = subst (IsLawfulPrevious s.previous s.epoch) e l.previous

-- the next text of the epoch, of which one more waits
pub lawful_on : (k : Mechanism) (s : State) (own next : Own) (awaiting : List Position) → IsLawfulState k s
    → s.phase ≡ in_own own → own.sent < INDEX_LIMIT → IsLawfulOwn k s.epoch next → next.sent ≡ own.sent + 1
    → awaiting ≡ waiting_with s.awaiting (position_at s.epoch (own.sent + 1))
    → IsLawfulState k (record s { phase = in_own next; awaiting = awaiting })
lawful_on k s own next awaiting l e more lawful sent is =
    let mine = (in_own_phase k s own l e).0 in
    record {
      session_long = l.session_long;
      root_long = l.root_long;
      epoch_fits = l.epoch_fits;
      phase = (mine, lawful);
      previous = in_own_previous k s own l e;
      receiving = l.receiving;
      kept = l.kept;
      each = l.each;
      few = l.few;
      waiting = subst (AreWaiting s.side s.epoch (in_own next)) (sym is)
          (waiting-said s.side s.epoch own next s.awaiting mine (omega arith) sent (in_phase_waiting k s (in_own own) l e));
    }

-- the next own epoch with what it keeps
pub lawful_turn : (k : Mechanism) (s : State) (public root : List ℕ) (own : Own) (awaiting : List Position) → IsLawfulState k s
    → s.phase ≡ in_peers public → s.epoch < LAST_EPOCH → length root ≡ 32 → IsLawfulOwn k (s.epoch + 1) own → 1 ≤ own.sent
    → awaiting ≡ waiting_with s.awaiting (position_at (s.epoch + 1) 1)
    → IsLawfulState k (record s { root = root; epoch = s.epoch + 1; phase = in_own own; awaiting = awaiting })
lawful_turn k s public root own awaiting l e more long next one is =
    let peers : is_own s.side s.epoch ≡ false = (in_peers_phase k s public l e).0 in
    let before = in_peers_previous k s public l e in
    let none : s.epoch + 1 ≤ 1 → s.previous ≡ 0 = λ h. let first : s.epoch ≡ 0 = omega arith in before.1 first in
    record {
      session_long = l.session_long;
      root_long = long;
      epoch_fits = omega arith;
      phase = (own_next s.side s.epoch ∙ ap not peers, next);
      previous = (before.0, none);
      receiving = subst (IsLawfulReception s.kept s.receiving) (sym (latest-turn s.side s.epoch peers)) l.receiving;
      kept = l.kept;
      each = l.each;
      few = l.few;
      waiting = subst (AreWaiting s.side (s.epoch + 1) (in_own own)) (sym is)
          (waiting-turned s.side s.epoch public own s.awaiting peers one (in_phase_waiting k s (in_peers public) l e));
    }
