-- A step of a client whose record was put in the place of the one before it, or was not.
use Rattle.std.proofs.Common.{Err, None, Ok, Result, Some, ap, arith, false, length, refl, subst, sym, true, ◌≡◌}
use Rattle.std.specs.Prelude.{if◌then◌else◌, nat_le}
use Rattle.std.proofs.lemmas.Bool.Decides.{nat_tests}
use Rattle.dr_base.specs.declared.limits.TheConstants.{INBOX_LIMIT}
use Rattle.dr_disk.specs.State.{DiskState, all_pass}
use Rattle.dr_disk.specs.declared.call.Call.{Call}
use Rattle.dr_model.specs.Machines.Acts.{taken_by}
use Rattle.dr_model.specs.Machines.Steps.{Step, has_effect, step}
use Rattle.kem_laws.specs.Mechanism.{Mechanism}
use Rattle.ratchet.specs.Seen.{Received, received_of}
use Rattle.session_model.specs.Clients.{Client, accept_receive}
use Rattle.session_model.specs.declared.answer.Answer.{Answer}
use Rattle.session_model.specs.declared.answer.Answer.TheVariants.{Opened}
use Rattle.session_model.specs.declared.answer.Refusal.{Refusal}
use Rattle.session_model.specs.declared.answer.Refusal.TheVariants.{InboxFull}
use Rattle.client.specs.Keepings.{Keeping, cell_of}
use Rattle.client.specs.Acting.{IsKeeperAct}
use Rattle.client.specs.Drafting.{IsReceivedOf, received_client}
use Rattle.client.specs.Outcomes.{IsKeeperEffected, IsKeptBy, IsLostInCell, Outcome, acknowledged, faulted}

module _ {S X : Type 0} (keeping : Keeping S) (state : X → DiskState) (answer : Answer)
    (next : Client) (old new : S) (start now : X)
    (effect : has_effect answer ≡ true) (unclosed : keeping.closed old ≡ None) where
  pub kept_act : keeping.closed new ≡ None → keeping.kept new ≡ next
      → IsKeptBy keeping (keeping.kept old) next old new (state start) (state now)
      → ((state start).fate ≡ all_pass → (state now).fate ≡ all_pass)
      → IsKeeperAct keeping state (Ok (step answer next)) old new start now (acknowledged answer)
  kept_act stays keeps kept passes = record {
    exact =
        subst (λ e. IsKeeperEffected keeping state e
        (Ok (step answer next)) old new start now answer) (sym effect) (record {
          made_is = ap (λ (c : Client). Ok (step answer c)) (sym keeps);
          was_open = unclosed;
          stays_open = stays;
          disk =
              subst (λ (c : Client). IsKeptBy keeping (keeping.kept old) c old new (state start)
              (state now)) (sym keeps) kept;
        });
    fate = λ all. (tt, passes all);
  }

  pub lost_act : (call : Call) → keeping.closed new ≡ Some call
      → keeping.kept new ≡ keeping.kept old → keeping.place new ≡ keeping.place old
      → IsLostInCell (cell_of keeping old) (keeping.kept old) next call (state start) (state now)
      → ((state start).fate ≡ all_pass → ⊥)
      → IsKeeperAct keeping state (Ok (step answer next)) old new start now (faulted call)
  lost_act call closes keeps stays lost fails = record {
    exact = record {
      next = step answer next;
      made_is = refl;
      effect = effect;
      was_open = unclosed;
      closes = closes;
      keeps = keeps;
      stays = stays;
      disk = lost;
    };
    fate = λ all. absurd (fails all);
  }

-- an act that is a step, from a client that is the same
pub act_again : {S X : Type 0} (keeping : Keeping S) (state : X → DiskState)
    (made : Client → Result (Step Client) Refusal) (by : Result (Step Client) Refusal)
    (was old new : S) (start now : X) (outcome : Outcome) → was ≡ old → made (keeping.kept was) ≡ by
    → IsKeeperAct keeping state by was new start now outcome
    → IsKeeperAct keeping state (made (keeping.kept old)) old new start now outcome
act_again {S = S} keeping state made by was old new start now outcome same is acts =
    subst (λ (n : S). IsKeeperAct keeping state (made (keeping.kept n)) n new start now outcome) same
    (subst (λ r. IsKeeperAct keeping state r was new start now outcome) (sym is) acts)

-- a packet that is taken where the inbox has room for its text
pub received_step : (k : Mechanism) (kept : Client) (draft : Received) → IsReceivedOf k kept draft
    → taken_by (accept_receive kept (Ok (received_of kept.state draft))) ≡ Ok (step (Opened draft.position) (received_client kept draft))
received_step k kept draft is =
    let room = is.room in
    let test : nat_le INBOX_LIMIT (length kept.inbox) ≡ false = grind (arith, nat_tests) in
    ap (λ t. taken_by (if t then Err InboxFull else Ok (record { position = draft.position; next = received_client kept draft }))) test
