-- From what a client keeps to the worlds that it stands for.
use Rattle.std.proofs.Common.{Bool, Err, List, None, Ok, Result, Some, ap, false, inl, inr, subst, sym, true, ℕ, ⊎_elim, ◌∙◌, ◌≡◌}
use Rattle.std.specs.Prelude.{option_map}
use Rattle.dr_base.specs.declared.position.Side.{Side}
use Rattle.dr_disk.specs.State.{Always, DiskState}
use Rattle.dr_disk.proofs.Steps.{stays, widen}
use Rattle.dr_model.specs.Machines.Acts.{Act, act_on}
use Rattle.dr_model.specs.Machines.WorldActs.{act_in, kept_by}
use Rattle.dr_model.specs.Machines.Steps.{Step, has_effect, settled, step}
use Rattle.dr_model.specs.Machines.WorldSides.{kept_in}
use Rattle.dr_model.specs.Machines.Worlds.{World}
use Rattle.dr_model.specs.Theorems.Acting.{IsFairAct}
use Rattle.dr_model.specs.Theorems.LawfulWorlds.{IsLawfulWorld}
use Rattle.kem_laws.specs.Mechanism.{Mechanism}
use Rattle.session_model.specs.Clients.{Client}
use Rattle.session_model.specs.declared.answer.Answer.{Answer}
use Rattle.session_model.specs.declared.answer.Refusal.{Refusal}
use Rattle.session_record.specs.Record.{record_read, record_text}
use Rattle.slot_store.specs.Records.{stored_record}
use Rattle.slot_store.specs.Laws.{IsResting}
use Rattle.slot_store.specs.Store.{SlotStore}
use Rattle.slot_store.specs.Areas.{Area}
use Rattle.client.specs.Cells.{Cell, IsOldOrNewInCell}
use Rattle.client.specs.Clients.{IsReady}
use Rattle.client.specs.Keepings.{HoldsKept, Keeping, MayKeeperAct, cell_of, client_keeping}
use Rattle.client.specs.InWorlds.{CellStandsFor, CellStandsForEither, IsBetweenInCell, IsKeeperIn, KeeperActsIn, StandsFor}
use Rattle.client.specs.Outcomes.{IsKeeperDone, IsKeeperEffected, IsReplacingInCell, KeeperActs, Outcome, acknowledged, faulted, is_closed, refused, undrawn}
use Rattle.client.specs.Grounds.{Grounds}
use Rattle.client.proofs.Lawful.Records.{lawful_kept}

-- the record of what a side keeps stands for the world
pub record_stands : (cell : Cell) → (k : Mechanism) → Grounds k
    → (w : World) (side : Side) (kept : Client) (c : List ℕ) → IsLawfulWorld k w
    → kept ≡ kept_in k w side → cell.record_in c ≡ Some (record_text kept)
    → CellStandsFor cell k w side c
record_stands cell k grounds w side kept c lawful is has =
    ap (option_map (record_read k)) (has ∙ ap (λ (x : Client). Some (record_text x)) is)
    ∙ ap Some (grounds.records (kept_in k w side) (lawful_kept k w side grounds.mechanism lawful))

-- each image of a client's disk has the record of what it keeps
pub client_holds : IsResting → (disk : DiskState) → HoldsKept client_keeping disk
client_holds resting disk client ready c left =
    subst (λ (a : Area). stored_record a c ≡ Some (record_text client.kept)) ready.area
    (resting.record_of client.store c (ready.rests c left) ∙ ready.holds)

-- a disk that is at rest for it stands for the world
pub rests_stand : {S : Type 0} (keeping : Keeping S) (k : Mechanism) → Grounds k
    → (w : World) (side : Side)
    (s : S) (disk : DiskState) → HoldsKept keeping disk → IsLawfulWorld k w → keeping.kept s ≡ kept_in k w side → keeping.ready s disk
    → Always (CellStandsFor (cell_of keeping s) k w side) disk
rests_stand keeping k grounds w side s disk holds lawful is ready c left =
    record_stands (cell_of keeping s) k grounds w side (keeping.kept s) c lawful is (holds s ready c left)

pub ready_stands : (k : Mechanism) → Grounds k → (w : World) (side : Side) (kept : Client) (store : SlotStore) (disk : DiskState)
    → IsLawfulWorld k w → kept ≡ kept_in k w side → IsReady kept store disk → Always (StandsFor k w side) disk
ready_stands k grounds w side kept store disk lawful is ready =
    rests_stand client_keeping k grounds w side (record { kept = kept; store = store; closed = None }) disk
    (client_holds grounds.resting disk) lawful is ready

module _ {S : Type 0} (keeping : Keeping S) (k : Mechanism) (grounds : Grounds k) (w : World)
    (side : Side) (act : Act) (old new : S) (is : IsKeeperIn keeping k w side old) where
  abbrev next : World
  next = (act_in k w side act).next

  next_lawful : IsFairAct k w side act → IsLawfulWorld k next
  next_lawful fair = grounds.follow.lawful w side act is.lawful fair

  -- what the step makes of what the client keeps, and what it makes in the world
  steps : IsFairAct k w side act → (made : Result (Step Client) Refusal)
      → act_on k (keeping.kept old) act ≡ made
      → settled (keeping.kept old) made ≡ kept_by k side (act_in k w side act)
  steps fair made e =
      ap (settled (keeping.kept old)) (sym e)
      ∙ ap (λ c. settled c (act_on k c act)) is.keeps
      ∙ grounds.follow.follows w side act is.lawful fair

  between : IsFairAct k w side act → (start now : DiskState) (after : Client) → after ≡ kept_in k next side
      → IsReplacingInCell (cell_of keeping old) (keeping.kept old) after start now
      → IsBetweenInCell (cell_of keeping old) k side w next start now
  between fair start now after same span =
      widen start now (IsOldOrNewInCell (cell_of keeping old) start (Some (record_text (keeping.kept old))) (Some (record_text after)))
      (CellStandsForEither (cell_of keeping old) k side w next start)
      (λ c s. record {
        either =
            ⊎_elim (λ o. inl
            (record_stands (cell_of keeping old) k grounds w side
            (keeping.kept old) c is.lawful is.keeps o))
            (λ n. inr (record_stands (cell_of keeping old) k grounds next side after c (next_lawful fair) same n)) s.either;
        undamaged = s.undamaged;
        outside = s.frame;
      }) span

  done_in : IsFairAct k w side act → (start now : DiskState) → HoldsKept keeping now
      → (answer : Answer)
      → IsKeeperDone keeping (act_on k (keeping.kept old) act) old new start now answer
      → KeeperActsIn keeping k w side act old new start now (acknowledged answer)
  done_in fair start now holds answer acts =
      let made = steps fair (Ok (step answer (keeping.kept new))) acts.made_is in
      let kept = ap (λ (s : Step Client). s.next) made in (
        sym (ap (λ (s : Step Client). s.answer) made),
        record { lawful = next_lawful fair; keeps = kept },
        between fair start now (keeping.kept new) kept acts.disk.any_moment,
        subst (λ p. Always (CellStandsFor (keeping.cell p) k next side) now) acts.disk.stays
            (rests_stand keeping k grounds next side new now holds (next_lawful fair) kept acts.disk.ready),
      )

  -- no call was made: the next world is kept as this one was
  idle_in : IsFairAct k w side act → (start : DiskState) → HoldsKept keeping start
      → (answer : Answer)
      → act_on k (keeping.kept old) act ≡ Ok (step answer (keeping.kept new)) → new ≡ old
      → keeping.ready old start
      → KeeperActsIn keeping k w side act old new start start (acknowledged answer)
  idle_in fair start holds answer made_is same ready =
      let made = steps fair (Ok (step answer (keeping.kept new))) made_is in
      let kept = ap (λ (s : Step Client). s.next) made in
      let was : keeping.kept old ≡ kept_in k next side = ap keeping.kept (sym same) ∙ kept in (
        sym (ap (λ (s : Step Client). s.answer) made),
        record { lawful = next_lawful fair; keeps = kept },
        stays start (CellStandsForEither (cell_of keeping old) k side w next start),
        rests_stand keeping k grounds next side old start holds (next_lawful fair) was ready,
      )

  module _ {X : Type 0} (state : X → DiskState) (holds : (x : X) → HoldsKept keeping (state x))
      (start now : X)
      (ready : MayKeeperAct keeping old (state start)) (fair : keeping.closed old ≡ None → IsFairAct k w side act) where
    effected_in : (effect : Bool) (answer : Answer)
        → IsKeeperEffected keeping state effect
        (act_on k (keeping.kept old) act) old new start now answer
        → KeeperActsIn keeping k w side act old new (state start) (state now) (acknowledged answer)
    effected_in true answer acts =
        done_in (fair acts.was_open) (state start) (state now) (holds now) answer acts
    effected_in false answer acts =
        subst (λ x. KeeperActsIn keeping k w side act old new (state start) (state x) (acknowledged answer)) (sym acts.3)
        (idle_in (fair acts.1) (state start) (holds start) answer acts.0 acts.2 (ready acts.1))

    pub lift : (outcome : Outcome)
        → KeeperActs keeping state (act_on k (keeping.kept old) act) old new start now outcome
        → KeeperActsIn keeping k w side act old new (state start) (state now) outcome
    lift (is_closed call) acts = acts.1
    lift (refused refusal) acts =
        let made = steps (fair acts.0) (Err refusal) acts.1 in (
          sym (ap (λ (s : Step Client). s.answer) made),
          acts.2,
          record {
            lawful = next_lawful (fair acts.0);
            keeps = ap keeping.kept acts.2 ∙ ap (λ (s : Step Client). s.next) made;
          },
        )
    lift undrawn acts = absurd acts
    lift (acknowledged answer) acts = effected_in (has_effect answer) answer acts
    lift (faulted call) acts =
        let made = steps (fair acts.was_open) (Ok acts.next) acts.made_is in (
          acts.keeps,
          between (fair acts.was_open) (state start) (state now) acts.next.next (ap (λ (s : Step Client). s.next) made)
              acts.disk.any_moment,
        )
