-- A step of a client, as a sync makes it.
use Rattle.std.proofs.Common.{Err, None, Ok, Result, Some, [], arith, inl, refl, subst, sym, ◌∙◌, ◌≡◌}
use Rattle.dr_ports.proofs.Told.{appended-none}
use Rattle.dr_disk.specs.Spans.{HavePassed}
use Rattle.dr_disk.specs.State.{DiskState}
use Rattle.dr_disk.proofs.Steps.{stays}
use Rattle.dr_model.specs.Machines.Steps.{Step, settled, step}
use Rattle.session_model.specs.Clients.{Client}
use Rattle.session_model.specs.declared.answer.Answer.TheVariants.{Refused}
use Rattle.session_model.specs.declared.answer.Refusal.{Refusal}
use Rattle.session_record.specs.Record.{record_text}
use Rattle.client.specs.Cells.{IsOldOrNewInCell, client_cell}
use Rattle.client.specs.Clients.{ClientNow, IsReady}
use Rattle.client.specs.Syncing.Moments.{HasMovedOn, IsTaken, Moment, Wrote}

pub none_passed : (disk : DiskState) → HavePassed 0 disk disk
none_passed disk = λ m told. (m, told, omega arith)

-- nothing was done
pub still : (client : ClientNow) (disk : DiskState) → client.closed ≡ None → IsReady client.kept client.store disk
    → HasMovedOn client.kept client client disk disk
still client disk is_open ready = record {
  keeps = refl;
  is_open = is_open;
  ready = ready;
  during =
      stays disk
      (IsOldOrNewInCell client_cell disk (Some (record_text client.kept))
      (Some (record_text client.kept)));
  counted = inl (refl, none_passed disk);
  quiet = λ call. refl;
  fate = λ all. all;
}

-- nothing was written
pub wrote_nothing : (a b : Moment) → b.sink.taken ≡ a.sink.taken → b.sink.faults ≡ a.sink.faults → Wrote [] a b
wrote_nothing a b taken faults = record { bytes_are = taken ∙ appended-none a.sink.taken; unfailing = faults }

-- a refusal changes nothing
pub refused_still : {X : Type 0} (state : X → DiskState) (made : Result (Step Client) Refusal) (refusal : Refusal) (old new : ClientNow) (start now : X)
    → IsReady old.kept old.store (state start) → (old.closed ≡ None) × (made ≡ Err refusal) × (new ≡ old) × (now ≡ start)
    → IsTaken (settled old.kept made) old new (state start) (state now) (Ok (Refused refusal))
refused_still state made refusal old new start now ready acts =
    let same : IsTaken (step (Refused refusal) old.kept) old old (state start) (state start) (Ok (Refused refusal)) = (refl, still old (state start) acts.0 ready) in
    let there : IsTaken (settled old.kept made) old old (state start) (state start) (Ok (Refused refusal)) =
    subst (λ (m : Result (Step Client) Refusal). IsTaken (settled old.kept m) old old (state start) (state start) (Ok (Refused refusal))) (sym acts.1) same in
    let then : IsTaken (settled old.kept made) old new (state start) (state start) (Ok (Refused refusal)) =
    subst (λ (n : ClientNow). IsTaken (settled old.kept made) old n (state start) (state start) (Ok (Refused refusal))) (sym acts.2) there in
    subst (λ x. IsTaken (settled old.kept made) old new (state start) (state x) (Ok (Refused refusal))) (sym acts.3) then
