-- A disk that is read without damage stays so over a command and a crash in it, and the next command reads a world whole.
use Rattle.std.proofs.Common.{List, None, Ok, Option, Some, ap, inr, refl, subst, sym, ℕ, ⊎_elim, ◌∙◌, ◌≡◌, ◌⊎◌}
use Rattle.std.specs.Prelude.{Result, option_map}
use Rattle.dr_base.specs.declared.position.Side.{Side}
use Rattle.dr_disk.specs.State.{Always, DiskState, IsLawful}
use Rattle.dr_disk.proofs.Steps.{widen}
use Rattle.dr_model.specs.Machines.WorldSides.{kept_in}
use Rattle.dr_model.specs.Machines.Worlds.{World}
use Rattle.dr_model.specs.Theorems.LawfulWorlds.{IsLawfulWorld}
use Rattle.kem_laws.specs.Mechanism.{Mechanism}
use Rattle.relay_wire.specs.Replies.{Replied}
use Rattle.session_model.specs.Clients.{Client}
use Rattle.session_record.specs.Record.{record_read}
use Rattle.slot_store.specs.Reading.{IsUndamaged, OpensAs, holds, area_reading}
use Rattle.slot_store.specs.Records.{stored_record}
use Rattle.sync_model.specs.declared.more.More.{More}
use Rattle.client.specs.Clients.{client_area}
use Rattle.client.specs.Opening.{ReadsAsSide, fault_of, client_record_fault}
use Rattle.client.specs.Syncing.InOrder.{IsLeftBetween}
use Rattle.client.specs.declared.syncing.faults.SyncFault.{SyncFault}
use Rattle.session_commands.specs.Completing.{ReadsWhole}
use Rattle.session_commands.specs.Disks.{StaysSound, RunsOn, StandsForOne}
use Rattle.session_commands.specs.SyncMoments.{StandsForCourse, SyncsBehind}
use Rattle.session_commands.specs.Syncing.{SyncRunsIn}
use Rattle.session_commands.proofs.Linking.{left_by}

module _ (start now : DiskState) (lawful : IsLawful start) (whole : Always (IsUndamaged client_area) start) where
  sound_whole : (c : List ℕ) → StaysSound start c → IsUndamaged client_area c
  sound_whole c sound = sound.undamaged (whole sound.read (lawful.seen_now sound.read sound.told))

  pub runs_whole : (k : Mechanism) (side : Side) (w next : World) → RunsOn k side w next start now → (c : List ℕ)
      → IsLeftBetween start now c → IsUndamaged client_area c
  runs_whole k side w next on c left =
      ⊎_elim (whole c) (λ stood. sound_whole c stood.sound)
      (left_by start now (StandsForOne k side w next start) lawful on.any_moment c left)

  pub syncs_whole : (k : Mechanism) (side : Side) (w : World) (kept : Client) (replies : List Replied) (result : Result More SyncFault)
      → SyncRunsIn k side w kept replies start now result → (c : List ℕ) → IsLeftBetween start now c → IsUndamaged client_area c
  syncs_whole k side w kept replies result runs c left =
      ⊎_elim (whole c) (λ stood. sound_whole c stood.sound)
      (left_by start now (StandsForCourse k side w replies start) lawful runs.any_moment c left)

  -- and behind the opening of a sync
  pub behind_whole : (opened : DiskState) → IsLawful opened → (k : Mechanism) (side : Side) (w : World) (replies : List Replied)
      → SyncsBehind k side w replies start opened now → (c : List ℕ) → IsLeftBetween opened now c → IsUndamaged client_area c
  behind_whole opened lawful_then k side w replies behind c left =
      ⊎_elim (λ was. ⊎_elim (whole c) (λ s. ⊎_elim (whole c) (λ stood. sound_whole c stood.sound) s) (behind.opening.any_moment.last c was))
      (λ stood. sound_whole c stood.sound)
      (left_by opened now (StandsForCourse k side w replies start) lawful_then
      (widen opened now (StandsForCourse k side w replies start)
      (λ d. opened.image d ⊎ StandsForCourse k side w replies start d) (λ d r. inr r) behind.passed) c left)

-- bytes that stand for what is kept and are read without damage hold a record
holds_of : (k : Mechanism) (c : List ℕ) (kept : Client) (o : Option (List ℕ)) → stored_record client_area c ≡ o
    → option_map (record_read k) o ≡ Some (Ok kept) → IsUndamaged client_area c
    → (text : List ℕ) × (area_reading (client_record_fault k) client_area c ≡ holds text)
holds_of k c kept None is stands whole = absurd (let e : None ≡ Some (Ok kept) = stands in cc)
holds_of k c kept (Some text) is stands whole =
    let reads : record_read k text ≡ Ok kept = (let e : Some (record_read k text) ≡ Some (Ok kept) = stands in cc) in
    (text, (subst (λ (o : Option (List ℕ)). OpensAs client_area o c) is whole) (client_record_fault k) (ap fault_of reads))

pub reads_whole : (k : Mechanism) (w : World) (side : Side) (disk : DiskState) → IsLawful disk → Always (IsUndamaged client_area) disk
    → IsLawfulWorld k w → ReadsAsSide k w side disk → ReadsWhole k w side disk
reads_whole k w side disk lawful whole lawful_world reads = record {
  lawful = lawful_world;
  reads = reads;
  undamaged = λ s told.
      let same : reads.bytes ≡ s = (let e : Some reads.bytes ≡ Some s = sym reads.told ∙ told in cc) in
      subst (λ (c : List ℕ). (text : List ℕ) × (area_reading (client_record_fault k) client_area c ≡ holds text)) same
      (holds_of k reads.bytes (kept_in k w side) (stored_record client_area reads.bytes) refl reads.stands
      (whole reads.bytes (lawful.seen_now reads.bytes reads.told)));
}
