-- A sync is a run, and so is a crash in it.
use Rattle.std.proofs.Common.{Err, List, Ok, Result, Some, [], inl, refl, sym, ℕ, ◌∙◌, ◌≡◌}
use Rattle.dr_base.specs.declared.position.Side.{Side}
use Rattle.dr_disk.specs.State.{DiskState}
use Rattle.dr_model.specs.Machines.WorldSides.{kept_in}
use Rattle.dr_model.specs.Machines.Worlds.{World}
use Rattle.dr_model.specs.Theorems.LawfulWorlds.{IsLawfulWorld}
use Rattle.dr_ports.specs.States.{DrawsState}
use Rattle.dr_ports.specs.Wires.{Port}
use Rattle.endings.specs.declared.ending.Ending.{Ending}
use Rattle.endings.specs.declared.ending.Ending.TheVariants.{DiskFault, Done, LinkFault}
use Rattle.kem_laws.specs.Mechanism.{Mechanism}
use Rattle.relay_wire.specs.Replies.{Replied}
use Rattle.session_model.specs.Clients.{Client}
use Rattle.sync_model.specs.declared.more.More.{More}
use Rattle.client.specs.Grounds.{Grounds}
use Rattle.client.specs.Moments.{IsAmongKnown, Known}
use Rattle.client.specs.Opening.{ReadsAsSide}
use Rattle.client.specs.Syncing.InWorlds.{AreUnforged, IsKeptIn}
use Rattle.client.specs.declared.syncing.faults.SyncFault.{SyncFault}
use Rattle.client.specs.declared.syncing.faults.SyncFault.TheVariants.{Closed, Link as BrokenLink, Peer, Refused, Store, Write}
use Rattle.session_commands.specs.Disks.{ReadsAsKept}
use Rattle.session_commands.specs.Histories.{cut_in_sync, synced_known}
use Rattle.session_commands.specs.Opening.{ending_of_open}
use Rattle.session_commands.specs.Syncing.{RunsSync, ending_of_sync, was_synced, wasnt_linked, wasnt_synced}
use Rattle.session_commands.specs.WholeRuns.{IsCutFrom, Ran, stayed, synced, was_cut_staying, was_cut_syncing}
use Rattle.session_commands.proofs.Talks.{unopened_undone}
use Rattle.conversation.specs.Joints.{Joint, known_in}
use Rattle.conversation.specs.Replies.{replies_read}
use Rattle.conversation.specs.Shown.{HasSynced, TellsOpened}
use Rattle.conversation.proofs.Counts.{none_cut}
use Rattle.conversation.proofs.Onward.Printing.{sync_lines}
use Rattle.conversation.proofs.Onward.Telling.{tells_nothing}

done_settled : (k : Mechanism) (side : Side) (v : World) (replies : List Replied)
    (result : Result More SyncFault) → ending_of_sync result ≡ Done
    → (synced_known k side v replies result).doubtful ≡ []
done_settled k side v replies (Ok _) is = refl
done_settled k side v replies (Err (Closed call)) is = refl
done_settled k side v replies (Err BrokenLink) is = refl
done_settled k side v replies (Err (Peer at what)) is = refl
done_settled k side v replies (Err (Refused refusal)) is = refl
done_settled k side v replies (Err Write) is = refl
done_settled k side v replies (Err (Store call)) is =
    absurd (let e : DiskFault ≡ Done = is in cc)

-- ---- the run

-- a sync is told of the world that was read and of the one that is known then
pub record SyncsKnown (side : Side) (before : Known) (ending : Ending) (text : List ℕ)
    (known : Known) : Type 0 where
  pub read : World
  pub which : IsAmongKnown before read
  pub tells : TellsOpened side read known.last text
  pub settled : ending ≡ Done → known.doubtful ≡ []

pub has_synced : (k : Mechanism) (side : Side) (before : Known) (ending : Ending) (text : List ℕ)
    (j : Joint) → SyncsKnown side before ending text (known_in k side j)
    → HasSynced side before j ending text
has_synced k side before ending text j syncs = record {
  read = syncs.read;
  known = syncs.which;
  tells = syncs.tells;
  settled = λ is. none_cut k side j (syncs.settled is);
}

-- what a read gives, and what is read there
kept_there : (k : Mechanism) (side : Side) (kept : Client) (v : World) (start : DiskState)
    → IsLawfulWorld k v → ReadsAsSide k v side start → ReadsAsKept k start kept
    → IsKeptIn k side kept v
kept_there k side kept v start lawful reads held = record {
  lawful = lawful;
  keeps = let e : Some (Ok kept) ≡ Some (Ok (kept_in k v side)) =
      sym (held reads.bytes reads.told) ∙ reads.stands in cc;
}

module _ {X W L : Type 0} (state : X → DiskState) (draws : W → DrawsState) (port : L → Port)
    (k : Mechanism) (grounds : Grounds k) (side : Side) (known : Known) (v : World)
    (which : IsAmongKnown known v) (lawful : IsLawfulWorld k v) (a b : X)
    (reads : ReadsAsSide k v side (state a)) (address : List ℕ) (link left : L)
    (before after : ℕ) where
  abbrev Runs : Ending → List ℕ → Type 0
  Runs = RunsSync state port k address a b link left before after

  no_sync : (ending : Ending) → (ending ≡ Done → ⊥) → SyncsKnown side known ending [] known
  no_sync ending never = record {
    read = known.last;
    which = inl refl;
    tells = tells_nothing side known.last;
    settled = λ is. absurd (never is);
  }

  pub sync_ran : (ending : Ending) (lines : List ℕ) (runs : Runs ending lines)
      → AreUnforged k [] side v (replies_read runs)
      → (later : Known) × Ran state draws k side a b known later
      × SyncsKnown side known ending lines later
  sync_ran _ _ (wasnt_synced refusal why leaves alone in_worlds) fair = (
    known,
    stayed known v which (in_worlds v side lawful reads),
    no_sync (ending_of_open refusal) (unopened_undone refusal),
  )
  sync_ran _ _ (wasnt_linked kept read leaves told flow rose in_worlds) fair = (
    known,
    stayed known v which (in_worlds v side lawful reads),
    no_sync LinkFault (λ is. absurd (let e : LinkFault ≡ Done = is in cc)),
  )
  sync_ran _ _
      (was_synced kept replies result read are moved opens leaves talk gate in_worlds) fair = (
        synced_known k side v replies result,
        synced known v which kept replies result fair (in_worlds v side lawful reads fair),
        record {
          read = v;
          which = which;
          tells = sync_lines k grounds side kept v (kept_there k side kept v (state a) lawful reads read)
              replies fair result;
          settled = done_settled k side v replies result;
        },
      )

  pub sync_cut : (crashed : X) → IsCutFrom (state a) (state b) (state crashed)
      → (ending : Ending) (lines : List ℕ) (runs : Runs ending lines)
      → AreUnforged k [] side v (replies_read runs)
      → (later : Known) × Ran state draws k side a crashed known later
  sync_cut crashed cut _ _ (wasnt_synced refusal why leaves alone in_worlds) fair =
      (known, was_cut_staying known v which b (in_worlds v side lawful reads) cut)
  sync_cut crashed cut _ _ (wasnt_linked kept read leaves told flow rose in_worlds) fair =
      (known, was_cut_staying known v which b (in_worlds v side lawful reads) cut)
  sync_cut crashed cut _ _
      (was_synced kept replies result read are moved opens leaves talk gate in_worlds) fair = (
        cut_in_sync k side v replies known,
        was_cut_syncing known v which kept replies b result fair (in_worlds v side lawful reads fair) cut,
      )
