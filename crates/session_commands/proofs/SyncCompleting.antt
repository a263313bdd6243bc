-- That a sync comes to its end.
use Rattle.std.proofs.Common.{Err, List, Ok, Option, Result, Some, [], ap, append_assoc, inl, inr, refl, subst, sym, ℕ, ◌++◌, ◌∙◌, ◌≡◌, ◌⊎◌}
use Rattle.std.specs.Prelude.{IfSome, option_map}
use Rattle.std.specs.List.{AllByRecursion}
use Rattle.dr_base.specs.Causes.{Rose}
use Rattle.dr_base.specs.declared.position.Side.{Side}
use Rattle.dr_disk.specs.State.{DiskState}
use Rattle.dr_model.specs.Machines.Worlds.{World}
use Rattle.dr_ports.specs.Wires.{EndsAt, IsAhead, IsAtEnd, Port, Told, connected, hung_up}
use Rattle.dr_ports.specs.declared.pipe.Part.TheVariants.{Flow, Gate}
use Rattle.endings.specs.declared.ending.Ending.{Ending}
use Rattle.endings.specs.declared.ending.Ending.TheVariants.{Done, NoMemory}
use Rattle.kem_laws.specs.Mechanism.{Mechanism}
use Rattle.relay_pipe.specs.Asking.{fault_at}
use Rattle.relay_pipe.specs.Exchanging.{exchanged}
use Rattle.relay_pipe.specs.declared.faults.PeerFault.{PeerFault}
use Rattle.relay_pipe.specs.declared.faults.PeerKind.TheVariants.{Wrong}
use Rattle.relay_wire.specs.Replies.{IsLawfulReplied, Replied}
use Rattle.session_model.specs.Clients.{Client}
use Rattle.sync_model.specs.Carried.{replied_bytes, request_bytes}
use Rattle.sync_model.specs.Courses.{course_of, made_requests}
use Rattle.sync_model.specs.Moves.{Ending as CourseEnding, box_is_full, denied_by, ended, inbox_full, no_such_box, wrong}
use Rattle.sync_model.specs.Parties.{Party}
use Rattle.sync_model.specs.declared.more.More.{More}
use Rattle.sync_model.proofs.Pending.{IsPending, not_cut, not_unread}
use Rattle.client.specs.declared.refusals.OpenRefusal.{OpenRefusal}
use Rattle.client.specs.declared.refusals.OpenRefusal.TheVariants.{Damaged as OpenDamaged, Memory as OpenMemory, NoSession as OpenNoSession, StoreFault as OpenFault}
use Rattle.client.specs.Syncing.Parties.{client_party}
use Rattle.client.specs.Syncing.Rounds.{sync_fault_of}
use Rattle.client.specs.Syncing.Syncs.{IsNoReply, IsUnheard, is_cut, is_unread}
use Rattle.client.specs.declared.syncing.faults.SyncFault.{SyncFault}
use Rattle.client.specs.declared.syncing.faults.SyncRefusal.TheVariants.{BoxFull as SyncBoxFull, Denied as SyncDenied, InboxFull as SyncInboxFull, Unknown as SyncUnknown}
use Rattle.client.specs.declared.syncing.faults.SyncFault.TheVariants.{Closed as SyncClosed, Link as SyncLink, Peer as SyncPeer, Refused as SyncRefused, Store as SyncStore, Write as SyncWrite}
use Rattle.session_commands.specs.Completing.{DidWork, NoneFailed, ReadsWhole}
use Rattle.session_commands.specs.SyncCompleting.{AnswersClient, AnswersEach, EndsCourse, IsOneReply, NoneFailedOver, SyncedToEnd, ending_of_course}
use Rattle.session_commands.specs.Opening.{ending_of_open}
use Rattle.session_commands.specs.Syncing.{CameToEnd, RunsSync, SyncEnds, ending_of_fault, ending_of_sync, was_synced, wasnt_linked, wasnt_synced}
use Rattle.session_commands.proofs.Completing.{unopened}

-- ---- what the link gives

as_pending : (bytes : List ℕ) → IsOneReply bytes → IsPending bytes
as_pending bytes is = record { reply = is.reply; lawful = is.lawful; whole = is.whole }

answered : (last : Port) (rest more : List ℕ) (fault : PeerFault) → IsPending (rest ++ more) → (EndsAt last → IsPending rest)
    → IsNoReply last rest fault → ⊥
answered last rest more fault pending at_end (is_unread bad whole reads) = not_unread rest more bad pending whole reads
answered last rest more fault pending at_end (is_cut partial ends) = not_cut rest (at_end ends) partial

no_silence : (p : Party Client) (kept : Client) (address : List ℕ) (link opened last left : Port) (replies : List Replied) (fault : PeerFault)
    → AllByRecursion IsLawfulReplied replies → AnswersEach p kept link → opened.told ≡ option_map (connected address) link.told → left.told ≡ option_map hung_up last.told
    → IfSome left.told (λ t. IsAhead t.now) → IsUnheard p kept replies opened last fault → ⊥
no_silence p kept address link opened last left replies fault lawful each connects ends ahead unheard =
    let made = request_bytes (made_requests p (course_of p kept replies)) in
    let got = replied_bytes replies ++ unheard.rest in
    let before = each.at.now in
    let after : Told = exchanged got made (connected address each.at) in
    let last_is : last.told ≡ Some after =
    unheard.told ∙ ap (option_map (exchanged got made)) (connects ∙ ap (option_map (connected address)) each.told) in
    let left_is : left.told ≡ Some (hung_up after) = ends ∙ ap (option_map hung_up) last_is in
    let more : IsAhead (hung_up after).now = subst (λ (o : Option Told). IfSome o (λ (t : Told). IsAhead t.now)) left_is ahead in
    answered last unheard.rest more.0 fault
    (as_pending (unheard.rest ++ more.0) (each.answers replies unheard.asked (unheard.rest ++ more.0) lawful unheard.waits
    (more.1 ∙ append_assoc before.received got more.0 ∙ ap (λ (bytes : List ℕ). before.received ++ bytes) (append_assoc (replied_bytes replies) unheard.rest more.0))))
    (λ at_end. as_pending unheard.rest (each.answers replies unheard.asked unheard.rest lawful unheard.waits
    (sym (subst (λ (o : Option Told). IfSome o (λ (t : Told). IsAtEnd t.now)) last_is at_end))))
    unheard.came

-- ---- how the sync ended

one_fault : (a b : SyncFault) → Some a ≡ Some b → b ≡ a
one_fault a b h = cc

same_ending : (how : CourseEnding) (fault : SyncFault) → sync_fault_of how ≡ Some fault → ending_of_fault fault ≡ ending_of_course how
same_ending (ended which) fault h = absurd (cc)
same_ending inbox_full fault h = ap ending_of_fault (one_fault (SyncRefused SyncInboxFull) fault h)
same_ending box_is_full fault h = ap ending_of_fault (one_fault (SyncRefused SyncBoxFull) fault h)
same_ending no_such_box fault h = ap ending_of_fault (one_fault (SyncRefused SyncUnknown) fault h)
same_ending (denied_by rule) fault h = ap ending_of_fault (one_fault (SyncRefused (SyncDenied rule)) fault h)
same_ending wrong fault h = ap ending_of_fault (one_fault (SyncPeer 2 Wrong) fault h)

ends_course : (p : Party Client) (kept : Client) (start now : DiskState) (opened last : Port) (replies : List Replied) (how : CourseEnding)
    (fault : SyncFault) → sync_fault_of how ≡ Some fault → AllByRecursion IsLawfulReplied replies
    → CameToEnd p kept replies how start now opened last → EndsCourse p kept start now (ending_of_fault fault) opened last
ends_course p kept start now opened last replies how fault is lawful came =
    record { replies = replies; lawful = lawful; how = how; came = came; ends = same_ending how fault is }

rose_between : (a b c d : ℕ) → b ≡ a → d ≡ c → Rose b c → Rose a d
rose_between a b c d first last rose = subst (λ (n : ℕ). Rose n d) first (subst (λ (n : ℕ). Rose b n) (sym last) rose)

comes_to_end : (p : Party Client) (kept : Client) (address : List ℕ) (start now : DiskState) (link opened last left : Port) (before after : ℕ)
    (replies : List Replied) (result : Result More SyncFault) → AllByRecursion IsLawfulReplied replies → AnswersEach p kept link → NoneFailed start now
    → NoneFailedOver link left before after → opened.told ≡ option_map (connected address) link.told → opened.faults Flow ≡ link.faults Flow
    → left.told ≡ option_map hung_up last.told → left.faults Flow ≡ last.faults Flow → IfSome left.told (λ t. IsAhead t.now)
    → SyncEnds p kept replies start now opened last before after result → EndsCourse p kept start now (ending_of_sync result) opened last
comes_to_end p kept address start now link opened last left before after replies (Ok which) lawful each none sound connects quiet ends counts ahead how =
    record { replies = replies; lawful = lawful; how = ended which; came = how; ends = refl }
comes_to_end p kept address start now link opened last left before after replies (Err (SyncRefused refusal)) lawful each none sound connects quiet ends counts ahead how =
    ends_course p kept start now opened last replies how.0 (SyncRefused refusal) how.1 lawful how.2
comes_to_end p kept address start now link opened last left before after replies (Err (SyncPeer at kind)) lawful each none sound connects quiet ends counts ahead (inl how) =
    ends_course p kept start now opened last replies how.0 (SyncPeer at kind) how.1 lawful how.2
comes_to_end p kept address start now link opened last left before after replies (Err (SyncPeer at kind)) lawful each none sound connects quiet ends counts ahead (inr how) =
    absurd (no_silence p kept address link opened last left replies (fault_at at kind) lawful each connects ends ahead how.0)
comes_to_end p kept address start now link opened last left before after replies (Err SyncLink) lawful each none sound connects quiet ends counts ahead how =
    absurd (sound.calls Flow (rose_between (link.faults Flow) (opened.faults Flow) (last.faults Flow) (left.faults Flow) quiet counts how.0.rose))
comes_to_end p kept address start now link opened last left before after replies (Err SyncWrite) lawful each none sound connects quiet ends counts ahead how =
    absurd (sound.writes how.2)
comes_to_end p kept address start now link opened last left before after replies (Err (SyncStore call)) lawful each none sound connects quiet ends counts ahead how =
    absurd (none call how.rose)
comes_to_end p kept address start now link opened last left before after replies (Err (SyncClosed call)) lawful each none sound connects quiet ends counts ahead how =
    absurd how

-- ---- the command

not_done : (refusal : OpenRefusal) → ending_of_open refusal ≡ Done → ⊥
not_done OpenMemory e = cc
not_done (OpenFault call) e = cc
not_done (OpenDamaged slot at) e = cc
not_done OpenNoSession e = cc

memory_only : (refusal : OpenRefusal) → DidWork (ending_of_open refusal) → ending_of_open refusal ≡ NoMemory
memory_only refusal (inl worked) = absurd (not_done refusal worked)
memory_only refusal (inr wanting) = wanting

pub sync_completes : {X L : Type 0} (state : X → DiskState) (port : L → Port) (k : Mechanism) (w : World) (side : Side) (address : List ℕ)
    (start now : X) (link left : L) (before after : ℕ) (ending : Ending) (lines : List ℕ) → ReadsWhole k w side (state start)
    → NoneFailed (state start) (state now) → NoneFailedOver (port link) (port left) before after
    → AnswersClient k (state start) (port link) → IfSome (port left).told (λ t. IsAhead t.now)
    → RunsSync state port k address start now link left before after ending lines
    → (ending ≡ NoMemory) ⊎ SyncedToEnd k address (state start) (state now) (port link) (port left) ending
sync_completes state port k w side address start now link left before after ending lines whole none sound answers ahead (wasnt_synced refusal why leaves same in_worlds) =
    inl (memory_only refusal (unopened state k w side start now refusal whole none why))
sync_completes state port k w side address start now link left before after ending lines whole none sound answers ahead (wasnt_linked kept read leaves told flow rose in_worlds) =
    absurd (sound.calls Gate rose)
sync_completes state port k w side address start now link left before after ending lines whole none sound answers ahead (was_synced kept replies result read lawful transfers arrived leaves talk gate in_worlds) =
    inr (record {
      kept = kept;
      read = read;
      course = record {
        opened = talk.opened;
        last = talk.last;
        connects = talk.connects;
        quiet = talk.quiet;
        talks =
            comes_to_end (client_party k [] kept) kept address (state start) (state now) (port link) talk.opened talk.last (port left) before after
            replies result lawful (answers kept read) none sound talk.connects talk.quiet talk.ends talk.counts ahead talk.talks;
        ends = talk.ends;
        counts = talk.counts;
      };
    })
