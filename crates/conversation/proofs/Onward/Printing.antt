-- What a sync prints is told of the world that it read and of the one that it leads to.
use Rattle.std.proofs.Common.{Err, List, Ok, Result, [], ap, length, refl, subst, sym, ℕ, ◌-◌, ◌++◌, ◌∙◌, ◌≡◌}
use Rattle.std.proofs.lemmas.List.{take-append-drop}
use Rattle.dr_base.specs.declared.position.Side.{Side}
use Rattle.dr_model.specs.Machines.Acts.{taking}
use Rattle.dr_model.specs.Machines.Worlds.{World}
use Rattle.dr_model.specs.Theorems.Fairness.{IsUnforged}
use Rattle.kem_laws.specs.Mechanism.{Mechanism}
use Rattle.relay_wire.specs.Replies.{Replied}
use Rattle.session_model.specs.Clients.{Client}
use Rattle.sync_model.proofs.Alike.{alike}
use Rattle.sync_model.specs.Courses.{all_lines, begun, course_of, last_line}
use Rattle.sync_model.specs.Moves.{Wait}
use Rattle.sync_model.specs.Simulation.{AreAlike, IsSameCourse}
use Rattle.sync_model.specs.declared.more.More.{More}
use Rattle.client.specs.Grounds.{Grounds}
use Rattle.client.specs.Syncing.InWorlds.{AreUnforged, IsKeptIn, course_in}
use Rattle.client.specs.Syncing.Keys.{keys_in}
use Rattle.client.specs.Syncing.Lines.{answer_line, own_box, peers_box}
use Rattle.client.specs.Syncing.Parties.{client_party, is_inbox_full, oldest_sent, waiting, world_party}
use Rattle.client.specs.declared.syncing.faults.SyncFault.{SyncFault}
use Rattle.client.specs.declared.syncing.faults.SyncFault.TheVariants.{Closed, Link as BrokenLink, Peer, Refused, Store, Write}
use Rattle.client.proofs.Syncs.Worlds.{answers, fair_front, next_kept}
use Rattle.session_commands.specs.Histories.{synced_known}
use Rattle.session_commands.specs.Syncing.{broken_of, lines_of_sync, made_of}
use Rattle.conversation.specs.Shown.{TellsOpened}
use Rattle.conversation.proofs.Onward.Telling.{course_tells, whole_tells}

module _ (k : Mechanism) (grounds : Grounds k) (side : Side) (kept : Client) (v : World)
    (is : IsKeptIn k side kept v) where
  alike_parties : AreAlike (client_party k [] kept) (world_party k [] side v) (IsKeptIn k side)
      (λ (turn : World) (packet : List ℕ). IsUnforged k turn side packet)
  alike_parties = record {
    own = ap own_box is.keeps;
    keys = ap keys_in is.keeps;
    peers = ap peers_box is.keeps;
    stored_line = λ number. refl;
    end_line = λ which. refl;
    outbox = λ s t at. ap waiting at.keeps;
    sent = λ s t at. next_kept k grounds [] side s t at oldest_sent tt;
    takes = λ s t packet at fair. record {
      line = ap (answer_line []) (answers k grounds [] side s t at (taking packet) fair);
      full = ap is_inbox_full (answers k grounds [] side s t at (taking packet) fair);
      next = next_kept k grounds [] side s t at (taking packet) fair;
    };
  }

  same_course : (replies : List Replied) → AreUnforged k [] side v replies
      → IsSameCourse (IsKeptIn k side) (course_of (client_party k [] kept) kept replies)
      (course_in k [] side v replies)
  same_course replies fair =
      alike (client_party k [] kept) (world_party k [] side v) (IsKeptIn k side)
      (λ (turn : World) (packet : List ℕ). IsUnforged k turn side packet) alike_parties kept v is
      replies fair

  module _ (replies : List Replied) (fair : AreUnforged k [] side v replies) where
    whole_lines : TellsOpened side v (course_in k [] side v replies).state
        (all_lines (client_party k [] kept) (course_of (client_party k [] kept) kept replies))
    whole_lines =
        let same = same_course replies fair in
        let text_is : all_lines (world_party k [] side v) (course_in k [] side v replies)
        ≡ all_lines (client_party k [] kept) (course_of (client_party k [] kept) kept replies) =
        ap (λ (text : List ℕ). text ++ last_line (world_party k [] side v) (course_in k [] side v replies).wait)
        (sym same.lines)
        ∙ ap (λ (wait : Wait). (course_of (client_party k [] kept) kept replies).lines
        ++ last_line (client_party k [] kept) wait) (sym same.wait) in
        subst (TellsOpened side v (course_in k [] side v replies).state) text_is
        (whole_tells k side v replies)

    made_lines : TellsOpened side v (course_in k [] side v (made_of replies)).state
        (course_of (client_party k [] kept) kept (made_of replies)).lines
    made_lines =
        let whole = take-append-drop (length replies - 1) replies in
        let front = fair_front (world_party k [] side v)
        (λ (turn : World) (packet : List ℕ). IsUnforged k turn side packet) (made_of replies)
        (broken_of replies) (begun (world_party k [] side v) v)
        (subst (AreUnforged k [] side v) (sym whole) fair) in
        subst (TellsOpened side v (course_in k [] side v (made_of replies)).state)
        (sym (same_course (made_of replies) front).lines) (course_tells k side v (made_of replies))

    pub sync_lines : (result : Result More SyncFault)
        → TellsOpened side v (synced_known k side v replies result).last
        (lines_of_sync (client_party k [] kept) kept replies result)
    sync_lines (Ok _) = whole_lines
    sync_lines (Err (Closed call)) = whole_lines
    sync_lines (Err BrokenLink) = whole_lines
    sync_lines (Err (Peer at what)) = whole_lines
    sync_lines (Err (Refused refusal)) = whole_lines
    sync_lines (Err Write) = whole_lines
    sync_lines (Err (Store call)) = made_lines
