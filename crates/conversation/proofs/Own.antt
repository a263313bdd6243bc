-- What a side runs by itself leads the world on by acts of its own.
use Rattle.std.proofs.Common.{Err, List, Ok, Result, [], length, subst, sym, ℕ, ◌-◌}
use Rattle.std.specs.Prelude.{All}
use Rattle.std.proofs.lemmas.List.{take-append-drop}
use Rattle.dr_base.specs.declared.position.Side.{Side}
use Rattle.dr_disk.specs.State.{DiskState}
use Rattle.dr_model.specs.Machines.WorldActs.{act_in}
use Rattle.dr_model.specs.Machines.Worlds.{World}
use Rattle.dr_ports.specs.States.{DrawsState}
use Rattle.endings.specs.declared.ending.Ending.{Ending}
use Rattle.kem_laws.specs.Mechanism.{Mechanism}
use Rattle.relay_wire.specs.Replies.{Replied}
use Rattle.session_model.specs.Clients.{Client}
use Rattle.sync_model.specs.Courses.{begun}
use Rattle.sync_model.specs.declared.more.More.{More}
use Rattle.client.specs.Moments.{IsActed, IsAmongKnown, Known}
use Rattle.client.specs.Syncing.InWorlds.{AreUnforged, course_in}
use Rattle.client.specs.Syncing.Parties.{world_party}
use Rattle.client.specs.declared.syncing.faults.SyncFault.{SyncFault}
use Rattle.client.specs.declared.syncing.faults.SyncFault.TheVariants.{Closed, Link as LinkFault, Peer, Refused, Store, Write}
use Rattle.client.proofs.Later.{acted_none, acted_once, acted_twice, course_acted, front_acted}
use Rattle.command_lines.specs.Acting.{ClientAsk}
use Rattle.session_commands.specs.Histories.{acted_known, cut_known, shown_known, synced_known}
use Rattle.command_lines.specs.InWorlds.{goes_on, is_in_doubt, stays_refused, stays_undrawn, stays_unopened}
use Rattle.session_commands.specs.Acting.{RunsIn}
use Rattle.command_lines.specs.Showing.{shows_nothing, shows_world}
use Rattle.session_commands.specs.Showing.{ShowsIn}
use Rattle.session_commands.specs.WholeRuns.{Ran, acted, asked_by, showed, stayed, synced, was_cut_acting, was_cut_showing, was_cut_shown, was_cut_staying, was_cut_synced, was_cut_syncing, was_left_alone}
use Rattle.session_commands.specs.Syncing.{broken_of, made_of}
use Rattle.session_commands.proofs.KnownWorlds.{one_has}

module _ (k : Mechanism) (side : Side) where
  among_acted : (known : Known) (w : World) → IsAmongKnown known w
      → All (IsActed k side known.last) known.doubtful → IsActed k side known.last w
  among_acted known w which are =
      one_has (IsActed k side known.last) known w (acted_none k side known.last) are which

  module _ (known : Known) (w : World) (which : IsAmongKnown known w)
      (are : All (IsActed k side known.last) known.doubtful) (start now : DiskState) where
    by_acting : (asked : ClientAsk) (ending : Ending) (lines : List ℕ)
        (runs : RunsIn k w side asked start now ending lines)
        → IsActed k side known.last (acted_known runs known).last
    by_acting asked ending lines (stays_unopened refusal on) = acted_none k side known.last
    by_acting asked ending lines (stays_undrawn lacks on rests) = among_acted known w which are
    by_acting asked ending lines (stays_refused act refusal asks fair answer on rests) =
        among_acted known w which are
    by_acting asked ending lines (goes_on act asks fair on rests) =
        acted_twice k side known.last w (act_in k w side act).next (among_acted known w which are)
        (acted_once k side w act fair)
    by_acting asked ending lines (is_in_doubt act asks fair on) = acted_none k side known.last

    by_cutting : (asked : ClientAsk) (ending : Ending) (lines : List ℕ)
        (runs : RunsIn k w side asked start now ending lines)
        → IsActed k side known.last (cut_known runs known).last
    by_cutting asked ending lines (stays_unopened refusal on) = acted_none k side known.last
    by_cutting asked ending lines (stays_undrawn lacks on rests) = acted_none k side known.last
    by_cutting asked ending lines (stays_refused act refusal asks fair answer on rests) =
        acted_none k side known.last
    by_cutting asked ending lines (goes_on act asks fair on rests) = acted_none k side known.last
    by_cutting asked ending lines (is_in_doubt act asks fair on) = acted_none k side known.last

    by_showing : (shows : Client → List ℕ) (ending : Ending) (lines : List ℕ)
        (runs : ShowsIn k w side shows start now ending lines)
        → IsActed k side known.last (shown_known runs known).last
    by_showing shows ending lines (shows_nothing refusal on) = acted_none k side known.last
    by_showing shows ending lines (shows_world on rests) = among_acted known w which are

    module _ (replies : List Replied) (fair : AreUnforged k [] side w replies) where
      by_course : IsActed k side known.last (course_in k [] side w replies).state
      by_course =
          acted_twice k side known.last w (course_in k [] side w replies).state
          (among_acted known w which are)
          (course_acted k [] side w (begun (world_party k [] side w) w) replies fair)

      -- all but the step that broke off
      by_steps : IsActed k side known.last (course_in k [] side w (made_of replies)).state
      by_steps =
          let whole = take-append-drop (length replies - 1) replies in
          acted_twice k side known.last w (course_in k [] side w (made_of replies)).state
          (among_acted known w which are)
          (front_acted k [] side w (made_of replies) (broken_of replies)
          (subst (AreUnforged k [] side w) (sym whole) fair))

      pub by_syncing : (result : Result More SyncFault)
          → IsActed k side known.last (synced_known k side w replies result).last
      by_syncing (Ok _) = by_course
      by_syncing (Err (Closed call)) = by_course
      by_syncing (Err LinkFault) = by_course
      by_syncing (Err (Peer at what)) = by_course
      by_syncing (Err (Refused refusal)) = by_course
      by_syncing (Err Write) = by_course
      by_syncing (Err (Store call)) = by_steps

module _ {X W : Type 0} (state : X → DiskState) (draws : W → DrawsState) (k : Mechanism)
    (side : Side) (a b : X) where
  pub ran_acts : (before after : Known) (ran : Ran state draws k side a b before after)
      → All (IsActed k side before.last) before.doubtful
      → IsActed k side before.last after.last
  ran_acts before after (acted known w which command ending lines runs) are =
      by_acting k side known w which are (state a) (state b) (asked_by draws k command) ending lines
      runs
  ran_acts before after (was_cut_acting known w which command now ending lines runs leaves) are =
      by_cutting k side known w which are (state a) (state now) (asked_by draws k command) ending
      lines runs
  ran_acts before after (showed known w which shows ending lines runs) are =
      by_showing k side known w which are (state a) (state b) shows ending lines runs
  ran_acts before after (was_cut_showing known w which shows now ending lines runs leaves) are =
      acted_none k side known.last
  ran_acts before after (was_cut_shown known w which shows opened ending lines runs alone) are =
      by_showing k side known w which are (state a) (state opened) shows ending lines runs
  ran_acts before after (synced known w which kept replies result fair runs) are =
      by_syncing k side known w which are (state a) (state b) replies fair result
  ran_acts before after (was_cut_syncing known w which kept replies now result fair runs leaves) are = acted_none k side known.last
  ran_acts before after
      (was_cut_synced known w which kept replies opened now result fair runs behind leaves) are =
      among_acted k side known w which are
  ran_acts before after (stayed known w which on) are = acted_none k side known.last
  ran_acts before after (was_cut_staying known w which now on leaves) are =
      acted_none k side known.last
  ran_acts before after (was_left_alone known alone) are = acted_none k side known.last
