-- What is known of a disk after a run of a command, by what was known before it.
use Rattle.std.specs.Prelude.{Err, List, Result, [], ℕ, ◌∷◌}
use Rattle.dr_base.specs.declared.position.Side.{Side}
use Rattle.dr_disk.specs.State.{DiskState}
use Rattle.dr_model.specs.Machines.WorldActs.{act_in}
use Rattle.dr_model.specs.Machines.Worlds.{World}
use Rattle.endings.specs.declared.ending.Ending.{Ending}
use Rattle.kem_laws.specs.Mechanism.{Mechanism}
use Rattle.relay_wire.specs.Replies.{Replied}
use Rattle.session_model.specs.Clients.{Client}
use Rattle.sync_model.specs.Courses.{begun}
use Rattle.sync_model.specs.declared.more.More.{More}
use Rattle.client.specs.Moments.{Known, Link, known_after_sync, reached_by, settled_in, with_doubts}
use Rattle.client.specs.Syncing.InWorlds.{course_in}
use Rattle.client.specs.Syncing.Parties.{world_party}
use Rattle.client.specs.declared.syncing.faults.SyncFault.{SyncFault}
use Rattle.client.specs.declared.syncing.faults.SyncFault.TheVariants.{Store}
use Rattle.command_lines.specs.Acting.{ClientAsk}
use Rattle.command_lines.specs.InWorlds.{goes_on, is_in_doubt, stays_refused, stays_undrawn, stays_unopened}
use Rattle.session_commands.specs.Acting.{RunsIn}
use Rattle.command_lines.specs.Showing.{shows_nothing, shows_world}
use Rattle.session_commands.specs.Showing.{ShowsIn}
use Rattle.session_commands.specs.Syncing.{broken_of, made_of}

-- after a command that lets the client act once, in the world that it read: settled by all but a failing call on the disk
abbrev pub acted_known : {k : Mechanism} {w : World} {side : Side} {asked : ClientAsk} {start now : DiskState} {ending : Ending} {lines : List ℕ}
    → RunsIn k w side asked start now ending lines → Known → Known
acted_known (stays_unopened refusal on) known = known
acted_known {w = w} (stays_undrawn lacks on rests) known = settled_in w
acted_known {w = w} (stays_refused act refusal asks fair answer on rests) known = settled_in w
acted_known {k = k} {w = w} {side = side} (goes_on act asks fair on rests) known = settled_in (act_in k w side act).next
acted_known {k = k} {w = w} {side = side} (is_in_doubt act asks fair on) known = with_doubts known ((act_in k w side act).next ∷ [])

-- after a crash in it
abbrev pub cut_known : {k : Mechanism} {w : World} {side : Side} {asked : ClientAsk} {start now : DiskState} {ending : Ending} {lines : List ℕ}
    → RunsIn k w side asked start now ending lines → Known → Known
cut_known {k = k} {w = w} {side = side} (goes_on act asks fair on rests) known = with_doubts known ((act_in k w side act).next ∷ [])
cut_known {k = k} {w = w} {side = side} (is_in_doubt act asks fair on) known = with_doubts known ((act_in k w side act).next ∷ [])
cut_known _ known = known

-- after one that shows what is kept
abbrev pub shown_known : {k : Mechanism} {w : World} {side : Side} {shows : Client → List ℕ} {start now : DiskState} {ending : Ending} {lines : List ℕ}
    → ShowsIn k w side shows start now ending lines → Known → Known
shown_known (shows_nothing refusal on) known = known
shown_known {w = w} (shows_world on rests) known = settled_in w

-- after a crash in a sync, in the world that it read
abbrev pub cut_in_sync : Mechanism → Side → World → List Replied → Known → Known
cut_in_sync k side w replies known =
    with_doubts known (reached_by (world_party k [] side w) (begun (world_party k [] side w) w) replies)

-- after one: the world that its steps led to, and where a call on the disk failed in the last one,
-- what that leads to in doubt
abbrev pub synced_known : Mechanism → Side → World → List Replied → Result More SyncFault → Known
synced_known k side w replies (Err (Store call)) =
    known_after_sync k [] side w (made_of replies) (broken_of replies)
synced_known k side w replies _ = settled_in (course_in k [] side w replies).state

-- whatever a command that asks this comes to in a world, it is a link from before it to after it
abbrev pub LinksActs : Mechanism → Side → Known → World → ClientAsk → DiskState → DiskState → Type 0
LinksActs k side known w asked start now =
    (ending : Ending) (lines : List ℕ) (runs : RunsIn k w side asked start now ending lines) → Link k side start now known (acted_known runs known)

-- or from before it to what a crash in it left
abbrev pub LinksCuts : Mechanism → Side → Known → World → ClientAsk → DiskState → DiskState → DiskState → Type 0
LinksCuts k side known w asked start now crashed =
    (ending : Ending) (lines : List ℕ) (runs : RunsIn k w side asked start now ending lines) → Link k side start crashed known (cut_known runs known)
