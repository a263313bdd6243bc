-- The program's limits, as numbers: those of its own, and those of the crates below it.
use Rattle.std.specs.Prelude.{◌≡◌}
use Rattle.dr_base.specs.Limits.{HasLimits as HasConversations}
use Rattle.bodies.specs.Limits.{HasLimits as HasBodies}
use Rattle.pages.specs.Limits.{HasLimits as HasPages}
use Rattle.book_store.specs.Limits.{HasLimits as HasBooks}
use Rattle.record_pages.specs.Limits.{HasLimits as HasTables}
use Rattle.session_record.specs.Limits.{HasLimits as HasRecords}
use Rattle.client.specs.Limits.{HasLimits as HasPlaces}
use Rattle.command_lines.specs.Limits.{HasLimits as HasInputs}
use Rattle.relay_wire.specs.Limits.{HasLimits as HasFrames}
use Rattle.relay_core.specs.Limits.{HasLimits as HasBoxes}
use Rattle.relay_link.specs.Limits.{HasLimits as HasLinks}
use Rattle.relay_command.specs.Limits.{HasLimits as HasRelays}
use Rattle.sync_model.specs.Limits.{HasLimits as HasSyncs}
use Rattle.command_words.specs.Limits.{HasLimits as HasWords}
use Rattle.scripts.specs.Limits.{HasLimits as HasLines}
use Rattle.messenger_cli.specs.declared.playing.TheConstants.{SCRIPT_LIMIT}
use Rattle.messenger_cli.specs.declared.program.TheConstants.{DISK_SIZE}

pub record HasLimits : Type 0 where
  pub conversations : HasConversations
  pub bodies : HasBodies
  pub records : HasRecords
  pub pages : HasPages
  pub tables : HasTables
  pub books : HasBooks
  pub places : HasPlaces
  -- bytes of the state file
  pub disk : DISK_SIZE ≡ 1572864
  pub inputs : HasInputs
  -- bytes of a script
  pub script : SCRIPT_LIMIT ≡ 65536
  pub lines : HasLines
  pub words : HasWords
  pub frames : HasFrames
  pub boxes : HasBoxes
  pub relays : HasRelays
  pub syncs : HasSyncs
  pub links : HasLinks
