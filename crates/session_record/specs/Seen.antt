-- What the groups that code read stand for.
use Rattle.std.specs.Prelude.{List, Option, option_map}
use Rattle.boxes.specs.Entries.{Entry}
use Rattle.boxes.specs.Posts.{Post}
use Rattle.dr_base.specs.declared.key.Kept.{Kept}
use Rattle.dr_base.specs.declared.position.Position.{Position}
use Rattle.session_model.specs.Seen.{phase_seen, reception_seen}
use Rattle.session_model.specs.declared.relay_keys.RelayKeys.{RelayKeys}
use Rattle.session_record.specs.Groups.{Keys, boxes_of}
use Rattle.session_record.specs.Record.{Groups}
use Rattle.session_record.specs.declared.groups.Heading.{Heading}
use Rattle.session_record.specs.declared.groups.Keys.{Keys as KeysRead}

-- with the keys that are kept
abbrev pub keys_seen : KeysRead → List Kept → Keys
keys_seen keys kept = record {
  phase = phase_seen keys.phase;
  previous = keys.previous;
  receiving = option_map reception_seen keys.receiving;
  kept = kept;
}

-- what stands behind the boxes
abbrev pub Behind : Type 0
Behind = List Position × Option RelayKeys

-- and with what the boxes hold
abbrev pub groups_read : Heading → KeysRead → List Kept → Behind → List Entry → List Post → Groups
groups_read h keys kept behind inbox outbox =
    (h, (keys_seen keys kept, (boxes_of (inbox, outbox), behind)))
