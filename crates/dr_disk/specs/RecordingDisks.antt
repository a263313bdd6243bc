-- What a disk that records its calls shows.
use Rattle.std.specs.Prelude.{◌≡◌, ◌<◌, ◌≤◌, ◌+◌, ℕ, [], length, replicate, Some}
use Rattle.dr_disk.specs.declared.call.Call.{Call}
use Rattle.dr_disk.specs.declared.call.Mode.{Mode}
use Rattle.dr_disk.specs.declared.recording.RecordingDisk.{RecordingDisk}
use Rattle.dr_disk.specs.State.{DiskState, IsLawful, IsSettled}
use Rattle.dr_disk.specs.Recorded.{events_of, recording_state}
use Rattle.dr_disk.specs.RecordedLaws.{recording_lawful}

abbrev pub recording_state_of : RecordingDisk → DiskState
recording_state_of disk = recording_state disk.size (events_of disk.tape.calls.items disk.tape.bytes.items) disk.platter.bytes.items disk.platter.durable.items
    disk.platter.asked.items disk.platter.marks.items disk.full disk.passed (record { reads = 0; writes = disk.writes; syncs = disk.syncs; tried = disk.tried })

pub recording_lawful_of : (disk : RecordingDisk) → IsLawful (recording_state_of disk)
recording_lawful_of disk = recording_lawful disk.size (events_of disk.tape.calls.items disk.tape.bytes.items) disk.platter.bytes.items disk.platter.durable.items
    disk.platter.asked.items disk.platter.marks.items disk.full disk.passed (record { reads = 0; writes = disk.writes; syncs = disk.syncs; tried = disk.tried })
    disk.platter.agrees disk.platter.asks disk.platter.one_mark_each disk.durable disk.marks

-- whether its tape has room for a call with this many bytes
abbrev pub HasRoom : ℕ → RecordingDisk → Type 0
HasRoom n disk = (length disk.tape.calls.items < disk.tape.calls_room) × (length disk.tape.bytes.items + n ≤ disk.tape.bytes_room)

-- a new disk of this many zeros: no call has passed or failed, and its tape has room for this many calls and bytes
pub record IsNewRecording (size calls bytes : ℕ) (disk : RecordingDisk) : Type 0 where
  pub zeros : (recording_state_of disk).seen ≡ Some (replicate size 0)
  pub settled : IsSettled (recording_state_of disk)
  pub leaves : (mode : Mode) → (recording_state_of disk).leaves mode ≡ Some (replicate size 0)
  pub passed : (recording_state_of disk).passed ≡ Some 0
  pub reads : (recording_state_of disk).reads ≡ Some 0
  pub faults : (call : Call) → (recording_state_of disk).faults call ≡ 0
  pub calls_room : disk.tape.calls_room ≡ calls
  pub bytes_room : disk.tape.bytes_room ≡ bytes
  pub empty : disk.tape.calls.items ≡ []
