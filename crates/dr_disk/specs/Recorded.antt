-- The writes and syncs of a disk, and what a crash after each of them might have left.
use Rattle.std.specs.Prelude.{◌+◌, ◌≤◌, ℕ, Bool, true, false, List, [], ◌∷◌, length, replicate, take, drop, Some, None, if◌then◌else◌}
use Rattle.dr_disk.specs.declared.tape.Recorded.{Recorded}
use Rattle.dr_disk.specs.Bytes.{overwritten}
use Rattle.dr_disk.specs.State.{DiskState, untold_fate}
use Rattle.dr_disk.specs.Memory.{Counts, IsImage, count_of, left_by, marked, told_count}

pub data Event : Type 0 where
  written : ℕ → List ℕ → Event
  synced : Event

-- the bytes as read, as the last sync left them, and which are unsynced
pub record Bits : Type 0 where
  pub bytes : List ℕ
  pub durable : List ℕ
  pub marks : List Bool

abbrev pub after : Bits → Event → Bits
after bits (written at new) = record { bytes = overwritten bits.bytes at new; durable = bits.durable; marks = marked bits.marks at (length new) }
after bits synced = record { bytes = bits.bytes; durable = bits.bytes; marks = replicate (length bits.marks) false }

abbrev pub replayed : Bits → List Event → Bits
replayed bits [] = bits
replayed bits (event ∷ events) = replayed (after bits event) events

abbrev pub blank : ℕ → Bits
blank size = record { bytes = replicate size 0; durable = replicate size 0; marks = replicate size false }

-- what a crash after the first i of these events might have left
pub record WasImage (size : ℕ) (events : List Event) (from : ℕ) (c : List ℕ) : Type 0 where
  pub index : ℕ
  pub later : from ≤ index
  pub within : index ≤ length events
  pub image : IsImage (replayed (blank size) (take index events)).durable (replayed (blank size) (take index events)).marks c

-- the events on a tape, whose bytes lie one after the other
abbrev pub event_of : Recorded → List ℕ → Event
event_of call piece = if call.is_sync then synced else written call.at piece

abbrev pub events_of : List Recorded → List ℕ → List Event
events_of [] piece = []
events_of (call ∷ calls) bytes = event_of call (take call.len bytes) ∷ events_of calls (drop call.len bytes)

abbrev pub total_of : List Recorded → ℕ
total_of [] = 0
total_of (call ∷ calls) = call.len + total_of calls

-- a disk in memory whose events so far are these; `full` once a write found no room on the tape
abbrev pub recording_state : ℕ → List Event → List ℕ → List ℕ → List ℕ → List Bool → Bool → ℕ → Counts → DiskState
recording_state size events bytes durable asked marks full passed counts = record {
  size = length bytes;
  seen = Some bytes;
  image = IsImage durable marks;
  moment = length events;
  since = WasImage size events;
  faults = count_of counts;
  leaves = λ mode. if full then None else Some (left_by durable asked marks mode);
  passed = told_count passed;
  reads = told_count counts.tried;
  keeps = true;
  fate = untold_fate;
}
