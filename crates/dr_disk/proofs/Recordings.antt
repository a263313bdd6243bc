-- A new disk that records its calls.
use Rattle.std.proofs.Common.{◌≡◌, ℕ, false, [], replicate, None, Some, refl, ◌∙◌, ap, if◌then◌else◌}
use Rattle.dr_disk.specs.declared.call.Call.TheVariants.{Read, Write, Sync}
use Rattle.dr_disk.specs.declared.recording.RecordingDisk.{RecordingDisk}
use Rattle.dr_disk.specs.Memory.{left_by, no_faults, told_count}
use Rattle.dr_disk.specs.RecordingDisks.{IsNewRecording}
use Rattle.dr_disk.proofs.Fresh.{fresh}

pub new_recording : (disk : RecordingDisk) (size calls bytes : ℕ) → disk.platter.bytes.items ≡ replicate size 0 → disk.platter.durable.items ≡ replicate size 0 → disk.platter.asked.items ≡ replicate size 0
    → disk.platter.marks.items ≡ replicate size false → disk.full ≡ false → disk.passed ≡ 0 → disk.writes ≡ 0 → disk.syncs ≡ 0 → disk.tried ≡ 0
    → disk.tape.calls_room ≡ calls → disk.tape.bytes_room ≡ bytes → disk.tape.calls.items ≡ [] → IsNewRecording size calls bytes disk
new_recording disk size calls bytes read kept last unmarked room passed writes syncs tried calls_room bytes_room empty =
    let all = fresh (replicate size 0) disk.platter.bytes.items disk.platter.durable.items disk.platter.asked.items disk.platter.marks.items size 0 no_faults read kept last unmarked in
    record {
      zeros = all.seen;
      settled = all.settled;
      leaves = λ mode. ap (λ f. if f then None else Some (left_by disk.platter.durable.items disk.platter.asked.items disk.platter.marks.items mode)) room ∙ all.leaves mode;
      passed = ap told_count passed;
      reads = ap told_count tried;
      faults = elim [ Read ↦ refl | Write ↦ writes | Sync ↦ syncs ];
      calls_room = calls_room;
      bytes_room = bytes_room;
      empty = empty;
    }
