-- A disk that records its calls keeps the laws of disks.
use Rattle.std.specs.Prelude.{◌≡◌, ℕ, Bool, true, false, List, length, take, Some, None, if◌then◌else◌}
use Rattle.std.proofs.Common.{sym, ◌∙◌, subst}
use Rattle.std.proofs.lemmas.List.{take_all}
use Rattle.dr_disk.specs.declared.call.Mode.{Mode}
use Rattle.dr_disk.specs.State.{IsLawful}
use Rattle.dr_disk.specs.Memory.{Counts, IsImage, left_by}
use Rattle.dr_disk.specs.MemoryLaws.{left_image}
use Rattle.dr_disk.specs.Recorded.{Event, WasImage, blank, recording_state, replayed}

-- what a crash after all the events leaves
last_image : (size : ℕ) (events : List Event) (durable : List ℕ) (marks : List Bool) (c : List ℕ) → durable ≡ (replayed (blank size) events).durable → marks ≡ (replayed (blank size) events).marks
    → WasImage size events (length events) c → IsImage durable marks c
last_image size events durable marks c kept unsynced was =
    let all : take was.index events ≡ events = take_all was.index events was.later in
    let behind : IsImage (replayed (blank size) events).durable (replayed (blank size) events).marks c = subst (λ (es : List Event). IsImage (replayed (blank size) es).durable (replayed (blank size) es).marks c) all was.image in
    subst (λ (d : List ℕ). IsImage d marks c) (sym kept) (subst (λ (m : List Bool). IsImage (replayed (blank size) events).durable m c) (sym unsynced) behind)

pub recording_lawful : (size : ℕ) (events : List Event) (bytes durable asked : List ℕ) (marks : List Bool) (full : Bool) (passed : ℕ) (counts : Counts)
    → IsImage durable marks bytes → IsImage durable marks asked → length marks ≡ length durable
    → durable ≡ (replayed (blank size) events).durable → marks ≡ (replayed (blank size) events).marks
    → IsLawful (recording_state size events bytes durable asked marks full passed counts)
recording_lawful size events bytes durable asked marks full passed counts agrees asks each kept unsynced = record {
  sized = λ c is. is.size ∙ sym agrees.size;
  seen_now = λ s told. let same : bytes ≡ s = cc in subst (IsImage durable marks) same agrees;
  only_now = λ c was. last_image size events durable marks c kept unsynced was;
  leaves_now = λ mode c told. by full mode c told;
}
  where
    by : (full : Bool) (mode : Mode) (c : List ℕ) → (if full then None else Some (left_by durable asked marks mode)) ≡ Some c → IsImage durable marks c
    by true mode c told = absurd (let e : None ≡ Some c = told in cc)
    by false mode c told = let same : left_by durable asked marks mode ≡ c = cc in subst (IsImage durable marks) same (left_image durable asked marks each asks mode)
