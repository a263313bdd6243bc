-- A side whose client is closed, and one whose client is open.
use Rattle.std.proofs.Common.{Err, List, None, Ok, Option, Result, Some, ap, false, refl, sym, true, ℕ, ◌∙◌, ◌≡◌}
use Rattle.std.specs.Prelude.{IfOk, IfSome, IsSome, option_map}
use Rattle.dr_disk.specs.declared.call.Call.{Call}
use Rattle.dr_disk.specs.MemoryDisks.{state_of}
use Rattle.dr_disk.specs.State.{DiskState}
use Rattle.dr_disk.specs.declared.memory.MemoryDisk.{MemoryDisk}
use Rattle.kem_laws.specs.Mechanism.{Mechanism}
use Rattle.session_model.specs.Clients.{Client}
use Rattle.session_record.specs.Record.{record_read, record_text}
use Rattle.slot_store.specs.Records.{stored_record}
use Rattle.client.specs.Clients.{ClientNow, client_area}
use Rattle.client.specs.Opening.{ReadsClient}
use Rattle.parties.specs.Parties.{DiskHasRecord, DiskReads, IsHeld, IsParty, IsClosedParty, found_on, read_or, shut_by}
use Rattle.parties.specs.Shuts.{PartyNow, Shut, open_party}

-- the kind of the call
pub call_left : (k : Mechanism) (kept : Client) (disk : MemoryDisk) (shut : Option Call)
    → option_map (λ (left : Shut Client). left.call) (shut_by k kept disk shut) ≡ shut
call_left k kept disk None = refl
call_left k kept disk (Some call) = refl

-- nothing was left of an open one
pub is_unshut : (k : Mechanism) (kept : Client) (disk : MemoryDisk) (shut : Option Call) → shut_by k kept disk shut ≡ None → shut ≡ None
is_unshut k kept disk None is = refl
is_unshut k kept disk (Some call) is = cc

pub held_open : (k : Mechanism) (client : ClientNow) (disk : MemoryDisk) (shut : Option Call) (kept : Client)
    → shut_by k kept disk shut ≡ None → IsParty k client disk shut → IsHeld client disk
held_open k client disk None kept is held = held
held_open k client disk (Some call) kept is held = absurd (let e : Some call ≡ None = is_unshut k kept disk (Some call) is in cc)

-- a closed one reads a client
pub shut_reads : (k : Mechanism) (client : ClientNow) (disk : MemoryDisk) (shut : Option Call) (kept : Client)
    → IsSome (shut_by k kept disk shut) → IsParty k client disk shut → IsClosedParty k disk
shut_reads k client disk None kept is held = absurd (let e : false ≡ true = is in cc)
shut_reads k client disk (Some call) kept is held = held

-- a disk that has a lawful client's record reads that client
pub record_reads : (k : Mechanism) (kept : Client) (disk : DiskState) → DiskHasRecord kept disk
    → record_read k (record_text kept) ≡ Ok kept → DiskReads k kept disk
record_reads k kept disk has back s seen = ap (option_map (record_read k)) (has s seen) ∙ ap Some back

-- what is found is the client that is read: a disk in memory gives its bytes
pub found_is : (k : Mechanism) (kept found : Client) (disk : MemoryDisk) → DiskReads k found (state_of disk)
    → found_on k kept disk ≡ found
unfolding found_on
found_is k kept found disk reads = ap (read_or kept) (reads disk.platter.bytes.items refl)

reads_kept : (k : Mechanism) (disk : MemoryDisk) (reads : ReadsClient k (state_of disk)) → DiskReads k reads.kept (state_of disk)
reads_kept k disk reads s seen =
    let same : s ≡ reads.bytes = let e : Some s ≡ Some reads.bytes = sym seen ∙ reads.told in cc in
    ap (λ (c : List ℕ). option_map (record_read k) (stored_record client_area c)) same ∙ reads.has

-- so the opening gives what was left
left_found : (k : Mechanism) (kept : Client) (disk : MemoryDisk) (shut : Option Call) (reads : ReadsClient k (state_of disk))
    → (p : PartyNow) → p ≡ open_party reads.kept
    → IfSome (shut_by k kept disk shut) (λ (left : Shut Client). p ≡ open_party left.left)
left_found k kept disk None reads p is = tt
left_found k kept disk (Some call) reads p is =
    is ∙ ap open_party (sym (found_is k kept reads.kept disk (reads_kept k disk reads)))

pub opens_left : {E : Type 0} (k : Mechanism) (kept : Client) (disk : MemoryDisk) (shut : Option Call)
    (reads : ReadsClient k (state_of disk)) (result : Result PartyNow E)
    → IfOk result (λ (p : PartyNow). (found : Client) → DiskReads k found (state_of disk) → p ≡ open_party found)
    → IfOk result (λ (p : PartyNow). IfSome (shut_by k kept disk shut) (λ (left : Shut Client). p ≡ open_party left.left))
opens_left k kept disk shut reads (Err error) each = tt
opens_left k kept disk shut reads (Ok p) each =
    left_found k kept disk shut reads p (each reads.kept (reads_kept k disk reads))
