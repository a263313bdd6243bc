-- A disk of zeros holds no record.
use Rattle.std.proofs.Common.{arith, refl, replicate, sym, ℕ, ◌≤◌, ◌∙◌, ◌≡◌}
use Rattle.std.proofs.lemmas.List.{length-replicate}
use Rattle.dr_disk.specs.MemoryDisks.{IsBlank, state_of}
use Rattle.dr_disk.specs.State.{DiskState}
use Rattle.dr_disk.specs.declared.call.Call.{Call}
use Rattle.dr_disk.specs.declared.memory.MemoryDisk.{MemoryDisk}
use Rattle.kem_laws.specs.Mechanism.{Mechanism}
use Rattle.slot_store.specs.Reading.{damaged, holds, no_content}
use Rattle.slot_store.proofs.Blank.{blank_read}
use Rattle.slot_store.specs.Store.{HasArea}
use Rattle.slot_store.specs.Areas.{area_end}
use Rattle.client.specs.Beginning.{IsUnbegun}
use Rattle.client.specs.Clients.{client_area}
use Rattle.client.specs.declared.begin.Begin.{Begin}
use Rattle.client.specs.Opening.{client_record_fault}
use Rattle.client.specs.declared.refusals.BeginRefusal.{BeginRefusal}
use Rattle.client.specs.declared.refusals.BeginRefusal.TheVariants.{Damaged, Exists, Memory, NoPair, StoreFault}
use Rattle.parties.specs.Parties.{IsFirstRefusal}

pub blank_within : (n : ℕ) (disk : DiskState) → area_end client_area ≤ n → IsBlank n disk → HasArea client_area disk
blank_within n disk fits blank =
    omega (arith, fits, blank.fresh.size ∙ length-replicate n 0)

-- so a client is begun on it, but for want of memory or a pair
pub first_refusal : (k : Mechanism) (begin : Begin) (n : ℕ) (start now : MemoryDisk) → area_end client_area ≤ n
    → IsBlank n (state_of start) → (refusal : BeginRefusal) → IsUnbegun state_of k begin start now refusal
    → ((call : Call) → refusal ≡ StoreFault call → ⊥) → IsFirstRefusal refusal
first_refusal k begin n start now fits blank Memory unbegun passes = tt
first_refusal k begin n start now fits blank NoPair unbegun passes = tt
first_refusal k begin n start now fits blank (StoreFault call) unbegun passes = absurd (passes call refl)
first_refusal k begin n start now fits blank (Damaged slot at) unbegun passes =
    let read = unbegun.0 (replicate n 0) blank.fresh.seen in
    let none = blank_read (client_record_fault k) client_area n (omega arith) (omega arith) (omega (arith, fits)) in
    absurd (let e : no_content ≡ damaged slot at = sym none ∙ read in cc)
first_refusal k begin n start now fits blank Exists unbegun passes =
    let read = unbegun.0 (replicate n 0) blank.fresh.seen in
    let none = blank_read (client_record_fault k) client_area n (omega arith) (omega arith) (omega (arith, fits)) in
    absurd (let e : no_content ≡ holds read.0 = sym none ∙ read.1 in cc)
