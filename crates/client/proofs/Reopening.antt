-- A disk that reads a client's record without damage is opened, and no crash leaves another.
use Rattle.std.proofs.Common.{List, None, Ok, Option, Some, ap, arith, refl, subst, suc, sym, zero, ℕ, ⊎_elim, ◌+◌, ◌∙◌, ◌≡◌}
use Rattle.std.specs.Prelude.{option_map, slice_get}
use Rattle.dr_disk.specs.State.{Always, DiskState, IsLawful}
use Rattle.kem_laws.specs.Mechanism.{Mechanism}
use Rattle.session_model.specs.Clients.{Client}
use Rattle.session_record.specs.Record.{record_read}
use Rattle.slot_store.specs.Reading.{OpensAs, damaged, holds, no_content, area_reading}
use Rattle.slot_store.specs.Records.{stored_record}
use Rattle.client.specs.Cells.{Cell}
use Rattle.client.specs.Beginning.{HoldsRecord}
use Rattle.client.specs.Clients.{client_area}
use Rattle.client.specs.Moments.{IsWholeAsReadInCell, LeavesCellWhole}
use Rattle.client.specs.Opening.{IsUnopened, ReadsClient, SaysNothing, fault_of, client_record_fault}
use Rattle.client.specs.declared.refusals.OpenRefusal.{OpenRefusal}
use Rattle.client.specs.declared.refusals.OpenRefusal.TheVariants.{Damaged, Memory, NoSession, StoreFault}
use Rattle.client.proofs.Standing.{get_before}

has_text : (k : Mechanism) (o : Option (List ℕ)) (kept : Client) → option_map (record_read k) o ≡ Some (Ok kept)
    → (text : List ℕ) × (o ≡ Some text) × (record_read k text ≡ Ok kept)
has_text k None kept is = absurd (let e : None ≡ Some (Ok kept) = is in cc)
has_text k (Some text) kept is = (text, refl, (let e : Some (record_read k text) ≡ Some (Ok kept) = is in cc))

is_read : (k : Mechanism) (disk : DiskState) (held : ReadsClient k disk)
    → (text : List ℕ) × (area_reading (client_record_fault k) client_area held.bytes ≡ holds text)
is_read k disk held =
    let text = has_text k (stored_record client_area held.bytes) held.kept held.has in
    let opens = subst (λ (o : Option (List ℕ)). OpensAs client_area o held.bytes) text.1 held.undamaged in
    (text.0, opens (client_record_fault k) (ap fault_of text.2))

pub holds_record : (k : Mechanism) (disk : DiskState) (held : ReadsClient k disk) → HoldsRecord k disk
holds_record k disk held s told =
    let same : held.bytes ≡ s = let e : Some held.bytes ≡ Some s = sym held.told ∙ told in cc in
    let read = is_read k disk held in
    (read.0, ap (area_reading (client_record_fault k) client_area) (sym same) ∙ read.1)

pub not_refused : {X : Type 0} (state : X → DiskState) (k : Mechanism) (start now : X) (held : ReadsClient k (state start))
    → (refusal : OpenRefusal) → IsUnopened state k start now refusal → SaysNothing refusal
not_refused state k start now held Memory unopened = tt
not_refused state k start now held (StoreFault call) unopened = tt
not_refused state k start now held (Damaged slot at) unopened =
    let read = is_read k (state start) held in
    absurd (let e : holds read.0 ≡ damaged slot at = sym read.1 ∙ unopened.0 held.bytes held.told in cc)
not_refused state k start now held NoSession unopened =
    let read = is_read k (state start) held in
    absurd (let e : holds read.0 ≡ no_content = sym read.1 ∙ unopened.0 held.bytes held.told in cc)

-- ---- over whole runs

module _ (cell : Cell) {X : Type 0} (state : X → DiskState) (lawful : (a : X) → IsLawful (state a))
    (xs : List X)
    (first : (a : X) → slice_get xs 0 ≡ Some a → Always (cell.undamaged) (state a))
    (links : (n : ℕ) (a b : X) → slice_get xs n ≡ Some a → slice_get xs (n + 1) ≡ Some b → LeavesCellWhole cell (state a) (state b)) where
  goes_on : (a b : X) → LeavesCellWhole cell (state a) (state b) → Always (cell.undamaged) (state a)
      → Always (cell.undamaged) (state b)
  goes_on a b came was c left =
      ⊎_elim (was c)
      (⊎_elim (λ (l : IsWholeAsReadInCell cell (state a) c). l.undamaged (was l.read ((lawful a).seen_now l.read l.told))) (λ whole. whole))
      (came c left)

  pub each_undamaged : (n : ℕ) (b : X) → slice_get xs n ≡ Some b → Always (cell.undamaged) (state b)
  each_undamaged zero b is = first b is
  each_undamaged (suc n) b is =
      let before = get_before xs n b is in
      goes_on before.0 b (links n before.0 b before.1 (ap (slice_get xs) (let e : n + 1 ≡ suc n = omega arith in e) ∙ is))
      (each_undamaged n before.0 before.1)
