-- A record that was read, replaced by the same client's in the newest version: what is left is as what was read.
use Rattle.std.proofs.Common.{Err, List, None, Ok, Option, Some, ap, ap₂, arith, inl, inr, refl, subst, sym, true, ℕ, ⊎_elim, ◌+◌, ◌-◌, ◌<◌, ◌∙◌, ◌≡◌}
use Rattle.std.specs.Prelude.{is_some, option_map}
use Rattle.dr_base.specs.Bytes.{AreBytes}
use Rattle.dr_disk.specs.Calls.{Unwritten}
use Rattle.dr_disk.specs.Spans.{HavePassed, Span}
use Rattle.dr_disk.specs.State.{Always, DiskState}
use Rattle.dr_disk.specs.declared.call.Call.{Call}
use Rattle.dr_disk.proofs.Steps.{spans, widen}
use Rattle.kem_laws.specs.Mechanism.{Mechanism}
use Rattle.session_model.specs.Clients.{Client}
use Rattle.session_record.specs.Lawful.{IsLawfulClient}
use Rattle.session_record.specs.Record.{record_read, record_text}
use Rattle.session_record.specs.Versions.{is_newest}
use Rattle.slot_store.specs.Found.{found_as, has_content}
use Rattle.slot_store.specs.Kept.{content_or_empty}
use Rattle.slot_store.specs.Laws.{IsRead}
use Rattle.slot_store.specs.Reading.{IsEntryOrLike, IsLikeRead, area_reading}
use Rattle.slot_store.specs.Records.{stored_record}
use Rattle.slot_store.specs.Stops.{IsStopped, call_after, calls_of}
use Rattle.slot_store.specs.Store.{IsOldOrNew, KeepsOutsideArea, SlotStore, content}
use Rattle.slot_store.specs.Areas.{Area}
use Rattle.slot_store.specs.declared.errors.OpenError.{OpenError}
use Rattle.slot_store.specs.declared.errors.OpenError.TheVariants.{Damaged as StoreDamaged, Memory as StoreMemory, StoreFault as DiskFault}
use Rattle.slot_store.specs.declared.opening.Found.{Found}
use Rattle.slot_store.specs.declared.opening.Found.TheVariants.{Content}
use Rattle.slot_store.proofs.Outside.{self_outside, twice_outside}
use Rattle.client.specs.Cells.{IsStoppedInCell, client_cell}
use Rattle.client.specs.Clients.{client_area}
use Rattle.client.specs.Grounds.{ReadsWritten}
use Rattle.client.specs.Opening.{IsAsRead, IsEntryOrAsRead, IsMigrationStopped, IsReadNewest, IsSameOrNewest, OpensMigrating, client_record_fault, open_refusal}

pub has_some : (o : Option (List ℕ)) → is_some o ≡ true → (text : List ℕ) × (o ≡ Some text)
has_some None some = absurd (cc some)
has_some (Some text) some = (text, refl)

-- what was read has the store's record
pub read_content : (k : Mechanism) → IsRead → (found : Found) (store : SlotStore) (start : DiskState) → found ≡ Content
    → is_some (content store) ≡ true
    → ((s : List ℕ) → start.seen ≡ Some s → area_reading (client_record_fault k) client_area s ≡ found_as found (content store))
    → (s : List ℕ) → start.seen ≡ Some s → stored_record client_area s ≡ content store
read_content k readings found store start is some verdict s told =
    let text = has_some (content store) some in
    readings.content (client_record_fault k) client_area s text.0
    (verdict s told ∙ ap (λ f. found_as f (content store)) is ∙ ap (found_as Content) text.1)
    ∙ sym text.1

-- what is like what was read is as read
pub like_as_read : (k : Mechanism) (start : DiskState) (c : List ℕ) → IsLikeRead client_area start c → IsAsRead k start c
like_as_read k start c like = record {
  read = like.read;
  told = like.told;
  same = inl like.same;
  undamaged = like.undamaged;
  outside = like.outside;
}

-- and what is as read is read as the same client
pub same_reading : (k : Mechanism) → ReadsWritten k → (was now : Option (List ℕ)) → IsSameOrNewest k was now
    → option_map (record_read k) now ≡ option_map (record_read k) was
same_reading k written was now same =
    ⊎_elim (λ old. ap (option_map (record_read k)) old)
    (λ newest. ap (option_map (record_read k)) newest.3 ∙ ap Some (written newest.0 newest.2) ∙ sym newest.1)
    same

pub opening_moments : (k : Mechanism) (start now : DiskState) → Span start now (IsEntryOrLike client_area start)
    → Span start now (IsEntryOrAsRead k start)
opening_moments k start now opening =
    widen start now (IsEntryOrLike client_area start) (IsEntryOrAsRead k start)
    (λ c s. ⊎_elim (λ was. inl was) (λ like. inr (like_as_read k start c like)) s) opening

-- a record in the newest version is the text of the client that it is read as
pub newest_holds : (k : Mechanism)
    → ((text : List ℕ) (c : Client) → AreBytes text → record_read k text ≡ Ok c → is_newest text ≡ true → text ≡ record_text c)
    → (store : SlotStore) (kept : Client) (text : List ℕ) → text ≡ content_or_empty (content store) → AreBytes text
    → is_some (content store) ≡ true → ((t : List ℕ) → content store ≡ Some t → record_read k t ≡ Ok kept) → is_newest text ≡ true
    → content store ≡ Some (record_text kept)
newest_holds k newest store kept text is bytes some reads test =
    let has = has_some (content store) some in
    let same : text ≡ has.0 = is ∙ ap content_or_empty has.1 in
    has.1 ∙ ap Some (newest has.0 kept (subst AreBytes same bytes) (reads has.0 has.1) (subst (λ t. is_newest t ≡ true) same test))

-- What is known of a disk once the record that was read may have been replaced by the same client's in the newest version.
pub record IsRenewed (k : Mechanism) (held : SlotStore) (kept : Client) (start mid now : DiskState) : Type 0 where
  pub read : (s : List ℕ) → start.seen ≡ Some s → option_map (record_read k) (stored_record client_area s) ≡ Some (Ok kept)
  pub has : (s text : List ℕ) → start.seen ≡ Some s → stored_record client_area s ≡ Some text → content held ≡ Some text
  pub newest : IsReadNewest start → (s : List ℕ) → start.seen ≡ Some s
      → (text : List ℕ) × (content held ≡ Some text) × (is_newest text ≡ true)
  pub any_moment : Span start now (IsEntryOrAsRead k start)
  pub left : Always (IsAsRead k start) now
  pub around : Always (KeepsOutsideArea client_area mid) now

module _ (k : Mechanism) (readings : IsRead) (found : Found) (store held : SlotStore) (kept : Client) (start mid now : DiskState)
    (is : found ≡ Content) (has : is_some (content store) ≡ has_content found) (same : held ≡ store) (lawful : IsLawfulClient k kept)
    (reads : (text : List ℕ) → content store ≡ Some text → record_read k text ≡ Ok kept)
    (verdict : (s : List ℕ) → start.seen ≡ Some s
    → area_reading (client_record_fault k) client_area s ≡ found_as found (content store))
    (alike : Always (IsLikeRead client_area start) mid) (opening : Span start mid (IsEntryOrLike client_area start))
    (renewing : Span mid now (IsOldOrNew mid client_area (content held) (Some (record_text kept)))) where
  text : (t : List ℕ) × (content store ≡ Some t)
  text = has_some (content store) (has ∙ ap has_content is)

  stored : (s : List ℕ) → start.seen ≡ Some s → stored_record client_area s ≡ content store
  stored = read_content k readings found store start is (has ∙ ap has_content is) verdict

  read_kept : (s : List ℕ) → start.seen ≡ Some s → option_map (record_read k) (stored_record client_area s) ≡ Some (Ok kept)
  read_kept s told = ap (option_map (record_read k)) (stored s told ∙ text.1) ∙ ap Some (reads text.0 text.1)

  renewed_to : (c : List ℕ) → IsOldOrNew mid client_area (content held) (Some (record_text kept)) c → IsAsRead k start c
  renewed_to c new =
      let like = alike new.frame.0 new.frame.1 in
      record {
        read = like.read;
        told = like.told;
        same =
            ⊎_elim (λ old. inl (old ∙ ap content same ∙ sym (stored like.read like.told)))
            (λ newest. inr (kept, read_kept like.read like.told, lawful, newest)) new.either;
        undamaged = λ _. new.undamaged;
        outside = twice_outside client_area like.read new.frame.0 c like.outside new.frame.2;
      }

  pub renewed : IsRenewed k held kept start mid now
  renewed = record {
    read = read_kept;
    has = λ s t told stands. ap content same ∙ sym (stored s told) ∙ stands;
    newest = λ newest s told. (text.0, ap content same ∙ text.1, newest s text.0 told (stored s told ∙ text.1));
    any_moment =
        spans start mid now (IsEntryOrAsRead k start) (opening_moments k start mid opening)
        (widen mid now (IsOldOrNew mid client_area (content held) (Some (record_text kept))) (IsEntryOrAsRead k start)
        (λ c new. inr (renewed_to c new)) renewing);
    left = λ c at. ⊎_elim (λ was. like_as_read k start c (alike c was)) (λ new. renewed_to c new) (renewing.last c at);
    around = λ c at.
        ⊎_elim (λ was. (c, was, self_outside client_area c))
        (λ (new : IsOldOrNew mid client_area (content held) (Some (record_text kept)) c). new.frame) (renewing.last c at);
  }

-- ---- counted

pub passed_both : (m n : ℕ) (a b c : DiskState) → HavePassed m a b → HavePassed n b c → HavePassed (m + n) a c
passed_both m n a b c one two = λ last told.
    let mid = two last told in
    let first = one mid.0 mid.1 in
    (first.0, first.1, omega (arith, mid.2, first.2))

module _ (text : List ℕ) (kept : Client) (old : Option (List ℕ)) (made : List ℕ) (has : old ≡ Some text) (written : made ≡ record_text kept)
    (start now : DiskState) where
  calls_are : calls_of old (Some made) ≡ calls_of (Some text) (Some (record_text kept))
  calls_are = ap₂ calls_of has (ap Some written)

  pub migrated_calls : HavePassed (calls_of old (Some made)) start now → HavePassed (calls_of (Some text) (Some (record_text kept))) start now
  migrated_calls = subst (λ n. HavePassed n start now) calls_are

  to_stopped : IsStopped client_area (Some text) (Some (record_text kept)) start now
      → IsStoppedInCell client_cell (Some text) (Some (record_text kept)) start now
  to_stopped s = record { crash = s.crash; read = s.read }

  pub migration_stopped : (area : Area) → area ≡ client_area → (call : Call) → IsStopped area old (Some made) start now
      → ((l m : ℕ) → start.passed ≡ Some l → now.passed ≡ Some m → m < l + calls_of old (Some made))
      → ((l m : ℕ) → start.passed ≡ Some l → now.passed ≡ Some m → call ≡ call_after old (Some made) (m - l))
      → IsMigrationStopped text kept call start now
  migration_stopped area is call stopped few came = record {
    stopped = to_stopped
        (subst (λ (a : Area). IsStopped a (Some text) (Some (record_text kept)) start now) is
        (subst (λ o. IsStopped area o (Some (record_text kept)) start now) has
        (subst (λ t. IsStopped area old (Some t) start now) written stopped)));
    few = λ l m was later. subst (λ n. m < l + n) calls_are (few l m was later);
    kind = λ l m was later. came l m was later ∙ ap₂ (λ o t. call_after o t (m - l)) has (ap Some written);
  }

-- a store that wasn't opened wrote nothing
pub migrates_unopened : {X : Type 0} (state : X → DiskState) (k : Mechanism) (text : List ℕ) (start now : X) (error : OpenError)
    → Unwritten (state start) (state now) → OpensMigrating state k text start now (Err (open_refusal error))
migrates_unopened state k found start now StoreMemory unwritten = tt
migrates_unopened state k found start now (DiskFault call) unwritten = inl unwritten
migrates_unopened state k found start now (StoreDamaged slot at) unwritten = tt
