-- A client that is begun, and why none is.
use Rattle.std.proofs.Common.{Bool, List, None, Option, Some, false, inl, inr, refl, sym, true, ℕ, ⊎_elim, ◌∙◌, ◌≡◌, ◌⊎◌}
use Rattle.std.specs.Prelude.{[], is_some}
use Rattle.bodies.specs.declared.format.Format.{Format}
use Rattle.dr_base.specs.Causes.{Rose}
use Rattle.dr_base.specs.declared.position.Side.{Side}
use Rattle.dr_base.specs.declared.position.Side.TheVariants.{First, Second}
use Rattle.dr_model.specs.Machines.WorldSides.{kept_in}
use Rattle.dr_model.specs.Conversations.Formats.{formats_of}
use Rattle.dr_model.specs.Machines.Worlds.{opening_world}
use Rattle.dr_model.proofs.Worlds.OpeningWorlds.{opening_client}
use Rattle.dr_disk.specs.Calls.{Unwritten}
use Rattle.dr_disk.specs.Spans.{HavePassed, IsQuiet, Span}
use Rattle.dr_disk.specs.State.{Always, DiskState, IsLawful}
use Rattle.dr_disk.specs.declared.call.Call.{Call}
use Rattle.dr_disk.proofs.Steps.{spans, widen}
use Rattle.kem_laws.specs.Mechanism.{Mechanism}
use Rattle.session_model.specs.BoxKeys.{relay_keys_of}
use Rattle.session_model.specs.States.{opening_state}
use Rattle.session_record.specs.Record.{client_of, record_text}
use Rattle.slot_store.specs.Found.{found_as}
use Rattle.slot_store.specs.Laws.{IsRead}
use Rattle.slot_store.specs.Reading.{IsEntryOrLike, IsLikeRead, IsUndamaged, damaged, holds, no_content, area_reading}
use Rattle.slot_store.specs.Records.{stored_record}
use Rattle.slot_store.specs.Store.{IsOldOrNew, KeepsOutsideArea, Rests, SlotStore, content}
use Rattle.slot_store.proofs.Outside.{keeps_twice, twice_outside}
use Rattle.slot_store.specs.declared.errors.OpenError.{OpenError}
use Rattle.slot_store.specs.declared.errors.OpenError.TheVariants.{Damaged, Memory, StoreFault}
use Rattle.slot_store.specs.declared.opening.Found.{Found}
use Rattle.slot_store.specs.declared.opening.Found.TheVariants.{Content}
use Rattle.client.specs.Beginning.{HasPair, IsEntryOrFirst, IsFirst, IsUnbegun, begin_refusal, begun_client}
use Rattle.client.specs.Clients.{client_area}
use Rattle.client.specs.Opening.{IsReadAs, RestsAsOpened, client_record_fault}
use Rattle.client.specs.declared.begin.Begin.{Begin}
use Rattle.client.proofs.Renewing.{read_content}

-- the store refused
pub unbegun : {X : Type 0} (state : X → DiskState) (k : Mechanism) (begin : Begin) (start now : X) (error : OpenError)
    → ((slot at : ℕ) → error ≡ Damaged slot at → Unwritten (state start) (state now) × IsQuiet (state start) (state now)
    × HavePassed 1 (state start) (state now)
    × ((s : List ℕ) → (state start).seen ≡ Some s → area_reading (client_record_fault k) client_area s ≡ damaged slot at))
    → (error ≡ Memory → now ≡ start)
    → ((call : Call) → error ≡ StoreFault call → Rose ((state start).faults call) ((state now).faults call))
    → IsUnbegun state k begin start now (begin_refusal error)
unbegun state k begin start now Memory hurt memory fault = memory refl
unbegun state k begin start now (StoreFault call) hurt memory fault = fault call refl
unbegun state k begin start now (Damaged slot at) hurt memory fault = let all = hurt slot at refl in (all.3, all.1, all.0)

-- a record was found
pub held : (o : Option (List ℕ)) → is_some o ≡ true
    → (text : List ℕ) × (found_as Content o ≡ holds text)
held None some = absurd (cc some)
held (Some text) some = (text, refl)

-- and the area is at rest for it
pub rests_as_read : (k : Mechanism) → IsRead → (found : Found) (store : SlotStore) (start now : DiskState) → found ≡ Content
    → is_some (content store) ≡ true → store.area ≡ client_area
    → ((s : List ℕ) → start.seen ≡ Some s → area_reading (client_record_fault k) client_area s ≡ found_as found (content store))
    → Always (λ c. Rests store c × IsLikeRead client_area start c) now → RestsAsOpened start now
rests_as_read k readings found store start now is some area verdict rest =
    record {
      store = store;
      area = area;
      rests = λ c left. (rest c left).0;
      read = read_content k readings found store start is some verdict;
    }

module _ (k : Mechanism) (readings : IsRead) (begin : Begin) (start mid now : DiskState) (lawful : IsLawful start)
    (none : IsReadAs k start no_content) (pair : HasPair k begin) (alike : Always (IsLikeRead client_area start) mid)
    (opening : Span start mid (IsEntryOrLike client_area start))
    (putting : Span mid now (IsOldOrNew mid client_area None (Some (record_text (begun_client k begin))))) where
  -- what has no record is like what was read, which had none
  no_record : (c : List ℕ) → stored_record client_area c ≡ None → IsUndamaged client_area c → KeepsOutsideArea client_area mid c → IsLikeRead client_area start c
  no_record c without whole kept =
      let like = alike kept.0 kept.1 in
      record {
        read = like.read;
        told = like.told;
        same = without ∙ sym (readings.none (client_record_fault k) client_area like.read (none like.read like.told));
        undamaged = λ _. whole;
        outside = twice_outside client_area like.read kept.0 c like.outside kept.2;
      }

  outside_mid : Always (KeepsOutsideArea client_area start) mid
  outside_mid d left = let like = alike d left in (like.read, lawful.seen_now like.read like.told, like.outside)

  left_by : (c : List ℕ) → IsOldOrNew mid client_area None (Some (record_text (begun_client k begin))) c
      → IsLikeRead client_area start c ⊎ IsFirst k begin start c
  left_by c s =
      ⊎_elim (λ old. inl (no_record c old s.undamaged s.frame))
      (λ new. inr (record {
        none = none;
        pair = pair;
        holds = new;
        undamaged = s.undamaged;
        outside = keeps_twice client_area start mid outside_mid c s.frame;
      })) s.either

  pub first_moments : Span start now (IsEntryOrFirst k begin start)
  first_moments =
      spans start mid now (IsEntryOrFirst k begin start)
      (widen start mid (IsEntryOrLike client_area start) (IsEntryOrFirst k begin start) (λ c s. inl s) opening)
      (widen mid now (IsOldOrNew mid client_area None (Some (record_text (begun_client k begin)))) (IsEntryOrFirst k begin start)
      (λ c s. ⊎_elim (λ like. inl (inr like)) (λ first. inr first) (left_by c s)) putting)

  -- each image then is like what was read, or has the first record
  pub first_left : (c : List ℕ) → now.image c → IsLikeRead client_area start c ⊎ IsFirst k begin start c
  first_left c left = ⊎_elim (λ was. inl (alike c was)) (left_by c) (putting.last c left)

-- where the one is false, so is the other
pub none_by : (a b : Bool) → (b ≡ true → a ≡ true) → a ≡ false → b ≡ false
none_by a true from isnt = let so : a ≡ true = from refl in cc (so, isnt)
none_by a false from isnt = refl

-- ---- the world in which a conversation begins

kept_at : (k : Mechanism) (key : List ℕ) (side : Side) (format other : Format)
    → client_of (opening_state k key side format) [] [] (Some (relay_keys_of key)) ≡ kept_in k (opening_world key (formats_of side format other)) side
kept_at k key First format other = sym (opening_client k key (formats_of First format other) First)
kept_at k key Second format other = sym (opening_client k key (formats_of Second format other) Second)

pub kept_first : (k : Mechanism) (begin : Begin) (other : Format)
    → begun_client k begin ≡ kept_in k (opening_world begin.key.bytes (formats_of begin.side begin.format other)) begin.side
kept_first k begin other = kept_at k begin.key.bytes begin.side begin.format other
