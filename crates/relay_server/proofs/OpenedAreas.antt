-- Areas that are opened one after the other.
use Rattle.std.proofs.Common.{◌≡◌, ◌≢◌, ◌⊎◌, inl, inr, ⊎_elim, ℕ, zero, suc, ◌+◌, ◌<◌, ◌≤◌, true, false, List, [], ◌∷◌, ◌++◌, length, Option, Some, None, refl, sym, ◌∙◌, ap, subst, arith, length-append}
use Rattle.std.specs.Prelude.{slice_get, is_some}
use Rattle.std.proofs.lemmas.Bool.{cases_eq}
use Rattle.std.proofs.lemmas.Option.{slice_get_within}
use Rattle.dr_disk.specs.Calls.{Unwritten}
use Rattle.dr_disk.specs.Spans.{IsQuiet, Span}
use Rattle.dr_disk.specs.State.{Always, DiskState, IsLawful}
use Rattle.dr_disk.proofs.Steps.{quiet_twice, spans, stays, widen}
use Rattle.slot_store.specs.Areas.{Area, IsSameOutsideArea}
use Rattle.slot_store.specs.AtRest.{IsReadAtRest}
use Rattle.slot_store.specs.declared.opening.Found.{Found}
use Rattle.slot_store.specs.declared.opening.Found.TheVariants.{Content, NoContent}
use Rattle.slot_store.specs.Found.{found_as, has_content}
use Rattle.slot_store.specs.Laws.{DependsOnAreaAlone, SameWithin}
use Rattle.slot_store.specs.Reading.{IsEntryOrLike, IsLikeRead, IsUndamaged, damaged}
use Rattle.slot_store.specs.Records.{stored_record}
use Rattle.slot_store.specs.Store.{Rests, SlotStore, content}
use Rattle.relay_core.specs.declared.limits.TheConstants.{RELAY_LIMIT}
use Rattle.relay_server.specs.Areas.{AreAtRest, AreOpened, AreRefused, HasLooked, IsAreaOpened, IsAreaRefused, IsLikeEntry, store_reading}
use Rattle.relay_server.specs.Places.{SameBehind, UnwrittenBehind, area_of}
use Rattle.relay_server.specs.Opening.{IsFirstDamaged, IsServerUnopened, OfRead}
use Rattle.relay_server.specs.Reading.{IsUndamagedReading, area_read, box_fault}
use Rattle.relay_server.specs.declared.errors.ServerOpenError.{ServerOpenError}
use Rattle.relay_server.specs.declared.errors.ServerOpenError.TheVariants.{BoxKeys, BoxName, Damaged, Memory, StoreFault}
use Rattle.relay_core.specs.declared.spec.BoxSpec.{BoxSpec}
use Rattle.relay_server.proofs.Behind.{area_apart, behind_more, behind_one, behind_self, behind_twice}
use Rattle.relay_server.proofs.OneStore.{apart, same_undamaged, there_is}

-- a store was read as its record
pub read_as : (found : Found) (text : Option (List ℕ)) → is_some text ≡ has_content found → found_as found text ≡ store_reading text
read_as NoContent None is = refl
read_as NoContent (Some text) is = absurd (let e : true ≡ false = is in cc)
read_as Content None is = refl
read_as Content (Some text) is = refl

pub area_opened : (k : ℕ) (store : SlotStore) (found : Found) (start now : DiskState) → store.area ≡ area_of k → ((text : List ℕ) → content store ≡ Some text → box_fault text ≡ None)
    → is_some (content store) ≡ has_content found → ((s : List ℕ) → start.seen ≡ Some s → area_read k s ≡ found_as found (content store))
    → Always (λ c. Rests store c × IsLikeRead (area_of k) start c) now → IsQuiet start now → IsAreaOpened k store start now
area_opened k store found start now area clean has read rest quiet = record {
  area = area;
  clean = clean;
  read = λ s told. read s told ∙ read_as found (content store) has;
  rests = λ c left. (rest c left).0;
  alike = λ c left. (rest c left).1;
  quiet = quiet;
}

-- a store's record is no damage
pub whole_of : (text : Option (List ℕ)) → IsUndamagedReading (store_reading text)
whole_of None = tt
whole_of (Some text) = tt

-- what stands in a list with one more
pub pushed : {X : Type 0} (xs : List X) (x y : X) (k : ℕ) → slice_get (xs ++ x ∷ []) k ≡ Some y → (slice_get xs k ≡ Some y) ⊎ ((k ≡ length xs) × (x ≡ y))
pushed [] x y zero is = inr (refl, let e : Some x ≡ Some y = is in cc)
pushed {X} [] x y (suc k) is = absurd (let e : None ≡ Some y = is in cc)
pushed (z ∷ xs) x y zero is = inl is
pushed (z ∷ xs) x y (suc k) is = ⊎_elim (λ old. inl old) (λ new. inr (ap suc new.0, new.1)) (pushed xs x y k is)

-- no call was made
pub unlooked : (count : ℕ) (start : DiskState) → HasLooked count start start
unlooked count start = record { during = stays start (IsLikeEntry count start); still = λ rest. record { seen = refl; images = λ c left. left } }

-- why no area was opened is why no server is
pub unopened : (specs : List BoxSpec) (start now : DiskState) (error : ServerOpenError) → AreRefused (length specs) start now error → IsServerUnopened specs start now error
unopened specs start now Memory is = is
unopened specs start now (StoreFault call) is = is
unopened specs start now (Damaged area slot at) is = is
unopened specs start now (BoxName k) is = absurd is
unopened specs start now (BoxKeys k) is = absurd is

-- no area was opened yet
pub none_opened : (count : ℕ) (start : DiskState) (stores : List SlotStore) → stores ≡ [] → AreOpened 0 count stores start start
none_opened count start stores is = subst (λ (xs : List SlotStore). AreOpened 0 count xs start start) (sym is) (record {
  count_is = refl;
  looked = unlooked count start;
  quiet = λ call. refl;
  areas = λ k store there. absurd (let e : None ≡ Some store = there in cc);
  clean = λ k store text there. absurd (let e : None ≡ Some store = there in cc);
  rests = λ k store there. absurd (let e : None ≡ Some store = there in cc);
  read = λ s was k store there. absurd (let e : None ≡ Some store = there in cc);
  untouched = record {
    read = λ s r was is. let e : s ≡ r = let f : Some s ≡ Some r = sym was ∙ is in cc in subst (SameBehind 0 s) e (behind_self 0 s);
    images = λ c left. (c, left, behind_self 0 c);
  };
})

pub entry_self : (count : ℕ) (start : DiskState) (c : List ℕ) → start.image c → IsLikeEntry count start c
entry_self count start c left = record { entry = c; image = left; same = λ k less. refl; undamaged = λ k less whole. whole; outside = behind_self count c }

-- where one area alone changes, each other is read as it was
pub other_same : DependsOnAreaAlone → (j k : ℕ) (d c : List ℕ) → j < RELAY_LIMIT → k < RELAY_LIMIT → j ≢ k
    → IsSameOutsideArea (area_of k) d c → stored_record (area_of j) c ≡ stored_record (area_of j) d
other_same local j k d c few_j few_k other same = local.record_of (area_of j) c d (apart j k c d few_j few_k other same)

module _ (local : DependsOnAreaAlone) (n count : ℕ) (start d now : DiskState) (stores : List SlotStore) (lawful : IsLawful d) (few : count ≤ RELAY_LIMIT) (less : n < count)
    (so_far : AreOpened n count stores start d) (span : Span d now (IsEntryOrLike (area_of n) d))
    (still : IsReadAtRest (area_of n) d → Unwritten d now) where
  few_n : n < RELAY_LIMIT
  few_n = omega (arith, less, few)

  entry_of : (c : List ℕ) → d.image c → IsLikeEntry count start c
  entry_of c left = ⊎_elim (λ was. entry_self count start c was) (λ is. is) (so_far.looked.during.last c left)

  like_step : (c : List ℕ) → IsEntryOrLike (area_of n) d c → IsLikeEntry count start c
  like_step c is = ⊎_elim (entry_of c) (λ like.
      let before = entry_of like.read (lawful.seen_now like.read like.told) in
      record {
        entry = before.entry;
        image = before.image;
        same = λ k under. elim (cases_eq k n) [
          | inl here ↦ subst (λ (m : ℕ). stored_record (area_of m) c ≡ stored_record (area_of m) like.read) (sym here) like.same ∙ before.same k under
          | inr other ↦ other_same local k n like.read c (omega (arith, under, few)) few_n other like.outside ∙ before.same k under
        ];
        undamaged = λ k under whole. elim (cases_eq k n) [
          | inl here ↦ subst (λ (m : ℕ). IsUndamaged (area_of m) c) (sym here) (like.undamaged (subst (λ (m : ℕ). IsUndamaged (area_of m) like.read) here (before.undamaged k under whole)))
          | inr other ↦ same_undamaged local (area_of k) c like.read (apart k n c like.read (omega (arith, under, few)) few_n other like.outside) (before.undamaged k under whole)
        ];
        outside = behind_twice count before.entry like.read c before.outside (behind_one count n like.read c less like.outside);
      }) is

  opening_span : Span start now (IsLikeEntry count start)
  opening_span = spans start d now (IsLikeEntry count start) so_far.looked.during (widen d now _ _ like_step span)

  -- where all are read at rest nothing was written before, and so this one is read at rest
  unwritten_on : AreAtRest count start → Unwritten start now
  unwritten_on rest =
      let first = so_far.looked.still rest in
      let here = rest n less in
      let next = still (record { bytes = here.bytes; told = first.seen ∙ here.told; mark = here.mark; text = here.text; rests = here.rests }) in
      record { seen = next.seen ∙ first.seen; images = λ c left. first.images c (next.images c left) }

  pub opening_looked : HasLooked count start now
  opening_looked = record { during = opening_span; still = unwritten_on }

  -- the area that comes next is read as it was at first
  unread : (s r : List ℕ) → start.seen ≡ Some s → d.seen ≡ Some r → area_read n s ≡ area_read n r
  unread s r was is =
      let same = so_far.untouched.read s r was is in
      local.reads box_fault (area_of n) s r
      (record { size = sym same.size; bytes = λ i inside. sym (same.outside i (λ k lt. area_apart n k i few_n (omega (arith, lt, few_n)) (λ is. omega (arith, is, lt)) inside)) })

  -- ---- it is refused

  damaged_first : (slot at : ℕ) → ((s : List ℕ) → d.seen ≡ Some s → area_read n s ≡ damaged slot at) → OfRead start (IsFirstDamaged count n slot at)
  damaged_first slot at here s was = record {
    inside = less;
    before = λ j below.
        let there = there_is stores j (omega (arith, so_far.count_is, below)) in
        subst IsUndamagedReading (sym (so_far.read s was j there.0 there.1)) (whole_of (content there.0));
    here = let r = so_far.looked.during.told s was in unread s r.0 was r.1 ∙ here r.0 r.1;
  }

  -- nothing was written to it, nor to those after it
  unwritten_behind : Unwritten d now → UnwrittenBehind n start now
  unwritten_behind unwritten = record {
    read = λ s r was is. so_far.untouched.read s r was (sym unwritten.seen ∙ is);
    images = λ c left. so_far.untouched.images c (unwritten.images c left);
  }

  pub refused : (e : ServerOpenError) → IsAreaRefused n d now e → AreRefused count start now e
  refused Memory is = quiet_twice start d now so_far.quiet is
  refused (StoreFault call) is = omega (arith, is, so_far.looked.during.counts call)
  refused (Damaged area slot at) is = (
    omega (arith, less, is.0),
    quiet_twice start d now so_far.quiet is.1,
    subst (λ (k : ℕ). OfRead start (IsFirstDamaged count k slot at)) (sym is.0) (damaged_first slot at is.2),
    subst (λ (k : ℕ). UnwrittenBehind k start now) (sym is.0) (unwritten_behind is.3),
  )
  refused (BoxName k) is = absurd is
  refused (BoxKeys k) is = absurd is

  -- ---- it is opened

  module _ (store : SlotStore) (one : IsAreaOpened n store d now) (reads : (s : List ℕ) → now.seen ≡ Some s → IsLikeRead (area_of n) d s) where
    few_at : (k : ℕ) (other : SlotStore) → slice_get stores k ≡ Some other → k < RELAY_LIMIT
    few_at k other there = let inside = slice_get_within stores k other there in omega (arith, inside, so_far.count_is, few_n)

    -- each earlier store rests on what it rested on
    old_rests : (k : ℕ) (other : SlotStore) → k ≢ n → slice_get stores k ≡ Some other → Always (Rests other) now
    old_rests k other apart_from there c left =
        let like = one.alike c left in
        let area = so_far.areas k other there in
        local.rests other c like.read
        (subst (λ (a : Area). SameWithin a c like.read) (sym area) (apart k n c like.read (few_at k other there) few_n apart_from like.outside))
        (so_far.rests k other there like.read (lawful.seen_now like.read like.told))

    below_n : (k : ℕ) (other : SlotStore) → slice_get stores k ≡ Some other → k ≢ n
    below_n k other there same = let inside = slice_get_within stores k other there in omega (arith, inside, so_far.count_is, same)

    behind_on : (s e r : List ℕ) → SameBehind n s e → IsSameOutsideArea (area_of n) e r → SameBehind (n + 1) s r
    behind_on s e r first same = behind_twice (n + 1) s e r (behind_more n (n + 1) s e (omega arith) first)
        (behind_one (n + 1) n e r (omega arith) same)

    pub one_more : AreOpened (n + 1) count (stores ++ store ∷ []) start now
    one_more = record {
      count_is = omega (arith, length-append {A = SlotStore} stores (store ∷ []), so_far.count_is);
      looked = opening_looked;
      quiet = quiet_twice start d now so_far.quiet one.quiet;
      areas = λ k other there. ⊎_elim (λ old. so_far.areas k other old)
          (λ new. subst (λ (x : SlotStore). x.area ≡ area_of k) new.1 (one.area ∙ ap area_of (sym (new.0 ∙ so_far.count_is)))) (pushed stores store other k there);
      clean = λ k other text there has. ⊎_elim (λ old. so_far.clean k other text old has)
          (λ new. one.clean text (ap content new.1 ∙ has)) (pushed stores store other k there);
      rests = λ k other there. ⊎_elim (λ old. old_rests k other (below_n k other old) old)
          (λ new. subst (λ (x : SlotStore). Always (Rests x) now) new.1 one.rests) (pushed stores store other k there);
      read = λ s was k other there.
          let r = so_far.looked.during.told s was in
          ⊎_elim (λ old. so_far.read s was k other old)
          (λ new. subst (λ (m : ℕ). area_read m s ≡ store_reading (content other)) (sym (new.0 ∙ so_far.count_is))
          (unread s r.0 was r.1 ∙ one.read r.0 r.1 ∙ ap (λ (x : SlotStore). store_reading (content x)) new.1)) (pushed stores store other k there);
      untouched = record {
        read = λ s r was is.
            let like = reads r is in
            behind_on s like.read r (so_far.untouched.read s like.read was like.told) like.outside;
        images = λ c left.
            let like = one.alike c left in
            let was = so_far.untouched.images like.read (lawful.seen_now like.read like.told) in
            (was.0, was.1, behind_on was.0 like.read c was.2 like.outside);
      };
    }
