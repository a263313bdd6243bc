-- What a relay leaves is read without damage, and is opened again with the same boxes.
use Rattle.std.proofs.Common.{◌≡◌, inl, inr, ⊎_elim, ℕ, zero, suc, ◌+◌, ◌<◌, Bool, true, false, List, [], ◌∷◌, length, drop, Option, Some, None, Ok, refl, sym, ◌∙◌, ap, subst, arith}
use Rattle.std.specs.Prelude.{if◌then◌else◌, option_map, slice_get}
use Rattle.std.proofs.lemmas.List.{length-map}
use Rattle.std.proofs.lemmas.Option.{slice_get-map, slice_get_within}
use Rattle.dr_disk.specs.State.{Always, DiskState}
use Rattle.slot_store.specs.Reading.{OpensAs, damaged, holds}
use Rattle.slot_store.specs.Records.{stored_record}
use Rattle.relay_core.specs.Boxes.{Box, keys_by, spec_of}
use Rattle.relay_core.specs.Loading.{Fits}
use Rattle.relay_core.specs.declared.loading.Loaded.{Loaded}
use Rattle.relay_core.specs.declared.loading.Loaded.TheVariants.{OtherKeys, OtherName, Taken}
use Rattle.relay_core.specs.declared.spec.BoxSpec.{BoxSpec}
use Rattle.relay_core.specs.Record.{IsRecordOf}
use Rattle.relay_wire.specs.Requests.{read_request}
use Rattle.relay_core.specs.Streams.{boxes_after, is_last, nothing_served, served_within}
use Rattle.relay_core.proofs.Changed.{change}
use Rattle.relay_core.specs.declared.limits.TheConstants.{EXCHANGE_LIMIT}
use Rattle.relay_server.specs.Places.{area_of}
use Rattle.relay_server.specs.Opening.{AreBoxesRead, GivesBox, HasAnother, HasOther, IsOpening, IsServerUnopened, StaysOrBegins}
use Rattle.relay_server.specs.Reading.{AreUndamaged, HasRecordOf, KeepsUndamaged, StandsForBox, StandsForBoxes, area_read, box_fault, box_fault_of}
use Rattle.relay_server.specs.Reopening.{LeavesUndamaged, OpensAgain, ReadsBoxes, SaysNothing, StaysUndamaged, specs_of_boxes}
use Rattle.relay_server.specs.Serving.{Reached}
use Rattle.relay_server.specs.declared.errors.ServerOpenError.{ServerOpenError}
use Rattle.relay_server.specs.declared.errors.ServerOpenError.TheVariants.{BoxKeys, BoxName, Damaged, Memory, StoreFault}
use Rattle.relay_server.proofs.OneStore.{there_is}

-- ---- no damage comes

module _ {X : Type 0} (state : X → DiskState) (count : ℕ) (moments : List X) (stays : StaysUndamaged state count moments) where
  goes_on : (a b : X) → LeavesUndamaged count (state a) (state b) → Always (AreUndamaged count) (state a)
      → Always (AreUndamaged count) (state b)
  goes_on a b came was c left = ⊎_elim (was c)
      (⊎_elim (λ (kept : KeepsUndamaged count (state a) c). λ k less. kept.2 k less (was kept.0 kept.1 k less)) (λ whole. whole))
      (came c left)

  pub each_undamaged : (n : ℕ) (b : X) → slice_get moments n ≡ Some b → Always (AreUndamaged count) (state b)
  each_undamaged zero b is = stays.first b is
  each_undamaged (suc n) b is =
      let within = slice_get_within moments (suc n) b is in
      let before = there_is moments n (omega (arith, within)) in
      goes_on before.0 b (stays.links n before.0 b before.1 (ap (slice_get moments) (let e : n + 1 ≡ suc n = omega arith in e) ∙ is))
      (each_undamaged n before.0 before.1)

pub all_undamaged : (boxes : List Box) (c : List ℕ) → StandsForBoxes boxes c → AreUndamaged (length boxes) c
all_undamaged boxes c stands k less = let box = there_is boxes k less in (stands k box.0 box.1).undamaged

-- ---- boxes that stand

by_record : (k : ℕ) (box : Box) (c : List ℕ) (o : Option (List ℕ)) → HasRecordOf box o → OpensAs (area_of k) o c
    → (text : List ℕ) × (area_read k c ≡ holds text) × IsRecordOf box text
by_record k box c None has opens = absurd has
by_record k box c (Some text) has opens = (text, opens box_fault (ap box_fault_of has), has)

-- what the area of a box is read as
read_box : (k : ℕ) (box : Box) (c : List ℕ) → StandsForBox k box c → (text : List ℕ) × (area_read k c ≡ holds text) × IsRecordOf box text
read_box k box c stands = by_record k box c (stored_record (area_of k) c) stands.has stands.undamaged

one_box : (text : List ℕ) (box other : Box) → IsRecordOf box text → IsRecordOf other text → other ≡ box
one_box text box other is also = let e : Ok box ≡ Ok other = sym is ∙ also in cc

spec_at : (boxes : List Box) (k : ℕ) (box : Box) → slice_get boxes k ≡ Some box → slice_get (specs_of_boxes boxes) k ≡ Some (spec_of box)
spec_at boxes k box there = slice_get-map spec_of boxes k ∙ ap (option_map spec_of) there

same_boxes : (xs ys : List Box) → length xs ≡ length ys → ((k : ℕ) (x y : Box) → slice_get xs k ≡ Some x → slice_get ys k ≡ Some y → x ≡ y) → xs ≡ ys
same_boxes [] [] sized each = refl
same_boxes [] (y ∷ ys) sized each = absurd (omega (arith, sized))
same_boxes (x ∷ xs) [] sized each = absurd (omega (arith, sized))
same_boxes (x ∷ xs) (y ∷ ys) sized each =
    let head : x ≡ y = each zero x y refl refl in
    let rest : xs ≡ ys = same_boxes xs ys (omega (arith, sized)) (λ k. each (suc k)) in
    ap (λ (z : Box). z ∷ xs) head ∙ ap (λ (zs : List Box). y ∷ zs) rest

-- while they are opened they stand
stays_or_begins : (spec : BoxSpec) (box : Box) (old new : Option (List ℕ)) → StaysOrBegins spec old new → HasRecordOf box old → HasRecordOf box new
stays_or_begins spec box old new (inl same) has = subst (HasRecordOf box) (sym same) has
stays_or_begins spec box old new (inr begins) has = absurd (subst (HasRecordOf box) begins.0 has)

pub stands_opening : (boxes : List Box) (start : DiskState) (c : List ℕ) → Always (StandsForBoxes boxes) start
    → IsOpening (specs_of_boxes boxes) start c → StandsForBoxes boxes c
stands_opening boxes start c stood opening k box there =
    let was = stood opening.entry opening.image k box there in
    record {
      has = stays_or_begins (spec_of box) box _ _ (opening.each k (spec_of box) (spec_at boxes k box there)) was.has;
      undamaged = opening.undamaged k (slice_get_within (specs_of_boxes boxes) k (spec_of box) (spec_at boxes k box there)) was.undamaged;
    }

-- and they are opened again
module _ (boxes : List Box) (start now : DiskState) (reads : ReadsBoxes boxes start) where
  no_damage : (k : ℕ) (slot at : ℕ) → k < length boxes → area_read k reads.bytes ≡ damaged slot at → ⊥
  no_damage k slot at less is =
      let box = there_is boxes k less in
      let read = read_box k box.0 reads.bytes (reads.stands k box.0 box.1) in
      let e : holds read.0 ≡ damaged slot at = sym read.1 ∙ is in cc

  not_so : (how : Loaded) (box other : Box) → other ≡ box → Fits how (spec_of box) other → (how ≡ Taken → ⊥) → ⊥
  not_so Taken box other same fits another = another refl
  not_so OtherName box other same fits another = fits (ap (λ (b : Box). b.name) same)
  not_so OtherKeys box other same fits another = fits.1 (ap (λ (b : Box). keys_by b.guard) same)

  no_other : (how : Loaded) (k : ℕ) (box : Box) → (how ≡ Taken → ⊥) → slice_get boxes k ≡ Some box
      → HasOther how (spec_of box) (area_read k reads.bytes) → ⊥
  no_other how k box another there other =
      let read = read_box k box reads.bytes (reads.stands k box there) in
      let o = subst (HasOther how (spec_of box)) read.1 other in
      not_so how box o.0 (one_box read.0 box o.0 read.2 o.1) o.2 another

  has_no_other : (how : Loaded) (k : ℕ) → (how ≡ Taken → ⊥) → HasAnother how (specs_of_boxes boxes) start now k → ⊥
  has_no_other how k another is =
      let box = there_is boxes k (omega (arith, is.0, length-map boxes spec_of)) in
      no_other how k box.0 another box.1 ((is.2 reads.bytes reads.told).here (spec_of box.0) (spec_at boxes k box.0 box.1))

  sized : length (specs_of_boxes boxes) ≡ length boxes
  sized = length-map boxes spec_of

  refused : (error : ServerOpenError) → IsServerUnopened (specs_of_boxes boxes) start now error → SaysNothing error
  refused Memory is = tt
  refused (StoreFault call) is = tt
  refused (Damaged area slot at) is =
      let first = is.2 reads.bytes reads.told in
      no_damage area slot at (omega (arith, is.0, sized)) first.here
  refused (BoxName k) is = has_no_other OtherName k (λ e. cc) is
  refused (BoxKeys k) is = has_no_other OtherKeys k (λ e. cc) is

  boxes_are : (found : List Box) → AreBoxesRead (specs_of_boxes boxes) found start → found ≡ boxes
  boxes_are found are = same_boxes found boxes (are.count ∙ sized) (λ k x box found_there there.
      let read = read_box k box reads.bytes (reads.stands k box there) in
      let gives = are.read reads.bytes reads.told k (spec_of box) x (spec_at boxes k box there) found_there in
      one_box read.0 box x read.2 (subst (GivesBox (spec_of box) x) read.1 gives).0)

  pub opens_again : OpensAgain boxes start now
  opens_again = record { boxes_are = boxes_are; refused = refused }

-- ---- while boxes are served

module _ (n : ℕ) (boxes : List Box) (frame : List ℕ) (frames : List (List ℕ)) where
  by_last : length (served_within n (boxes_after boxes frame) frames).next ≡ length (boxes_after boxes frame) → (last : Bool)
      → length (if last then nothing_served (boxes_after boxes frame) else served_within n (boxes_after boxes frame) frames).next ≡ length (boxes_after boxes frame)
  by_last more true = refl
  by_last more false = more

same_count : (n : ℕ) (boxes : List Box) (frames : List (List ℕ)) → length (served_within n boxes frames).next ≡ length boxes
same_count zero boxes frames = refl
same_count (suc n) boxes [] = refl
same_count (suc n) boxes (frame ∷ frames) =
    by_last n boxes frame frames (same_count n (boxes_after boxes frame) frames) (is_last (read_request (drop 2 frame)))
    ∙ (change boxes (read_request (drop 2 frame))).count

pub serving_undamaged : (boxes : List Box) (got c : List ℕ) → Reached boxes got c → AreUndamaged (length boxes) c
serving_undamaged boxes got c reached = subst (λ (n : ℕ). AreUndamaged n c) (same_count EXCHANGE_LIMIT boxes reached.front)
    (all_undamaged (served_within EXCHANGE_LIMIT boxes reached.front).next c reached.stands)
