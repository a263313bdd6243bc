-- What stands from moment to moment.
use Rattle.std.proofs.Common.{List, length, ◌++◌, None, Some, ap, arith, inl, inr, refl, subst, suc, sym, zero, ℕ, ⊎_elim, ◌+◌, ◌-◌, ◌<◌, ◌∙◌, ◌∷◌, ◌≡◌, ◌≤◌, ◌⊎◌, []}
use Rattle.std.specs.Prelude.{All, Any, Contains, slice_get, slice_index_or}
use Rattle.std.proofs.lemmas.List.{get_or-append-add, get_or_append_left, length-append}
use Rattle.std.proofs.lemmas.List.Elements.{All-append, All-cons, All-nil, All-weaker}
use Rattle.dr_base.specs.declared.position.Side.{Side}
use Rattle.dr_disk.specs.State.{Always, DiskState}
use Rattle.dr_model.specs.Machines.WorldActs.{act_in}
use Rattle.dr_model.specs.Machines.Worlds.{World}
use Rattle.kem_laws.specs.Mechanism.{Mechanism}
use Rattle.sync_model.specs.Courses.{begun}
use Rattle.client.specs.Cells.{Cell}
use Rattle.client.specs.InWorlds.{CellStandsFor}
use Rattle.client.specs.Moments.{AreLinkedInCell, CellLink, CellStandsStill, IsActed, IsAmongKnown, IsKnownInCell, IsLater, Known, known_after_sync, reached_by, settled_in, was_acknowledged, was_cut, was_cut_in_sync, was_left, was_moved, was_opened, was_synced, with_doubts}
use Rattle.client.specs.Syncing.InWorlds.{course_in}
use Rattle.client.specs.Syncing.Parties.{world_party}
use Rattle.client.proofs.Later.{act_later, acted_later, acted_none, acted_once, acted_twice, back_acted, front_later, itself, later_twice}

-- what holds of all holds of one among them
pub among : {X : Type 0} (P : X → Type 0) (xs : List X) (x : X) → All P xs → Contains xs x → P x
among P xs x all at = subst P at.2 (all at.0 x at.1)

-- one world in doubt
pub one_known : (cell : Cell) → (k : Mechanism) (w : World) (side : Side) (c : List ℕ)
    → CellStandsFor cell k w side c
    → Any (λ v. CellStandsFor cell k v side c) (w ∷ [])
one_known cell k w side c stood = (0, w, omega arith, refl, stood)

pub only : {X : Type 0} (P : X → Type 0) (x : X) → Any P (x ∷ []) → P x
only {X = X} P x at = by_place at.0 at.1 at.2 at.3 at.4
  where
    by_place : (n : ℕ) (y : X) → n < 1 → slice_index_or (x ∷ []) n y ≡ y → P y → P x
    by_place zero y lt is holds = subst P (sym is) holds
    by_place (suc n) y lt is holds = absurd (omega (arith, lt))

-- ---- an element of two lists

in_first : {X : Type 0} (P : X → Type 0) (xs ys : List X) → Any P xs → Any P (xs ++ ys)
in_first P xs ys at =
    (at.0, at.1, omega (arith, at.2, length-append xs ys), get_or_append_left xs ys at.1 at.0 at.2 ∙ at.3, at.4)

in_second : {X : Type 0} (P : X → Type 0) (xs ys : List X) → Any P ys → Any P (xs ++ ys)
in_second P xs ys at =
    (length xs + at.0, at.1, omega (arith, at.2, length-append xs ys), get_or-append-add xs ys at.0 at.1 ∙ at.3, at.4)

-- what stood for a known world, or stands for one that is known or for one of more, is known with those
more_known : (cell : Cell)
    → (k : Mechanism) (side : Side) (known : Known) (worlds : List World) (w : World) (c : List ℕ)
    → IsAmongKnown known w
    → IsKnownInCell cell k side known c
    ⊎ (CellStandsFor cell k w side c ⊎ Any (λ v. CellStandsFor cell k v side c) worlds)
    → IsKnownInCell cell k side (with_doubts known worlds) c
more_known cell k side known worlds w c which either =
    ⊎_elim (λ was. ⊎_elim inl (λ at. inr (in_first (λ v. CellStandsFor cell k v side c) known.doubtful worlds at)) was)
    (λ stood. ⊎_elim (λ is. ⊎_elim (λ e. inl (subst (λ v. CellStandsFor cell k v side c) e is))
    (λ at. inr (in_first (λ v. CellStandsFor cell k v side c) known.doubtful worlds (at.0, w, at.1, at.2, is))) which)
    (λ at. inr (in_second (λ v. CellStandsFor cell k v side c) known.doubtful worlds at)) stood) either

module _ (cell : Cell) (k : Mechanism) (side : Side) (first : World) where
  abbrev Still : Known → DiskState → Type 0
  Still = CellStandsStill cell k side first

  settled_still : (w : World) (b : DiskState) → IsLater k first w
      → Always (CellStandsFor cell k w side) b → Still (settled_in w) b
  settled_still w b later rests = record {
    images = λ c left. inl (rests c left);
    last_later = later;
    doubtful_later = All-nil (IsLater k w);
    doubtful_acted = All-nil (IsActed k side w);
  }

  -- what is acted is later
  still_by : (known : Known) (b : DiskState) → Always (IsKnownInCell cell k side known) b
      → IsLater k first known.last
      → All (IsActed k side known.last) known.doubtful → Still known b
  still_by known b images later acted = record {
    images = images;
    last_later = later;
    doubtful_later = All-weaker (IsActed k side known.last) (IsLater k known.last) (λ w is. acted_later k side known.last w is) known.doubtful acted;
    doubtful_acted = acted;
  }

  -- acts of this side lead from the last world to one that is opened
  opened_acted : (known : Known) (a : DiskState) (w : World) → IsAmongKnown known w → Still known a → IsActed k side known.last w
  opened_acted known a w which still =
      ⊎_elim (λ e. subst (IsActed k side known.last) (sym e) (acted_none k side known.last))
      (λ at. among (IsActed k side known.last) known.doubtful w still.doubtful_acted at) which

  opened_later : (known : Known) (a : DiskState) (w : World) → IsAmongKnown known w → Still known a → IsLater k first w
  opened_later known a w which still =
      later_twice k first known.last w still.last_later (acted_later k side known.last w (opened_acted known a w which still))

  -- more worlds in doubt, to which acts lead from one that is known
  doubts_still : (known : Known) (a b : DiskState) (w : World) (worlds : List World) → IsAmongKnown known w → Still known a
      → All (IsActed k side w) worlds
      → ((c : List ℕ) → b.image c
      → a.image c
      ⊎ (CellStandsFor cell k w side c ⊎ Any (λ v. CellStandsFor cell k v side c) worlds))
      → Still (with_doubts known worlds) b
  doubts_still known a b w worlds which still acted left_by =
      still_by (with_doubts known worlds) b
      (λ c left. more_known cell k side known worlds w c which (⊎_elim (λ was. inl (still.images c was)) inr (left_by c left)))
      still.last_later
      (All-append (IsActed k side known.last) known.doubtful worlds still.doubtful_acted
      (All-weaker (IsActed k side w) (IsActed k side known.last) (λ v is. acted_twice k side known.last w v (opened_acted known a w which still) is) worlds acted))

  pub goes_on : (a b : DiskState) (before after : Known) → CellLink cell k side a b before after
      → Still before a → Still after b
  goes_on a b before after (was_opened known w which rests) still = settled_still w b (opened_later known a w which still) rests
  goes_on a b before after (was_acknowledged known w which act fair rests) still =
      let next = (act_in k w side act).next in
      settled_still next b (later_twice k first w next (opened_later known a w which still) (act_later k side w act fair)) rests
  goes_on a b before after (was_cut known w which act fair left_by) still =
      let next = (act_in k w side act).next in
      doubts_still known a b w (next ∷ []) which still
      (All-cons (IsActed k side w) next [] (acted_once k side w act fair) (All-nil (IsActed k side w)))
      (λ c left. ⊎_elim inl (λ stood. inr (⊎_elim inl (λ is. inr (one_known cell k next side c is)) stood)) (left_by c left))
  goes_on a b before after (was_synced known w which prefix front back fair images) still =
      still_by (known_after_sync k prefix side w front back) b images
      (later_twice k first w (course_in k prefix side w front).state (opened_later known a w which still) (front_later k prefix side w front back fair))
      (back_acted k prefix side w front back fair)
  goes_on a b before after (was_cut_in_sync known w which prefix replies fair left_by) still =
      doubts_still known a b w (reached_by (world_party k prefix side w) (begun (world_party k prefix side w) w) replies) which still
      (back_acted k prefix side w [] replies fair) left_by
  goes_on a b before after (was_left known left_by) still = record {
    images = λ c left. ⊎_elim (still.images c) (λ is. is) (left_by c left);
    last_later = still.last_later;
    doubtful_later = still.doubtful_later;
    doubtful_acted = still.doubtful_acted;
  }
  goes_on a b before after (was_moved known moved have left_by) still =
      still_by moved b (λ c left. ⊎_elim (λ was. have.stands c (still.images c was)) (λ is. is) (left_by c left))
      (later_twice k first known.last moved.last still.last_later have.last_later) have.doubtful_acted

  -- what was acknowledged or opened last comes later with each link
  last_later : (a b : DiskState) (before after : Known) → CellLink cell k side a b before after
      → Still before a
      → IsLater k before.last after.last
  last_later a b before after (was_opened known w which rests) still = acted_later k side known.last w (opened_acted known a w which still)
  last_later a b before after (was_acknowledged known w which act fair rests) still =
      later_twice k known.last w (act_in k w side act).next (acted_later k side known.last w (opened_acted known a w which still))
      (act_later k side w act fair)
  last_later a b before after (was_cut known w which act fair left_by) still = itself k known.last
  last_later a b before after (was_synced known w which prefix front back fair images) still =
      later_twice k known.last w (course_in k prefix side w front).state (acted_later k side known.last w (opened_acted known a w which still))
      (front_later k prefix side w front back fair)
  last_later a b before after (was_cut_in_sync known w which prefix replies fair left_by) still = itself k known.last
  last_later a b before after (was_left known left_by) still = itself k known.last
  last_later a b before after (was_moved known moved have left_by) still = have.last_later

pub get_before : {X : Type 0} (xs : List X) (n : ℕ) (b : X) → slice_get xs (suc n) ≡ Some b → (a : X) × (slice_get xs n ≡ Some a)
get_before [] n b h = absurd (let e : None ≡ Some b = h in cc)
get_before (x ∷ xs) zero b h = (x, refl)
get_before (x ∷ xs) (suc n) b h = get_before xs n b h

get_back : {X : Type 0} (xs : List X) (n more : ℕ) (b : X) → slice_get xs (n + more) ≡ Some b
    → (a : X) × (slice_get xs n ≡ Some a)
get_back xs n zero b h = (b, ap (slice_get xs) (omega arith) ∙ h)
get_back xs n (suc more) b h =
    let before = get_before xs (n + more) b (ap (slice_get xs) (omega arith) ∙ h) in
    get_back xs n more before.0 before.1

module _ (cell : Cell) {X : Type 0} (state : X → DiskState) (xs : List X) (k : Mechanism)
    (side : Side) (first : World) (known : ℕ → Known)
    (linked : AreLinkedInCell cell state xs k side first known) where
  pub stands : (n : ℕ) (a : X) → slice_get xs n ≡ Some a
      → CellStandsStill cell k side first (known n) (state a)
  stands zero a is =
      subst (λ (kn : Known). CellStandsStill cell k side first kn (state a)) (sym linked.begins)
      (settled_still cell k side first first (state a) (itself k first) (linked.stands a is))
  stands (suc n) b is =
      let before = get_before xs n b is in
      let step : n + 1 ≡ suc n = omega arith in
      let link = linked.links n before.0 b before.1 (ap (slice_get xs) step ∙ is) in
      subst (λ m. CellStandsStill cell k side first (known m) (state b)) step
      (goes_on cell k side first (state before.0) (state b) (known n) (known (n + 1)) link (stands n before.0 before.1))

  -- from a moment to one that is this many links later
  later_by : (n more : ℕ) (b : X) → slice_get xs (n + more) ≡ Some b → IsLater k (known n).last (known (n + more)).last
  later_by n zero b is = subst (λ m. IsLater k (known n).last (known m).last) (omega arith) (itself k (known n).last)
  later_by n (suc more) b is =
      let step : n + suc more ≡ suc (n + more) = omega arith in
      let one : n + more + 1 ≡ n + suc more = omega arith in
      let before = get_before xs (n + more) b (ap (slice_get xs) (sym step) ∙ is) in
      let link = linked.links (n + more) before.0 b before.1 (ap (slice_get xs) one ∙ is) in
      subst (λ m. IsLater k (known n).last (known m).last) one
      (later_twice k (known n).last (known (n + more)).last (known (n + more + 1)).last (later_by n more before.0 before.1)
      (last_later cell k side first (state before.0) (state b) (known (n + more)) (known (n + more + 1)) link
      (stands (n + more) before.0 before.1)))

  pub later : (n m : ℕ) (b : X) → n ≤ m → slice_get xs m ≡ Some b → IsLater k (known n).last (known m).last
  later n m b le is =
      let whole : n + (m - n) ≡ m = omega arith in
      subst (λ e. IsLater k (known n).last (known e).last) whole (later_by n (m - n) b (ap (slice_get xs) whole ∙ is))

  -- and from the first world
  pub first_later : (n m : ℕ) (b : X) → n ≤ m → slice_get xs m ≡ Some b → IsLater k first (known n).last
  first_later n m b le is =
      let whole : n + (m - n) ≡ m = omega arith in
      let at = get_back xs n (m - n) b (ap (slice_get xs) whole ∙ is) in
      subst (λ w. IsLater k w (known n).last) (ap (λ (kn : Known). kn.last) linked.begins)
      (later 0 n at.0 (omega arith) at.1)
