-- What a disk leaves over an opening, and what came after it.
use Rattle.std.proofs.Common.{List, Some, ap, inl, inr, refl, subst, sym, ℕ, ⊎_elim, ◌∙◌, ◌≡◌, ◌⊎◌}
use Rattle.std.specs.Prelude.{option_map}
use Rattle.dr_base.specs.declared.position.Side.{Side}
use Rattle.dr_disk.specs.Spans.{HavePassed, IsQuiet, Span}
use Rattle.dr_disk.specs.State.{Always, DiskState, IsLawful}
use Rattle.dr_disk.proofs.Steps.{spans, stays, widen}
use Rattle.dr_model.specs.Machines.Worlds.{World}
use Rattle.kem_laws.specs.Mechanism.{Mechanism}
use Rattle.session_model.specs.Clients.{Client}
use Rattle.session_record.specs.Record.{record_read, record_text}
use Rattle.client.specs.Cells.{Cell, IsOldOrNewInCell, KeepsOutsideCell}
use Rattle.client.specs.InWorlds.{CellStandsFor, CellStandsForEither, IsBetweenInCell}
use Rattle.client.specs.Keepings.{Keeping, cell_of}
use Rattle.client.specs.Opening.{IsAsReadInCell, IsEntryOrAsReadInCell, StandsInOpening}
use Rattle.client.specs.Outcomes.{IsReplacingInCell}
use Rattle.command_lines.specs.Places.{IsOpenedAt, IsReadOrEitherInCell, LeavesEitherInCell, LeavesPlaceAtRest, Place, RunsOnInCell, StandsForOneInCell, StandsOpen, StaysSoundInCell, is_after, is_before, is_read}

-- What keeps a session at a place: its own cell has the record that the place has, and leaves what lies outside of that, too.
pub record Fits {S : Type 0} (place : Place) (keeping : Keeping S) (s : S) : Type 1 where
  pub record_is : (c : List ℕ) → place.cell.record_in c ≡ (cell_of keeping s).record_in c
  pub undamaged : (c : List ℕ) → (cell_of keeping s).undamaged c → place.cell.undamaged c
  pub outside : (a b c : List ℕ) → place.cell.outside a b → (cell_of keeping s).outside b c → place.cell.outside a c
  pub rests : (t : S) (disk : DiskState) → keeping.place t ≡ keeping.place s → keeping.ready t disk → place.rests (keeping.kept t) disk

-- what is as what was read is sound
pub as_read_sound : (cell : Cell) (k : Mechanism) (start : DiskState) (c : List ℕ) → IsAsReadInCell cell k start c → StaysSoundInCell cell start c
as_read_sound cell k start c as_read =
    record { read = as_read.read; told = as_read.told; undamaged = as_read.undamaged; outside = as_read.outside }

-- so is what was left over such bytes, read without damage, where a cell lies in another
pub left_sound : (cell own : Cell) → ((a b c : List ℕ) → cell.outside a b → own.outside b c → cell.outside a c)
    → (k : Mechanism) (start mid : DiskState) (c : List ℕ) → Always (IsAsReadInCell cell k start) mid → cell.undamaged c
    → KeepsOutsideCell own mid c → StaysSoundInCell cell start c
left_sound cell own twice k start mid c alike whole kept =
    let as_read = alike kept.0 kept.1 in
    record {
      read = as_read.read;
      told = as_read.told;
      undamaged = λ _. whole;
      outside = twice as_read.read kept.0 c as_read.outside kept.2;
    }

-- two facts of what is left between two moments
both_of : (a : DiskState) (P Q R : List ℕ → Type 0) → ((c : List ℕ) → P c → Q c → R c) → (c : List ℕ)
    → a.image c ⊎ P c → a.image c ⊎ Q c → a.image c ⊎ R c
both_of a P Q R to c p q = ⊎_elim (λ was. inl was) (λ x. ⊎_elim (λ was. inl was) (λ y. inr (to c x y)) q) p

pub both_left : (a b : DiskState) (P Q R : List ℕ → Type 0)
    → ((c : List ℕ) → P c → Q c → R c) → Span a b (λ c. a.image c ⊎ P c) → Span a b (λ c. a.image c ⊎ Q c)
    → Span a b (λ c. a.image c ⊎ R c)
both_left a b P Q R to first next = record {
  size = first.size;
  counts = first.counts;
  later = first.later;
  passes = first.passes;
  keeps = first.keeps;
  fates = first.fates;
  all = first.all;
  told = first.told;
  each = λ t c le left.
      ⊎_elim (λ was. inl was)
      (λ p. ⊎_elim (λ was. inl was) (λ q. inr (both_of a P Q R to c p q)) (next.each t c le left)) (first.each t c le left);
  last = λ c left.
      ⊎_elim (λ was. inl was)
      (λ p. ⊎_elim (λ was. inl was) (λ q. inr (both_of a P Q R to c p q)) (next.last c left)) (first.last c left);
}

-- ---- an opening in a world

module _ (cell : Cell) (k : Mechanism) (side : Side) (before after : World) (start : DiskState) where
  pub stands_for_one : (c : List ℕ) → IsAsReadInCell cell k start c → CellStandsFor cell k before side c
      → StandsForOneInCell cell k side before after start c
  stands_for_one c as_read stands = record { either = inl stands; sound = as_read_sound cell k start c as_read }

  pub opens_on : (mid : DiskState) → StandsInOpening cell k before side start mid → Span start mid (IsEntryOrAsReadInCell cell k start)
      → Span start mid (λ c. start.image c ⊎ StandsForOneInCell cell k side before after start c)
  opens_on mid opens opening =
      both_left start mid (IsAsReadInCell cell k start) (CellStandsFor cell k before side) (StandsForOneInCell cell k side before after start)
      stands_for_one opening opens.any_moment

-- where only the opening was
pub only_opened : (cell : Cell) (k : Mechanism) (side : Side) (w : World) (start now : DiskState)
    → StandsInOpening cell k w side start now → Span start now (IsEntryOrAsReadInCell cell k start)
    → ((s : List ℕ) → now.seen ≡ Some s → IsAsReadInCell cell k start s) → RunsOnInCell cell k side w w start now
only_opened cell k side w start now opens opening reads = record {
  any_moment = opens_on cell k side w w start now opens opening;
  reads = λ s told. stands_for_one cell k side w w start s (reads s told) (opens.reads s told);
}

-- ---- what keeps a session there

-- it stands open, before anything else is done
pub stood_open : {S : Type 0} (place : Place) (keeping : Keeping S) (k : Mechanism) (s : S) (start opened : DiskState)
    → Fits place keeping s → IsOpenedAt place keeping k s start opened → (place.read_at_rest start → HavePassed 1 start opened)
    → StandsOpen place k (keeping.kept s) start opened
stood_open place keeping k s start opened fits is counted = record {
  rests = fits.rests s opened refl is.ready;
  alike = is.alike;
  quiet = is.quiet;
  one_sync = counted;
}

module _ {S X : Type 0} (place : Place) (keeping : Keeping S) (state : X → DiskState) (k : Mechanism) (start mid now : X)
    (lawful : IsLawful (state now)) (s : S) (fits : Fits place keeping s) (opened : IsOpenedAt place keeping k s (state start) (state mid))
    (opening : Span (state start) (state mid) (IsEntryOrAsReadInCell place.cell k (state start))) where
  left_by : (before after : Client) (c : List ℕ)
      → IsOldOrNewInCell (cell_of keeping s) (state mid) (Some (record_text before)) (Some (record_text after)) c
      → IsReadOrEitherInCell place.cell k before after (state start) c
  left_by before after c is =
      let whole = fits.undamaged c is.undamaged in
      let sound = left_sound place.cell (cell_of keeping s) fits.outside k (state start) (state mid) c opened.alike whole is.frame in
      ⊎_elim (λ old. is_before (record { has = fits.record_is c ∙ old; undamaged = whole; sound = sound }))
      (λ new. is_after (record { has = fits.record_is c ∙ new; undamaged = whole; sound = sound })) is.either

  stands_there : (w : World) (side : Side) (c : List ℕ) → CellStandsFor (cell_of keeping s) k w side c → CellStandsFor place.cell k w side c
  stands_there w side c is = ap (option_map (record_read k)) (fits.record_is c) ∙ is

  stands_by : (side : Side) (before after : World) (c : List ℕ) → CellStandsForEither (cell_of keeping s) k side before after (state mid) c
      → StandsForOneInCell place.cell k side before after (state start) c
  stands_by side before after c is = record {
    either = ⊎_elim (λ old. inl (stands_there before side c old)) (λ new. inr (stands_there after side c new)) is.either;
    sound = left_sound place.cell (cell_of keeping s) fits.outside k (state start) (state mid) c opened.alike
        (fits.undamaged c is.undamaged) is.outside;
  }

  pub leaves_either : (before after : Client) → IsReplacingInCell (cell_of keeping s) before after (state mid) (state now)
      → LeavesEitherInCell place.cell k before after (state start) (state now)
  leaves_either before after replacing = record {
    any_moment =
        spans (state start) (state mid) (state now) (λ c. (state start).image c ⊎ IsReadOrEitherInCell place.cell k before after (state start) c)
        (widen (state start) (state mid) (IsEntryOrAsReadInCell place.cell k (state start))
        (λ c. (state start).image c ⊎ IsReadOrEitherInCell place.cell k before after (state start) c)
        (λ c x. ⊎_elim (λ was. inl was) (λ as_read. inr (is_read as_read)) x) opening)
        (widen (state mid) (state now)
        (IsOldOrNewInCell (cell_of keeping s) (state mid) (Some (record_text before)) (Some (record_text after)))
        (λ c. (state start).image c ⊎ IsReadOrEitherInCell place.cell k before after (state start) c)
        (λ c x. inr (left_by before after c x)) replacing);
    reads = λ r told.
        ⊎_elim (λ was. is_read (opened.alike r was)) (λ new. left_by before after r new)
        (replacing.last r (lawful.seen_now r told));
  }

  pub runs_on : (side : Side) (before after : World) → StandsInOpening place.cell k before side (state start) (state mid)
      → Always (CellStandsFor place.cell k before side) (state mid)
      → IsBetweenInCell (cell_of keeping s) k side before after (state mid) (state now)
      → RunsOnInCell place.cell k side before after (state start) (state now)
  runs_on side before after opens stand between = record {
    any_moment =
        spans (state start) (state mid) (state now) (λ c. (state start).image c ⊎ StandsForOneInCell place.cell k side before after (state start) c)
        (opens_on place.cell k side before after (state start) (state mid) opens opening)
        (widen (state mid) (state now) (CellStandsForEither (cell_of keeping s) k side before after (state mid))
        (λ c. (state start).image c ⊎ StandsForOneInCell place.cell k side before after (state start) c)
        (λ c x. inr (stands_by side before after c x)) between);
    reads = λ r told.
        ⊎_elim (λ was. stands_for_one place.cell k side before after (state start) r (opened.alike r was) (stand r was))
        (λ new. stands_by side before after r new) (between.last r (lawful.seen_now r told));
  }

  -- ---- where no call was made after the opening

  module _ (same : now ≡ mid) where
    pub still_rests : place.rests (keeping.kept s) (state now)
    still_rests = subst (λ x. place.rests (keeping.kept s) (state x)) (sym same) (fits.rests s (state mid) refl opened.ready)

    pub stood : LeavesPlaceAtRest place k (keeping.kept s) (keeping.kept s) (state start) (state now)
    stood = record {
      either =
          leaves_either (keeping.kept s) (keeping.kept s)
          (subst (λ x. IsReplacingInCell (cell_of keeping s) (keeping.kept s) (keeping.kept s) (state mid) (state x)) (sym same)
          (stays (state mid)
          (IsOldOrNewInCell (cell_of keeping s) (state mid) (Some (record_text (keeping.kept s))) (Some (record_text (keeping.kept s))))));
      rests = still_rests;
      quiet = subst (λ x. IsQuiet (state start) (state x)) (sym same) opened.quiet;
    }

    pub stays_on : (side : Side) (w : World) → StandsInOpening place.cell k w side (state start) (state mid)
        → Always (CellStandsFor place.cell k w side) (state mid) → RunsOnInCell place.cell k side w w (state start) (state now)
    stays_on side w opens stand =
        runs_on side w w opens stand
        (subst (λ x. IsBetweenInCell (cell_of keeping s) k side w w (state mid) (state x)) (sym same)
        (stays (state mid) (CellStandsForEither (cell_of keeping s) k side w w (state mid))))
