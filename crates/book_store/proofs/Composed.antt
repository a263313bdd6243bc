-- Rows are staged, and then committed.
use Rattle.std.proofs.Common.{◌≡◌, inl, ℕ, ◌+◌, ◌-◌, List, Option, Some, sym, ◌∙◌, ap, arith}
use Rattle.std.specs.Prelude.{◌&&◌, ◌||◌, if◌then◌else◌, nat_le}
use Rattle.std.proofs.lemmas.Bool.Decides.{nat_tests}
use Rattle.dr_disk.specs.declared.call.Mode.{Mode}
use Rattle.dr_disk.specs.State.{Always, DiskState}
use Rattle.dr_disk.specs.Spans.{HavePassed, Span}
use Rattle.dr_disk.proofs.Steps.{spans, widen}
use Rattle.pages.specs.Stops.{opens, put_shows, put_took}
use Rattle.pages.proofs.Around.{around_twice}
use Rattle.book_store.specs.Committing.{IsBookStopped, IsOldOrNewBook, KeepsOutsideBook, KeepsRows}
use Rattle.book_store.specs.Layout.{book_layout}
use Rattle.book_store.specs.Shown.{BookRow}

module _ (rows : ℕ) (old : List (Option BookRow)) (start mid : DiskState)
    (still : Always (KeepsRows rows old start) mid) where
  frame : (c : List ℕ) → KeepsOutsideBook rows mid c → KeepsOutsideBook rows start c
  frame = around_twice (book_layout rows) start mid (λ c left. (still c left).frame)

  kept : (c : List ℕ) → KeepsRows rows old mid c → KeepsRows rows old start c
  kept c is = record { has = is.has; frame = frame c is.frame }

  pub stay : (end : DiskState) → Span start mid (KeepsRows rows old start) → Span mid end (KeepsRows rows old mid)
      → Span start end (KeepsRows rows old start)
  stay end first next = spans start mid end (KeepsRows rows old start) first
      (widen mid end (KeepsRows rows old mid) (KeepsRows rows old start) kept next)

  pub stay_still : (end : DiskState) → Always (KeepsRows rows old mid) end → Always (KeepsRows rows old start) end
  stay_still end next c left = kept c (next c left)

  module _ (new : List (Option BookRow)) where
    abbrev Either : DiskState → List ℕ → Type 0
    Either = IsOldOrNewBook rows old new

    pub all_or_none : (end : DiskState) → Span start mid (KeepsRows rows old start) → Span mid end (Either mid)
        → Span start end (Either start)
    all_or_none end first next = spans start mid end (Either start)
        (widen start mid (KeepsRows rows old start) (Either start) (λ c is. record { either = inl is.has; frame = is.frame }) first)
        (widen mid end (Either mid) (Either start) (λ c is. record { either = is.either; frame = frame c is.frame }) next)

-- ---- n more calls passed before

module _ (n m k : ℕ) (is : m ≡ k + n) where
  same_test : (a b x y : ℕ) → a + y ≡ b + x → nat_le a b ≡ nat_le x y
  same_test a b x y e = grind (arith, nat_tests)

  more_took : (mode : Mode) → put_took n m mode ≡ put_took 0 k mode
  unfolding put_took
  more_took mode =
      ap (λ b. b || (nat_le (n + 2) m && opens mode)) (same_test (n + 4) m 4 k (omega (arith, is)))
      ∙ ap (λ b. nat_le 4 k || (b && opens mode)) (same_test (n + 2) m 2 k (omega (arith, is)))

  more_shows : put_shows n m ≡ put_shows 0 k
  unfolding put_shows
  more_shows = same_test (n + 3) m 3 k (omega (arith, is))

module _ (rows n : ℕ) (old new : List (Option BookRow)) (start mid end : DiskState) (P : List ℕ → Type 0)
    (before : HavePassed n start mid) (keeps : mid.keeps ≡ start.keeps) (span : Span mid end P)
    (stopped : IsBookStopped rows 0 old new mid end) where
  pub stopped_more : IsBookStopped rows n old new start end
  stopped_more = record {
    crash = λ l m mode c was is told.
        let between = span.passes m is in
        let first = before between.0 between.1 in
        let same : l ≡ first.0 = let f : Some l ≡ Some first.0 = sym was ∙ first.1 in cc in
        stopped.crash between.0 m mode c between.1 is told
        ∙ ap (λ t. if t then new else old) (sym (more_took n (m - l) (m - between.0)
        (omega (arith, same, first.2, between.2)) mode));
    read = λ keep l m s was is told.
        let between = span.passes m is in
        let first = before between.0 between.1 in
        let same : l ≡ first.0 = let f : Some l ≡ Some first.0 = sym was ∙ first.1 in cc in
        stopped.read (keeps ∙ keep) between.0 m s between.1 is told
        ∙ ap (λ t. if t then new else old) (sym (more_shows n (m - l) (m - between.0)
        (omega (arith, same, first.2, between.2))));
  }
