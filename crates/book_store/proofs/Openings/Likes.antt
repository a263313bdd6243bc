-- Bytes that stand for what was read.
use Rattle.std.proofs.Common.{◌≡◌, ⊎_elim, ℕ, List, Option, Some, refl, sym, ◌∙◌, ap, subst}
use Rattle.dr_disk.specs.State.{Always, DiskState, IsLawful, IsSettled}
use Rattle.dr_disk.specs.Spans.{Span}
use Rattle.dr_disk.proofs.Steps.{spans, widen}
use Rattle.pages.specs.Clearing.{IsSameShots}
use Rattle.pages.specs.Snapshots.{snapshot}
use Rattle.pages.proofs.Around.{outside_twice, same_outside}
use Rattle.book_store.specs.Layout.{book_layout}
use Rattle.book_store.specs.LikeRead.{IsLikeReadBook}
use Rattle.book_store.specs.Reading.{AreRecords, IsUndamagedBook, book_read_as, book_reading, has_rows}
use Rattle.book_store.specs.Rows.{book_names}
use Rattle.book_store.specs.Shown.{rows_in, stored_rows}

module _ (rows : ℕ) (c d : List ℕ)
    (same : snapshot book_names (book_layout rows) c ≡ snapshot book_names (book_layout rows) d) where
  pub same_rows : stored_rows rows c ≡ stored_rows rows d
  unfolding stored_rows
  same_rows = ap rows_in same

  same_reading : (fault_at : List ℕ → Option ℕ) → book_reading fault_at rows c ≡ book_reading fault_at rows d
  unfolding book_reading
  same_reading fault_at = ap (book_read_as fault_at rows) same

  pub same_undamaged : IsUndamagedBook rows d → IsUndamagedBook rows c
  same_undamaged whole fault_at records = same_reading fault_at
      ∙ whole fault_at (subst (AreRecords fault_at) same_rows records) ∙ ap has_rows (sym same_rows)

pub as_read : (rows : ℕ) (start : DiskState) (s : List ℕ) → start.seen ≡ Some s → IsLikeReadBook rows start s
as_read rows start s told = record {
  read = s;
  told = told;
  same = refl;
  undamaged = λ whole. whole;
  outside = same_outside (book_layout rows) s;
}

module _ (rows : ℕ) (start : DiskState) (settled : IsSettled start) where
  like_shot : (c : List ℕ) → IsSameShots book_names (book_layout rows) start c → IsLikeReadBook rows start c
  like_shot c is = record {
    read = is.entry;
    told = settled is.entry is.image;
    same = same_rows rows c is.entry is.same;
    undamaged = same_undamaged rows c is.entry is.same;
    outside = is.outside;
  }

  pub like_shots : (now : DiskState) → Span start now (IsSameShots book_names (book_layout rows) start)
      → Span start now (IsLikeReadBook rows start)
  like_shots now span =
      widen start now (IsSameShots book_names (book_layout rows) start) (IsLikeReadBook rows start) like_shot span

  pub left_like : (now : DiskState) → Span start now (IsLikeReadBook rows start) → Always (IsLikeReadBook rows start) now
  left_like now span c left =
      ⊎_elim (λ was. as_read rows start c (settled c was)) (λ like. like) (span.last c left)

-- ---- what is like what was read at a later moment

like_twice : (rows : ℕ) (start a : DiskState) → IsLawful a → Always (IsLikeReadBook rows start) a → (c : List ℕ)
    → IsLikeReadBook rows a c → IsLikeReadBook rows start c
like_twice rows start a lawful was c now =
    let first = was now.read (lawful.seen_now now.read now.told) in
    record {
      read = first.read;
      told = first.told;
      same = now.same ∙ first.same;
      undamaged = λ whole. now.undamaged (first.undamaged whole);
      outside = outside_twice (book_layout rows) first.read now.read c first.outside now.outside;
    }

pub both_moments : (rows : ℕ) (start a b : DiskState) → IsLawful a → Always (IsLikeReadBook rows start) a
    → Span start a (IsLikeReadBook rows start) → Span a b (IsLikeReadBook rows a) → Span start b (IsLikeReadBook rows start)
both_moments rows start a b lawful was one next = spans start a b (IsLikeReadBook rows start) one
    (widen a b (IsLikeReadBook rows a) (IsLikeReadBook rows start) (like_twice rows start a lawful was) next)

-- where the moments are told the same
pub like_before : (rows : ℕ) (start a : DiskState) → a.seen ≡ start.seen → (c : List ℕ) → IsLikeReadBook rows a c
    → IsLikeReadBook rows start c
like_before rows start a same c like = record {
  read = like.read;
  told = sym same ∙ like.told;
  same = like.same;
  undamaged = like.undamaged;
  outside = like.outside;
}
