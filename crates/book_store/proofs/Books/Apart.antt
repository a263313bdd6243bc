-- Numbers of all rows' pages, each once.
use Rattle.std.proofs.Common.{◌≢◌, ◌⊎◌, inl, inr, ⊎_elim, ℕ, zero, suc, ◌+◌, ◌*◌, ◌≤◌, ◌<◌, List, [], ◌∷◌, ◌++◌, length, sym, subst, arith}
use Rattle.std.specs.Prelude.{All, slice_index}
use Rattle.std.proofs.lemmas.Bool.{cases_eq}
use Rattle.std.proofs.lemmas.List.Elements.{All-append, All-from_get_or, All-head, All-tail, All-weaker}
use Rattle.pages.specs.Writing.{IsNoneOf, IsOneOf}
use Rattle.record_pages.proofs.Dropped.{IsNone}
use Rattle.record_pages.proofs.LawfulEntries.{AreEntries, AreNone, AreOnce}
use Rattle.book_store.proofs.Names.{all_rows}
use Rattle.book_store.proofs.RowPlans.{shifted_at, shifted_long, shifted_none}
use Rattle.book_store.specs.Rows.{names_by, shifted}
use Rattle.book_store.specs.declared.layout.TheConstants.{ROW_PAGES}

-- what holds of each of a row's pages, by their numbers in the row
pub shifted_all : (P : ℕ → Type 0) (r : ℕ) (ns : List ℕ)
    → ((j : ℕ) → j < length ns → P (ROW_PAGES * r + slice_index ns j)) → All P (shifted r ns)
shifted_all P r ns each = All-from_get_or P (shifted r ns) 0
    (λ j lt. let below : j < length ns = omega (arith, lt, shifted_long r ns) in
    subst P (sym (shifted_at r ns j below)) (each j below))

both_once : (xs ys : List ℕ) → AreOnce xs → AreOnce ys → AreNone xs ys → AreOnce (xs ++ ys)
both_once [] ys once other apart = other
both_once (x ∷ xs) ys once other apart = (
  All-append (λ n. n ≢ x) xs ys once.0 (All-head (λ m. IsNone m ys) x xs apart),
  both_once xs ys once.1 other (All-tail (λ m. IsNone m ys) x xs apart),
)

shifted_once : (r : ℕ) (ns : List ℕ) → AreOnce ns → AreOnce (shifted r ns)
shifted_once r [] once = tt
shifted_once r (n ∷ ns) once = (shifted_none r n ns once.0, shifted_once r ns once.1)

-- pages of later rows have larger numbers
above : (k r : ℕ) (f : ℕ → List ℕ) → All (λ m. ROW_PAGES * r ≤ m) (names_by k r f)
above k r f = all_rows (λ m. ROW_PAGES * r ≤ m) k r f
    (λ s le lt. shifted_all (λ m. ROW_PAGES * r ≤ m) s (f s) (λ j below. omega (arith, le)))

pub rows_once : (k r : ℕ) (f : ℕ → List ℕ) → ((s : ℕ) → AreEntries 0 ROW_PAGES (f s)) → AreOnce (names_by k r f)
rows_once zero r f each = tt
rows_once (suc k) r f each = both_once (shifted r (f r)) (names_by k (suc r) f) (shifted_once r (f r) (each r).once)
    (rows_once k (suc r) f each)
    (shifted_all (λ m. IsNone m (names_by k (suc r) f)) r (f r)
    (λ j below. All-weaker (λ m. ROW_PAGES * suc r ≤ m) (λ m. m ≢ ROW_PAGES * r + slice_index (f r) j)
    (λ m least e. omega (arith, least, e, ((each r).within j 0 below).1)) (names_by k (suc r) f) (above k (suc r) f)))

-- a number is one of these, or none
pub one_or_none : (m : ℕ) (ns : List ℕ) → IsOneOf m ns ⊎ IsNoneOf m ns
one_or_none m [] = inr (λ j lt. absurd (omega arith))
one_or_none m (n ∷ ns) = ⊎_elim
    (λ is. inl (0, let e : 0 < suc (length ns) = omega arith in e, is))
    (λ isnt. ⊎_elim
    (λ there. inl (suc there.0, let e : suc there.0 < suc (length ns) = omega (arith, there.1) in e, there.2))
    (λ none. inr (later isnt none))
    (one_or_none m ns))
    (cases_eq m n)
  where
    later : m ≢ n → IsNoneOf m ns → IsNoneOf m (n ∷ ns)
    later isnt none zero lt = isnt
    later isnt none (suc j) lt = none j (omega arith)
