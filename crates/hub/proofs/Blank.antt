-- A disk of zeros holds a book without a session.
use Rattle.std.proofs.Common.{List, None, Option, Some, ap, arith, get_or, length, map, refl, replicate, subst, suc, sym, zero, ℕ, ◌+◌, ◌++◌, ◌-◌, ◌∙◌, ◌∷◌, ◌≡◌, ◌≤◌}
use Rattle.std.proofs.lemmas.List.{length-replicate}
use Rattle.dr_disk.specs.MemoryDisks.{IsBlank}
use Rattle.dr_disk.specs.State.{DiskState}
use Rattle.book_model.specs.Rows.{Row, Rows}
use Rattle.book_store.specs.AtRest.{BookMark, IsBookAtRest}
use Rattle.book_store.specs.Committing.{HasRows}
use Rattle.book_store.specs.Shown.{BookRow, absent}
use Rattle.book_store.specs.Staging.{Rests}
use Rattle.book_store.specs.Store.{empty_store}
use Rattle.book_store.specs.declared.layout.TheConstants.{BOOK_ROWS}
use Rattle.kem_laws.specs.Mechanism.{Mechanism}
use Rattle.session_model.specs.Clients.{Client}
use Rattle.book.specs.Rows.{stored, stored_row}
use Rattle.hub.specs.Held.{HoldsRows}

abbrev pub none : ℕ → Rows Client
none n = replicate n None

none_stored : (n m : ℕ) → map stored_row (none n) ++ absent m ≡ absent (n + m)
none_stored zero m = ap absent (let e : m ≡ 0 + m = omega arith in e)
none_stored (suc n) m =
    ap (λ (l : List (Option BookRow)). None ∷ l) (none_stored n m)
    ∙ ap absent (let e : suc (n + m) ≡ suc n + m = omega arith in e)

none_long : (n : ℕ) → length (none n) ≡ n
none_long n = length-replicate {A = Option (Row Client)} n None

all_absent : (n : ℕ) → n ≤ BOOK_ROWS → stored (none n) ≡ absent BOOK_ROWS
all_absent n few =
    ap (λ m. map stored_row (none n) ++ absent (BOOK_ROWS - m)) (none_long n)
    ∙ none_stored n (BOOK_ROWS - n)
    ∙ ap absent (let e : n + (BOOK_ROWS - n) ≡ BOOK_ROWS = omega (arith, few) in e)

none_at : (n r : ℕ) → get_or (none n) r None ≡ None
none_at zero r = refl
none_at (suc n) zero = refl
none_at (suc n) (suc r) = none_at n r

-- a book at rest has its rows
abbrev pub RestsWithRows : Type 0
RestsWithRows = (rows : ℕ) (mark : BookMark) (book : List (Option BookRow)) (c : List ℕ)
    → IsBookAtRest rows mark book c → HasRows rows book c

pub holds_none : (resting : RestsWithRows) (k : Mechanism) (rows size : ℕ) (disk : DiskState) → rows ≤ BOOK_ROWS
    → IsBlank size disk → Rests (empty_store rows) (replicate size 0) → HoldsRows k rows (none rows) disk
unfolding Rests
holds_none resting k rows size disk few blank rests = record {
  bytes = replicate size 0;
  told = blank.fresh.seen;
  long = none_long rows;
  lawful = λ r row is. absurd (let e : None ≡ Some row = sym (none_at rows r) ∙ is in cc);
  has = subst (λ (b : List (Option BookRow)). HasRows rows b (replicate size 0)) (sym (all_absent rows few))
      (resting rows (empty_store rows).mark (absent BOOK_ROWS) (replicate size 0) rests);
}
