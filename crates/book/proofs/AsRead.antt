-- A book that was opened, as one sees it who looks at the row of one name.
use Rattle.std.proofs.Common.{Bool, List, None, Option, Some, [], ap, false, inl, inr, refl, suc, subst, sym, true, zero, ℕ, ⊎_elim, ◌-◌, ◌∙◌, ◌∷◌, ◌++◌, ◌≡◌, ◌≢◌, length, map}
use Rattle.std.specs.Prelude.{if◌then◌else◌, option_map}
use Rattle.std.specs.Str.{bytes_eq}
use Rattle.dr_disk.specs.Spans.{Span}
use Rattle.dr_disk.specs.State.{DiskState}
use Rattle.dr_disk.proofs.Steps.{widen}
use Rattle.pages.proofs.Around.{outside_twice}
use Rattle.book_model.proofs.Names.{same_is}
use Rattle.book_model.specs.Rows.{Row, Rows}
use Rattle.book_store.specs.Layout.{book_layout}
use Rattle.book_store.specs.Reading.{record_under, under}
use Rattle.book_store.specs.Shown.{BookRow, absent, stored_rows}
use Rattle.book_store.specs.declared.layout.TheConstants.{BOOK_ROWS}
use Rattle.kem_laws.specs.Mechanism.{Mechanism}
use Rattle.session_model.specs.Clients.{Client}
use Rattle.session_record.specs.Record.{record_read, record_text}
use Rattle.client.specs.Opening.{IsAsReadInCell, IsEntryOrAsReadInCell, IsSameOrNewest}
use Rattle.book.specs.Opening.{AreRowsRead, IsAsReadBook, IsEntryOrAsReadBook, IsRowRead}
use Rattle.book.specs.RowCells.{IsAlikeBeside, IsSameBeside, beside, opened_row_cell}
use Rattle.book.specs.Rows.{stored_row}

-- ---- the record of a name among rows that were renewed

none_under : (name : List ℕ) (n : ℕ) → under name (absent n) ≡ None
none_under name zero = refl
none_under name (suc n) = none_under name n

module _ (k : Mechanism) (name : List ℕ) where
  abbrev Renewed : List (Option BookRow) → List (Option BookRow) → Type 0
  Renewed was now = IsSameOrNewest k (under name was) (under name now)

  -- one row, which has the name or hasn't, before rows of which it holds
  one_renewed : (held : Option BookRow) (session : Option (Row Client)) (was now : List (Option BookRow))
      → IsRowRead k held session → Renewed was now → Renewed (held ∷ was) (stored_row session ∷ now)
  one_renewed None None was now is rest = rest
  one_renewed None (Some session) was now is rest = absurd is
  one_renewed (Some held) None was now is rest = absurd is
  one_renewed (Some held) (Some session) was now is rest = by (bytes_eq held.name name) refl
    where
      here : (b : Bool) → bytes_eq held.name name ≡ b → bytes_eq session.name name ≡ b
      here b same = ap (λ n. bytes_eq n name) is.0 ∙ same

      by : (b : Bool) → bytes_eq held.name name ≡ b
          → Renewed (Some held ∷ was) (stored_row (Some session) ∷ now)
      by true same = inr (
        session.kept,
        ap (λ b. option_map (record_read k) (if b then Some held.text else under name was)) same ∙ ap Some is.1,
        is.2,
        ap (λ b. if b then Some (record_text session.kept) else under name now) (here true same),
      )
      by false same =
          subst (λ (o : Option (List ℕ)). IsSameOrNewest k o (under name (stored_row (Some session) ∷ now)))
          (sym (ap (λ b. if b then Some held.text else under name was) same))
          (subst (λ (o : Option (List ℕ)). IsSameOrNewest k (under name was) o)
          (sym (ap (λ b. if b then Some (record_text session.kept) else under name now) (here false same))) rest)

  nothing : (held : List (Option BookRow)) → AreRowsRead k held [] → under name held ≡ None
  nothing [] read = refl
  nothing (None ∷ held) read = nothing held (λ r. read (suc r))
  nothing (Some row ∷ held) read = absurd (read 0)

  all_renewed : (n : ℕ) (held : List (Option BookRow)) (rows : Rows Client) → AreRowsRead k held rows
      → Renewed held (map stored_row rows ++ absent n)
  all_renewed n held [] read = inl (none_under name n ∙ sym (nothing held read))
  all_renewed n [] (None ∷ rows) read = all_renewed n [] rows (λ r. read (suc r))
  all_renewed n [] (Some session ∷ rows) read = absurd (read 0)
  all_renewed n (o ∷ held) (session ∷ rows) read =
      one_renewed o session held (map stored_row rows ++ absent n) (read 0)
      (all_renewed n held rows (λ r. read (suc r)))

-- the record of each name is the same, or the same session's in the newest version
under_as_read : (k : Mechanism) (rows : ℕ) (name : List ℕ) (start : DiskState) (c : List ℕ) (is : IsAsReadBook k rows start c)
    → IsSameOrNewest k (record_under rows name is.read) (record_under rows name c)
under_as_read k rows name start c is = ⊎_elim
    (λ same. inl (ap (under name) same))
    (λ new. subst (λ (l : List (Option BookRow)). IsSameOrNewest k (record_under rows name is.read) (under name l)) (sym new.2)
    (all_renewed k name (BOOK_ROWS - length new.0) (stored_rows rows is.read) new.0 new.1)) is.same

module _ (k : Mechanism) (rows : ℕ) (name : List ℕ) (start : DiskState) where
  -- what is as what was read of a book is so at the row of each name
  pub row_as_read : (c : List ℕ) → IsAsReadBook k rows start c → IsAsReadInCell (opened_row_cell k rows name) k start c
  row_as_read c is = record {
    read = is.read;
    told = is.told;
    same = under_as_read k rows name start c is;
    undamaged = is.undamaged;
    outside = record {
      others = λ other apart. under_as_read k rows other start c is;
      outside = is.outside;
    };
  }

  pub row_entry_or_as_read : (now : DiskState) → Span start now (IsEntryOrAsReadBook k rows start)
      → Span start now (IsEntryOrAsReadInCell (opened_row_cell k rows name) k start)
  row_entry_or_as_read now span =
      widen start now (IsEntryOrAsReadBook k rows start) (IsEntryOrAsReadInCell (opened_row_cell k rows name) k start)
      (λ c either. ⊎_elim (λ was. inl was) (λ is. inr (row_as_read c is)) either) span

-- ---- a call after the opening

-- one row, which has a name or hasn't, before rows of which it holds
beside_one : (name other : List ℕ) → other ≢ name → (row : BookRow) (book : List (Option BookRow))
    → under other (beside name book) ≡ under other book
    → under other (beside name (Some row ∷ book)) ≡ under other (Some row ∷ book)
beside_one name other apart row book rest = by (bytes_eq row.name name) refl
  where
    -- a row of the one name hasn't the other
    differs : bytes_eq row.name name ≡ true → (b : Bool) → bytes_eq row.name other ≡ b → b ≡ false
    differs same true named = absurd (apart (sym (same_is row.name other named) ∙ same_is row.name name same))
    differs same false named = refl

    by : (b : Bool) → bytes_eq row.name name ≡ b
        → under other (beside name (Some row ∷ book)) ≡ under other (Some row ∷ book)
    by true same =
        ap (λ b. under other ((if b then None else Some row) ∷ beside name book)) same
        ∙ rest
        ∙ sym (ap (λ b. if b then Some row.text else under other book)
        (differs same (bytes_eq row.name other) refl))
    by false same =
        ap (λ b. under other ((if b then None else Some row) ∷ beside name book)) same
        ∙ ap (λ (o : Option (List ℕ)). if bytes_eq row.name other then Some row.text else o) rest

under_beside : (name other : List ℕ) → other ≢ name → (book : List (Option BookRow))
    → under other (beside name book) ≡ under other book
under_beside name other apart [] = refl
under_beside name other apart (None ∷ book) = under_beside name other apart book
under_beside name other apart (Some row ∷ book) =
    beside_one name other apart row book (under_beside name other apart book)

-- beside the row of a name nothing changed but by the opening, where a call changes that row alone
pub alike_beside : (k : Mechanism) (rows : ℕ) (name d e c : List ℕ) → IsAlikeBeside k rows name d e → IsSameBeside rows name e c
    → IsAlikeBeside k rows name d c
alike_beside k rows name d e c first next = record {
  others = λ other apart.
      let same = sym (under_beside name other apart (stored_rows rows c)) ∙ ap (under other) next.others
      ∙ under_beside name other apart (stored_rows rows e) in
      subst (λ (o : Option (List ℕ)). IsSameOrNewest k (record_under rows other d) o) (sym same) (first.others other apart);
  outside = outside_twice (book_layout rows) d e c first.outside next.outside;
}
