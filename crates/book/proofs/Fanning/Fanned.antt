-- The rows of a fan's sessions, and a store in which their records are staged one after the other.
use Rattle.std.proofs.Common.{List, None, Option, Some, [], ap, arith, false, get_or, length, refl, subst, suc, sym, true, zero, ℕ, ⊎_elim, ◌+◌, ◌<◌, ◌≤◌, ◌∙◌, ◌≡◌, ◌≢◌}
use Rattle.std.proofs.Math.ListN.{set}
use Rattle.std.proofs.lemmas.Bool.{cases_eq}
use Rattle.std.proofs.lemmas.List.{get_or-set_other, get_or-set_same, length-set}
use Rattle.std.specs.Prelude.{is_some}
use Rattle.book_model.specs.Rows.{Row}
use Rattle.book_store.specs.Shown.{BookRow}
use Rattle.book_store.specs.Store.{BookStore, IsNewName, IsUnstaged}
use Rattle.dr_disk.specs.State.{DiskState}
use Rattle.kem_laws.specs.Mechanism.{Mechanism}
use Rattle.session_model.specs.Clients.{Client}
use Rattle.session_record.specs.Record.{record_text}
use Rattle.book.specs.Books.{BookNow, IsBookReady}
use Rattle.book.specs.Fans.{AllSay, Fan, fan_place, fan_row, fan_seed, fanned_rows, fanned_store, fanned_writes, said_next, said_row, said_writes}
use Rattle.book.specs.RowKeepings.{kept_of, known_name, name_of, with_kept}
use Rattle.book.specs.Rows.{stored, stored_row}
use Rattle.book.proofs.Counted.{inside, new_name}
use Rattle.book.proofs.Only.{held_at}
use Rattle.book.proofs.Staged.{unstaged}
use Rattle.book.proofs.Stored.{present, present_inside, stored_set}

-- a present row with another session, as it is stored
pub put_is : (row : Option (Row Client)) (next : Client) → is_some row ≡ true
    → Some (record { name = known_name (name_of row); text = record_text next })
    ≡ stored_row (with_kept row next)
put_is None next is = absurd (let e : false ≡ true = is in cc)
put_is (Some row) next is = refl

-- a row's record
abbrev stood : Row Client → BookRow
stood row = record { name = row.name; text = record_text row.kept }

module _ (k : Mechanism) (fan : Fan) (all : AllSay k fan) where
  -- none of the first n sessions is in this row
  abbrev pub IsLater : ℕ → ℕ → Type 0
  IsLater n q = (i : ℕ) → i < n → fan_place fan i ≢ q

  pub later : (n : ℕ) → n < length fan.list → IsLater n (fan_place fan n)
  later n lt i less = all.list.once i n less lt

  pub here : (n : ℕ) → n < length fan.list → (row : Row Client) × (fan_row fan n ≡ Some row)
  here n lt = present (fan_row fan n) (all.there n lt)

  pub inside_rows : (n : ℕ) → n < length fan.list → fan_place fan n < length fan.rows
  inside_rows n lt = let row = here n lt in present_inside fan.rows (fan_place fan n) row.0 row.1

  -- what is staged of the n-th
  abbrev put : ℕ → BookRow
  put n = record {
    name = known_name (name_of (fan_row fan n));
    text = record_text (said_next k fan.text (kept_of (fan_row fan n)) (fan_seed fan n));
  }

  -- ---- the rows

  pub rows_long : (n : ℕ) → length (fanned_rows k fan n) ≡ length fan.rows
  rows_long zero = refl
  rows_long (suc n) = length-set (fanned_rows k fan n) (fan_place fan n) _ ∙ rows_long n

  pub row_stays : (n q : ℕ) → IsLater n q → get_or (fanned_rows k fan n) q None ≡ get_or fan.rows q None
  row_stays zero q none = refl
  row_stays (suc n) q none =
      get_or-set_other (fanned_rows k fan n) (fan_place fan n) q
      (said_row k fan.text (fan_seed fan n) (fan_row fan n)) None
      (λ e. none n (omega arith) (sym e))
      ∙ row_stays n q (λ i lt. none i (omega (arith, lt)))

  -- ---- the store

  module _ (store : BookStore) where
    pub store_rows : (n : ℕ) → (fanned_store k fan store n).rows ≡ store.rows
    store_rows zero = refl
    store_rows (suc n) = store_rows n

    pub held_long : (n : ℕ) → length (fanned_store k fan store n).held ≡ length store.held
    held_long zero = refl
    held_long (suc n) = length-set (fanned_store k fan store n).held (fan_place fan n) _ ∙ held_long n

    pub staged_stays : (n q : ℕ) → IsLater n q
        → get_or (fanned_store k fan store n).staged q true ≡ get_or store.staged q true
    staged_stays zero q none = refl
    staged_stays (suc n) q none =
        get_or-set_other (fanned_store k fan store n).staged (fan_place fan n) q true true
        (λ e. none n (omega arith) (sym e))
        ∙ staged_stays n q (λ i lt. none i (omega (arith, lt)))

    pub writes_more : (n m : ℕ) → fanned_writes k fan store n ≤ fanned_writes k fan store (n + m)
    writes_more n zero = subst (λ i. fanned_writes k fan store n ≤ fanned_writes k fan store i)
        (let e : n ≡ n + 0 = omega arith in e) (omega arith)
    writes_more n (suc m) =
        let less = writes_more n m in
        subst (λ i. fanned_writes k fan store n ≤ fanned_writes k fan store i)
        (let e : suc (n + m) ≡ n + suc m = omega arith in e)
        (let e : fanned_writes k fan store n ≤ fanned_writes k fan store (n + m)
        + said_writes k fan.text (fan_seed fan (n + m)) (fan_row fan (n + m)) (fan_place fan (n + m)) (fanned_store k fan store (n + m))
        = omega (arith, less) in e)

    pub held_is : (n : ℕ) → n ≤ length fan.list → store.held ≡ stored fan.rows
        → (fanned_store k fan store n).held ≡ stored (fanned_rows k fan n)
    held_is zero le holds = holds
    held_is (suc n) le holds =
        let lt : n < length fan.list = omega (arith, le) in
        let row = fan_row fan n in
        let next = said_next k fan.text (kept_of row) (fan_seed fan n) in
        ap (λ (l : List (Option BookRow)). set l (fan_place fan n)
        (Some (record { name = known_name (name_of row); text = record_text next })))
        (held_is n (omega (arith, lt)) holds)
        ∙ ap (λ (o : Option BookRow). set (stored (fanned_rows k fan n)) (fan_place fan n) o)
        (put_is row next (all.there n lt))
        ∙ stored_set (fanned_rows k fan n) (fan_place fan n) (with_kept row next)
        (omega (arith, rows_long n, inside_rows n lt))

    -- what is held in a row was held there under that name
    pub record WasHeld (r : ℕ) (name : List ℕ) : Type 0 where
      pub row : BookRow
      pub held : get_or store.held r None ≡ Some row
      pub named : row.name ≡ name

  module _ (book : BookNow) (disk : DiskState) (ready : IsBookReady book disk)
      (same : book.rows ≡ fan.rows) where
    holds : book.store.held ≡ stored fan.rows
    holds = ready.holds ∙ ap stored same

    pub held_row : (n : ℕ) → n < length fan.list
        → get_or book.store.held (fan_place fan n) None ≡ stored_row (fan_row fan n)
    held_row n lt = held_at fan.rows book.store holds ready.rests.marked (fan_place fan n)

    was_held : (n r : ℕ) (other : BookRow) → n ≤ length fan.list
        → get_or (fanned_store k fan book.store n).held r None ≡ Some other
        → WasHeld book.store r other.name
    was_held zero r other le is = record { row = other; held = is; named = refl }
    was_held (suc n) r other le is = ⊎_elim same_row
        (λ apart. was_held n r other (omega (arith, le))
        (sym (get_or-set_other (fanned_store k fan book.store n).held (fan_place fan n) r (Some (put n)) None apart) ∙ is))
        (cases_eq r (fan_place fan n))
      where
        lt : n < length fan.list
        lt = omega (arith, le)

        row : (row : Row Client) × (fan_row fan n ≡ Some row)
        row = here n lt

        stands : get_or book.store.held (fan_place fan n) None ≡ Some (stood row.0)
        stands = held_row n lt ∙ ap stored_row row.1

        same_row : r ≡ fan_place fan n → WasHeld book.store r other.name
        same_row at =
            let is_put : Some (put n) ≡ Some other =
            sym (get_or-set_same (fanned_store k fan book.store n).held (fan_place fan n) (Some (put n)) None
            (omega (arith, held_long book.store n, present_inside book.store.held (fan_place fan n) (stood row.0) stands)))
            ∙ ap (λ q. get_or (set (fanned_store k fan book.store n).held (fan_place fan n) (Some (put n))) q None) (sym at) ∙ is in
            let same_put : put n ≡ other = cc in
            record {
              row = stood row.0;
              held = ap (λ q. get_or book.store.held q None) at ∙ stands;
              named = sym (ap (λ (o : Option (Row Client)). known_name (name_of o)) row.1) ∙ ap (λ (b : BookRow). b.name) same_put;
            }

    -- ---- what a call needs to stage the next row

    module _ (n : ℕ) (lt : n < length fan.list) where
      row : (row : Row Client) × (fan_row fan n ≡ Some row)
      row = here n lt

      stands : get_or book.store.held (fan_place fan n) None
          ≡ Some (record { name = row.0.name; text = record_text row.0.kept })
      stands = held_row n lt ∙ ap stored_row row.1

      pub inside_store : fan_place fan n < (fanned_store k fan book.store n).rows
      inside_store = subst (λ c. fan_place fan n < c) (sym (store_rows book.store n))
          (inside book.store (fan_place fan n) row.0.name (record_text row.0.kept) [] ready.rests.marked ready.rests.dropped stands)

      pub unstaged_yet : IsUnstaged (fanned_store k fan book.store n) (fan_place fan n)
      unstaged_yet = staged_stays book.store n (fan_place fan n) (later n lt)
          ∙ unstaged book.store (fan_place fan n)
          (inside book.store (fan_place fan n) row.0.name (record_text row.0.kept) [] ready.rests.marked ready.rests.dropped stands)
          ready.rests.few ready.rests.unstaged

      pub name_new : IsNewName (fanned_store k fan book.store n) (fan_place fan n) (known_name (name_of (fan_row fan n)))
      name_new r other apart is e =
          let was = was_held n r other (omega (arith, lt)) is in
          new_name book.store (fan_place fan n) row.0.name (record_text row.0.kept) [] ready.rests.marked ready.rests.dropped stands
          r was.row apart was.held
          (was.named ∙ e ∙ ap (λ (o : Option (Row Client)). known_name (name_of o)) row.1)
