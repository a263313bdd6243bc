-- A row is staged, as the code has it.
use Rattle.std.proofs.Common.{◌≡◌, ℕ, ◌<◌, Bool, true, List, Some, Result, Ok, Err, get_or, length, take, sym, ◌∙◌, ap, subst, arith}
use Rattle.std.specs.Prelude.{All, OnOk}
use Rattle.std.proofs.Math.ListN.{set}
use Rattle.std.proofs.lemmas.List.{length-map}
use Rattle.std.proofs.lemmas.List.Elements.{All-weaker}
use Rattle.dr_disk.specs.State.{DiskState, OnSeen}
use Rattle.pages.specs.Writing.{AreBeside, AreUnnamed, Stages}
use Rattle.paged_records.specs.Bounded.{Fits}
use Rattle.record_pages.specs.Pages.{pages_in}
use Rattle.record_pages.specs.Plans.{changed, dropped, numbered}
use Rattle.record_pages.proofs.ChangedPlaces.{places_count}
use Rattle.record_pages.proofs.FreeEnough.{free_entries, free_unused}
use Rattle.record_pages.proofs.LawfulEntries.{AreNone, IsEntry}
use Rattle.relay_wire.specs.Names.{is_name}
use Rattle.book_store.proofs.Books.Laying.{row_named}
use Rattle.book_store.proofs.Books.Listed.{Book}
use Rattle.book_store.proofs.Books.Over.{are_beside, are_unnamed, keeps_rows, keeps_still}
use Rattle.book_store.proofs.Books.RowStaged.{over_next}
use Rattle.book_store.proofs.Books.Seen.{numbers_here, pages_here, seen_with}
use Rattle.book_store.proofs.Books.Renewing.{plan, row_body, row_lawful}
use Rattle.book_store.specs.AtRest.{laid_book}
use Rattle.book_store.specs.Committing.{StagesRow}
use Rattle.book_store.specs.Desk.{IsWithBody, KeepsOthers, StandsStaged, holding}
use Rattle.book_store.specs.Held.{row_seen, seen_as, store_seen}
use Rattle.book_store.specs.Kept.{IsReplacedBy, free_of_row, row_bounds, row_free, row_fresh, row_writes, text_of}
use Rattle.book_store.specs.Layout.{book_layout}
use Rattle.book_store.specs.Rows.{book_names, row_in, row_names, row_text, shifted, with_row_in}
use Rattle.book_store.specs.Shown.{BookRow}
use Rattle.book_store.specs.Staging.{IsStagedOver}
use Rattle.book_store.specs.Store.{BookStore, IsLawfulStore, IsNewName, IsUnstaged, body_of, numbers_at, pages_at, with_row, with_staged, writes_at}
use Rattle.book_store.specs.declared.desk.Desk.{Desk}
use Rattle.book_store.specs.declared.held.HeldRow.{HeldRow}
use Rattle.book_store.specs.declared.layout.TheConstants.{BOOK_ROWS, ROW_PAGES}

abbrev pub store_of : Desk → List HeldRow → List Bool → Bool → BookStore
store_of desk rows staged replaced = store_seen desk.rows desk.second desk.turn rows staged replaced

both : {T E P Q R : Type 0} (result : Result T E) → (P → Q → R) → OnOk result P → OnOk result Q → OnOk result R
both (Ok x) gives p q = gives p q
both (Err e) gives p q = tt

-- ---- before the call

pub record IsRowOf (store : BookStore) (desk : Desk) (rows : List HeldRow) (staged : List Bool) (replaced : Bool)
    (r : ℕ) (old : HeldRow) : Type 0 where
  pub seen_is : store_of desk rows staged replaced ≡ store
  pub lawful_is : IsLawfulStore (store_of desk rows staged replaced)
  pub laid : desk.body.items ≡ body_of (store_of desk rows staged replaced)
  pub row : r < store.rows
  pub once : IsUnstaged store r
  pub is : old ≡ get_or rows r old

module _ {store : BookStore} {desk : Desk} {rows : List HeldRow} {staged : List Bool} {replaced : Bool} {r : ℕ}
    {old : HeldRow} (of : IsRowOf store desk rows staged replaced r old) where
  pub lawful : IsLawfulStore store
  lawful = subst IsLawfulStore of.seen_is of.lawful_is

  pub rows_is : desk.rows ≡ store.rows
  rows_is = ap (λ (b : BookStore). b.rows) of.seen_is

  pub all : length rows ≡ BOOK_ROWS
  all = sym (length-map rows row_seen) ∙ of.lawful_is.held_all

  inside : r < length rows
  inside = omega (arith, of.row, lawful.few, all)

  abbrev own : List ℕ
  own = numbers_at store.mark store.held r

  pub own_is : old.kept.numbers.items ≡ own
  own_is = numbers_here rows r old inside of.is ∙ ap (λ (b : BookStore). numbers_at b.mark b.held r) of.seen_is

  pub olds_are : pages_in (text_of old.kept) ≡ pages_at store.held r
  olds_are = pages_here rows r old inside of.is ∙ ap (λ (b : BookStore). pages_at b.held r) of.seen_is

  free_is : row_free r old.kept ≡ shifted r (free_of_row own)
  free_is = ap (λ (ns : List ℕ). shifted r (free_of_row ns)) own_is

  free_small : All (λ n. n < ROW_PAGES) (free_of_row own)
  unfolding free_of_row
  free_small = All-weaker (IsEntry 0 ROW_PAGES) (λ n. n < ROW_PAGES) (λ n is. is.1) (free_of_row own) (free_entries 0 ROW_PAGES own).within

  free_apart : AreNone (free_of_row own) own
  unfolding free_of_row
  free_apart = free_unused 0 ROW_PAGES own

  pub names_are : row_names (row_in desk.body.items r) ≡ old.kept.numbers.items
  names_are =
      ap (λ (b : List ℕ). row_names (row_in b r)) (of.laid ∙ ap body_of of.seen_is)
      ∙ row_named store.rows store.mark.turn store.held store.mark.numbers lawful.marks r (omega (arith, of.row, lawful.few))
      ∙ sym own_is

  module _ (standing : Book) (start : DiskState) (over : IsStagedOver store standing start) where
    pub free_here : AreUnnamed book_names (book_layout desk.rows) (row_free r old.kept) start
    free_here = subst (λ n. AreUnnamed book_names (book_layout n) (row_free r old.kept) start) (sym rows_is)
        (subst (λ ns. AreUnnamed book_names (book_layout store.rows) ns start) (sym free_is)
        (are_unnamed store standing start over r of.once (free_of_row own) free_small free_apart))

    pub beside_here : AreBeside book_names (book_layout desk.rows) (row_free r old.kept) (laid_book over.mark standing)
    beside_here = subst (λ n. AreBeside book_names (book_layout n) (row_free r old.kept) (laid_book over.mark standing)) (sym rows_is)
        (subst (λ ns. AreBeside book_names (book_layout store.rows) ns (laid_book over.mark standing)) (sym free_is)
        (are_beside store standing start over r of.once (free_of_row own) free_small free_apart))

    pub stands_here : StandsStaged desk.rows desk.second desk.turn desk.body.items (laid_book over.mark standing) (pages_at store.held) start
    stands_here =
        subst (λ b. StandsStaged desk.rows desk.second desk.turn b (laid_book over.mark standing) (pages_at store.held) start)
        (sym (of.laid ∙ ap body_of of.seen_is))
        (subst (λ (b : BookStore). StandsStaged b.rows b.mark.second b.mark.turn (body_of store) (laid_book over.mark standing) (pages_at store.held) start)
        (sym of.seen_is) over.stands)

  -- ---- and after it

  module _ (next : Desk) (new : HeldRow) (name text : List ℕ) (len : ℕ) (fits : Fits row_bounds text)
      (long : length text ≡ len) (named : is_name name ≡ true) (new_name : IsNewName store r name)
      (name_is : new.name ≡ Some name) (put : IsReplacedBy old.kept new.kept text new.dropped.items)
      (with : IsWithBody desk next (with_row_in desk.body.items r (row_text name len new.kept.numbers.items))) where
    abbrev shown : BookRow
    shown = record { name = name; text = text }

    abbrev renumbered : List ℕ
    renumbered = numbered (pages_at store.held r) own (pages_in text) (free_of_row own)

    abbrev gone : List ℕ
    gone = dropped (pages_at store.held r) own (pages_in text)

    numbers_are : new.kept.numbers.items ≡ renumbered
    numbers_are = put.numbers
        ∙ ap (λ (l : List (List ℕ)). numbered l old.kept.numbers.items (pages_in text) (free_of_row old.kept.numbers.items)) olds_are
        ∙ ap (λ (ns : List ℕ). numbered (pages_at store.held r) ns (pages_in text) (free_of_row ns)) own_is

    gone_are : new.dropped.items ≡ gone
    gone_are = put.gone_is
        ∙ ap (λ (l : List (List ℕ)). dropped l old.kept.numbers.items (pages_in text)) olds_are
        ∙ ap (λ (ns : List ℕ). dropped (pages_at store.held r) ns (pages_in text)) own_is

    abbrev now : BookStore
    now = store_of next (set rows r new) (set staged r true) replaced

    pub seen : now ≡ with_row store r name text
    seen = seen_with desk.rows next.rows desk.second next.second desk.turn next.turn rows staged replaced r new (Some shown)
        renumbered gone with.rows with.second with.turn (of.lawful_is.staged_all ∙ sym all)
        (ap (λ n. seen_as n (text_of new.kept)) name_is ∙ ap (λ (t : List ℕ). Some (record { name = name; text = t })) put.text_is)
        numbers_are gone_are
        ∙ ap (λ (b : BookStore). with_staged b r (Some shown) renumbered gone) of.seen_is

    pub lawful_now : IsLawfulStore now
    lawful_now = subst IsLawfulStore (sym seen) (row_lawful store lawful r of.row text fits name named new_name)

    body_now : next.body.items ≡ body_of (with_row store r name text)
    body_now = with.body_is
        ∙ ap (λ (b : List ℕ). with_row_in b r (row_text name len new.kept.numbers.items)) (of.laid ∙ ap body_of of.seen_is)
        ∙ ap (λ n. with_row_in (body_of store) r (row_text name n new.kept.numbers.items)) (sym long)
        ∙ ap (λ (ns : List ℕ). with_row_in (body_of store) r (row_text name (length text) ns)) numbers_are
        ∙ row_body store lawful r of.row text fits name named new_name

    pub laid_now : next.body.items ≡ body_of now
    laid_now = body_now ∙ sym (ap body_of seen)

    abbrev written : List ℕ
    written = take (length (changed (pages_at store.held r) (pages_in text))) (free_of_row own)

    pub writes_are : row_writes old.kept text ≡ writes_at store r text
    writes_are = places_count 0 (pages_in (text_of old.kept)) (pages_in text)
        ∙ ap (λ (l : List (List ℕ)). length (changed l (pages_in text))) olds_are

    fresh_are : row_fresh r old.kept text ≡ shifted r written
    fresh_are = ap (λ n. shifted r (take n (free_of_row old.kept.numbers.items))) writes_are
        ∙ ap (λ (ns : List ℕ). shifted r (take (writes_at store r text) (free_of_row ns))) own_is

    module _ {T E : Type 0} (standing : Book) (start end : DiskState) (result : Result T E)
        (stages : Stages book_names (book_layout desk.rows) (row_fresh r old.kept text) start end)
        (over : IsStagedOver store standing start)
        (rest : OnOk result (OnSeen (KeepsOthers desk.rows (row_fresh r old.kept text) start) end))
        (stands : OnOk result (StandsStaged next.rows next.second next.turn next.body.items (laid_book over.mark standing)
        (holding (pages_at store.held) r (pages_in text)) end)) where
      stages_here : Stages book_names (book_layout store.rows) (shifted r written) start end
      stages_here = subst (λ ns. Stages book_names (book_layout store.rows) ns start end) fresh_are
          (subst (λ n. Stages book_names (book_layout n) (row_fresh r old.kept text) start end) rows_is stages)

      written_small : All (λ n. n < ROW_PAGES) written
      written_small = All-weaker (IsEntry 0 ROW_PAGES) (λ n. n < ROW_PAGES) (λ n is. is.1) written
          (plan store lawful r of.row text fits).fresh_are.within

      staged_next : OnOk result (IsStagedOver (with_row store r name text) standing end)
      staged_next = both result
          (λ kept stood. over_next store lawful r of.row of.once text fits name named new_name standing start end over
          (subst (λ ns. OnSeen (KeepsOthers store.rows ns start) end) fresh_are
          (subst (λ n. OnSeen (KeepsOthers n (row_fresh r old.kept text) start) end) rows_is kept))
          (subst (λ b. StandsStaged store.rows store.mark.second store.mark.turn b (laid_book over.mark standing)
          (holding (pages_at store.held) r (pages_in text)) end) body_now
          (subst (λ (b : BookStore). StandsStaged b.rows b.mark.second b.mark.turn next.body.items (laid_book over.mark standing)
          (holding (pages_at store.held) r (pages_in text)) end) seen stood)))
          rest stands

      pub stages_row : StagesRow now standing start end result
      stages_row = subst (λ (b : BookStore). StagesRow b standing start end result) (sym seen) (record {
        any_moment = keeps_rows store standing start over end (shifted r written) stages_here
            (are_beside store standing start over r of.once written written_small (plan store lawful r of.row text fits).unused);
        still = keeps_still store standing start over end (shifted r written) stages_here
            (are_beside store standing start over r of.once written written_small (plan store lawful r of.row text fits).unused);
        staged = staged_next;
      })
