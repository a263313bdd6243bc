-- A store of which a row is staged with a text, or to be absent.
use Rattle.std.proofs.Common.{◌≡◌, ◌≢◌, ℕ, ◌≤◌, ◌<◌, true, false, List, [], Option, None, Some, get_or, length, take, refl, sym, ◌∙◌, ap, subst, arith, length-take-le}
use Rattle.std.specs.Prelude.{slice_index_or}
use Rattle.std.proofs.lemmas.List.Elements.{All-nil}
use Rattle.record_pages.specs.Pages.{pages_in}
use Rattle.record_pages.specs.Plans.{changed, dropped, numbered}
use Rattle.record_pages.specs.Tables.{entry_fault}
use Rattle.record_pages.proofs.Filled.{pages_in_long}
use Rattle.record_pages.proofs.FreeEnough.{free_enough}
use Rattle.record_pages.proofs.LawfulEntries.{AreEntries, AreNone, IsEntry, entries_lawful, lawful_entries}
use Rattle.record_pages.proofs.PlanEntries.{ArePlanned, plan_entries}
use Rattle.record_pages.proofs.Renumbered.{changed_few, numbered_long, numbered_short}
use Rattle.paged_records.specs.Bounded.{Fits}
use Rattle.relay_wire.specs.Names.{is_name}
use Rattle.book_store.proofs.Books.Laying.{marked}
use Rattle.book_store.specs.AtRest.{row_mark, row_pages}
use Rattle.book_store.specs.Kept.{free_of_row, row_bounds}
use Rattle.book_store.specs.Marks.{IsRowMark, mark_text}
use Rattle.book_store.specs.Rows.{with_row_in}
use Rattle.book_store.specs.Shown.{BookRow}
use Rattle.book_store.specs.Store.{BookStore, IsLawfulStore, IsNewName, body_of, drops_at, numbers_at, numbers_of, pages_at, with_row, without_row}
use Rattle.book_store.specs.declared.layout.TheConstants.{ROW_MOST, ROW_PAGES}
use Rattle.book_store.proofs.Books.Storing.{drops_here, drops_there, next_body, next_lawful, none_staged, own_here, own_there}

module _ (store : BookStore) (lawful : IsLawfulStore store) (row : ℕ) (here : row < store.rows) where
  -- ---- its own pages

  abbrev pub own : List ℕ
  own = numbers_at store.mark store.held row

  abbrev pub olds : List (List ℕ)
  olds = pages_at store.held row

  pub record HasPages (r : Option BookRow) : Type 0 where
    pub entries : AreEntries 0 ROW_PAGES (numbers_of r (get_or store.mark.numbers row []))
    pub each : length (numbers_of r (get_or store.mark.numbers row [])) ≡ length (row_pages r)
    pub few : length (numbers_of r (get_or store.mark.numbers row [])) ≤ ROW_MOST

  pages_of_row : (r : Option BookRow) → get_or store.held row None ≡ r → HasPages r
  pages_of_row None is = record {
    entries = record { within = All-nil (IsEntry 0 ROW_PAGES); once = tt };
    each = refl;
    few = omega arith;
  }
  pages_of_row (Some shown) is =
      let mark = lawful.marks.lawful row _ (marked store.rows store.mark.turn store.held store.mark.numbers lawful.marks row shown is) in
      record {
        entries = entries_lawful 0 ROW_PAGES (get_or store.mark.numbers row []) mark.entries;
        each = mark.each ∙ sym (pages_in_long shown.text);
        few = omega (arith, mark.each, mark.few);
      }

  pub has_pages : HasPages (get_or store.held row None)
  has_pages = pages_of_row (get_or store.held row None) refl

  -- ---- a text in their place

  module _ (text : List ℕ) (fits : Fits row_bounds text) where
    abbrev pub fresh : List ℕ
    fresh = take (length (changed olds (pages_in text))) (free_of_row own)

    enough : length (changed olds (pages_in text)) ≤ length (free_of_row own)
    unfolding free_of_row
    enough = omega (arith, fits, has_pages.few, free_enough 0 ROW_PAGES own, changed_few olds (pages_in text), pages_in_long text)

    pub plan : ArePlanned 0 ROW_PAGES olds own (pages_in text) fresh
    unfolding free_of_row
    plan = plan_entries 0 ROW_PAGES olds own (pages_in text) has_pages.entries has_pages.each enough

    pub fresh_count : length fresh ≡ length (changed olds (pages_in text))
    fresh_count = length-take-le (length (changed olds (pages_in text))) (free_of_row own) enough

    abbrev pub renumbered : List ℕ
    renumbered = numbered olds own (pages_in text) (free_of_row own)

    pub short : renumbered ≡ numbered olds own (pages_in text) fresh
    short = numbered_short olds own (pages_in text) (free_of_row own)

    abbrev pub gone : List ℕ
    gone = dropped olds own (pages_in text)

    module _ (name : List ℕ) (lawful_name : is_name name ≡ true) (new_name : IsNewName store row name) where
      abbrev shown : BookRow
      shown = record { name = name; text = text }

      row_marked : IsRowMark (record { name = name; len = length text; numbers = renumbered })
      row_marked = record {
        named = lawful_name;
        few = fits;
        each = numbered_long olds own (pages_in text) (free_of_row own) has_pages.each ∙ pages_in_long text;
        entries = ap (entry_fault 0 ROW_PAGES [] 6) short ∙ lawful_entries 0 ROW_PAGES (numbered olds own (pages_in text) fresh) plan.named_are;
      }

      is_marked : (row : BookRow) → Some shown ≡ Some row
          → IsRowMark (record { name = row.name; len = length row.text; numbers = renumbered })
      is_marked row same = subst (λ (r : BookRow). IsRowMark (record { name = r.name; len = length r.text; numbers = renumbered }))
          (let e : shown ≡ row = cc in e) row_marked

      is_new : (other : BookRow) → Some shown ≡ Some other → IsNewName store row other.name
      is_new other same = subst (λ (r : BookRow). IsNewName store row r.name) (let e : shown ≡ other = cc in e) new_name

      drops_lawful : entry_fault 0 ROW_PAGES [] 6 gone ≡ None
      drops_lawful = lawful_entries 0 ROW_PAGES gone plan.dropped_are

      drops_apart : AreNone gone renumbered
      drops_apart = subst (AreNone gone) (sym short) plan.gone

      pub row_own : (r : ℕ) → r ≡ row → numbers_at (with_row store row name text).mark (with_row store row name text).held r ≡ renumbered
      row_own = own_here store lawful row here (Some shown) renumbered gone is_marked is_new drops_lawful drops_apart

      pub row_there : (r : ℕ) → r ≢ row → numbers_at (with_row store row name text).mark (with_row store row name text).held r
          ≡ numbers_at store.mark store.held r
      row_there = own_there store lawful row here (Some shown) renumbered gone is_marked is_new drops_lawful drops_apart

      pub row_gone : (r : ℕ) → r ≡ row → drops_at (with_row store row name text) r ≡ gone
      row_gone = drops_here store lawful row here (Some shown) renumbered gone is_marked is_new drops_lawful drops_apart

      pub row_gone_there : (r : ℕ) → r ≢ row → drops_at (with_row store row name text) r ≡ drops_at store r
      row_gone_there = drops_there store lawful row here (Some shown) renumbered gone is_marked is_new drops_lawful drops_apart

      pub row_lawful : IsLawfulStore (with_row store row name text)
      row_lawful = next_lawful store lawful row here (Some shown) renumbered gone is_marked is_new drops_lawful drops_apart

      pub row_body : with_row_in (body_of store) row (mark_text (row_mark (Some shown) renumbered)) ≡ body_of (with_row store row name text)
      row_body = next_body store lawful row here (Some shown) renumbered gone is_marked is_new drops_lawful drops_apart

  -- ---- no row in its place

  none_marked : (shown : BookRow) → None ≡ Some shown → IsRowMark (record { name = shown.name; len = length shown.text; numbers = [] })
  none_marked shown is = absurd (let e : None ≡ Some shown = is in cc)

  none_new : (shown : BookRow) → None ≡ Some shown → IsNewName store row shown.name
  none_new shown is = absurd (let e : None ≡ Some shown = is in cc)

  none_apart : AreNone own []
  none_apart k d lt = All-nil (λ x. x ≢ slice_index_or own k d)

  own_lawful : entry_fault 0 ROW_PAGES [] 6 own ≡ None
  own_lawful = lawful_entries 0 ROW_PAGES own has_pages.entries

  pub empty_own : (r : ℕ) → r ≡ row → numbers_at (without_row store row).mark (without_row store row).held r ≡ []
  empty_own = own_here store lawful row here None [] own none_marked none_new own_lawful none_apart

  pub empty_there : (r : ℕ) → r ≢ row → numbers_at (without_row store row).mark (without_row store row).held r
      ≡ numbers_at store.mark store.held r
  empty_there = own_there store lawful row here None [] own none_marked none_new own_lawful none_apart

  pub empty_gone : (r : ℕ) → r ≡ row → drops_at (without_row store row) r ≡ own
  empty_gone = drops_here store lawful row here None [] own none_marked none_new own_lawful none_apart

  pub empty_gone_there : (r : ℕ) → r ≢ row → drops_at (without_row store row) r ≡ drops_at store r
  empty_gone_there = drops_there store lawful row here None [] own none_marked none_new own_lawful none_apart

  pub empty_unstaged : (r : ℕ) → get_or (without_row store row).staged r true ≡ false → r ≢ row
  empty_unstaged = none_staged store lawful row here None [] own none_marked none_new own_lawful none_apart

  pub empty_lawful : IsLawfulStore (without_row store row)
  empty_lawful = next_lawful store lawful row here None [] own none_marked none_new own_lawful none_apart

  pub empty_body : with_row_in (body_of store) row (mark_text None) ≡ body_of (without_row store row)
  empty_body = next_body store lawful row here None [] own none_marked none_new own_lawful none_apart
