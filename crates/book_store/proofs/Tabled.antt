-- What a commit of the staged rows begins with.
use Rattle.std.proofs.Common.{◌≡◌, ℕ, ◌≤◌, Bool, true, List, [], Result, Some, map, sym, ◌∙◌, ap, subst, arith}
use Rattle.std.specs.Prelude.{◌&&◌, All, nat_le, slice_index}
use Rattle.std.proofs.lemmas.Bool.Decides.{nat_tests}
use Rattle.dr_disk.specs.declared.call.Call.{Call}
use Rattle.dr_disk.specs.State.{DiskState}
use Rattle.pages.specs.declared.layout.Layout.{Layout}
use Rattle.pages.specs.Commits.{IsReadyFor, TakesPlace, next_shot}
use Rattle.pages.specs.Layouts.{IsPage}
use Rattle.pages.specs.Snapshots.{Snapshot, page_of}
use Rattle.pages.specs.Tables.{is_open, open_table, turn_after}
use Rattle.book_store.specs.Desk.{StandsStaged}
use Rattle.book_store.specs.Layout.{book_layout}
use Rattle.book_store.specs.Rows.{book_names, book_pages, row_in, row_names}
use Rattle.book_store.proofs.Names.{all_rows, mapped, rows_same}
use Rattle.book_store.specs.declared.layout.TheConstants.{BOOK_ROWS}

opens : (body : List ℕ) (t : ℕ) → slice_index body 0 ≡ t → 1 ≤ t → t ≤ 3
    → is_open (open_table body) ≡ true
opens body t is low high =
    let first : nat_le 1 t ≡ true = grind (arith, nat_tests) in
    let last : nat_le t 3 ≡ true = grind (arith, nat_tests) in
    ap (λ n. nat_le 1 n && nat_le n 3) is ∙ ap (λ b. b && nat_le t 3) first ∙ last

module _ (rows : ℕ) (second : Bool) (turn : ℕ) (body new : List ℕ) (was : Snapshot)
    (held : ℕ → List (List ℕ)) (start : DiskState) (t : ℕ)
    (before : StandsStaged rows second turn body was held start)
    (same : (r : ℕ) → row_in new r ≡ row_in body r)
    (turned : slice_index new 0 ≡ t) (follows : t ≡ turn_after turn) (low : 1 ≤ t) (high : t ≤ 3) where
  abbrev l : Layout
  l = book_layout rows

  names_same : book_names new ≡ book_names body
  unfolding book_names
  names_same = rows_same BOOK_ROWS 0 (λ r. row_names (row_in new r)) (λ r. row_names (row_in body r))
      (λ s le lt. ap row_names (same s))

  all_named : All (IsPage l) (book_names body)
  unfolding book_names
  all_named = all_rows (IsPage l) BOOK_ROWS 0 (λ r. row_names (row_in body r))
      (λ s le lt. before.named s (omega (arith, lt)))

  all_held : (s : List ℕ) → start.seen ≡ Some s → map (page_of l s) (book_names body) ≡ book_pages held
  unfolding book_names
  all_held s told = mapped (page_of l s) BOOK_ROWS 0 (λ r. row_names (row_in body r)) held
      (λ r le lt. before.holds r (omega (arith, lt)) s told)

  pub ready : IsReadyFor book_names l second new was (book_pages held) start
  ready = record {
    place = before.place;
    still = before.still;
    comes = record {
      opened = opens new t turned low high;
      next = λ low high. turned ∙ follows ∙ ap turn_after (sym before.turn_is);
    };
    was_named = before.was_named;
    named = subst (All (IsPage l)) (sym names_same) all_named;
    holds = λ s told. ap (map (page_of l s)) names_same ∙ all_held s told;
  }

-- by a layout and a table's bytes
abbrev pub Places : {T : Type 0} → Bool → DiskState → DiskState → Result T Call → Layout → List ℕ → Type 0
Places {T = T} second start end result l body = (was : Snapshot) (pages : List (List ℕ))
    → IsReadyFor book_names l second body was pages start
    → TakesPlace {T = T} book_names l [] was (next_shot was body pages) start end result

pub placed : {T : Type 0} (second : Bool) (start end : DiskState) (result : Result T Call)
    (l m : Layout) (b items : List ℕ) → l ≡ m → b ≡ items
    → Places second start end result l b → Places second start end result m items
placed {T = T} second start end result l m b items is same places =
    subst (Places {T = T} second start end result m) same
    (subst (λ k. Places {T = T} second start end result k b) is places)
