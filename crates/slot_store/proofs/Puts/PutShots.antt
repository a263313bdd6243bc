-- A pager's table and its area, as pages of a disk know them.
use Rattle.std.proofs.Common.{◌≡◌, ◌≢◌, ◌⊎◌, inl, inr, ⊎_elim, ℕ, zero, suc, ◌^◌, ◌≤◌, ◌<◌, Bool, true, false, List, [], ◌∷◌, Option, Some, None, length, take, refl, sym, ◌∙◌, ap, subst, arith}
use Rattle.std.specs.Prelude.{if◌then◌else◌, ◌==◌, not}
use Rattle.std.proofs.lemmas.Bool.{cases_eq}
use Rattle.std.proofs.lemmas.Bool.Decides.{nat_tests}
use Rattle.dr_base.specs.declared.limits.TheConstants.{PAGE}
use Rattle.pages.specs.declared.layout.Layout.{Layout}
use Rattle.pages.specs.declared.layout.TheConstants.{OPEN}
use Rattle.pages.specs.Layouts.{IsSound}
use Rattle.pages.specs.Tables.{alone, counts, is_open, turn_after, none_open, open_table, table_at, table_turn, wiped}
use Rattle.pages.specs.Snapshots.{IsBeside, IsStill, IsUnnamed, Snapshot, kept_shot, no_shot, shot}
use Rattle.pages.specs.Writing.{IsNoneOf, IsOneOf}
use Rattle.pages.proofs.Newest.{closed, stands_alone}
use Rattle.pages.proofs.SoundLayouts.{area_sound}
use Rattle.record_pages.specs.Pages.{page_count}
use Rattle.record_pages.specs.Tables.{record_names}
use Rattle.paged_records.proofs.Paging.{each_of}
use Rattle.slot_store.specs.declared.pager.Pager.{Pager}
use Rattle.slot_store.specs.Areas.{Area, IsArea, layout_of, area_end}
use Rattle.slot_store.specs.Layout.{Mark, laid, table_for}
use Rattle.slot_store.specs.Pager.{content, mark}
use Rattle.slot_store.proofs.Laid.{laid_names}
use Rattle.slot_store.proofs.Named.{blank_names}
use Rattle.slot_store.proofs.Standing.{pager_marked}

-- ---- numbers

-- a number is one of these, or none
pub one_or_none : (m : ℕ) (ns : List ℕ) → IsOneOf m ns ⊎ IsNoneOf m ns
one_or_none m [] = inr (λ j lt. absurd (omega arith))
one_or_none m (n ∷ ns) = ⊎_elim
    (λ is. inl (0, let e : 0 < suc (length ns) = omega arith in e, is))
    (λ isnt. ⊎_elim (λ one. inl (
      suc one.0,
      let e : suc one.0 < suc (length ns) = omega (arith, one.1) in e,
      one.2,
    )) (λ none. inr (later isnt none)) (one_or_none m ns))
    (cases_eq m n)
  where
    later : m ≢ n → IsNoneOf m ns → IsNoneOf m (n ∷ ns)
    later isnt none zero lt = isnt
    later isnt none (suc j) lt = none j (omega arith)

-- ---- tables

-- what one table names, beside a closed one
pub still_unnamed : (names : List ℕ → List ℕ) (l : Layout) (was : Snapshot) (c : List ℕ) (n : ℕ)
    → IsStill names l was c → IsBeside names l n was.table → IsUnnamed names l n c
still_unnamed names l was c n still beside k table is_so = by (is_open was.table)
    (sym (stands_alone l was.second c (closed (table_at l (not was.second) c)
    (λ opened. absurd (let e : OPEN ≡ 0 = sym opened ∙ still.shut in omega arith)))
    ∙ ap (λ t. alone was.second t) still.current) ∙ is_so)
  where
    by : (o : Bool) → (if o then counts was.second was.table else none_open) ≡ counts k table
        → IsBeside names l n table
    by true is = let same : was.table ≡ table = cc in subst (λ t. IsBeside names l n t) same beside
    by false is = absurd (let e : none_open ≡ counts k table = is in cc)

pub kept_open : (s : Snapshot) → is_open s.table ≡ true → kept_shot s ≡ shot s
kept_open s opened = ap (λ o. if o then shot s else no_shot) opened

-- ---- laid out

pub laid_second : (mark : Mark) (text : Option (List ℕ)) → (laid mark text).second ≡ mark.second
laid_second mark None = refl
laid_second mark (Some text) = refl

-- ---- an area

module _ (area : Area) (lawful : IsArea area) where
  pub layout_sound : (size : ℕ) → size < 2 ^ 64 → area_end area ≤ size
      → IsSound (layout_of area) size
  layout_sound size ends within = area_sound area.start area.upper area.pages size ends
      (omega (arith, lawful.least)) lawful.behind within

-- ---- a pager's table

pub none_turn : (pager : Pager) → content pager ≡ None → pager.turn ≡ 0
unfolding content
none_turn pager none = by (pager.turn == 0) refl none
  where
    by : (b : Bool) → (pager.turn == 0) ≡ b
        → (if b then None else Some (take pager.kept.len pager.kept.bytes.items)) ≡ None
        → pager.turn ≡ 0
    by true is none = grind (arith, nat_tests)
    by false isnt none = absurd (let e : Some (take pager.kept.len pager.kept.bytes.items) ≡ None
        = none in cc)

no_numbers : (pager : Pager) → content pager ≡ None → pager.kept.numbers.items ≡ []
no_numbers pager none = by (pager.kept.numbers.items) (each_of pager.kept
    ∙ ap page_count (pager.none (none_turn pager none)))
  where
    by : (ns : List ℕ) → length ns ≡ page_count 0 → ns ≡ []
    by [] is = refl
    by (n ∷ ns) is = absurd (let e : suc (length ns) ≡ 0 = is in omega arith)

text_names : (pager : Pager) (text : List ℕ) → content pager ≡ Some text
    → record_names (table_for (mark pager) text) ≡ pager.kept.numbers.items
unfolding mark
text_names pager text is = laid_names pager.area (mark pager) text pager.lawful
    (pager_marked pager text is)

pub own_names : (pager : Pager)
    → record_names (laid (mark pager) (content pager)).table.body ≡ pager.kept.numbers.items
own_names pager = by (content pager) refl
  where
    by : (text : Option (List ℕ)) → content pager ≡ text
        → record_names (laid (mark pager) text).table.body ≡ pager.kept.numbers.items
    by None is = blank_names ∙ sym (no_numbers pager is)
    by (Some text) is = text_names pager text is

-- the turn of the table that is to come follows
pub comes_next : (was now : Mark) (old : Option (List ℕ)) (text : List ℕ)
    → now.turn ≡ turn_after was.turn → 1 ≤ table_turn (laid was old).table
    → table_turn (open_table (table_for now text)) ≡ turn_after (table_turn (laid was old).table)
comes_next was now None text is low = absurd (let e : table_turn (wiped PAGE) ≡ 0 = refl in omega
    (arith, low, e))
comes_next was now (Some old) text is low = is
