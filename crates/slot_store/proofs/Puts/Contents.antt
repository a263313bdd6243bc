-- The record of a pager as code has it, and the pager once a text has taken its place.
use Rattle.std.proofs.Common.{◌≡◌, ℕ, ◌+◌, ◌-◌, ◌*◌, ◌≤◌, ◌<◌, Bool, true, false, List, [], length, take, Some, None, refl, sym, ◌∙◌, ap, arith}
use Rattle.std.specs.Prelude.{All, not, is_some, if◌then◌else◌, ◌==◌}
use Rattle.std.proofs.lemmas.Bool.{eqb-true, ne_eqb}
use Rattle.std.proofs.lemmas.List.Elements.{All-same, All-weaker}
use Rattle.dr_base.specs.declared.limits.TheConstants.{PAGE}
use Rattle.pages.specs.Tables.{turn_after}
use Rattle.record_pages.specs.declared.limits.TheConstants.{NUMBER_LIMIT}
use Rattle.record_pages.specs.Pages.{pages_in}
use Rattle.record_pages.specs.Plans.{changed_places, dropped, numbered}
use Rattle.record_pages.specs.Tables.{entry_fault, table_body}
use Rattle.record_pages.proofs.LawfulEntries.{IsEntry, entries_lawful}
use Rattle.slot_store.specs.declared.pager.Pager.{Pager}
use Rattle.slot_store.specs.Areas.{Area, IsArea}
use Rattle.slot_store.specs.Kept.{content_or_empty}
use Rattle.slot_store.specs.Layout.{free_in, next_mark, pages_held, table_for}
use Rattle.slot_store.specs.Putting.{IsStaged}
use Rattle.slot_store.specs.Pager.{content, has_replaced, mark}

-- ---- no record is an empty one

text_as : (none : Bool) (len : ℕ) (bytes : List ℕ) → (none ≡ true → len ≡ 0)
    → content_or_empty (if none then None else Some (take len bytes)) ≡ take len bytes
text_as true len bytes is = ap (λ n. take n bytes) (sym (is refl))
text_as false len bytes is = refl

pages_as : (none : Bool) (len : ℕ) (bytes : List ℕ) → (none ≡ true → len ≡ 0)
    → pages_held (if none then None else Some (take len bytes)) ≡ pages_in (take len bytes)
pages_as true len bytes is = ap (λ n. pages_in (take n bytes)) (sym (is refl))
pages_as false len bytes is = refl

some_as : (none : Bool) (text : List ℕ) → not none ≡ is_some (if none then None else Some text)
some_as true text = refl
some_as false text = refl

module _ (pager : Pager) where
  empty : (pager.turn == 0) ≡ true → pager.kept.len ≡ 0
  empty is = pager.none (eqb-true pager.turn 0 is)

  pub text_is : content_or_empty (content pager) ≡ take pager.kept.len pager.kept.bytes.items
  unfolding content
  text_is = text_as (pager.turn == 0) pager.kept.len pager.kept.bytes.items empty

  pub pages_are : pages_held (content pager) ≡ pages_in (take pager.kept.len pager.kept.bytes.items)
  unfolding content
  pages_are = pages_as (pager.turn == 0) pager.kept.len pager.kept.bytes.items empty

  pub has_content : not (pager.turn == 0) ≡ is_some (content pager)
  unfolding content
  has_content = some_as (pager.turn == 0) (take pager.kept.len pager.kept.bytes.items)

  pub content_is : 1 ≤ pager.turn → content pager ≡ Some (take pager.kept.len pager.kept.bytes.items)
  unfolding content
  content_is low =
      ap (λ none. if none then None else Some (take pager.kept.len pager.kept.bytes.items))
      (ne_eqb pager.turn 0 (λ e. omega (arith, e, low)))

-- ---- what is laid out

-- each number has two bytes
pub small_numbers : (area : Area) (numbers now : List ℕ) → IsArea area → now ≡ numbers → entry_fault 2 area.pages [] 6 numbers ≡ None
    → All (λ n. n < NUMBER_LIMIT) now
small_numbers area numbers now lawful is none =
    All-same (λ n. n < NUMBER_LIMIT) now numbers is
    (All-weaker (IsEntry 2 area.pages) (λ n. n < NUMBER_LIMIT) (λ n entry. omega (arith, entry.1, lawful.short)) numbers
    (entries_lawful 2 area.pages numbers none).within)

-- the zeros that end a table
pub body_is : (turn len k : ℕ) (numbers now : List ℕ) → now ≡ numbers → k + 1 ≡ PAGE
    → table_body turn len now (k - (5 + 2 * length now)) ≡ table_body turn len numbers (PAGE - (6 + 2 * length numbers))
body_is turn len k numbers now is long =
    ap (λ (l : List ℕ). table_body turn len l (k - (5 + 2 * length l))) is
    ∙ ap (λ n. table_body turn len numbers n) (let e : k - (5 + 2 * length numbers) ≡ PAGE - (6 + 2 * length numbers) = omega (arith, long) in e)

-- ---- a text in the record's place

module _ (old new : Pager) (text : List ℕ)
    (same_area : new.area ≡ old.area) (other : new.second ≡ not old.second) (turn : new.turn ≡ turn_after old.turn) (low : 1 ≤ new.turn)
    (replaced : new.replaced ≡ not (old.turn == 0)) (text_held : take new.kept.len new.kept.bytes.items ≡ text) where
  abbrev was : List (List ℕ)
  was = pages_in (take old.kept.len old.kept.bytes.items)

  abbrev nums : List ℕ
  nums = old.kept.numbers.items

  module _ (named : new.kept.numbers.items ≡ numbered was nums (pages_in text) (free_in old.area nums))
      (free : new.draft.free.items ≡ free_in old.area nums) (places : new.draft.plan.places.items ≡ changed_places 0 was (pages_in text))
      (gone : new.draft.plan.dropped.items ≡ dropped was nums (pages_in text))
      (body : new.draft.body.items ≡ table_body new.turn (length text) new.kept.numbers.items (PAGE - (6 + 2 * length new.kept.numbers.items))) where
    held : was ≡ pages_held (content old)
    held = sym (pages_are old)

    marked : mark new ≡ next_mark old.area (content old) (mark old) text
    unfolding mark
    marked = λ i. record {
      second = other i;
      turn = turn i;
      numbers = (named ∙ ap (λ (l : List (List ℕ)). numbered l nums (pages_in text) (free_in old.area nums)) held) i;
    }

    holds : content new ≡ Some text
    holds = content_is new low ∙ ap (λ (l : List ℕ). Some l) text_held

    was_replaced : has_replaced new ≡ is_some (content old)
    unfolding has_replaced
    was_replaced = replaced ∙ has_content old

    laid_out : new.draft.body.items ≡ table_for (mark new) text
    unfolding mark
    laid_out = body

    pub is_staged : IsStaged old new text
    is_staged = record {
      next = record { area = same_area; mark = marked };
      holds = holds;
      replaced = was_replaced;
      free = free;
      places = places ∙ ap (λ (l : List (List ℕ)). changed_places 0 l (pages_in text)) held;
      dropped = gone ∙ ap (λ (l : List (List ℕ)). dropped l nums (pages_in text)) held;
      body = laid_out;
    }
