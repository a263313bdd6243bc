-- What a pager that was staged is to write and to wipe.
use Rattle.std.proofs.Common.{◌≡◌, ◌≢◌, ◌⊎◌, ℕ, ◌≤◌, ◌<◌, List, Some, length, map, take}
use Rattle.std.specs.Prelude.{All, slice_index}
use Rattle.pages.specs.Layouts.{IsPage}
use Rattle.pages.specs.Writing.{AreDistinct, ArePages, ArePieces, IsNoneOf, IsOneOf, piece_at}
use Rattle.record_pages.specs.Pages.{pages_in}
use Rattle.slot_store.specs.declared.pager.Pager.{Pager}
use Rattle.slot_store.specs.Areas.{Area, layout_of}
use Rattle.slot_store.specs.Layout.{pages_held}
use Rattle.slot_store.specs.Stops.{wipes_of, writes_of}
use Rattle.slot_store.specs.Pager.{content}

-- the numbers that changed pages get
abbrev pub fresh : Pager → List ℕ
fresh pager = take (length pager.draft.plan.places.items) pager.draft.free.items

-- all of these are pages, and none of them is n
abbrev pub AreOthers : Area → ℕ → List ℕ → Type 0
AreOthers area n numbers = All (λ m. IsPage (layout_of area) m × (m ≢ n)) numbers

pub record HasPlan (old new : Pager) (text : List ℕ) : Type 0 where
  pub enough : length new.draft.plan.places.items ≤ length new.draft.free.items
  -- the pages that are written
  pub pages : ArePages (layout_of old.area) (fresh new)
  pub beside : (j : ℕ) → j < length (fresh new)
      → AreOthers old.area (slice_index (fresh new) j) old.kept.numbers.items
  pub pieces : ArePieces (fresh new) new.draft.plan.places.items new.kept.bytes.items
  pub named : All (IsPage (layout_of old.area)) new.kept.numbers.items
  pub holds : (f : ℕ → List ℕ) → map f old.kept.numbers.items ≡ pages_held (content old)
      → ((j : ℕ) → j < length (fresh new) → f (slice_index (fresh new) j)
      ≡ piece_at new.kept.bytes.items new.draft.plan.places.items j)
      → map f new.kept.numbers.items ≡ pages_in text
  pub distinct : AreDistinct (fresh new)
  -- the pages that are wiped
  pub drops_beside : (j : ℕ) → j < length new.draft.plan.dropped.items
      → AreOthers old.area (slice_index new.draft.plan.dropped.items j) new.kept.numbers.items
  pub covers : (m : ℕ) → AreOthers old.area m new.kept.numbers.items
      → IsOneOf m new.draft.plan.dropped.items
      ⊎ (AreOthers old.area m old.kept.numbers.items × IsNoneOf m (fresh new))
  -- how many
  pub writes : length (fresh new) ≡ writes_of (content old) (Some text)
  pub wipes : length new.draft.plan.dropped.items ≡ wipes_of (content old) (Some text)
