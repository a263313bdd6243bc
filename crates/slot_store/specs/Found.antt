-- What opening a store answers, as a reading of its bytes.
use Rattle.std.specs.Prelude.{◌≡◌, List, ℕ, Bool, true, false, Option, Some, None}
use Rattle.slot_store.specs.declared.opening.Found.{Found}
use Rattle.slot_store.specs.declared.opening.Found.TheVariants.{NoContent, Content}
use Rattle.slot_store.specs.Reading.{AreaReading, holds, no_content}

-- with the store's record
abbrev pub found_as : Found → Option (List ℕ) → AreaReading
found_as NoContent text = no_content
found_as Content None = no_content
found_as Content (Some text) = holds text

abbrev pub has_content : Found → Bool
has_content NoContent = false
has_content Content = true

-- where there is a record, a reader has read it; else it is as it was
abbrev pub HasReadContent : {R : Type 0} → (R → List ℕ → Type 0) → R → R → Option (List ℕ) → Type 0
HasReadContent has_read old new None = new ≡ old
HasReadContent has_read old new (Some text) = has_read new text
