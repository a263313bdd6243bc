-- A record, as code hands it out.
use Rattle.std.specs.Prelude.{ℕ, List, [], Option, Some, None}

abbrev pub content_or_empty : Option (List ℕ) → List ℕ
content_or_empty None = []
content_or_empty (Some text) = text
