-- Two runs that have all in common for one name, and nothing for any other.
use Rattle.std.specs.Prelude.{List, None, Option, Some, [], false, ℕ, ◌∷◌}
use Rattle.book_model.specs.Rows.{Row}
use Rattle.book_model.specs.Runs.{Book, Event, asks}
use Rattle.book_model.specs.Steps.{Ask, Reply, answers, calls, forgets, forgotten, no_name}
use Rattle.session_model.specs.Clients.{Client, summary_of}
use Rattle.session_model.specs.declared.answer.Refusal.{Refusal}
use Rattle.client.specs.declared.begin.Begin.{Begin}
use Rattle.book.specs.Machines.{RowAnswer, RowCall, at_numbers, looks, shows_numbers}

abbrev pub anna : List ℕ
anna = 97 ∷ []

abbrev pub bob : List ℕ
bob = 98 ∷ []

abbrev pub carl : List ℕ
carl = 99 ∷ []

abbrev pub present : List ℕ → Client → Option (Row Client)
present name kept = Some (record { name = name; kept = kept })

-- something is asked, and no mishap befalls it
abbrev pub asked : List ℕ → Ask RowCall Begin → Event RowCall Begin
asked name ask = record { wanted = asks (record { name = name; ask = ask }); mishap = None }

-- ---- Anna and Bob, who is forgotten

abbrev pub bobs_book : Client → Client → Book Client
bobs_book annas bobs =
    record { rows = present anna annas ∷ present bob bobs ∷ []; closed = false }

abbrev pub bobs_events : List (Event RowCall Begin)
bobs_events = asked anna (calls (looks at_numbers))
    ∷ asked bob forgets
    ∷ asked anna forgets
    ∷ asked anna (calls (looks at_numbers))
    ∷ []

-- ---- Anna in another row, and Carl, who has none

abbrev pub carls_book : Client → Book Client
carls_book annas = record { rows = None ∷ present anna annas ∷ None ∷ []; closed = false }

abbrev pub carls_events : List (Event RowCall Begin)
carls_events = asked carl (calls (looks at_numbers))
    ∷ asked anna (calls (looks at_numbers))
    ∷ asked anna forgets
    ∷ asked carl forgets
    ∷ asked anna (calls (looks at_numbers))
    ∷ []

-- what both reply to Anna
abbrev pub said_to_anna : Client → List (Reply RowAnswer Refusal)
said_to_anna annas = answers (shows_numbers (summary_of annas)) ∷ forgotten ∷ no_name ∷ []
