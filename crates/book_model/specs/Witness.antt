-- Two runs that are alike for one name and for no other. What is kept is a number: a call adds
-- another to it and answers the sum, or is refused where there is nothing to add.
use Rattle.std.specs.Prelude.{ℕ, ◌+◌, ◌==◌, true, false, List, [], ◌∷◌, map, Some, None, Ok, Err, if◌then◌else◌}
use Rattle.book_model.specs.Steps.{Ask, Reply, Sessions, answers, begins, calls, forgets, forgotten, has_begun, no_pair, refuses}
use Rattle.book_model.specs.Runs.{Book, Event, Happened, Outcome, asks, fanned, fans, refused, replied}

abbrev pub tallies : Sessions ℕ ℕ ℕ ℕ ℕ
tallies = record {
  does = λ c n. if n == 0 then Err c else Ok (c + n, c + n);
  is_look = λ n. false;
  opens = λ n. if n == 0 then None else Some n;
  is_lawful = λ name. true;
}

abbrev pub anna : List ℕ
anna = 97 ∷ []

abbrev pub bob : List ℕ
bob = 98 ∷ []

abbrev pub carl : List ℕ
carl = 99 ∷ []

-- something is wanted, and no mishap befalls it
abbrev pub asked_under : List ℕ → Ask ℕ ℕ → Event ℕ ℕ
asked_under name ask = record { wanted = asks (record { name = name; ask = ask }); mishap = None }

abbrev pub fanned_to : List (List ℕ × ℕ) → Event ℕ ℕ
fanned_to list = record { wanted = fans list; mishap = None }

-- ---- Anna and Bob, with a fan to both

abbrev pub bobs_book : Book ℕ
bobs_book = record {
  rows = Some (record { name = anna; kept = 1 }) ∷ Some (record { name = bob; kept = 2 }) ∷ [];
  closed = false;
}

abbrev pub bobs_events : List (Event ℕ ℕ)
bobs_events = asked_under anna (calls 5)
    ∷ fanned_to ((anna, 3) ∷ (bob, 4) ∷ [])
    ∷ asked_under bob (calls 0)
    ∷ asked_under anna forgets
    ∷ asked_under anna (begins 7)
    ∷ []

abbrev pub bobs_outcomes : List (Outcome ℕ ℕ)
bobs_outcomes = replied (answers 6) ∷ fanned (9 ∷ 6 ∷ []) ∷ replied (refuses 6)
    ∷ replied forgotten ∷ replied has_begun ∷ []

-- ---- Anna and Carl, who begins and is forgotten, with a fan to both that Carl's session refuses

abbrev pub carls_book : Book ℕ
carls_book = record {
  rows = None ∷ Some (record { name = anna; kept = 1 }) ∷ None ∷ [];
  closed = false;
}

abbrev pub carls_events : List (Event ℕ ℕ)
carls_events = asked_under carl (begins 0)
    ∷ asked_under carl (begins 9)
    ∷ asked_under anna (calls 5)
    ∷ fanned_to ((anna, 4) ∷ (carl, 0) ∷ [])
    ∷ asked_under anna (calls 3)
    ∷ asked_under carl forgets
    ∷ asked_under anna forgets
    ∷ asked_under anna (begins 7)
    ∷ []

abbrev pub carls_outcomes : List (Outcome ℕ ℕ)
carls_outcomes = replied no_pair ∷ replied has_begun ∷ replied (answers 6) ∷ refused
    ∷ replied (answers 9) ∷ replied forgotten ∷ replied forgotten ∷ replied has_begun ∷ []

-- ---- what both have for Anna

abbrev pub asked_of_anna : List (Ask ℕ ℕ)
asked_of_anna = calls 5 ∷ calls 3 ∷ forgets ∷ begins 7 ∷ []

abbrev pub said_to_anna : List (Reply ℕ ℕ)
said_to_anna = answers 6 ∷ answers 9 ∷ forgotten ∷ has_begun ∷ []

abbrev pub outcomes : List (Happened ℕ ℕ ℕ ℕ) → List (Outcome ℕ ℕ)
outcomes happened = map (λ h. h.outcome) happened
