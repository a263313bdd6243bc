-- Names don't meddle with each other: what is asked and replied under one of them in a run, and
-- that nothing else counts for it.
use Rattle.std.specs.Prelude.{ℕ, ◌≡◌, ⊤, Bool, true, false, List, [], ◌∷◌, ◌++◌, if◌then◌else◌}
use Rattle.std.specs.Str.{bytes_eq}
use Rattle.book_model.specs.Rows.{under}
use Rattle.book_model.specs.Steps.{Ask, Reply, Sessions, alone_replies, answers, book_full, calls, fails}
use Rattle.book_model.specs.Runs.{Book, Event, Happened, Outcome, Wanted, asks, failed, fanned, fans, replied, run}

-- ---- the calls for a name

abbrev pub fan_asks : {Call Begin : Type 0} → List ℕ → List (List ℕ × Call) → List (Ask Call Begin)
fan_asks name [] = []
fan_asks name (one ∷ list) =
    if bytes_eq one.0 name then calls one.1 ∷ fan_asks name list else fan_asks name list

-- A fan whose calls are done counts as a call for each of its names, any other as none.
abbrev pub asked_here : {Call Begin A R : Type 0} → List ℕ → Wanted Call Begin → Outcome A R
    → List (Ask Call Begin)
asked_here name (asks asked) outcome =
    if bytes_eq asked.name name then asked.ask ∷ [] else []
asked_here name (fans list) (fanned said) = fan_asks name list
asked_here name (fans list) outcome = []

abbrev pub asked_of : {Call Begin A R : Type 0} → List ℕ → List (Happened Call Begin A R)
    → List (Ask Call Begin)
asked_of name [] = []
asked_of name (h ∷ hs) = asked_here name h.event.wanted h.outcome ++ asked_of name hs

-- ---- the answers for a name

abbrev pub fan_replies : {Call A R : Type 0} → List ℕ → List (List ℕ × Call) → List A
    → List (Reply A R)
fan_replies name [] said = []
fan_replies name (one ∷ list) [] = []
fan_replies name (one ∷ list) (a ∷ said) =
    if bytes_eq one.0 name then answers a ∷ fan_replies name list said
    else fan_replies name list said

abbrev pub replied_here : {Call Begin A R : Type 0} → List ℕ → Wanted Call Begin → Outcome A R
    → List (Reply A R)
replied_here name (asks asked) (replied reply) =
    if bytes_eq asked.name name then reply ∷ [] else []
replied_here name (fans list) (fanned said) = fan_replies name list said
replied_here name wanted outcome = []

abbrev pub replies_of : {Call Begin A R : Type 0} → List ℕ → List (Happened Call Begin A R)
    → List (Reply A R)
replies_of name [] = []
replies_of name (h ∷ hs) = replied_here name h.event.wanted h.outcome ++ replies_of name hs

-- ---- the laws

-- No call on the disk failed, no memory was wanting, and no session was refused for want of a row.
abbrev pub went_well : {A R : Type 0} → Outcome A R → Bool
went_well (replied (fails mishap)) = false
went_well (replied book_full) = false
went_well (failed mishap) = false
went_well _ = true

abbrev pub AllWentWell : {Call Begin A R : Type 0} → List (Happened Call Begin A R) → Type 0
AllWentWell [] = ⊤
AllWentWell (h ∷ hs) = (went_well h.outcome ≡ true) × AllWentWell hs

-- A book that is open, and to which all goes well, answers the calls for a name as a session by
-- itself does that begins with what is kept under the name.
abbrev pub IsAnsweredAlone : {C A R Call Begin : Type 0} → Sessions C A R Call Begin → Type 0
IsAnsweredAlone {C = C} {Call = Call} {Begin = Begin} k =
    (name : List ℕ) (book : Book C) (events : List (Event Call Begin))
    → book.closed ≡ false → AllWentWell (run k book events)
    → replies_of name (run k book events)
    ≡ alone_replies k name (under name book.rows) (asked_of name (run k book events))

-- What two runs have to have in common for a name. Both books are open, and all goes well in both.
-- At the beginning the same is kept under the name, or nothing; and the calls for it are the same.
pub record AreAlikeFor {C A R Call Begin : Type 0} (k : Sessions C A R Call Begin) (name : List ℕ)
    (first second : Book C) (events others : List (Event Call Begin)) : Type 0 where
  pub first_open : first.closed ≡ false
  pub second_open : second.closed ≡ false
  pub first_well : AllWentWell (run k first events)
  pub second_well : AllWentWell (run k second others)
  pub kept : under name first.rows ≡ under name second.rows
  pub asked : asked_of name (run k first events) ≡ asked_of name (run k second others)

-- Then the answers for the name are the same, whatever else the books keep and are asked.
abbrev pub IsIndependent : {C A R Call Begin : Type 0} → Sessions C A R Call Begin → Type 0
IsIndependent {C = C} {Call = Call} {Begin = Begin} k =
    (name : List ℕ) (first second : Book C) (events others : List (Event Call Begin))
    → AreAlikeFor k name first second events others
    → replies_of name (run k first events) ≡ replies_of name (run k second others)
