-- Runs of a book: one event after the other, fans and mishaps among them.
use Rattle.std.specs.Prelude.{ℕ, Bool, true, false, List, [], ◌∷◌, Option, Some, None, Result, Ok, Err, if◌then◌else◌}
use Rattle.book_model.specs.Rows.{Rows, keeping, under}
use Rattle.book_model.specs.Steps.{Ask, Mishap, Reply, Sessions, Stepped, calls, closed, fails, no_memory, step, store_fault}

pub record Asked (Call Begin : Type 0) : Type 0 where
  pub name : List ℕ
  pub ask : Ask Call Begin

-- One thing is asked under a name; or a fan makes a call under each of several names, all or none.
pub data Wanted (Call Begin : Type 0) : Type 0 where
  asks : Asked Call Begin → Wanted Call Begin
  fans : List (List ℕ × Call) → Wanted Call Begin

-- What is wanted, and the mishap that befalls it, if one does.
pub record Event (Call Begin : Type 0) : Type 0 where
  pub wanted : Wanted Call Begin
  pub mishap : Option Mishap

-- What came of it: a reply; the answers of a fan, one for each of its names; a fan that was
-- refused; or one that a mishap befell.
pub data Outcome (A R : Type 0) : Type 0 where
  replied : Reply A R → Outcome A R
  fanned : List A → Outcome A R
  refused : Outcome A R
  failed : Mishap → Outcome A R

pub record Went (A R S : Type 0) : Type 0 where
  pub outcome : Outcome A R
  pub next : S

-- ---- a fan: the answers and the rows then, or nothing where one of its calls isn't done

pub record Fanned (A C : Type 0) : Type 0 where
  pub said : List A
  pub next : Rows C

abbrev pub more : {A C : Type 0} → A → Option (Fanned A C) → Option (Fanned A C)
more a None = None
more a (Some f) = Some (record { said = a ∷ f.said; next = f.next })

abbrev pub fan_called : {C A R : Type 0} → List ℕ → Rows C → Result (A × C) R
    → (Rows C → Option (Fanned A C)) → Option (Fanned A C)
fan_called name rows (Ok made) rest = more made.0 (rest (keeping name made.1 rows))
fan_called name rows (Err refusal) rest = None

abbrev pub fan_under : {C A R Call Begin : Type 0} → Sessions C A R Call Begin → List ℕ → Rows C
    → Call → Option C → (Rows C → Option (Fanned A C)) → Option (Fanned A C)
fan_under k name rows call None rest = None
fan_under k name rows call (Some c) rest = fan_called name rows (k.does c call) rest

abbrev pub fan_all : {C A R Call Begin : Type 0} → Sessions C A R Call Begin → Rows C
    → List (List ℕ × Call) → Option (Fanned A C)
fan_all k rows [] = Some (record { said = []; next = rows })
fan_all k rows (one ∷ rest) =
    fan_under k one.0 rows one.1 (under one.0 rows) (λ next. fan_all k next rest)

-- ---- what comes of what is wanted of rows, where no mishap befalls it

abbrev pub went_step : {A R C : Type 0} → Stepped A R (Rows C) → Went A R (Rows C)
went_step s = record { outcome = replied s.reply; next = s.next }

-- A fan that is refused leaves all rows as they were.
abbrev pub went_fan : {A R C : Type 0} → Rows C → Option (Fanned A C) → Went A R (Rows C)
went_fan rows None = record { outcome = refused; next = rows }
went_fan rows (Some f) = record { outcome = fanned f.said; next = f.next }

-- A fan to nobody is refused.
abbrev pub goes : {C A R Call Begin : Type 0} → Sessions C A R Call Begin → Rows C
    → Wanted Call Begin → Went A R (Rows C)
goes k rows (asks asked) = went_step (step k rows asked.name asked.ask)
goes k rows (fans []) = record { outcome = refused; next = rows }
goes k rows (fans (one ∷ list)) = went_fan rows (fan_all k rows (one ∷ list))

-- ---- a book, which a call on the disk that fails closes

pub record Book (C : Type 0) : Type 0 where
  pub rows : Rows C
  pub closed : Bool

-- A closed book answers a look as before, and does nothing else.
abbrev pub is_look_in : {C A R Call Begin : Type 0} → Sessions C A R Call Begin → Ask Call Begin
    → Bool
is_look_in k (calls call) = k.is_look call
is_look_in k _ = false

abbrev pub shown : {C A R Call Begin : Type 0} → Sessions C A R Call Begin → Rows C
    → Wanted Call Begin → Outcome A R
shown k rows (asks asked) =
    if is_look_in k asked.ask then replied (step k rows asked.name asked.ask).reply
    else replied closed
shown k rows (fans list) = refused

-- A mishap leaves all rows as they were. Want of memory leaves the book open.
abbrev pub fault_of : {Call Begin A R : Type 0} → Wanted Call Begin → Mishap → Outcome A R
fault_of (asks asked) mishap = replied (fails mishap)
fault_of (fans list) mishap = failed mishap

abbrev pub closes : Mishap → Bool
closes store_fault = true
closes no_memory = false

abbrev pub befallen : {C A R Call Begin : Type 0} → Sessions C A R Call Begin → Rows C
    → Wanted Call Begin → Option Mishap → Went A R (Book C)
befallen k rows wanted None =
    let w = goes k rows wanted in
    record { outcome = w.outcome; next = record { rows = w.next; closed = false } }
befallen k rows wanted (Some mishap) =
    record {
      outcome = fault_of wanted mishap;
      next = record { rows = rows; closed = closes mishap };
    }

abbrev pub happens_if : {C A R Call Begin : Type 0} → Sessions C A R Call Begin → Bool → Book C
    → Event Call Begin → Went A R (Book C)
happens_if k true book event = record { outcome = shown k book.rows event.wanted; next = book }
happens_if k false book event = befallen k book.rows event.wanted event.mishap

abbrev pub happens : {C A R Call Begin : Type 0} → Sessions C A R Call Begin → Book C
    → Event Call Begin → Went A R (Book C)
happens k book event = happens_if k book.closed book event

-- ---- a run: each event with its outcome

pub record Happened (Call Begin A R : Type 0) : Type 0 where
  pub event : Event Call Begin
  pub outcome : Outcome A R

abbrev pub run : {C A R Call Begin : Type 0} → Sessions C A R Call Begin → Book C
    → List (Event Call Begin) → List (Happened Call Begin A R)
run k book [] = []
run k book (event ∷ events) =
    let w = happens k book event in
    record { event = event; outcome = w.outcome } ∷ run k w.next events
