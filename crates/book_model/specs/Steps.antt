-- One thing is asked under a name: what is replied, and what is kept then, by a session by itself
-- and by a book of many.
use Rattle.std.specs.Prelude.{ℕ, Bool, true, false, List, [], ◌∷◌, Option, Some, None, Result, Ok, Err}
use Rattle.book_model.specs.Rows.{Rows, begun, is_full, keeping, under, without}

-- What the sessions of a book are is left open: how one does a call, with an answer and what is
-- kept then, or refuses it; which calls only look; what a session begins with, where it can; and
-- which names are lawful. A call has all that it needs, the draw that it makes among it. Here and
-- everywhere C is what is kept of a session, A an answer and R a refusal.
pub record Sessions (C A R Call Begin : Type 0) : Type 0 where
  pub does : C → Call → Result (A × C) R
  pub is_look : Call → Bool
  pub opens : Begin → Option C
  pub is_lawful : List ℕ → Bool

-- What is asked under one name.
pub data Ask (Call Begin : Type 0) : Type 0 where
  calls : Call → Ask Call Begin
  begins : Begin → Ask Call Begin
  forgets : Ask Call Begin

-- What befalls a book from outside: a call on the disk fails, or memory isn't there.
pub data Mishap : Type 0 where
  store_fault : Mishap
  no_memory : Mishap

-- What is replied under one name.
pub data Reply (A R : Type 0) : Type 0 where
  closed : Reply A R
  fails : Mishap → Reply A R
  bad_name : Reply A R
  name_taken : Reply A R
  no_name : Reply A R
  book_full : Reply A R
  no_pair : Reply A R
  has_begun : Reply A R
  forgotten : Reply A R
  answers : A → Reply A R
  refuses : R → Reply A R

pub record Stepped (A R S : Type 0) : Type 0 where
  pub reply : Reply A R
  pub next : S

-- ---- a session by itself, or nothing, under its name

-- A call that is done changes what is kept; a refused one leaves it.
abbrev pub called : {C A R : Type 0} → C → Result (A × C) R → Stepped A R (Option C)
called c (Ok made) = record { reply = answers made.0; next = Some made.1 }
called c (Err refusal) = record { reply = refuses refusal; next = Some c }

abbrev pub opened_alone : {C A R : Type 0} → Option C → Stepped A R (Option C)
opened_alone None = record { reply = no_pair; next = None }
opened_alone (Some c) = record { reply = has_begun; next = Some c }

-- A session begins under a lawful name that has none.
abbrev pub begins_alone : {C A R : Type 0} → Bool → Option C → Option C → Stepped A R (Option C)
begins_alone false c opened = record { reply = bad_name; next = c }
begins_alone true (Some c) opened = record { reply = name_taken; next = Some c }
begins_alone true None opened = opened_alone opened

abbrev pub alone : {C A R Call Begin : Type 0} → Sessions C A R Call Begin → List ℕ → Option C
    → Ask Call Begin → Stepped A R (Option C)
alone k name None (calls call) = record { reply = no_name; next = None }
alone k name (Some c) (calls call) = called c (k.does c call)
alone k name None forgets = record { reply = no_name; next = None }
alone k name (Some c) forgets = record { reply = forgotten; next = None }
alone k name c (begins begin) = begins_alone (k.is_lawful name) c (k.opens begin)

-- What it replies to one thing after the other, and what is kept then.
abbrev pub alone_replies : {C A R Call Begin : Type 0} → Sessions C A R Call Begin → List ℕ
    → Option C → List (Ask Call Begin) → List (Reply A R)
alone_replies k name c [] = []
alone_replies k name c (ask ∷ rest) =
    (alone k name c ask).reply ∷ alone_replies k name (alone k name c ask).next rest

abbrev pub alone_after : {C A R Call Begin : Type 0} → Sessions C A R Call Begin → List ℕ
    → Option C → List (Ask Call Begin) → Option C
alone_after k name c [] = c
alone_after k name c (ask ∷ rest) = alone_after k name (alone k name c ask).next rest

-- ---- a book: the same on the row that has the name, or on the lowest absent one

abbrev pub called_in : {C A R : Type 0} → List ℕ → Rows C → Result (A × C) R → Stepped A R (Rows C)
called_in name rows (Ok made) = record { reply = answers made.0; next = keeping name made.1 rows }
called_in name rows (Err refusal) = record { reply = refuses refusal; next = rows }

abbrev pub calls_in : {C A R Call Begin : Type 0} → Sessions C A R Call Begin → List ℕ → Rows C
    → Call → Option C → Stepped A R (Rows C)
calls_in k name rows call None = record { reply = no_name; next = rows }
calls_in k name rows call (Some c) = called_in name rows (k.does c call)

abbrev pub forgets_in : {C A R : Type 0} → List ℕ → Rows C → Option C → Stepped A R (Rows C)
forgets_in name rows None = record { reply = no_name; next = rows }
forgets_in name rows (Some c) = record { reply = forgotten; next = without name rows }

abbrev pub opened_in : {C A R : Type 0} → List ℕ → Rows C → Option C → Stepped A R (Rows C)
opened_in name rows None = record { reply = no_pair; next = rows }
opened_in name rows (Some c) = record { reply = has_begun; next = begun name c rows }

-- A book whose rows are all present has none for another session.
abbrev pub opened_if : {C A R : Type 0} → Bool → List ℕ → Rows C → Option C → Stepped A R (Rows C)
opened_if true name rows opened = record { reply = book_full; next = rows }
opened_if false name rows opened = opened_in name rows opened

-- A name that isn't lawful comes first, then one that a row has, then a book that is full.
abbrev pub begins_in : {C A R : Type 0} → Bool → List ℕ → Rows C → Option C → Option C
    → Stepped A R (Rows C)
begins_in false name rows c opened = record { reply = bad_name; next = rows }
begins_in true name rows (Some c) opened = record { reply = name_taken; next = rows }
begins_in true name rows None opened = opened_if (is_full rows) name rows opened

abbrev pub step : {C A R Call Begin : Type 0} → Sessions C A R Call Begin → Rows C → List ℕ
    → Ask Call Begin → Stepped A R (Rows C)
step k rows name (calls call) = calls_in k name rows call (under name rows)
step k rows name forgets = forgets_in name rows (under name rows)
step k rows name (begins begin) =
    begins_in (k.is_lawful name) name rows (under name rows) (k.opens begin)
