-- What the words of a command say.
use Rattle.std.specs.Prelude.{ℕ, ◌+◌, ◌&&◌, ◌||◌, Bool, false, true, nat_le, List, [], ◌∷◌, ◌++◌, drop, map, get_or, length, slice_get, Option, Some, None, option_map, option_and_then, codes, find, if◌then◌else◌}
use Rattle.std.specs.Str.{bytes_eq}
use Rattle.bodies.specs.Formats.{format_read}
use Rattle.bodies.specs.declared.format.Format.{Format}
use Rattle.bodies.specs.declared.format.Format.TheVariants.{Plain}
use Rattle.dr_base.specs.declared.limits.TheConstants.{INBOX_LIMIT, OUTBOX_LIMIT}
use Rattle.dr_base.specs.declared.position.Side.{Side}
use Rattle.dr_base.specs.declared.position.Side.TheVariants.{First, Second}
use Rattle.command_words.specs.declared.command.Ask.{Ask}
use Rattle.command_words.specs.declared.command.Ask.TheVariants.{Awaiting, Begin, Check, Done, DoneLong, Duet, DuetFan, DuetMake, Fan, Forget, Inbox, List as Names, Long, Outbox, Relay, RelayKeys, Say, SayLong, Sent, State, Sync, Take}
use Rattle.command_words.specs.declared.command.Where.{Where}
use Rattle.command_words.specs.declared.command.Where.TheVariants.{Book, Folder}
use Rattle.command_words.specs.declared.limits.TheConstants.{CALL_LIMIT, CONNECTION_LIMIT, ID_LIMIT, PEER_LIMIT, PORT_LIMIT, ROUND_LIMIT}
use Rattle.command_words.specs.Numbers.{number_read}
use Rattle.command_words.specs.Values.{values_of}

-- what a command asks for, and where; and its values, where its text stands, an address or boxes
pub record Work : Type 0 where
  pub place : Where
  pub ask : Ask
  pub values : List (List ℕ)

abbrev pub work_with : Where → List (List ℕ) → Ask → Work
work_with place values ask = record { place = place; ask = ask; values = values }

-- `first` or `second`
unfoldable pub side_read : List ℕ → Option Side
side_read word =
    if bytes_eq word (codes "first") then Some First
    else (if bytes_eq word (codes "second") then Some Second else None)

-- the format of a word, and plain where there is none
abbrev pub format_given : Option (List ℕ) → Option Format
format_given None = Some Plain
format_given (Some word) = format_read word

-- a side, and perhaps the format that it seals its texts in
unfoldable pub begin_read : List ℕ → Option (List ℕ) → Option Ask
begin_read side format =
    option_and_then (λ s. option_map (Begin s) (format_given format)) (side_read side)

-- a number of at most `most`
unfoldable pub amount_read : ℕ → List ℕ → Option ℕ
amount_read most word =
    option_and_then (λ n. if nat_le n most then Some n else None) (number_read word)

-- a number from 1 to `most`
unfoldable pub count_read : ℕ → List ℕ → Option ℕ
count_read most word =
    option_and_then (λ n. if nat_le 1 n && nat_le n most then Some n else None)
    (number_read word)

-- a port, and a number of connections
unfoldable pub relay_read : List ℕ → List ℕ → Option Ask
relay_read port count =
    option_and_then (λ p. option_map (Relay p) (count_read CONNECTION_LIMIT count))
    (count_read PORT_LIMIT port)

-- the id of a long text
abbrev pub id_read : List ℕ → Option ℕ
id_read word = amount_read ID_LIMIT word

-- the id of a long text, and the part from which on it is said
unfoldable pub say_long_read : List ℕ → List ℕ → Option Ask
say_long_read id from =
    option_and_then (λ i. option_map (SayLong i) (number_read from)) (id_read id)

-- a number of people, and a number of writes and syncs that pass before the disk stops
unfoldable pub fan_play_read : List ℕ → List ℕ → Option Ask
fan_play_read peers calls =
    option_and_then (λ p. option_map (DuetFan p) (amount_read CALL_LIMIT calls))
    (count_read PEER_LIMIT peers)

-- a number of rounds, and the number that the script is made from
unfoldable pub made_read : List ℕ → List ℕ → Option Ask
made_read rounds number =
    option_and_then (λ r. option_map (DuetMake r) (number_read number))
    (count_read ROUND_LIMIT rounds)

-- how many values a command has: those that are wanted, those behind them that may be left out, and
-- whether any number may follow
pub record Shape : Type 0 where
  pub wanted : ℕ
  pub spare : ℕ
  pub more : Bool

abbrev pub exactly : ℕ → Shape
exactly n = record { wanted = n; spare = 0; more = false }

abbrev pub with_spare : ℕ → Shape
with_spare n = record { wanted = n; spare = 1; more = false }

abbrev pub with_more : ℕ → Shape
with_more n = record { wanted = n; spare = 0; more = true }

-- this many are as many as it has
abbrev pub fits : Shape → ℕ → Bool
fits shape count =
    nat_le shape.wanted count && (shape.more || nat_le count (shape.wanted + shape.spare))

-- a command's name, where its session is, how many values follow the name, and how they are read
pub record Row : Type 0 where
  pub name : List ℕ
  pub place : Where
  pub shape : Shape
  pub read : List (List ℕ) → Option Ask

abbrev pub row : List ℕ → Shape → (List (List ℕ) → Option Ask) → Row
row name shape read = record { name = name; place = Folder; shape = shape; read = read }

-- the same command on a session of the book: `book-` stands before its name, and the session's name
-- before its values
abbrev pub in_book : Row → Row
in_book row = record {
  name = codes "book-" ++ row.name;
  place = Book;
  shape = record row.shape { wanted = row.shape.wanted + 1 };
  read = λ vs. row.read (drop 1 vs);
}

-- the value at a place
abbrev pub value : List (List ℕ) → ℕ → List ℕ
value values at = get_or values at []

-- the commands on a session, in the folder or in its book
abbrev pub session_rows : List Row
session_rows =
    row (codes "begin") (with_spare 1) (λ vs. begin_read (value vs 0) (slice_get vs 1))
    ∷ row (codes "say") (exactly 1) (λ vs. Some Say)
    ∷ row (codes "take") (exactly 0) (λ vs. Some Take)
    ∷ row (codes "inbox") (exactly 0) (λ vs. Some Inbox)
    ∷ row (codes "done") (exactly 1)
    (λ vs. option_map Done (amount_read INBOX_LIMIT (value vs 0)))
    ∷ row (codes "sent") (exactly 1)
    (λ vs. option_map Sent (amount_read OUTBOX_LIMIT (value vs 0)))
    ∷ row (codes "outbox") (exactly 0) (λ vs. Some Outbox)
    ∷ row (codes "state") (exactly 0) (λ vs. Some State)
    ∷ []

-- those that no session of a book has
abbrev pub folder_rows : List Row
folder_rows =
    row (codes "awaiting") (exactly 0) (λ vs. Some Awaiting)
    ∷ row (codes "relay-keys") (exactly 0) (λ vs. Some RelayKeys)
    ∷ row (codes "long") (exactly 1) (λ vs. option_map Long (id_read (value vs 0)))
    ∷ row (codes "done-long") (exactly 1) (λ vs. option_map DoneLong (id_read (value vs 0)))
    ∷ row (codes "say-long") (exactly 2) (λ vs. say_long_read (value vs 0) (value vs 1))
    ∷ row (codes "check") (exactly 0) (λ vs. Some Check)
    ∷ row (codes "sync") (exactly 1) (λ vs. Some Sync)
    ∷ row (codes "relay") (with_more 3) (λ vs. relay_read (value vs 0) (value vs 1))
    ∷ row (codes "duet") (exactly 0) (λ vs. Some Duet)
    ∷ row (codes "duet-make") (exactly 2) (λ vs. made_read (value vs 0) (value vs 1))
    ∷ row (codes "duet-fan") (exactly 3) (λ vs. fan_play_read (value vs 0) (value vs 1))
    ∷ row (codes "fan") (with_more 2) (λ vs. Some Fan)
    ∷ []

-- what a session of a book is asked for, behind `book-` and its name
abbrev pub named_rows : List Row
named_rows = row (codes "forget") (exactly 0) (λ vs. Some Forget) ∷ session_rows

-- which sessions the book has
abbrev pub list_row : Row
list_row =
    record (row (codes "book-list") (exactly 0) (λ vs. Some Names)) { place = Book }

abbrev pub book_rows : List Row
book_rows = list_row ∷ map in_book named_rows

abbrev pub rows : List Row
rows = session_rows ++ folder_rows ++ book_rows

-- what a row asks for with these values, exactly as many as it has
abbrev pub asks : Row → List (List ℕ) → Option Ask
asks row values = if fits row.shape (length values) then row.read values else None

abbrev pub values_read : Row → List (List ℕ) → Option Work
values_read row values = option_map (work_with row.place values) (asks row values)

-- the row of a name
abbrev pub row_of : List Row → List ℕ → Option Row
row_of table name = find (λ row. bytes_eq name row.name) table

-- what a name of the table asks for with these values
abbrev pub asked : List Row → List ℕ → List (List ℕ) → Option Ask
asked table name values = option_and_then (λ row. asks row values) (row_of table name)

-- a name of the table with these values
abbrev pub command_named : List Row → List ℕ → List (List ℕ) → Option Work
command_named table name values =
    option_and_then (λ row. values_read row values) (row_of table name)

-- a name, and after it the values
abbrev pub command_in : List Row → List (List ℕ) → Option Work
command_in table [] = None
command_in table (name ∷ behind) = option_and_then (command_named table name) (values_of behind)

-- the command that the words are
unfoldable pub command_of : List (List ℕ) → Option Work
command_of words = command_in rows words
