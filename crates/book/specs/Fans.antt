-- A fan: sessions of a book that say one text, all of them or none, and what each of them is asked.
use Rattle.std.specs.Prelude.{Err, IsOk, List, None, Ok, Option, Result, Some, [], get_or, if◌then◌else◌, is_some, length, nat_lt, option_map, slice_set, suc, true, zero, ℕ, ◌+◌, ◌++◌, ◌<◌, ◌∷◌, ◌≡◌, ◌≢◌, ◌≤◌}
use Rattle.book_model.specs.Rows.{Row, Rows}
use Rattle.book_store.specs.Store.{BookStore, with_row, writes_at}
use Rattle.dr_base.specs.Causes.{Rose}
use Rattle.dr_base.specs.declared.key.Key32.{Key32}
use Rattle.dr_base.specs.declared.position.Position.{Position}
use Rattle.dr_ports.specs.States.{DrawsState}
use Rattle.kem_laws.specs.Mechanism.{Mechanism}
use Rattle.ratchet.specs.Seen.{seed_bytes}
use Rattle.session_model.specs.Clients.{Client, SaidText, say_check, say_on}
use Rattle.session_model.specs.Contents.{text_content}
use Rattle.session_model.specs.declared.answer.Refusal.{Refusal}
use Rattle.session_model.specs.declared.answer.Refusal.TheVariants.{NoPair as HasNoPair}
use Rattle.session_record.specs.Record.{record_text}
use Rattle.client.specs.LastSaid.{last_said}
use Rattle.client.specs.declared.refusals.SayRefusal.{SayRefusal}
use Rattle.client.specs.declared.refusals.SayRefusal.TheVariants.{Closed, DrawFault, NoPair, Refused, StoreFault}
use Rattle.book.specs.RowKeepings.{kept_of, known_name, name_of, row_at, with_kept}
use Rattle.book.specs.Stepping.{WasDrawn}
use Rattle.book.specs.declared.fans.list.TheConstants.{FAN_LIMIT}

-- ---- its list

-- places of rows, each once
pub record IsFanList (list : List ℕ) : Type 0 where
  pub few : length list ≤ FAN_LIMIT
  pub once : (i j : ℕ) → i < j → j < length list → get_or list i 0 ≢ get_or list j 0

-- each of these rows is present
abbrev pub AreListed : Rows Client → List ℕ → Type 0
AreListed rows list =
    (i : ℕ) → i < length list → is_some (row_at rows (get_or list i 0)) ≡ true

-- where the latest own text stands of the session at a place of a list, if it has such a place
abbrev pub said_at : Rows Client → List ℕ → ℕ → Option Position
said_at rows list at =
    if nat_lt at (length list) then last_said (kept_of (row_at rows (get_or list at 0))).state
    else None

-- ---- what a session is asked

-- it says the text with this seed, or needs none
pub record Says (k : Mechanism) (text : List ℕ) (kept : Client) (seed : Option Key32) : Type 0 where
  pub checked : say_check kept (text_content text) ≡ Ok (is_some seed)
  pub said : IsOk (say_on k kept (text_content text) (seed_bytes seed))

abbrev pub key_bytes : Option Key32 → Option (List ℕ)
key_bytes seed = option_map (λ key. key.bytes) seed

-- Whether it says the text, with a draw exactly where it needs a seed; or why it doesn't.
abbrev pub Asks : {W : Type 0} → (W → DrawsState) → Mechanism → List ℕ → Client → W → W
    → Result (Option Key32) SayRefusal → Type 0
Asks draws k text kept source left (Ok seed) =
    Says k text kept seed × WasDrawn draws source left (key_bytes seed)
Asks draws k text kept source left (Err (Refused refusal)) =
    (say_check kept (text_content text) ≡ Err refusal) × (left ≡ source)
Asks draws k text kept source left (Err DrawFault) =
    (say_check kept (text_content text) ≡ Ok true) × Rose (draws source).faults (draws left).faults
    × ((draws left).coming ≡ (draws source).coming)
Asks draws k text kept source left (Err (NoPair seed)) =
    (say_check kept (text_content text) ≡ Ok true) × WasDrawn draws source left (Some seed.bytes)
    × (say_on k kept (text_content text) seed.bytes ≡ Err HasNoPair)
Asks draws k text kept source left (Err (Closed call)) = ⊥
Asks draws k text kept source left (Err (StoreFault call)) = ⊥

-- a seed with which a session was asked is handed back, or it has no pair
abbrev pub Answers : Mechanism → List ℕ → Client → Option Key32
    → Result (Option Key32) SayRefusal → Type 0
Answers k text kept seed (Ok back) =
    (back ≡ seed) × IsOk (say_on k kept (text_content text) (seed_bytes seed))
Answers k text kept seed (Err (NoPair key)) =
    (seed ≡ Some key) × (say_on k kept (text_content text) key.bytes ≡ Err HasNoPair)
Answers k text kept seed (Err refusal) = ⊥

-- the first n sessions of a list are asked in turn, and say it with these seeds
pub data AreAsked {W : Type 0} (draws : W → DrawsState) (k : Mechanism) (text : List ℕ)
    (rows : Rows Client) (list : List ℕ) (source : W) : ℕ → W → List (Option Key32) → Type 0 where
  none_asked : AreAsked draws k text rows list source 0 source []
  one_more : (n : ℕ) (mid left : W) (seeds : List (Option Key32)) (seed : Option Key32)
      → AreAsked draws k text rows list source n mid seeds
      → Asks draws k text (kept_of (row_at rows (get_or list n 0))) mid left (Ok seed)
      → AreAsked draws k text rows list source (n + 1) left (seeds ++ seed ∷ [])

-- ---- what becomes of them

-- a text, which sessions of rows say with these seeds
pub record Fan : Type 0 where
  pub rows : Rows Client
  pub list : List ℕ
  pub text : List ℕ
  pub seeds : List (Option Key32)

abbrev pub fan_of : Rows Client → List ℕ → List ℕ → List (Option Key32) → Fan
fan_of rows list text seeds = record { rows = rows; list = list; text = text; seeds = seeds }

-- the place of its n-th session, its row, and its seed
abbrev pub fan_place : Fan → ℕ → ℕ
fan_place fan n = get_or fan.list n 0

abbrev pub fan_row : Fan → ℕ → Option (Row Client)
fan_row fan n = row_at fan.rows (fan_place fan n)

abbrev pub fan_seed : Fan → ℕ → Option Key32
fan_seed fan n = get_or fan.seeds n None

-- each of them is there, and says it with its seed
pub record AllSay (k : Mechanism) (fan : Fan) : Type 0 where
  pub list : IsFanList fan.list
  pub there : AreListed fan.rows fan.list
  pub long : length fan.seeds ≡ length fan.list
  pub say : (n : ℕ) → n < length fan.list
      → Says k fan.text (kept_of (fan_row fan n)) (fan_seed fan n)

-- what is kept once a text was said
abbrev pub said_or : Client → Result SaidText Refusal → Client
said_or kept (Ok said) = said.next
said_or kept (Err refusal) = kept

abbrev pub said_next : Mechanism → List ℕ → Client → Option Key32 → Client
said_next k text kept seed = said_or kept (say_on k kept (text_content text) (seed_bytes seed))

-- the row of a session that said it
abbrev pub said_row : Mechanism → List ℕ → Option Key32 → Option (Row Client) → Option (Row Client)
said_row k text seed row = with_kept row (said_next k text (kept_of row) seed)

-- a store in which its record is staged, and how many pages of it are written
abbrev pub staged_said : Mechanism → List ℕ → Option Key32 → Option (Row Client) → ℕ → BookStore
    → BookStore
staged_said k text seed row at store = with_row store at (known_name (name_of row))
    (record_text (said_next k text (kept_of row) seed))

abbrev pub said_writes : Mechanism → List ℕ → Option Key32 → Option (Row Client) → ℕ → BookStore
    → ℕ
said_writes k text seed row at store =
    writes_at store at (record_text (said_next k text (kept_of row) seed))

-- the rows, once the first sessions said it
abbrev pub fanned_rows : Mechanism → Fan → ℕ → Rows Client
fanned_rows k fan zero = fan.rows
fanned_rows k fan (suc n) = slice_set (fanned_rows k fan n) (fan_place fan n)
    (said_row k fan.text (fan_seed fan n) (fan_row fan n))

-- the store with their records staged, and how many pages of them are written
abbrev pub fanned_store : Mechanism → Fan → BookStore → ℕ → BookStore
fanned_store k fan store zero = store
fanned_store k fan store (suc n) =
    staged_said k fan.text (fan_seed fan n) (fan_row fan n) (fan_place fan n)
    (fanned_store k fan store n)

abbrev pub fanned_writes : Mechanism → Fan → BookStore → ℕ → ℕ
fanned_writes k fan store zero = 0
fanned_writes k fan store (suc n) = fanned_writes k fan store n
    + said_writes k fan.text (fan_seed fan n) (fan_row fan n) (fan_place fan n)
    (fanned_store k fan store n)
