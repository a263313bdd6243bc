-- What a fan does, by how it ends.
use Rattle.std.specs.Prelude.{Err, List, None, Ok, Option, Result, Some, [], get_or, length, ℕ, ◌++◌, ◌<◌, ◌∷◌, ◌≡◌}
use Rattle.book_model.specs.Rows.{Rows, under}
use Rattle.book_store.specs.Committing.{IsOldOrNewBook}
use Rattle.book_store.specs.declared.errors.StoreFault.{StoreFault}
use Rattle.dr_base.specs.declared.key.Key32.{Key32}
use Rattle.dr_disk.specs.Spans.{Span}
use Rattle.dr_disk.specs.State.{DiskState}
use Rattle.dr_ports.specs.States.{DrawsState}
use Rattle.kem_laws.specs.Mechanism.{Mechanism}
use Rattle.session_model.specs.Clients.{Client}
use Rattle.book.specs.Beginning.{ChangesBook}
use Rattle.book.specs.Books.{BookNow}
use Rattle.book.specs.Fans.{AreAsked, Asks, Fan, fan_of, fanned_rows, fanned_store, fanned_writes}
use Rattle.book.specs.Naming.{IsPlaceOf}
use Rattle.book.specs.RowKeepings.{kept_of, row_at}
use Rattle.book.specs.Rows.{stored}
use Rattle.book.specs.declared.fans.list.FanAddError.{FanAddError}
use Rattle.book.specs.declared.fans.list.FanAddError.TheVariants.{FanFull, NoName, Twice}
use Rattle.book.specs.declared.fans.list.TheConstants.{FAN_LIMIT}
use Rattle.book.specs.declared.refusals.FanRefusal.{FanRefusal}
use Rattle.book.specs.declared.refusals.FanRefusal.TheVariants.{Closed, Nobody, Peer, StoreFault as Faulted}

-- ---- a session is added to a list

-- its row's place is listed
abbrev pub IsListed : ℕ → List ℕ → Type 0
IsListed at list = (i : ℕ) × (i < length list) × (get_or list i 0 ≡ at)

-- it isn't
abbrev pub IsUnlisted : ℕ → List ℕ → Type 0
IsUnlisted at list = (i : ℕ) → i < length list → get_or list i 0 ≡ at → ⊥

-- Each refusal has its cause, the first of these; and then the list stays.
abbrev pub AddsTo : List ℕ → Rows Client → List ℕ → List ℕ → Result Unit FanAddError → Type 0
AddsTo name rows old new (Ok u) = (at : ℕ) × IsPlaceOf name rows at × IsUnlisted at old
    × (length old < FAN_LIMIT) × (new ≡ old ++ at ∷ [])
AddsTo name rows old new (Err NoName) = (under name rows ≡ None) × (new ≡ old)
AddsTo name rows old new (Err Twice) =
    (at : ℕ) × IsPlaceOf name rows at × IsListed at old × (new ≡ old)
AddsTo name rows old new (Err FanFull) = (at : ℕ) × IsPlaceOf name rows at × IsUnlisted at old
    × (length old ≡ FAN_LIMIT) × (new ≡ old)

-- ---- the sessions of a list are asked in turn

-- all of them say it with these seeds, or the first that doesn't is named, with its reason
abbrev pub AsksInTurn : {W : Type 0} → (W → DrawsState) → Mechanism → List ℕ → Rows Client
    → List ℕ → W → W → List (Option Key32) → Result Unit FanRefusal → Type 0
AsksInTurn draws k text rows list source left seeds (Ok u) =
    AreAsked draws k text rows list source (length list) left seeds
AsksInTurn {W = W} draws k text rows list source left seeds (Err (Peer at refusal)) =
    (at < length list) × ((mid : W) × AreAsked draws k text rows list source at mid seeds
    × Asks draws k text (kept_of (row_at rows (get_or list at 0))) mid left (Err refusal))
AsksInTurn draws k text rows list source left seeds (Err refusal) = ⊥

-- ---- a text is said in all sessions of a list

-- All of them say it. Their records take the places of those before in one commit: in each image
-- all sessions are as before, or all have said it.
pub record FansOut {T : Type 0} (k : Mechanism) (fan : Fan) (old new : BookNow)
    (start now : DiskState) (result : Result T StoreFault) : Type 0 where
  pub changes : ChangesBook (fanned_writes k fan old.store (length fan.list))
      (fanned_store k fan old.store (length fan.list)) (fanned_rows k fan (length fan.list))
      old new start now result
  pub all_or_none : Span start now (IsOldOrNewBook old.store.rows (stored old.rows)
      (stored (fanned_rows k fan (length fan.list))) start)

-- each is asked first, and draws a seed where it needs one
abbrev pub AsksAndFans : {T W : Type 0} → (W → DrawsState) → Mechanism → List ℕ → List ℕ
    → BookNow → BookNow → DiskState → DiskState → W → W → Result T StoreFault → Type 0
AsksAndFans draws k text list old new start now source left result =
    (old.closed ≡ None) × (0 < length list) × ((seeds : List (Option Key32))
    × AsksInTurn draws k text old.rows list source left seeds (Ok tt)
    × FansOut k (fan_of old.rows list text seeds) old new start now result)

-- Each refusal has its cause, the first of these; and then nothing has changed, but for a fault, and
-- for what was drawn.
abbrev pub FansIn : {X W : Type 0} → (X → DiskState) → (W → DrawsState) → Mechanism → List ℕ
    → List ℕ → BookNow → BookNow → X → X → W → W → Result Unit FanRefusal → Type 0
FansIn state draws k text list old new start now source left (Ok u) =
    AsksAndFans draws k text list old new (state start) (state now) source left (Ok u)
FansIn state draws k text list old new start now source left (Err (Faulted call)) =
    AsksAndFans {T = Unit} draws k text list old new (state start) (state now) source left
    (Err (record { call = call }))
FansIn state draws k text list old new start now source left (Err (Closed call)) =
    (old.closed ≡ Some call) × (new ≡ old) × (now ≡ start) × (left ≡ source)
FansIn state draws k text list old new start now source left (Err Nobody) =
    (old.closed ≡ None) × (list ≡ []) × (new ≡ old) × (now ≡ start) × (left ≡ source)
FansIn state draws k text list old new start now source left (Err (Peer at refusal)) =
    (old.closed ≡ None) × ((seeds : List (Option Key32))
    × AsksInTurn draws k text old.rows list source left seeds (Err (Peer at refusal)))
    × (new ≡ old) × (now ≡ start)
