-- Which event of the machine a fan is.
use Rattle.std.specs.Prelude.{Err, List, None, Ok, Option, Result, Some, [], length, suc, zero, ℕ, ◌∷◌, ◌≡◌}
use Rattle.book_model.specs.Runs.{failed, fanned, fans, happens}
use Rattle.book_model.specs.Steps.{Mishap, store_fault}
use Rattle.dr_base.specs.declared.key.Key32.{Key32}
use Rattle.dr_model.specs.Machines.Acts.{Act, saying}
use Rattle.dr_ports.specs.States.{DrawsState}
use Rattle.kem_laws.specs.Mechanism.{Mechanism}
use Rattle.session_model.specs.Contents.{text_content}
use Rattle.book.specs.Books.{BookNow}
use Rattle.book.specs.Fans.{AreAsked, Fan, fan_of, fan_row, fan_seed, key_bytes}
use Rattle.book.specs.Machines.{BookOutcome, RowAnswer, RowCall, acts, machine_of, sessions_of}
use Rattle.book.specs.RowKeepings.{known_name, name_of}
use Rattle.book.specs.declared.refusals.FanRefusal.{FanRefusal}
use Rattle.book.specs.declared.refusals.FanRefusal.TheVariants.{StoreFault}

-- the name of its n-th session, and what that does
abbrev pub fan_name : Fan → ℕ → List ℕ
fan_name fan n = known_name (name_of (fan_row fan n))

abbrev pub fan_act : Fan → ℕ → Act
fan_act fan n = saying (text_content fan.text) (key_bytes (fan_seed fan n))

-- its call, and so many calls from that one on
abbrev pub fan_call : Fan → ℕ → List ℕ × RowCall
fan_call fan n = (fan_name fan n, acts (fan_act fan n))

abbrev pub fan_calls : Fan → ℕ → ℕ → List (List ℕ × RowCall)
fan_calls fan n zero = []
fan_calls fan n (suc more) = fan_call fan n ∷ fan_calls fan (suc n) more

abbrev pub IsFanStep : Mechanism → BookNow → BookNow → Fan → Option Mishap → BookOutcome → Type 0
IsFanStep k old new fan mishap outcome =
    happens (sessions_of k) (machine_of old)
    (record { wanted = fans (fan_calls fan 0 (length fan.list)); mishap = mishap })
    ≡ record { outcome = outcome; next = machine_of new }

-- An Ok fan is a say for each of its names, with what was drawn for it; a refused one is no call.
abbrev pub FansAsStep : {W : Type 0} → (W → DrawsState) → Mechanism → List ℕ → List ℕ → BookNow
    → BookNow → W → W → Result Unit FanRefusal → Type 0
FansAsStep draws k text list old new source left (Ok u) = (seeds : List (Option Key32))
    × AreAsked draws k text old.rows list source (length list) left seeds
    × ((said : List RowAnswer)
    × IsFanStep k old new (fan_of old.rows list text seeds) None (fanned said))
FansAsStep draws k text list old new source left (Err (StoreFault call)) =
    (seeds : List (Option Key32))
    × AreAsked draws k text old.rows list source (length list) left seeds
    × IsFanStep k old new (fan_of old.rows list text seeds) (Some store_fault) (failed store_fault)
FansAsStep draws k text list old new source left (Err refusal) = new ≡ old
