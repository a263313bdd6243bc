-- How a script is stored, so that a type of code may stand for it.
use Rattle.std.specs.Prelude.{Bool, List, None, Option, Some, false, refl, true, ℕ, ◌≡◌, ◌⊎◌}
use Rattle.std.proofs.Common.{inl, inr}
use Rattle.std.specs.Coded.{Coded, code_by, coded_bool, coded_list, coded_option, coded_ℕ, coded×, coded⊎}
use Rattle.bodies.specs.declared.format.Format.{Format}
use Rattle.bodies.specs.declared.format.Format.TheVariants.{Padded, Plain, Receipts}
use Rattle.dr_base.specs.declared.position.Side.{Side}
use Rattle.dr_disk.specs.declared.call.Mode.{Mode}
use Rattle.dr_disk.specs.declared.call.Mode.TheVariants.{Fill, New, Old}
use Rattle.dr_model.specs.Conversations.Formats.{Formats}
use Rattle.dr_model.specs.Machines.EventCodes.{call_code, event_code, side_code}
use Rattle.dr_model.specs.Machines.Events.{Event, SideCall}
use Rattle.scripts.specs.Deeds.{Deed, acts, fails, joins, reopens, stops, syncs}
use Rattle.scripts.specs.Script.{Scripted}
use Rattle.scripts.specs.declared.script.KemName.{KemName}
use Rattle.scripts.specs.declared.script.KemName.TheVariants.{Open, Sntrup761}

-- ---- a deed

-- the mode of a crash: the old bytes or the new ones, or a byte
abbrev stored_mode : Mode → Bool ⊎ ℕ
stored_mode Old = inl false
stored_mode New = inl true
stored_mode (Fill byte) = inr byte

abbrev mode_by : Bool ⊎ ℕ → Mode
mode_by (inl false) = Old
mode_by (inl true) = New
mode_by (inr byte) = Fill byte

pub same_mode : (mode : Mode) → mode_by (stored_mode mode) ≡ mode
same_mode Old = refl
same_mode New = refl
same_mode (Fill byte) = refl

abbrev pub mode_code : Coded Mode
mode_code = code_by (Bool ⊎ ℕ) (coded⊎ coded_bool coded_ℕ) stored_mode mode_by same_mode

abbrev StoredDeed : Type 0
StoredDeed =
    Event ⊎ ((ℕ × (Mode × (Side × SideCall)))
    ⊎ ((ℕ × (Side × SideCall)) ⊎ (Side ⊎ ((Side × Option ℕ) ⊎ (Side × ℕ)))))

abbrev stored : Deed → StoredDeed
stored (acts event) = inl event
stored (stops n mode side call) = inr (inl (n, (mode, (side, call))))
stored (fails n side call) = inr (inr (inl (n, (side, call))))
stored (reopens side) = inr (inr (inr (inl side)))
stored (syncs side lost) = inr (inr (inr (inr (inl (side, lost)))))
stored (joins side id) = inr (inr (inr (inr (inr (side, id)))))

abbrev deed_by : StoredDeed → Deed
deed_by (inl event) = acts event
deed_by (inr (inl stop)) = stops stop.0 stop.1.0 stop.1.1.0 stop.1.1.1
deed_by (inr (inr (inl failure))) = fails failure.0 failure.1.0 failure.1.1
deed_by (inr (inr (inr (inl side)))) = reopens side
deed_by (inr (inr (inr (inr (inl sync))))) = syncs sync.0 sync.1
deed_by (inr (inr (inr (inr (inr look))))) = joins look.0 look.1

pub same_deed : (deed : Deed) → deed_by (stored deed) ≡ deed
same_deed (acts event) = refl
same_deed (stops n mode side call) = refl
same_deed (fails n side call) = refl
same_deed (reopens side) = refl
same_deed (syncs side lost) = refl
same_deed (joins side id) = refl

abbrev pub deed_code : Coded Deed
deed_code =
    code_by StoredDeed
    (coded⊎ event_code
    (coded⊎ (coded× coded_ℕ (coded× mode_code (coded× side_code call_code)))
    (coded⊎ (coded× coded_ℕ (coded× side_code call_code))
    (coded⊎ side_code
    (coded⊎ (coded× side_code (coded_option coded_ℕ)) (coded× side_code coded_ℕ))))))
    stored deed_by same_deed

-- ---- a script

abbrev is_open : KemName → Bool
is_open Open = true
is_open Sntrup761 = false

abbrev kem_by : Bool → KemName
kem_by true = Open
kem_by false = Sntrup761

pub same_kem : (kem : KemName) → kem_by (is_open kem) ≡ kem
same_kem Open = refl
same_kem Sntrup761 = refl

abbrev pub kem_code : Coded KemName
kem_code = code_by Bool coded_bool is_open kem_by same_kem

-- none where it is plain, else whether there are receipts
abbrev has_receipts : Format → Option Bool
has_receipts Plain = None
has_receipts Padded = Some false
has_receipts Receipts = Some true

abbrev format_by : Option Bool → Format
format_by None = Plain
format_by (Some false) = Padded
format_by (Some true) = Receipts

pub same_format : (format : Format) → format_by (has_receipts format) ≡ format
same_format Plain = refl
same_format Padded = refl
same_format Receipts = refl

abbrev pub coded_format : Coded Format
coded_format = code_by (Option Bool) (coded_option coded_bool) has_receipts format_by same_format

abbrev pub formats_code : Coded Formats
formats_code =
    code_by (Format × Format) (coded× coded_format coded_format)
    (λ f. (f.first, f.second)) (λ e. record { first = e.0; second = e.1 }) (λ _. refl)

abbrev pub script_code : Coded Scripted
script_code =
    code_by (KemName × (List ℕ × (Formats × (Bool × (List Deed × ℕ)))))
    (coded× kem_code (coded× (coded_list coded_ℕ)
    (coded× formats_code (coded× coded_bool (coded× (coded_list deed_code) coded_ℕ)))))
    (λ s. (s.kem, (s.key, (s.formats, (s.guarded, (s.deeds, s.rounds))))))
    (λ e. record {
      kem = e.0;
      key = e.1.0;
      formats = e.1.1.0;
      guarded = e.1.1.1.0;
      deeds = e.1.1.1.1.0;
      rounds = e.1.1.1.1.1;
    }) (λ _. refl)
