-- That a relay does its work, where nothing fails.
use Rattle.std.proofs.Common.{Bool, List, [], Ok, ap, false, inl, inr, refl, subst, sym, true, ℕ, ◌∙◌, ◌≡◌, ◌⊎◌}
use Rattle.std.proofs.lemmas.Option.{slice_get-get_or}
use Rattle.std.specs.Prelude.{get_or}
use Rattle.dr_disk.specs.State.{DiskState}
use Rattle.dr_ports.specs.Wires.{Port}
use Rattle.endings.specs.declared.ending.Ending.{Ending}
use Rattle.endings.specs.declared.ending.Ending.TheVariants.{Done, NoMemory}
use Rattle.slot_store.specs.Reading.{AreaReading, damaged, holds, no_content}
use Rattle.relay_core.specs.Boxes.{Box, spec_of}
use Rattle.relay_core.specs.Loading.{Fits}
use Rattle.relay_core.specs.Specs.{bare_spec}
use Rattle.relay_core.specs.declared.loading.Loaded.{Loaded}
use Rattle.relay_core.specs.declared.loading.Loaded.TheVariants.{OtherKeys, OtherName, Taken}
use Rattle.relay_core.specs.declared.spec.BoxSpec.{BoxSpec}
use Rattle.relay_core.specs.Record.{IsRecordOf}
use Rattle.relay_server.specs.Opening.{GivesBox, HasAnother, HasOther, IsServerUnopened}
use Rattle.relay_server.specs.declared.errors.ServerOpenError.{ServerOpenError}
use Rattle.relay_server.specs.declared.errors.ServerOpenError.TheVariants.{BoxKeys, BoxName, Damaged, Memory, StoreFault}
use Rattle.relay_command.specs.Completing.{MayServe, NoneFailed}
use Rattle.relay_command.specs.Connections.{ConnectionStanding, Connection}
use Rattle.relay_command.specs.Names.{AreNames, IsFirstBad, specs_of}
use Rattle.relay_command.specs.Relaying.{Relays, ending_after_look, had_bad_box, was_opened, was_unheard, was_unopened, was_unsettled}
use Rattle.relay_command.specs.Serving.{ServesConnections, was_stopped, was_unaccepted, went_on}

both_ways : (b : Bool) → b ≡ true → b ≡ false → ⊥
both_ways b one other = cc

none_bad : (words : List (List ℕ)) (number : ℕ) → AreNames words → IsFirstBad words number → ⊥
none_bad words number names bad = both_ways _ (names bad.place bad.word bad.here) bad.bad

-- a record has one box
one_box : (text : List ℕ) (box other : Box) → IsRecordOf box text → IsRecordOf other text → other ≡ box
one_box text box other is also = let e : Ok box ≡ Ok other = sym is ∙ also in cc

not_so : (how : Loaded) (spec : BoxSpec) (box : Box) → spec_of box ≡ spec → Fits how spec box → (how ≡ Taken → ⊥) → ⊥
not_so Taken spec box made fits another = another refl
not_so OtherName spec box made fits another = fits (ap (λ (s : BoxSpec). s.name) made)
not_so OtherKeys spec box made fits another = fits.1 (ap (λ (s : BoxSpec). s.keys) made)

one_spec : (how : Loaded) (spec : BoxSpec) (box : Box) (reading : AreaReading) → (how ≡ Taken → ⊥) → GivesBox spec box reading → HasOther how spec reading → ⊥
one_spec how spec box no_content another gives other = other
one_spec how spec box (holds text) another gives other =
    not_so how spec other.0 (ap spec_of (one_box text box other.0 gives.0 other.1) ∙ gives.1) other.2 another
one_spec how spec box (damaged slot at) another gives other = gives

-- no area has another box
none_other : (how : Loaded) (words : List (List ℕ)) (start now : DiskState) (k : ℕ) → MayServe words start → (how ≡ Taken → ⊥)
    → HasAnother how (specs_of words) start now k → ⊥
none_other how words start now k may another why =
    let here = slice_get-get_or (specs_of words) k (bare_spec []) why.0 in
    let spec = get_or (specs_of words) k (bare_spec []) in
    let box = may.gives k spec here in
    one_spec how spec box.0 _ another box.1 ((why.2 may.bytes may.told).here spec here)

refused : (words : List (List ℕ)) (start now : DiskState) (from door : Port) (error : ServerOpenError) → MayServe words start
    → NoneFailed start now from door → IsServerUnopened (specs_of words) start now error
    → (ending_after_look error ≡ Done) ⊎ (ending_after_look error ≡ NoMemory)
refused words start now from door Memory may none why = inr refl
refused words start now from door (StoreFault call) may none why = absurd (none.disk call why)
refused words start now from door (Damaged area slot at) may none why =
    let spec = get_or (specs_of words) area (bare_spec []) in
    let box = may.gives area spec (slice_get-get_or (specs_of words) area (bare_spec []) why.0) in
    absurd (subst (GivesBox spec box.0) (why.2 may.bytes may.told).here box.1)
refused words start now from door (BoxName k) may none why = absurd (none_other OtherName words start now k may (λ e. cc) why)
refused words start now from door (BoxKeys k) may none why = absurd (none_other OtherKeys words start now k may (λ e. cc) why)

serves_done : (earlier : List ℕ → Type 0) (turns : List Connection → Type 0) (s : ConnectionStanding) (port count : ℕ) (start now : DiskState)
    (from door : Port) (code : ℕ) (ending : Ending) (lines : List ℕ) → NoneFailed start now from door
    → ServesConnections earlier turns s port count start now from door code ending lines → ending ≡ Done
serves_done earlier turns s port count start now from door code ending lines none (was_unaccepted xs were less rose) = absurd (none.gate rose.1)
serves_done earlier turns s port count start now from door code ending lines none (was_stopped xs x call come each stop less rose gate) =
    absurd (none.disk call rose)
serves_done earlier turns s port count start now from door code ending lines none (went_on xs were most full gate) = refl

pub relay_completes : {X Y : Type 0} (state : X → DiskState) (port_of : Y → Port) (words : List (List ℕ)) (port count : ℕ) (start now : X)
    (from door : Y) (code : ℕ) (ending : Ending) (lines : List ℕ) → MayServe words (state start)
    → NoneFailed (state start) (state now) (port_of from) (port_of door)
    → Relays state port_of words port count start now from door code ending lines → (ending ≡ Done) ⊎ (ending ≡ NoMemory)
relay_completes state port_of words port count start now from door code ending lines may none (had_bad_box k bad same left) =
    absurd (none_bad words k may.names bad)
relay_completes state port_of words port count start now from door code ending lines may none (was_unopened names error why looks left) =
    refused words (state start) (state now) (port_of from) (port_of door) error may none why
relay_completes state port_of words port count start now from door code ending lines may none (was_unheard names looked is looks unheard) =
    absurd (none.gate unheard.rose.1)
relay_completes state port_of words port count start now from door code ending lines may none (was_unsettled names boxes read span call rose heard) =
    absurd (none.disk call rose)
relay_completes state port_of words port count start now from door code ending lines may none (was_opened names boxes read opened span rests ending' lines' serves) =
    inl (serves_done _ _ _ _ _ _ _ _ _ _ _ _ none serves)
