-- The keys of the session's boxes in a record, both ways.
use Rattle.std.proofs.Common.{◌≡◌, ℕ, ◌^◌, ◌<◌, Bool, true, false, ◌≤◌, length, Option, Some, None, refl, sym, ◌∙◌, ap, arith, if◌then◌else◌}
use Rattle.std.specs.Prelude.{◌==◌}
use Rattle.std.specs.Int.{w8}
use Rattle.std.proofs.lemmas.Bool.Decides.{nat_tests}
use Rattle.dr_base.proofs.Widths.{exact8}
use Rattle.grammar.specs.Grammar.{IsGrammar}
use Rattle.grammar.specs.Printer.{IsMaybe}
use Rattle.grammar.proofs.Choices.{maybe_grammar}
use Rattle.grammar.proofs.Combined.{both_grammar, checked_grammar, mapped_grammar}
use Rattle.grammar.proofs.Fields.{number_grammar, piece_grammar}
use Rattle.session_model.specs.BoxKeys.{AreLongKeys, HasLongKeys, relay_bytes, relay_keys_at}
use Rattle.session_model.specs.declared.relay_keys.RelayKeys.{RelayKeys}
use Rattle.session_model.specs.declared.relay_keys.TheConstants.{RELAY_KEYS_SIZE}
use Rattle.session_model.proofs.KeyBytes.{bytes-back, keys-back, keys-long, relay-size}
use Rattle.session_record.specs.Relay.{flag_of, flagged_keys, flagged_text, is_flag, keys_told, relay_field, relay_keys_field, relay_text, told_keys}
use Rattle.session_record.specs.Versions.{has_keys, newest}
use Rattle.session_record.specs.declared.limits.TheConstants.{RELAY_LIMIT}
use Rattle.session_record.specs.declared.versions.Version.{Version}
use Rattle.session_record.proofs.Passing.{PassesRelay}

-- ---- the keys, which are one field

keys_grammar : IsGrammar relay_bytes AreLongKeys relay_keys_field
unfolding relay_keys_field
keys_grammar =
    mapped_grammar _ _ _ (piece_grammar RELAY_KEYS_SIZE) AreLongKeys relay_keys_at relay_bytes
    (λ bytes long. (keys-long bytes long, keys-back bytes long)) (λ keys l. (relay-size keys l, bytes-back keys l))

-- ---- whether there are some

-- the byte says what follows it
abbrev IsFlagged : ℕ × Option RelayKeys → Type 0
IsFlagged e = ((e.0 < 2 ^ 8) × (is_flag e.0 ≡ true)) × IsMaybe (e.0 == 1) AreLongKeys e.1

is_zero : (n : ℕ) → is_flag n ≡ true → (n == 1) ≡ false → 0 ≡ n
is_zero n flag other = grind (arith, nat_tests)

is_one : (n : ℕ) → (n == 1) ≡ true → 1 ≡ n
is_one n same = grind (arith, nat_tests)

flag_there : (n : ℕ) (keys : Option RelayKeys) → IsFlagged (n, keys)
    → HasLongKeys keys × ((let e : ℕ × Option RelayKeys = (flag_of keys, keys) in e) ≡ (n, keys))
flag_there n None l = (tt, ap (λ (m : ℕ). let e : ℕ × Option RelayKeys = (m, None) in e) (is_zero n l.0.1 l.1))
flag_there n (Some keys) l =
    (l.1.1, ap (λ (m : ℕ). let e : ℕ × Option RelayKeys = (m, Some keys) in e) (is_one n l.1.0))

flag_back : (keys : Option RelayKeys) → HasLongKeys keys → IsFlagged (flag_of keys, keys)
flag_back None l = ((omega arith, refl), refl)
flag_back (Some keys) l = ((omega arith, refl), (refl, l))

flagged_grammar : IsGrammar flagged_text HasLongKeys flagged_keys
unfolding flagged_keys flagged_text
flagged_grammar =
    mapped_grammar _ _ _
    (both_grammar _ _ _ _ _ _ (checked_grammar _ _ _ (number_grammar w8 (2 ^ 8) exact8) is_flag) (λ flag _.
    maybe_grammar _ _ _ keys_grammar (flag == 1)))
    HasLongKeys (λ e. e.1) (λ keys. (flag_of keys, keys))
    (λ e l. flag_there e.0 e.1 l) (λ keys l. (flag_back keys l, refl))

-- ---- by the version

pub relay_grammar : (version : Version) → IsGrammar (relay_text version) (PassesRelay version) (relay_field version)
unfolding relay_field
relay_grammar version =
    mapped_grammar _ _ _ (maybe_grammar _ _ _ flagged_grammar (has_keys version))
    (PassesRelay version) keys_told (told_keys version)
    (λ o l. there (has_keys version) refl o l) (λ keys l. back (has_keys version) refl keys l)
  where
    there : (has : Bool) → has_keys version ≡ has → (o : Option (Option RelayKeys)) → IsMaybe has HasLongKeys o
        → PassesRelay version (keys_told o) × ((if has then Some (keys_told o) else None) ≡ o)
    there true is None l = absurd (let e : true ≡ false = l in cc)
    there false is None l = (record { long = tt; allowed = λ _. refl }, refl)
    there true is (Some keys) l =
        (record { long = l.1; allowed = λ without. absurd (let e : true ≡ false = sym is ∙ without in cc) }, refl)
    there false is (Some keys) l = absurd (let e : false ≡ true = l.0 in cc)

    back : (has : Bool) → has_keys version ≡ has → (keys : Option RelayKeys) → PassesRelay version keys
        → IsMaybe has HasLongKeys (if has then Some keys else None) × (keys_told (if has then Some keys else None) ≡ keys)
    back true is keys l = ((refl, l.long), refl)
    back false is keys l = (refl, sym (l.allowed is))

-- ---- sizes

pub size-relay : (keys : Option RelayKeys) → HasLongKeys keys → length (relay_text newest keys) ≤ RELAY_LIMIT
unfolding flagged_text
size-relay None l = omega arith
size-relay (Some keys) l = omega (arith, relay-size keys l)
