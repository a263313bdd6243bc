-- The grammars of the fields before the lists.
use Rattle.std.proofs.Common.{◌≡◌, ℕ, ◌^◌, ◌<◌, ◌==◌, Bool, true, false, List, length, Option, Some, None, refl, sym, ap, ◌∙◌, arith, inl, inr, if◌then◌else◌}
use Rattle.std.specs.Prelude.{◌⊎◌}
use Rattle.std.specs.Int.{w8, w32, to_be_bytes}
use Rattle.std.proofs.lemmas.Bool.Decides.{nat_tests}
use Rattle.bodies.specs.declared.format.Format.{Format}
use Rattle.bodies.specs.declared.format.Format.TheVariants.{Padded, Plain, Receipts}
use Rattle.dr_base.specs.declared.position.Side.{Side}
use Rattle.dr_base.specs.declared.position.Side.TheVariants.{First, Second}
use Rattle.packet.specs.Packet.{agreement_len}
use Rattle.dr_base.specs.Position.{is_own}
use Rattle.session_model.specs.States.{Own, Phase, in_own, in_peers}
use Rattle.kem_laws.specs.Mechanism.{Mechanism}
use Rattle.cka.specs.Agreement.{agreement_size}
use Rattle.dr_base.specs.declared.limits.TheConstants.{INDEX_LIMIT, LAST_EPOCH}
use Rattle.grammar.specs.Grammar.{IsGrammar}
use Rattle.grammar.specs.Printer.{print_maybe, IsEither, IsMaybe}
use Rattle.grammar.specs.Reader.{number, checked}
use Rattle.grammar.proofs.Fields.{number_grammar, piece_grammar}
use Rattle.dr_base.proofs.Widths.{exact8, exact32}
use Rattle.grammar.proofs.Choices.{maybe_grammar, either_grammar}
use Rattle.grammar.proofs.Combined.{both_grammar, checked_grammar, mapped_grammar}
use Rattle.session_record.specs.Fields.{up_to, version_field, is_side, side_at, code_of, side_field, is_format, format_at, format_code, format_of, of_format, format_byte, format_field, format_text, epoch_field, is_secret, count_field, own_of, of_own, own_fields, own_text, phase_of, of_phase, phase_field, phase_text, is_previous, previous_field, has_receiving, reception_of, of_reception, reception_fields, receiving_field, reception_text}
use Rattle.session_record.specs.Versions.{IsFormatOf, has_format, is_version, version_at, version_code}
use Rattle.session_record.specs.declared.versions.Version.{Version}
use Rattle.session_record.proofs.Passing.{PassesOwn, PassesPhase, PassesReception}
use Rattle.session_record.proofs.VersionLimits.{code_fits, code_is_version, version_lawful, version_of_code, with-format}

-- a number that passes a test which only numbers of its width pass
pub small_number : (test : ℕ → Bool) → ((n : ℕ) → test n ≡ true → n < 2 ^ 32) → IsGrammar (to_be_bytes w32) (λ n. test n ≡ true) (checked test (number w32))
small_number test fits =
    let plain = checked_grammar _ _ _ (number_grammar w32 (2 ^ 32) exact32) test in
    record {
      reads = λ a at rest lawful. plain.reads a at rest (fits a lawful, lawful);
      only = λ at bytes x are h.
          let one = plain.only at bytes x are h in
          record { text = one.text; lawful = one.lawful.1; behind = one.behind; rest_bytes = one.rest_bytes };
    }

pub version_grammar : IsGrammar (λ version. to_be_bytes w8 (version_code version)) (λ version. Unit {0}) version_field
unfolding version_field
version_grammar =
    mapped_grammar (to_be_bytes w8) _ _ (checked_grammar _ _ _ (number_grammar w8 (2 ^ 8) exact8) is_version) (λ version. Unit {0}) version_at version_code
    (λ n lawful. (tt, version_lawful n lawful.1)) (λ version lawful. ((code_fits version, code_is_version version), version_of_code version))

side_lawful : (n : ℕ) → is_side n ≡ true → code_of (side_at n) ≡ n
side_lawful n lawful = grind (arith, nat_tests)

code_lawful : (side : Side) → ((code_of side < 2 ^ 8) × (is_side (code_of side) ≡ true)) × (side_at (code_of side) ≡ side)
code_lawful First = ((omega arith, refl), refl)
code_lawful Second = ((omega arith, refl), refl)

pub side_grammar : IsGrammar (λ side. to_be_bytes w8 (code_of side)) (λ side. Unit {0}) side_field
unfolding side_field
side_grammar =
    mapped_grammar (to_be_bytes w8) _ _ (checked_grammar _ _ _ (number_grammar w8 (2 ^ 8) exact8) is_side) (λ side. Unit {0}) side_at code_of
    (λ n lawful. (tt, side_lawful n lawful.1)) (λ side lawful. code_lawful side)

format_lawful : (version : Version) (n : ℕ) → is_format version n ≡ true → format_code (format_at n) ≡ n
format_lawful version n lawful = by_tests (n == 1) (n == 2) (n == 3) refl refl refl
  where
    by_tests : (one two three : Bool) → (n == 1) ≡ one → (n == 2) ≡ two → (n == 3) ≡ three
        → format_code (if one then Plain else if two then Padded else Receipts) ≡ n
    by_tests true two three is next last = grind (arith, nat_tests)
    by_tests false true three is next last = grind (arith, nat_tests)
    by_tests false false true is next last = grind (arith, nat_tests)
    by_tests false false false is next last =
        absurd (let e : false ≡ true = rw (is, next, last) at lawful in cc)

byte_lawful : (format : Format) → (format_code format < 2 ^ 8) × (format_at (format_code format) ≡ format)
byte_lawful Plain = (omega arith, refl)
byte_lawful Padded = (omega arith, refl)
byte_lawful Receipts = (omega arith, refl)

-- a format whose byte the version allows
abbrev IsByteOf : Version → Format → Type 0
IsByteOf version format = is_format version (format_code format) ≡ true

byte_grammar : (version : Version) → IsGrammar (λ format. to_be_bytes w8 (format_code format)) (IsByteOf version) (format_byte version)
unfolding format_byte
byte_grammar version =
    mapped_grammar (to_be_bytes w8) _ _ (checked_grammar _ _ _ (number_grammar w8 (2 ^ 8) exact8) (is_format version)) (IsByteOf version) format_at format_code
    (λ n lawful. let same = format_lawful version n lawful.1 in (ap (is_format version) same ∙ lawful.1, same))
    (λ format lawful. (((byte_lawful format).0, lawful), (byte_lawful format).1))

pub format_grammar : (version : Version) → IsGrammar (format_text version) (IsFormatOf version) (format_field version)
unfolding format_field
format_grammar version =
    mapped_grammar _ _ _ (maybe_grammar _ _ _ (byte_grammar version) (has_format version)) (IsFormatOf version) format_of (of_format version)
    (λ o lawful. there (has_format version) refl o lawful) (λ format fits. back (has_format version) refl format fits)
  where
    there : (has : Bool) → has_format version ≡ has → (o : Option Format) → IsMaybe has (IsByteOf version) o
        → IsFormatOf version (format_of o) × ((if has then Some (format_of o) else None) ≡ o)
    there true is None lawful = absurd (let e : true ≡ false = lawful in cc)
    there false is None lawful = (refl, refl)
    there true is (Some Plain) lawful = (refl, refl)
    there true is (Some Padded) lawful = (is, refl)
    there true is (Some Receipts) lawful = (lawful.1, refl)
    there false is (Some format) lawful = absurd (let e : false ≡ true = lawful.0 in cc)

    back : (has : Bool) → has_format version ≡ has → (format : Format) → IsFormatOf version format
        → IsMaybe has (IsByteOf version) (if has then Some format else None) × (format_of (if has then Some format else None) ≡ format)
    back true is Plain fits = ((refl, refl), refl)
    back true is Padded fits = ((refl, refl), refl)
    back true is Receipts fits = ((refl, fits), refl)
    back false is Plain fits = (refl, refl)
    back false is Padded fits = absurd (let e : false ≡ true = sym is ∙ fits in cc)
    back false is Receipts fits = absurd (let e : false ≡ true = sym is ∙ with-format version fits in cc)

pub epoch_grammar : IsGrammar (to_be_bytes w32) (λ n. up_to LAST_EPOCH n ≡ true) epoch_field
unfolding epoch_field
epoch_grammar = small_number (up_to LAST_EPOCH) (λ n passes. grind (arith, nat_tests))

pub count_grammar : IsGrammar (to_be_bytes w32) (λ n. up_to INDEX_LIMIT n ≡ true) count_field
unfolding count_field
count_grammar = small_number (up_to INDEX_LIMIT) (λ n passes. grind (arith, nat_tests))

pub own_grammar : (k : Mechanism) (epoch : ℕ) → IsGrammar own_text (PassesOwn k epoch) (own_fields k epoch)
unfolding own_fields
own_grammar k epoch =
    mapped_grammar _ _ _
    (both_grammar _ _ _ _ _ _ (checked_grammar _ _ _ (piece_grammar k.secret) (is_secret k)) (λ _ _.
    both_grammar _ _ _ _ _ _ (piece_grammar (agreement_len (agreement_size k) epoch)) (λ _ _.
    both_grammar _ _ _ _ _ _ (piece_grammar 32) (λ _ _.
    count_grammar))))
    (PassesOwn k epoch) own_of of_own
    (λ e l. (record { secret_long = l.0.0; secret_good = l.0.1; agreement_long = l.1.0; chain_long = l.1.1.0; few = l.1.1.1 }, refl))
    (λ own l. (((l.secret_long, l.secret_good), (l.agreement_long, (l.chain_long, l.few))), refl))

phase_back : (phase : Phase) → phase_of (of_phase phase) ≡ phase
phase_back (in_own own) = refl
phase_back (in_peers public) = refl

pub phase_grammar : (k : Mechanism) (side : Side) (epoch : ℕ)
    → IsGrammar phase_text (PassesPhase k side epoch) (phase_field k side epoch)
unfolding phase_field
phase_grammar k side epoch =
    mapped_grammar _ _ _ (either_grammar _ _ _ (own_grammar k epoch) _ _ _ (piece_grammar k.public) (is_own side epoch)) _ phase_of of_phase
    (λ e lawful. there e lawful) (λ phase lawful. (lawful, phase_back phase))
  where
    there : (e : Own ⊎ List ℕ) → IsEither (is_own side epoch) (PassesOwn k epoch) (λ public. length public ≡ k.public) e
        → PassesPhase k side epoch (phase_of e) × (of_phase (phase_of e) ≡ e)
    there (inl own) lawful = (lawful, refl)
    there (inr public) lawful = (lawful, refl)

pub previous_grammar : (side : Side) (epoch : ℕ) → IsGrammar (to_be_bytes w32) (λ n. is_previous side epoch n ≡ true) (previous_field side epoch)
unfolding previous_field
previous_grammar side epoch = small_number (is_previous side epoch) (λ n passes. grind (arith, nat_tests))

reception_grammar : IsGrammar reception_text PassesReception reception_fields
unfolding reception_fields
reception_grammar =
    mapped_grammar _ _ _ (both_grammar _ _ _ _ _ _ (piece_grammar 32) (λ _ _. count_grammar)) PassesReception reception_of of_reception
    (λ e l. (record { chain_long = l.0; few = l.1 }, refl)) (λ r l. ((l.chain_long, l.few), refl))

pub receiving_grammar : (side : Side) (epoch : ℕ) → IsGrammar (print_maybe reception_text) (IsMaybe (has_receiving side epoch) PassesReception) (receiving_field side epoch)
unfolding receiving_field
receiving_grammar side epoch = maybe_grammar _ _ _ reception_grammar (has_receiving side epoch)
