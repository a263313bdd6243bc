-- The guard in a box's record, both ways.
use Rattle.std.proofs.Common.{◌≡◌, ℕ, ◌^◌, ◌<◌, Bool, true, false, ◌++◌, ◌≤◌, length, Option, Some, None, refl, sym, ◌∙◌, ap, arith, length-append, if◌then◌else◌}
use Rattle.std.specs.Prelude.{◌==◌}
use Rattle.std.specs.Int.{w8, w64, to_be_bytes}
use Rattle.std.proofs.lemmas.Bool.Decides.{nat_tests}
use Rattle.dr_base.proofs.Widths.{exact8, exact64}
use Rattle.grammar.specs.Grammar.{IsGrammar}
use Rattle.grammar.specs.Printer.{IsMaybe, print_maybe}
use Rattle.grammar.proofs.Choices.{maybe_grammar}
use Rattle.grammar.proofs.Combined.{both_grammar, checked_grammar, mapped_grammar}
use Rattle.grammar.proofs.Fields.{number_grammar, piece_grammar}
use Rattle.relay_core.specs.GuardFields.{GuardParts, flag_of, flagged_guard, flagged_text, guard_bytes, guard_field, guard_fields, guard_of_parts, guard_text, guard_told, is_flag, told_guard}
use Rattle.relay_core.specs.Lawful.{HasLawfulGuard, IsLawfulGuard}
use Rattle.relay_core.specs.Versions.{has_guards}
use Rattle.relay_core.specs.declared.limits.TheConstants.{GUARD_SIZE}
use Rattle.relay_core.specs.declared.versions.Version.{Version}
use Rattle.relay_guard.specs.declared.guard.Guard.{Guard}

-- ---- keys and counters

parts_of : Guard → GuardParts
parts_of guard = (guard.owner.bytes, (guard.poster.bytes, (guard.owner_last, guard.poster_last)))

keys_grammar : IsGrammar guard_bytes IsLawfulGuard guard_fields
unfolding guard_fields guard_bytes parts_of
keys_grammar =
    mapped_grammar _ _ _
    (both_grammar _ _ _ _ _ _ (piece_grammar 32) (λ _ _.
    both_grammar _ _ _ _ _ _ (piece_grammar 32) (λ _ _.
    both_grammar _ _ _ _ _ _ (number_grammar w64 (2 ^ 64) exact64) (λ _ _.
    number_grammar w64 (2 ^ 64) exact64))))
    IsLawfulGuard guard_of_parts parts_of
    (λ e l. (record { owner = l.0; poster = l.1.0; owner_last = l.1.1.0; poster_last = l.1.1.1 }, refl))
    (λ guard l. ((l.owner, (l.poster, (l.owner_last, l.poster_last))), refl))

-- ---- whether there are some

-- the byte says what follows it
abbrev IsFlagged : ℕ × Option Guard → Type 0
IsFlagged e = ((e.0 < 2 ^ 8) × (is_flag e.0 ≡ true)) × IsMaybe (e.0 == 1) IsLawfulGuard e.1

is_zero : (n : ℕ) → is_flag n ≡ true → (n == 1) ≡ false → 0 ≡ n
is_zero n flag other = grind (arith, nat_tests)

is_one : (n : ℕ) → (n == 1) ≡ true → 1 ≡ n
is_one n same = grind (arith, nat_tests)

flag_there : (n : ℕ) (guard : Option Guard) → IsFlagged (n, guard)
    → HasLawfulGuard guard × ((let e : ℕ × Option Guard = (flag_of guard, guard) in e) ≡ (n, guard))
flag_there n None l = (tt, ap (λ (m : ℕ). let e : ℕ × Option Guard = (m, None) in e) (is_zero n l.0.1 l.1))
flag_there n (Some guard) l =
    (l.1.1, ap (λ (m : ℕ). let e : ℕ × Option Guard = (m, Some guard) in e) (is_one n l.1.0))

flag_back : (guard : Option Guard) → HasLawfulGuard guard → IsFlagged (flag_of guard, guard)
flag_back None l = ((omega arith, refl), refl)
flag_back (Some guard) l = ((omega arith, refl), (refl, l))

flagged_grammar : IsGrammar flagged_text HasLawfulGuard flagged_guard
unfolding flagged_guard flagged_text
flagged_grammar =
    mapped_grammar _ _ _
    (both_grammar _ _ _ _ _ _ (checked_grammar _ _ _ (number_grammar w8 (2 ^ 8) exact8) is_flag) (λ flag _.
    maybe_grammar _ _ _ keys_grammar (flag == 1)))
    HasLawfulGuard (λ e. e.1) (λ guard. (flag_of guard, guard))
    (λ e l. flag_there e.0 e.1 l) (λ guard l. (flag_back guard l, refl))

-- ---- by the version

-- a guard that a version has
pub record IsGuardOf (version : Version) (guard : Option Guard) : Type 0 where
  pub lawful : HasLawfulGuard guard
  pub allowed : has_guards version ≡ false → guard ≡ None

pub guard_grammar : (version : Version) → IsGrammar (guard_text version) (IsGuardOf version) (guard_field version)
unfolding guard_field
guard_grammar version =
    mapped_grammar _ _ _ (maybe_grammar _ _ _ flagged_grammar (has_guards version))
    (IsGuardOf version) guard_told (told_guard version)
    (λ o l. there (has_guards version) refl o l) (λ guard l. back (has_guards version) refl guard l)
  where
    there : (has : Bool) → has_guards version ≡ has → (o : Option (Option Guard)) → IsMaybe has HasLawfulGuard o
        → IsGuardOf version (guard_told o) × ((if has then Some (guard_told o) else None) ≡ o)
    there true is None l = absurd (let e : true ≡ false = l in cc)
    there false is None l = (record { lawful = tt; allowed = λ _. refl }, refl)
    there true is (Some guard) l =
        (record { lawful = l.1; allowed = λ without. absurd (let e : true ≡ false = sym is ∙ without in cc) }, refl)
    there false is (Some guard) l = absurd (let e : false ≡ true = l.0 in cc)

    back : (has : Bool) → has_guards version ≡ has → (guard : Option Guard) → IsGuardOf version guard
        → IsMaybe has HasLawfulGuard (if has then Some guard else None) × (guard_told (if has then Some guard else None) ≡ guard)
    back true is guard l = ((refl, l.lawful), refl)
    back false is guard l = (refl, sym (l.allowed is))

-- ---- sizes

pub guard_size : (version : Version) (guard : Option Guard) → HasLawfulGuard guard → length (guard_text version guard) ≤ GUARD_SIZE
unfolding flagged_text guard_bytes
guard_size version None lawful = by_version (has_guards version)
  where
    by_version : (has : Bool) → length (print_maybe flagged_text (if has then Some None else None)) ≤ GUARD_SIZE
    by_version true = omega arith
    by_version false = omega arith
guard_size version (Some guard) lawful = by_version (has_guards version)
  where
    by_version : (has : Bool) → length (print_maybe flagged_text (if has then Some (Some guard) else None)) ≤ GUARD_SIZE
    by_version true =
        let counters = to_be_bytes w64 guard.owner_last ++ to_be_bytes w64 guard.poster_last in
        omega (arith, lawful.owner, lawful.poster, length-append guard.owner.bytes (guard.poster.bytes ++ counters), length-append guard.poster.bytes counters)
    by_version false = omega arith
