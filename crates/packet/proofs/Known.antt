-- What versions allow.
use Rattle.std.proofs.Common.{◌≡◌, ℕ, ◌%◌, ◌^◌, ◌<◌, ◌≤◌, ◌==◌, Bool, true, false, refl, sym, ap, ◌∙◌, subst, arith, if◌then◌else◌}
use Rattle.std.specs.Prelude.{◌&&◌, nat_le}
use Rattle.std.specs.Int.{w8, from_be_bytes, to_be_bytes}
use Rattle.std.proofs.lemmas.Bool.{leb-true}
use Rattle.std.proofs.lemmas.Bool.Decides.{nat_tests}
use Rattle.dr_base.proofs.Widths.{exact8}
use Rattle.dr_base.specs.declared.limits.TheConstants.{PADDED, PADDED_LIMIT, PLAIN, SEALED_LIMIT, TEXT_LIMIT}
use Rattle.packet.specs.Versions.{is_text_len, is_version, least_len, padded_most}

pub version_small : (version : ℕ) → is_version version ≡ true → version < 2 ^ 8
version_small version is = grind (arith, nat_tests)

-- a version is told by its byte
pub same_version : (m n : ℕ) → is_version m ≡ true → is_version n ≡ true → to_be_bytes w8 m ≡ to_be_bytes w8 n → m ≡ n
same_version m n is is_too e =
    sym (exact8.read m (version_small m is)) ∙ ap (from_be_bytes w8) e ∙ exact8.read n (version_small n is_too)

-- what a plain packet may seal, or one that is filled up, to a greatest length
abbrev passes : Bool → ℕ → ℕ → Bool
passes plain most n = if plain then nat_le n TEXT_LIMIT else ((n % 256 == 0) && (nat_le 256 n && nat_le n most))

few_case : (plain : Bool) (most n : ℕ) → most ≤ SEALED_LIMIT → passes plain most n ≡ true → n ≤ SEALED_LIMIT
few_case true most n few h = grind (arith, nat_tests)
few_case false most n few h = grind (arith, nat_tests)

abbrev limit : Bool → ℕ
limit padded = if padded then PADDED_LIMIT else SEALED_LIMIT

limit_few : (padded : Bool) → limit padded ≤ SEALED_LIMIT
limit_few true = omega arith
limit_few false = omega arith

limit_enough : (padded : Bool) → 256 ≤ limit padded
limit_enough true = omega arith
limit_enough false = omega arith

pub text_few : (version n : ℕ) → is_text_len version n ≡ true → n ≤ SEALED_LIMIT
unfolding is_text_len
text_few version n h = few_case (version == PLAIN) (padded_most version) n (limit_few (version == PADDED)) h

pub plain_few : (version n : ℕ) → is_text_len version n ≡ true → version ≡ PLAIN → n ≤ TEXT_LIMIT
unfolding is_text_len
plain_few version n h plain =
    leb-true n TEXT_LIMIT (subst (λ v. passes (v == PLAIN) (padded_most version) n ≡ true) plain h)

pub text_small : (version n : ℕ) → is_text_len version n ≡ true → n < 2 ^ 16
text_small version n h = omega (arith, text_few version n h)

abbrev least : Bool → ℕ
least plain = if plain then 0 else 256

least_case : (plain : Bool) (most : ℕ) → 256 ≤ most → passes plain most (least plain) ≡ true
least_case true most enough = refl
least_case false most enough = grind (arith, nat_tests)

pub least_lawful : (version : ℕ) → is_text_len version (least_len version) ≡ true
unfolding is_text_len
least_lawful version = least_case (version == PLAIN) (padded_most version) (limit_enough (version == PADDED))
