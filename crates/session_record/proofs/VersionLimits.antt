-- The bytes of versions, and what they allow: none more than the product does, and the newest no less.
use Rattle.std.proofs.Common.{◌≡◌, ℕ, ◌^◌, ◌<◌, ◌≤◌, ◌==◌, Bool, true, false, refl, arith, if◌then◌else◌}
use Rattle.std.specs.Prelude.{List}
use Rattle.std.proofs.lemmas.Bool.{eqb-true}
use Rattle.std.proofs.lemmas.Bool.Decides.{nat_tests}
use Rattle.boxes.proofs.Contents.{content_kind}
use Rattle.boxes.specs.Parts.{is_content}
use Rattle.boxes.specs.declared.kinds.TheConstants.{PART_KIND, TEXT_KIND}
use Rattle.bodies.specs.declared.format.Format.{Format}
use Rattle.bodies.specs.declared.format.Format.TheVariants.{Padded, Plain, Receipts}
use Rattle.dr_base.specs.declared.limits.TheConstants.{INBOX_LIMIT, KEPT_LIMIT, OUTBOX_LIMIT, TEXT_LIMIT}
use Rattle.packet.specs.Packet.{Fields}
use Rattle.session_record.specs.Versions.{IsFormatOf, has_format, has_kinds, has_receipts, inbox_most, is_kind_of, is_packet_of, is_version, kept_most, newest, outbox_most, text_most, version_at, version_code}
use Rattle.session_record.specs.declared.versions.Version.{Version}
use Rattle.session_record.specs.declared.versions.Version.TheVariants.{One, Two, Three, Four, Five}

-- ---- the byte of a version

pub version_lawful : (n : ℕ) → is_version n ≡ true → version_code (version_at n) ≡ n
version_lawful n lawful = by_tests (n == 1) (n == 2) (n == 3) (n == 4) refl refl refl refl
  where
    by_tests : (one two three four : Bool) → (n == 1) ≡ one → (n == 2) ≡ two → (n == 3) ≡ three → (n == 4) ≡ four
        → version_code (if one then One else if two then Two else if three then Three else if four then Four else Five) ≡ n
    by_tests true two three four is next third last = grind (arith, nat_tests)
    by_tests false true three four is next third last = grind (arith, nat_tests)
    by_tests false false true four is next third last = grind (arith, nat_tests)
    by_tests false false false true is next third last = grind (arith, nat_tests)
    by_tests false false false false is next third last = grind (arith, nat_tests)

pub code_fits : (version : Version) → version_code version < 2 ^ 8
code_fits One = omega arith
code_fits Two = omega arith
code_fits Three = omega arith
code_fits Four = omega arith
code_fits Five = omega arith

pub code_is_version : (version : Version) → is_version (version_code version) ≡ true
code_is_version One = refl
code_is_version Two = refl
code_is_version Three = refl
code_is_version Four = refl
code_is_version Five = refl

pub version_of_code : (version : Version) → version_at (version_code version) ≡ version
version_of_code One = refl
version_of_code Two = refl
version_of_code Three = refl
version_of_code Four = refl
version_of_code Five = refl

-- ---- formats

-- where receipts are known, a byte says the format
pub with-format : (version : Version) → has_receipts version ≡ true → has_format version ≡ true
with-format One has = has
with-format Two has = has
with-format Three has = refl
with-format Four has = refl
with-format Five has = refl

-- the newest version has any
pub format-newest : (format : Format) → IsFormatOf newest format
format-newest Plain = refl
format-newest Padded = refl
format-newest Receipts = refl

-- ---- kinds

-- where no byte says it, it is a text's
pub kind_untold : (version : Version) (n : ℕ) → has_kinds version ≡ false → is_kind_of version n ≡ true → n ≡ TEXT_KIND
kind_untold One n _ is = eqb-true n TEXT_KIND is
kind_untold Two n _ is = eqb-true n TEXT_KIND is
kind_untold Three n _ is = eqb-true n TEXT_KIND is
kind_untold Four n none _ = absurd (let e : true ≡ false = none in cc)
kind_untold Five n none _ = absurd (let e : true ≡ false = none in cc)

-- each version has texts
pub text_kind : (version : Version) → is_kind_of version TEXT_KIND ≡ true
text_kind One = refl
text_kind Two = refl
text_kind Three = refl
text_kind Four = refl
text_kind Five = refl

pub kind_fits : (version : Version) (n : ℕ) → is_kind_of version n ≡ true → n < 2 ^ 8
kind_fits One n is = let e = eqb-true n TEXT_KIND is in omega arith
kind_fits Two n is = let e = eqb-true n TEXT_KIND is in omega arith
kind_fits Three n is = let e = eqb-true n TEXT_KIND is in omega arith
kind_fits Four n is = let e = eqb-true n TEXT_KIND is in omega arith
kind_fits Five n is = grind (arith, nat_tests)

-- the newest version has the kind of each content
pub kind-newest : (kind : ℕ) (text : List ℕ) → is_content kind text ≡ true → is_kind_of newest kind ≡ true
kind-newest kind text is = let most = content_kind kind text is in grind (arith, nat_tests)

-- ---- packets

-- the newest version holds any
pub packet-newest : (f : Fields) → is_packet_of newest f ≡ true
packet-newest f = refl

-- ---- limits

pub text-limit : (version : Version) → text_most version ≤ TEXT_LIMIT
text-limit One = omega arith
text-limit Two = omega arith
text-limit Three = omega arith
text-limit Four = omega arith
text-limit Five = omega arith

pub kept-limit : (version : Version) → kept_most version ≤ KEPT_LIMIT
kept-limit One = omega arith
kept-limit Two = omega arith
kept-limit Three = omega arith
kept-limit Four = omega arith
kept-limit Five = omega arith

pub inbox-limit : (version : Version) → inbox_most version ≤ INBOX_LIMIT
inbox-limit One = omega arith
inbox-limit Two = omega arith
inbox-limit Three = omega arith
inbox-limit Four = omega arith
inbox-limit Five = omega arith

pub outbox-limit : (version : Version) → outbox_most version ≤ OUTBOX_LIMIT
outbox-limit One = omega arith
outbox-limit Two = omega arith
outbox-limit Three = omega arith
outbox-limit Four = omega arith
outbox-limit Five = omega arith

pub text-newest : TEXT_LIMIT ≤ text_most newest
text-newest = omega arith

pub kept-newest : KEPT_LIMIT ≤ kept_most newest
kept-newest = omega arith

pub inbox-newest : INBOX_LIMIT ≤ inbox_most newest
inbox-newest = omega arith

pub outbox-newest : OUTBOX_LIMIT ≤ outbox_most newest
outbox-newest = omega arith

-- ---- the newest is known by its byte

pub is-newest : (version : Version) → (version_code version == version_code newest) ≡ true → version ≡ newest
is-newest One same = absurd (let e : false ≡ true = same in cc)
is-newest Two same = absurd (let e : false ≡ true = same in cc)
is-newest Three same = absurd (let e : false ≡ true = same in cc)
is-newest Four same = absurd (let e : false ≡ true = same in cc)
is-newest Five same = refl
