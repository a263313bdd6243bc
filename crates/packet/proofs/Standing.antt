-- Where a reader stands after some fields, and what a fault there says.
use Rattle.std.proofs.Common.{◌≡◌, ℕ, suc, ◌+◌, ◌^◌, ◌<◌, ◌≤◌, Bool, true, false, cond, List, [], ◌++◌, length, get_or, take, drop, Ok, Err, refl, sym, ap, subst, ◌∙◌, append_assoc, arith}
use Rattle.std.specs.Prelude.{nat_le}
use Rattle.std.specs.Int.{Width, byte_len, from_be_bytes, to_be_bytes}
use Rattle.std.specs.List.{concat}
use Rattle.std.proofs.lemmas.Bool.{leb-true, leb-false, false≢true}
use Rattle.std.proofs.lemmas.List.{take_at, length-append, length-take-le}
use Rattle.std.proofs.Math.Seq.{take-append-add}
use Rattle.packet.specs.declared.fault.Kind.{Kind}
use Rattle.packet.specs.declared.fault.Kind.TheVariants.{Short}
use Rattle.packet.specs.declared.fault.Malformed.{Malformed}
use Rattle.packet.specs.Packet.{Fields, IsLawful, packet_of}
use Rattle.dr_base.specs.Bytes.{AreBytes}
use Rattle.packet.specs.Reading.{field, number, lawful}
use Rattle.packet.specs.Faults.{pieces_of, IsPlace, BeginsNone, IsWrong, IsShort, Says, IsFault}
use Rattle.packet.proofs.Steps.{by_fault, by_step, passed, passed_on}
use Rattle.dr_base.proofs.Widths.{IsExact}
use Rattle.packet.proofs.Pieces.{concat-take, concat-drop, begins_same, same_fronts}

-- the first fields of some lawful fields were read, and `rest` stands after them
pub record Stands (agreement : ℕ) (bytes : List ℕ) (field at : ℕ) (fields : Fields) (rest : List ℕ) : Type 0 where
  pub lawful : IsLawful agreement fields
  pub fits : 6 < field → length fields.agreement < 2 ^ 16
  pub parts : bytes ≡ concat (take field (pieces_of fields)) ++ rest
  pub len : length (concat (take field (pieces_of fields))) ≡ at
  pub small : AreBytes rest

-- one field more
pub one_more : (agreement : ℕ) (bytes : List ℕ) (k at next_at : ℕ) (f g : Fields) (rest after : List ℕ)
    → Stands agreement bytes k at f rest → k < 10
    → IsLawful agreement g → (6 < suc k → length g.agreement < 2 ^ 16) → take k (pieces_of g) ≡ take k (pieces_of f)
    → rest ≡ get_or (pieces_of g) k [] ++ after → at + length (get_or (pieces_of g) k []) ≡ next_at → AreBytes after
    → Stands agreement bytes (suc k) next_at g after
one_more agreement bytes k at next_at f g rest after s below lawful fits same parts len small =
    let next : List ℕ = get_or (pieces_of g) k [] in
    let front : List ℕ = concat (take k (pieces_of f)) in
    let whole : concat (take (suc k) (pieces_of g)) ≡ front ++ next =
    concat-take (pieces_of g) k below ∙ ap (λ (l : List (List ℕ)). concat l ++ next) same in
    record {
      lawful = lawful;
      fits = fits;
      parts = s.parts ∙ ap (λ (t : List ℕ). front ++ t) parts ∙ sym (append_assoc front next after) ∙ sym
          (ap (λ (t : List ℕ). t ++ after) whole);
      len = omega (arith, ap length whole, length-append front next, s.len, len);
      small = small;
    }

-- the place after the fields
pub place : (agreement : ℕ) (bytes : List ℕ) (k at size : ℕ) (f : Fields) (rest : List ℕ)
    → Stands agreement bytes k at f rest
    → length (get_or (pieces_of f) k []) ≡ size → IsPlace agreement bytes at k size
place agreement bytes k at size f rest s size_is =
    let front : List ℕ = concat (take k (pieces_of f)) in
    record {
      fields = f;
      lawful = s.lawful;
      before = ap (take at) s.parts ∙ take_at front rest at s.len;
      inside = omega (arith, ap length s.parts, length-append front rest, s.len);
      size_is = size_is;
    }

-- the bytes end inside the next field
pub ends_inside : (agreement : ℕ) (bytes : List ℕ) (k at size : ℕ) (f : Fields) (rest : List ℕ)
    → Stands agreement bytes k at f rest
    → length (get_or (pieces_of f) k []) ≡ size → length rest < size → IsShort agreement bytes at
ends_inside agreement bytes k at size f rest s size_is short =
    let front : List ℕ = concat (take k (pieces_of f)) in
    record {
      field = k;
      size = size;
      place = place agreement bytes k at size f rest s size_is;
      ends = omega (arith, ap length s.parts, length-append front rest, s.len, short);
    }

-- no lawful packet with these first fields has the next bytes as its next field
abbrev pub NoneHas : ℕ → ℕ → Fields → List ℕ → Type 0
NoneHas agreement k f next = (g : Fields) → IsLawful agreement g → length g.agreement < 2 ^ 16 → take k (pieces_of g)
    ≡ take k (pieces_of f) → get_or (pieces_of g) k [] ≡ next → ⊥

-- no lawful packet begins with all up to the end of the next field, a number of this many bytes
begins_none : (agreement : ℕ) (bytes : List ℕ) (k at size : ℕ) (f : Fields) (rest : List ℕ)
    → Stands agreement bytes k at f rest → k < 10
    → ((g : Fields) → length (get_or (pieces_of g) k []) ≡ size) → size ≤ length rest → NoneHas agreement k f
    (take size rest) → BeginsNone agreement (take (at + size) bytes)
begins_none agreement bytes k at size f rest s below sizes whole none g behind lawful fits e =
    let front : List ℕ = concat (take k (pieces_of f)) in
    let next : List ℕ = take size rest in
    let cut : take (at + size) bytes ≡ front ++ next =
    ap (take (at + size)) s.parts ∙ ap (λ (n : ℕ). take (n + size) (front ++ rest)) (sym s.len)
    ∙ take-append-add front rest size in
    let begun : packet_of g ≡ front ++ (next ++ behind) = e ∙ ap (λ (t : List ℕ). t ++ behind) cut
    ∙ append_assoc front next behind in
    let same = begins_same agreement g f k (next ++ behind) (omega arith) (record { lawful = lawful; fits = λ h. fits })
    (λ j lt. record { lawful = s.lawful; fits = λ h. s.fits (omega arith) }) begun in
    let fronts = same_fronts (get_or (pieces_of g) k []) next (concat (drop (suc k) (pieces_of g))) behind
    (sizes g ∙ sym (length-take-le size rest whole)) (sym (concat-drop (pieces_of g) k below) ∙ same.1) in
    none g lawful fits same.0 fronts.0

-- the next field, a number of this many bytes, is whole and wrong
is_wrong : (agreement : ℕ) (bytes : List ℕ) (k at size : ℕ) (f : Fields) (rest : List ℕ)
    → Stands agreement bytes k at f rest → k < 10
    → ((g : Fields) → length (get_or (pieces_of g) k []) ≡ size) → size ≤ length rest → NoneHas agreement k f
    (take size rest) → IsWrong agreement bytes at k
is_wrong agreement bytes k at size f rest s below sizes whole none = record {
  size = size;
  place = place agreement bytes k at size f rest s (sizes f);
  whole = omega (arith, ap length s.parts, length-append (concat (take k (pieces_of f))) rest, s.len, whole);
  none = begins_none agreement bytes k at size f rest s below sizes whole none;
}

-- ---- what a reader's fault says

-- a test that was not passed
pub failed : {A : Type 0} (b : Bool) (x : A) (f e : Malformed) → cond b (Ok x) (Err f) ≡ Err e → (b ≡ false) × (f ≡ e)
failed true x f e is = absurd cc
failed false x f e is = (refl, cc)

field_short : (at size : ℕ) (bytes : List ℕ) (e : Malformed) → field at size bytes ≡ Err e → (length bytes < size) ×
    (record { at = at; kind = Short } ≡ e)
unfolding field
field_short at size bytes e is =
    let f = failed (nat_le size (length bytes)) (take size bytes, drop size bytes) _ e is in
    (leb-false _ _ f.0, f.1)

-- a field of bytes that was not read
pub field_fault : (agreement : ℕ) (bytes : List ℕ) (k at size : ℕ) (f : Fields) (rest : List ℕ) (e : Malformed)
    → Stands agreement bytes k at f rest
    → length (get_or (pieces_of f) k []) ≡ size → field at size rest ≡ Err e → IsFault agreement bytes e
field_fault agreement bytes k at size f rest e s size_is is =
    let short = field_short at size rest e is in
    subst (IsFault agreement bytes) short.1 (ends_inside agreement bytes k at size f rest s size_is short.0)

-- no number that passes the test has these bytes
none_has : (w : Width) (limit n : ℕ) (test : ℕ → Bool) (bytes : List ℕ) → IsExact w limit → n < limit → test n ≡ true
    → to_be_bytes w n ≡ bytes → test (from_be_bytes w bytes) ≡ false → ⊥
none_has w limit n test bytes exact fits passes e fails =
    let back : from_be_bytes w bytes ≡ n = ap (from_be_bytes w) (sym e) ∙ exact.read n fits in
    false≢true (sym fails ∙ ap test back ∙ passes)

-- a number that was read
number_was : (w : Width) (at : ℕ) (bytes : List ℕ) (x : ℕ × List ℕ) → number w at bytes ≡ Ok x →
    (x.0 ≡ from_be_bytes w (take (byte_len w) bytes)) × (byte_len w ≤ length bytes)
unfolding number field
number_was w at bytes x is =
    by_step (field at (byte_len w) bytes) _ x is (λ y y_is made.
    let p = passed (nat_le (byte_len w) (length bytes)) (take (byte_len w) bytes, drop (byte_len w) bytes) y _ y_is in
    let parts = passed_on (from_be_bytes w y.0, y.1) x made in (
      sym (ap (λ (z : ℕ × List ℕ). z.0) parts) ∙ ap (λ (z : List ℕ × List ℕ). from_be_bytes w z.0)
          (sym p.1),
      leb-true _ _ p.0,
    ))

-- a number that was not read
pub number_fault : (agreement : ℕ) (bytes : List ℕ) (k at : ℕ) (f : Fields) (rest : List ℕ) (w : Width) (limit : ℕ)
    (kind : Kind) (test : ℕ → Bool) (e : Malformed)
    (n : Fields → ℕ) → Stands agreement bytes k at f rest → k < 10 → IsExact w limit →
    ((g : Fields) → get_or (pieces_of g) k [] ≡ to_be_bytes w (n g))
    → ((g : Fields) → IsLawful agreement g → length g.agreement < 2 ^ 16 → take k (pieces_of g) ≡ take k (pieces_of f)
    → (n g < limit) × (test (n g) ≡ true))
    → (IsWrong agreement bytes at k → Says agreement bytes at kind) → lawful w at kind test rest ≡ Err e
    → IsFault agreement bytes e
unfolding lawful number field
number_fault agreement bytes k at f rest w limit kind test e n s below exact pieces passes says is =
    let sizes : (g : Fields) → length (get_or (pieces_of g) k []) ≡ byte_len w = λ g. ap length (pieces g) ∙ exact.size
    (n g) in
    by_fault (number w at rest) _ e is
    (λ no_number. by_fault (field at (byte_len w) rest) _ e no_number
    (λ no_field. field_fault agreement bytes k at (byte_len w) f rest e s (sizes f) no_field)
    (λ x x_is impossible. absurd cc))
    (λ x x_is after.
    let made : (x.0 ≡ from_be_bytes w (take (byte_len w) rest)) ×
    (byte_len w ≤ length rest) = number_was w at rest x x_is in
    let no = failed (test x.0) x _ e after in
    let fails : test (from_be_bytes w (take (byte_len w) rest)) ≡ false = ap test (sym made.0) ∙ no.0 in
    subst (IsFault agreement bytes) no.1
    (says (is_wrong agreement bytes k at (byte_len w) f rest s below sizes made.1
    (λ g lawful fits same has. let p = passes g lawful fits same in none_has w limit (n g) test _ exact p.0 p.1
    (sym (pieces g) ∙ has) fails))))
