-- How far reading goes: after a value, and to the place of a fault.
use Rattle.std.proofs.Common.{◌≡◌, mul-le-mul_left, ℕ, zero, suc, ◌+◌, ◌*◌, ◌≤◌, Bool, true, false, List, [], ◌∷◌, ◌++◌, length, take, drop, Some, Result, Ok, Err, refl, arith, inl, inr, if◌then◌else◌}
use Rattle.std.specs.Prelude.{◌⊎◌, nat_le}
use Rattle.std.specs.Int.{Width, byte_len}
use Rattle.std.proofs.lemmas.Bool.{leb-true}
use Rattle.std.proofs.lemmas.List.{length-take}
use Rattle.grammar.specs.Reader.{Read, Reader, and_then, gives, checked, mapped, both, maybe, either, number, piece, items, counted}
use Rattle.dr_base.specs.Bytes.{AreBytes}
use Rattle.dr_base.proofs.Bytes.{AreBytes-drop, AreBytes-take}

-- what was read ends at most this far after its beginning, and so is a fault
abbrev pub EndsBy : {A : Type 0} → ℕ → Result (Read A) ℕ → Type 0
EndsBy most (Ok x) = (x.at ≤ most) × AreBytes x.rest
EndsBy most (Err at) = at ≤ most

-- a reader of at most this many bytes
abbrev pub IsWithin : {A : Type 0} → ℕ → Reader A → Type 0
IsWithin most read = (at : ℕ) (bytes : List ℕ) → AreBytes bytes → EndsBy (at + most) (read at bytes)

-- ---- single fields

pub within-piece : (size : ℕ) → IsWithin size (piece size)
unfolding piece
within-piece size at bytes are = by_length (nat_le size (length bytes))
  where
    by_length : (b : Bool) → EndsBy (at + size) (if b then Ok (record { value = take size bytes; at = at + size; rest = drop size bytes }) else Err at)
    by_length true = (omega arith, AreBytes-drop size bytes are)
    by_length false = omega arith

pub within-number : (w : Width) → IsWithin (byte_len w) (number w)
unfolding number
within-number w at bytes are = by_length (nat_le (byte_len w) (length bytes)) _
  where
    by_length : (b : Bool) (value : ℕ) → EndsBy (at + byte_len w) (if b then Ok (record { value = value; at = at + byte_len w; rest = drop (byte_len w) bytes }) else Err at)
    by_length true value = (omega arith, AreBytes-drop (byte_len w) bytes are)
    by_length false value = omega arith

-- ---- fields put together

ends-later : {A : Type 0} (most more : ℕ) → most ≤ more → (r : Result (Read A) ℕ) → EndsBy most r → EndsBy more r
ends-later most more less (Ok x) ends = (omega (arith, ends.0), ends.1)
ends-later most more less (Err at) ends = omega (arith, ends)

-- a reader of fewer bytes
pub within-more : {A : Type 0} (most more : ℕ) (read : Reader A) → most ≤ more → IsWithin most read → IsWithin more read
within-more most more read less within at bytes are = ends-later (at + most) (at + more) (omega arith) (read at bytes) (within at bytes are)

pub within-checked : {A : Type 0} (most : ℕ) (test : A → Bool) (read : Reader A) → IsWithin most read → IsWithin most (checked test read)
within-checked {A} most test read within at bytes are = by_read (read at bytes) (within at bytes are)
  where
    by_test : (b : Bool) (x : Read A) → (x.at ≤ at + most) × AreBytes x.rest → EndsBy (at + most) (if b then Ok x else Err at)
    by_test true x ends = ends
    by_test false x ends = omega arith

    by_read : (r : Result (Read A) ℕ) → EndsBy (at + most) r
        → EndsBy (at + most) (and_then r (λ a at' rest. if test a then Ok (record { value = a; at = at'; rest = rest }) else Err at))
    by_read (Ok x) ends = by_test (test x.value) (record { value = x.value; at = x.at; rest = x.rest }) ends
    by_read (Err fault) ends = ends

pub within-mapped : {A B : Type 0} (most : ℕ) (f : A → B) (read : Reader A) → IsWithin most read → IsWithin most (mapped f read)
within-mapped {A} {B} most f read within at bytes are = by_read (read at bytes) (within at bytes are)
  where
    by_read : (r : Result (Read A) ℕ) → EndsBy (at + most) r → EndsBy (at + most) (and_then r (λ a. gives (f a)))
    by_read (Ok x) ends = ends
    by_read (Err fault) ends = ends

-- what follows a value
ends-then : {A B : Type 0} (most more : ℕ) (r : Result (Read A) ℕ) (next : A → Reader B) → EndsBy most r → ((a : A) → IsWithin more (next a)) → EndsBy (most + more) (and_then r next)
ends-then most more (Ok x) next ends within = ends-later (x.at + more) (most + more) (omega (arith, ends.0)) (next x.value x.at x.rest) (within x.value x.at x.rest ends.1)
ends-then most more (Err at) next ends within = omega (arith, ends)

pub within-both : {A B : Type 0} (most more : ℕ) (first : Reader A) (next : A → Reader B) → IsWithin most first → ((a : A) → IsWithin more (next a))
    → IsWithin (most + more) (both first next)
within-both most more first next one two at bytes are =
    ends-later (at + most + more) (at + (most + more)) (omega arith) (both first next at bytes)
    (ends-then (at + most) more (first at bytes) (λ a at' rest. and_then (next a at' rest) (λ b. gives (a, b))) (one at bytes are)
    (λ a. within-mapped more (λ b. (a, b)) (next a) (two a)))

pub within-maybe : {A : Type 0} (most : ℕ) (there : Bool) (read : Reader A) → IsWithin most read → IsWithin most (maybe there read)
within-maybe most true read within at bytes are = within-mapped most Some read within at bytes are
within-maybe most false read within at bytes are = (omega arith, are)

pub within-either : {A B : Type 0} (most : ℕ) (there : Bool) (first : Reader A) (second : Reader B) → IsWithin most first → IsWithin most second
    → IsWithin most (either there first second)
within-either {A} {B} most true first second one two at bytes are = within-mapped most (λ (a : A). let e : A ⊎ B = inl a in e) first one at bytes are
within-either {A} {B} most false first second one two at bytes are = within-mapped most (λ (b : B). let e : A ⊎ B = inr b in e) second two at bytes are

-- ---- lists

pub within-items : {A : Type 0} (most : ℕ) (read : List A → Reader A) → ((before : List A) → IsWithin most (read before)) → (n : ℕ) → IsWithin (most * n) (items read n)
unfolding items
within-items most read each zero at bytes are = (omega arith, are)
within-items most read each (suc n) at bytes are =
    let sum : most * n + most ≡ most * suc n = grind arith in
    ends-later (at + most * n + most) (at + most * suc n) (omega (arith, sum)) (items read (suc n) at bytes)
    (ends-then (at + most * n) most (items read n at bytes) (λ before at' rest. and_then (read before at' rest) (λ a. gives (before ++ a ∷ []))) (within-items most read each n at bytes are)
    (λ before. within-mapped most (λ a. before ++ a ∷ []) (read before) (each before)))

abbrev pairing : {B : Type 0} → ℕ → B → Reader (ℕ × B)
pairing n b = gives (n, b)

abbrev then_next : {B : Type 0} → (ℕ → Reader B) → ℕ → Reader (ℕ × B)
then_next next n at rest = and_then (next n at rest) (pairing n)

-- a number that passes a test, and what follows where it did
pub within-numbered : {B : Type 0} (w : Width) (test : ℕ → Bool) (more : ℕ) (next : ℕ → Reader B) → ((n : ℕ) → test n ≡ true → IsWithin more (next n))
    → IsWithin (byte_len w + more) (both (checked test (number w)) next)
within-numbered {B} w test more next two at bytes are = by_read (number w at bytes) (within-number w at bytes are)
  where
    paired : (n : ℕ) (x : Read ℕ) → EndsBy (at + byte_len w) (Ok x) → IsWithin more (next n) → EndsBy (at + (byte_len w + more)) (and_then (next n x.at x.rest) (pairing n))
    paired n x ends within =
        ends-later (x.at + more) (at + (byte_len w + more)) (omega (arith, ends.0)) (and_then (next n x.at x.rest) (pairing n))
        (within-mapped more (λ b. (n, b)) (next n) within x.at x.rest ends.1)

    by_test : (b : Bool) (x : Read ℕ) → test x.value ≡ b → EndsBy (at + byte_len w) (Ok x)
        → EndsBy (at + (byte_len w + more)) (and_then (if b then Ok x else Err at) (then_next next))
    by_test true x passes ends = paired x.value x ends (two x.value passes)
    by_test false x passes ends = omega arith

    by_read : (r : Result (Read ℕ) ℕ) → EndsBy (at + byte_len w) r
        → EndsBy (at + (byte_len w + more)) (and_then (and_then r (λ n at' rest. if test n then Ok (record { value = n; at = at'; rest = rest }) else Err at)) (then_next next))
    by_read (Ok x) ends = by_test (test x.value) (record { value = x.value; at = x.at; rest = x.rest }) refl ends
    by_read (Err fault) ends = omega (arith, ends)

-- items after their count, at most this many
pub within-counted : {A : Type 0} (w : Width) (test : ℕ → Bool) (most limit : ℕ) (read : List A → Reader A) → ((n : ℕ) → test n ≡ true → n ≤ limit) → ((before : List A) → IsWithin most (read before))
    → IsWithin (byte_len w + most * limit) (counted w test read)
within-counted w test most limit read few each =
    within-mapped (byte_len w + most * limit) (λ e. e.1) (both (checked test (number w)) (λ n. items read n))
    (within-numbered w test (most * limit) (λ n. items read n) (λ n passes.
    within-more (most * n) (most * limit) (items read n) (mul-le-mul_left most (few n passes)) (within-items most read each n)))

-- bytes that pass a test which only short ones pass
pub within-short : (size most : ℕ) (test : List ℕ → Bool) → ((bytes : List ℕ) → AreBytes bytes → test bytes ≡ true → length bytes ≤ most) → IsWithin most (checked test (piece size))
unfolding piece
within-short size most test short at bytes are = by_length (nat_le size (length bytes)) refl
  where
    by_test : (b : Bool) → test (take size bytes) ≡ b → size ≤ length bytes → EndsBy (at + most) (if b then Ok (record { value = take size bytes; at = at + size; rest = drop size bytes }) else Err at)
    by_test true passes inside =
        let long = short (take size bytes) (AreBytes-take size bytes are) passes in
        (omega (arith, length-take size bytes, long), AreBytes-drop size bytes are)
    by_test false passes inside = omega arith

    by_length : (b : Bool) → nat_le size (length bytes) ≡ b
        → EndsBy (at + most) (and_then (if b then Ok (record { value = take size bytes; at = at + size; rest = drop size bytes }) else Err at) (λ a at' rest. if test a then Ok (record { value = a; at = at'; rest = rest }) else Err at))
    by_length true inside = by_test (test (take size bytes)) refl (leb-true size (length bytes) inside)
    by_length false inside = omega arith
