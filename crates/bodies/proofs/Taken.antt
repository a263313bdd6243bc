-- How many bytes a reader takes for a value, of all numbers, also of those that are no bytes.
use Rattle.std.proofs.Common.{◌≡◌, ℕ, zero, suc, ◌+◌, ◌*◌, ◌≤◌, Bool, true, false, List, [], ◌∷◌, ◌++◌, length, take, drop, Option, Some, None, Ok, Err, refl, sym, ◌∙◌, ap, subst, arith, length-append, if◌then◌else◌}
use Rattle.std.specs.Prelude.{nat_le}
use Rattle.std.specs.Int.{Width, byte_len, from_be_bytes}
use Rattle.std.proofs.lemmas.Bool.{leb-true}
use Rattle.std.proofs.lemmas.List.{drop-drop, length-drop}
use Rattle.grammar.specs.Reader.{Read, Reader, and_then, checked, counted, gives, items, mapped, maybe, both, number}
use Rattle.grammar.proofs.Steps.{from_and_then, from_test}

-- it took so many bytes
pub record IsTaken {A : Type 0} (size at : ℕ) (bytes : List ℕ) (x : Read A) : Type 0 where
  pub inside : size ≤ length bytes
  pub at_is : x.at ≡ at + size
  pub rest_is : x.rest ≡ drop size bytes

abbrev pub Takes : {A : Type 0} → (A → ℕ) → Reader A → Type 0
Takes {A} size read = (at : ℕ) (bytes : List ℕ) (x : Read A) → read at bytes ≡ Ok x → IsTaken (size x.value) at bytes x

-- ---- the parts of a value

pub from_mapped : {A B : Type 0} (f : A → B) (read : Reader A) (at : ℕ) (bytes : List ℕ) (y : Read B)
    → mapped f read at bytes ≡ Ok y
    → (x : Read A) × (read at bytes ≡ Ok x) × (record { value = f x.value; at = x.at; rest = x.rest } ≡ y)
from_mapped {A} {B} f read at bytes y h =
    let x = from_and_then (read at bytes) (λ a. gives (f a)) y h in
    let given : Ok (record { value = f x.0.value; at = x.0.at; rest = x.0.rest }) ≡ Ok y = x.2 in
    (x.0, x.1, cc)

pub from_both : {A B : Type 0} (first : Reader A) (next : A → Reader B) (at : ℕ) (bytes : List ℕ) (y : Read (A × B))
    → both first next at bytes ≡ Ok y
    → (a : Read A) × (first at bytes ≡ Ok a)
    × ((b : Read B) × (next a.value a.at a.rest ≡ Ok b) × (record { value = (a.value, b.value); at = b.at; rest = b.rest } ≡ y))
from_both {A} {B} first next at bytes y h =
    let one = from_and_then (first at bytes) (λ a at' rest. and_then (next a at' rest) (λ b. gives (a, b))) y h in
    let a = one.0 in
    (a, one.1, from_mapped (λ b. (a.value, b)) (next a.value) a.at a.rest y one.2)

pub from_checked : {A : Type 0} (test : A → Bool) (read : Reader A) (at : ℕ) (bytes : List ℕ) (y : Read A)
    → checked test read at bytes ≡ Ok y → (test y.value ≡ true) × (read at bytes ≡ Ok y)
from_checked {A} test read at bytes y h =
    let tested : A → Reader A =
    λ a at' rest. if test a then Ok (record { value = a; at = at'; rest = rest }) else Err at in
    let x = from_and_then (read at bytes) tested y h in
    let passed = from_test (test x.0.value) x.0 y at x.2 in
    (ap (λ (r : Read A). test r.value) (sym passed.1) ∙ passed.0, x.1 ∙ ap Ok passed.1)

-- ---- single fields

pub takes-number : (w : Width) → Takes (λ n. byte_len w) (number w)
unfolding number
takes-number w at bytes x h =
    let size = byte_len w in
    let value = from_be_bytes w (take size bytes) in
    let t = from_test (nat_le size (length bytes)) (record { value = value; at = at + size; rest = drop size bytes }) x at h in
    subst (IsTaken size at bytes) t.1
    (record { inside = leb-true size (length bytes) t.0; at_is = refl; rest_is = refl })

pub takes-none : {A : Type 0} (a : A) → Takes (λ _. 0) (gives a)
takes-none a at bytes x h =
    let given : Ok (record { value = a; at = at; rest = bytes }) ≡ Ok x = h in
    let same : record { value = a; at = at; rest = bytes } ≡ x = cc in
    subst (IsTaken 0 at bytes) same (record { inside = omega arith; at_is = omega arith; rest_is = refl })

-- ---- fields put together

pub takes-checked : {A : Type 0} (size : A → ℕ) (test : A → Bool) (read : Reader A) → Takes size read
    → Takes size (checked test read)
takes-checked size test read takes at bytes x h = takes at bytes x (from_checked test read at bytes x h).1

pub takes-mapped : {A B : Type 0} (size : A → ℕ) (size' : B → ℕ) (f : A → B) (read : Reader A)
    → ((a : A) → size a ≡ size' (f a)) → Takes size read → Takes size' (mapped f read)
takes-mapped {A} {B} size size' f read same takes at bytes y h =
    let from = from_mapped f read at bytes y h in
    let x = from.0 in
    let taken = takes at bytes x from.1 in
    subst (λ (z : Read B). IsTaken (size' z.value) at bytes z) from.2
    (subst (λ (n : ℕ). IsTaken n at bytes (record { value = f x.value; at = x.at; rest = x.rest })) (same x.value)
    (record { inside = taken.inside; at_is = taken.at_is; rest_is = taken.rest_is }))

-- what follows a value
taken-then : {A B : Type 0} (n m at : ℕ) (bytes : List ℕ) (x : Read A) (y : Read B)
    → IsTaken n at bytes x → IsTaken m x.at x.rest y → IsTaken (n + m) at bytes y
taken-then n m at bytes x y first second =
    let behind : y.rest ≡ drop (n + m) bytes =
    second.rest_is ∙ ap (λ (l : List ℕ). drop m l) first.rest_is ∙ drop-drop m n bytes in
    record {
      inside = omega (arith, first.inside, second.inside, ap (λ (l : List ℕ). length l) first.rest_is, length-drop n bytes);
      at_is = omega (arith, first.at_is, second.at_is);
      rest_is = behind;
    }

pub takes-both : {A B : Type 0} (size : A → ℕ) (size' : A → B → ℕ) (first : Reader A) (next : A → Reader B)
    → Takes size first → ((a : A) → Takes (size' a) (next a)) → Takes (λ (e : A × B). size e.0 + size' e.0 e.1) (both first next)
takes-both {A} {B} size size' first next one two at bytes y h =
    let from = from_both first next at bytes y h in
    let a = from.0 in
    let b = from.2.0 in
    let after = taken-then (size a.value) (size' a.value b.value) at bytes a b (one at bytes a from.1) (two a.value a.at a.rest b from.2.1) in
    subst (λ (z : Read (A × B)). IsTaken (size z.value.0 + size' z.value.0 z.value.1) at bytes z) from.2.2
    (record { inside = after.inside; at_is = after.at_is; rest_is = after.rest_is })

pub takes-maybe : {A : Type 0} (size : A → ℕ) (size' : Option A → ℕ) (there : Bool) (read : Reader A)
    → size' None ≡ 0 → ((a : A) → size a ≡ size' (Some a)) → Takes size read → Takes size' (maybe there read)
takes-maybe size size' true read none some takes at bytes x h = takes-mapped size size' Some read some takes at bytes x h
takes-maybe {A} size size' false read none some takes at bytes x h =
    let given : Ok (record { value = None; at = at; rest = bytes }) ≡ Ok x = h in
    let same : record { value = None; at = at; rest = bytes } ≡ x = cc in
    subst (λ (z : Read (Option A)). IsTaken (size' z.value) at bytes z) same
    (record { inside = omega (arith, none); at_is = omega (arith, none); rest_is = ap (λ (n : ℕ). drop n bytes) (sym none) })

-- ---- items of one size

one-more-size : (k n : ℕ) → k * n + k ≡ k * (n + 1)
one-more-size k n = grind arith

pub takes-items : {A : Type 0} (k : ℕ) (read : List A → Reader A) → ((before : List A) → Takes (λ _. k) (read before))
    → (n : ℕ) → Takes (λ (list : List A). k * length list) (items read n)
unfolding items
takes-items {A} k read each zero at bytes x h =
    let given : Ok (record { value = []; at = at; rest = bytes }) ≡ Ok x = h in
    let same : record { value = []; at = at; rest = bytes } ≡ x = cc in
    let none : k * length {A = A} [] ≡ 0 = grind arith in
    subst (λ (z : Read (List A)). IsTaken (k * length z.value) at bytes z) same
    (record { inside = omega (arith, none); at_is = omega (arith, none); rest_is = ap (λ (m : ℕ). drop m bytes) (sym none) })
takes-items {A} k read each (suc n) at bytes y h =
    let from = from_and_then (items read n at bytes) (λ before at' rest. and_then (read before at' rest) (λ a. gives (before ++ a ∷ []))) y h in
    one-more from.0 (takes-items k read each n at bytes from.0 from.1) from.2
  where
    one-more : (x : Read (List A)) → IsTaken (k * length x.value) at bytes x
        → mapped (λ a. x.value ++ a ∷ []) (read x.value) x.at x.rest ≡ Ok y → IsTaken (k * length y.value) at bytes y
    one-more x taken is =
        let from = from_mapped (λ a. x.value ++ a ∷ []) (read x.value) x.at x.rest y is in
        let a = from.0 in
        let after = taken-then (k * length x.value) k at bytes x a taken (each x.value x.at x.rest a from.1) in
        let longer : length (x.value ++ a.value ∷ []) ≡ length x.value + 1 = length-append x.value (a.value ∷ []) in
        let sum = one-more-size k (length x.value) ∙ ap (λ (m : ℕ). k * m) (sym longer) in
        subst (λ (z : Read (List A)). IsTaken (k * length z.value) at bytes z) from.2
        (subst (λ (m : ℕ). IsTaken m at bytes (record { value = x.value ++ a.value ∷ []; at = a.at; rest = a.rest })) sum
        (record { inside = after.inside; at_is = after.at_is; rest_is = after.rest_is }))

-- items after their count
pub takes-counted : {A : Type 0} (w : Width) (test : ℕ → Bool) (k : ℕ) (read : List A → Reader A)
    → ((before : List A) → Takes (λ _. k) (read before)) → Takes (λ (list : List A). byte_len w + k * length list) (counted w test read)
takes-counted {A} w test k read each =
    takes-mapped (λ (e : ℕ × List A). byte_len w + k * length e.1) (λ (list : List A). byte_len w + k * length list) (λ e. e.1)
    (both (checked test (number w)) (λ n. items read n)) (λ e. refl)
    (takes-both (λ (n : ℕ). byte_len w) (λ (n : ℕ) (list : List A). k * length list) (checked test (number w)) (λ n. items read n)
    (takes-checked (λ (n : ℕ). byte_len w) test (number w) (takes-number w)) (takes-items k read each))
