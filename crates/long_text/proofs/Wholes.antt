-- What the code found of pieces, and the long text that they make.
use Rattle.std.proofs.Common.{◌≡◌, ℕ, ◌+◌, Bool, true, false, List, [], ◌∷◌, ◌++◌, length, Option, Some, None, Result, Ok, Err, refl, sym, ◌∙◌, ap, subst, arith}
use Rattle.std.specs.Prelude.{nat_lt, filter, find, flat_map, is_some, if◌then◌else◌}
use Rattle.std.specs.List.{list_any, range_with_len}
use Rattle.std.proofs.lemmas.List.{length-append, append-nil}
use Rattle.std.proofs.lemmas.List.Elements.{filter-append}
use Rattle.std.proofs.lemmas.Grind.{flat_map-append}
use Rattle.dr_base.specs.Buffer.{Puts}
use Rattle.dr_base.proofs.Putting.{then_puts}
use Rattle.long_text.specs.Pieces.{Piece}
use Rattle.long_text.specs.Longs.{bytes_of, bytes_under, clash_in, count_told, has_number, joined, long_from, numbers_had, unless_clash, whole_of}
use Rattle.long_text.specs.Seen.{Fills}
use Rattle.long_text.specs.declared.refusal.LongRefusal.{LongRefusal}
use Rattle.long_text.specs.declared.refusal.LongRefusal.TheVariants.{NoLong, Parts}
use Rattle.long_text.proofs.Stepping.{any_found, range_next}

-- ---- one more number

one_or_none : Bool → ℕ
one_or_none true = 1
one_or_none false = 0

pub had_next : (list : List Piece) (i : ℕ) → (t : Bool) → is_some (find (has_number (1 + i)) list) ≡ t
    → length (filter (λ n. list_any (has_number n) list) (range_with_len 1 (i + 1)))
    ≡ length (filter (λ n. list_any (has_number n) list) (range_with_len 1 i)) + (if t then 1 else 0)
had_next list i t is =
    let test : ℕ → Bool = λ n. list_any (has_number n) list in
    ap (λ (l : List ℕ). length (filter test l)) (range_next 1 i)
    ∙ ap length (filter-append test (range_with_len 1 i) ((1 + i) ∷ []))
    ∙ length-append (filter test (range_with_len 1 i)) (filter test ((1 + i) ∷ []))
    ∙ ap (λ m. length (filter test (range_with_len 1 i)) + m) (by_test (test (1 + i)) t (any_found (has_number (1 + i)) list ∙ is))
  where
    by_test : (a b : Bool) → a ≡ b → length (if a then (1 + i) ∷ [] else []) ≡ (if b then 1 else 0)
    by_test true true _ = refl
    by_test false false _ = refl
    by_test true false e = absurd (let f : true ≡ false = e in cc)
    by_test false true e = absurd (let f : false ≡ true = e in cc)

pub joined_next : (list : List Piece) (i : ℕ) → joined list (i + 1) ≡ joined list i ++ bytes_of (find (has_number (1 + i)) list)
joined_next list i =
    ap (flat_map (bytes_under list)) (range_next 1 i)
    ∙ flat_map-append (bytes_under list) (range_with_len 1 i) ((1 + i) ∷ [])
    ∙ ap (λ (b : List ℕ). joined list i ++ b) (append-nil {A = ℕ} (bytes_under list (1 + i)))

pub put_next : {old a b o bytes : List ℕ} {at m next : ℕ} (list : List Piece) (i : ℕ) (r : Option Piece) → Puts old a 0 (joined list i) at
    → r ≡ find (has_number (1 + i)) list → bytes_of r ≡ bytes → Puts a b at bytes next → o ≡ b → m ≡ next → Puts old o 0 (joined list (i + 1)) m
put_next {old} {a} {b} {o} {bytes} {at} {m} {next} list i r before is same puts out place =
    let text : joined list (i + 1) ≡ joined list i ++ bytes =
    joined_next list i ∙ ap (λ (f : Option Piece). joined list i ++ bytes_of f) (sym is) ∙ ap (λ (b : List ℕ). joined list i ++ b) same in
    let whole : Puts old b 0 (joined list i ++ bytes) next = then_puts before puts in
    let there : Puts old o 0 (joined list i ++ bytes) next = subst (λ (x : List ℕ). Puts old x 0 (joined list i ++ bytes) next) (sym out) whole in
    let ends : Puts old o 0 (joined list i ++ bytes) m = subst (λ (n : ℕ). Puts old o 0 (joined list i ++ bytes) n) (sym place) there in
    subst (λ (t : List ℕ). Puts old o 0 t m) (sym text) ends

pub put_none : {old a o : List ℕ} {at m : ℕ} (list : List Piece) (i : ℕ) (r : Option Piece) → Puts old a 0 (joined list i) at
    → r ≡ find (has_number (1 + i)) list → r ≡ None → o ≡ a → m ≡ at → Puts old o 0 (joined list (i + 1)) m
put_none {old} {a} {o} {at} {m} list i r before is none out place =
    let text : joined list (i + 1) ≡ joined list i =
    joined_next list i ∙ ap (λ (f : Option Piece). joined list i ++ bytes_of f) (sym is ∙ none) ∙ append-nil (joined list i) in
    let there : Puts old o 0 (joined list i) at = subst (λ (x : List ℕ). Puts old x 0 (joined list i) at) (sym out) before in
    let ends : Puts old o 0 (joined list i) m = subst (λ (n : ℕ). Puts old o 0 (joined list i) n) (sym place) there in
    subst (λ (t : List ℕ). Puts old o 0 t m) (sym text) ends

-- ---- the whole

abbrev Wholes : List Piece → Result (List ℕ) LongRefusal → Type 0
Wholes list r = long_from list ≡ r

pub none_stands : (list : List Piece) → count_told list ≡ None → long_from list ≡ Err NoLong
none_stands [] is = refl
none_stands (p ∷ list) is = absurd (let f : (let o : Option ℕ = Some p.count in o) ≡ None = is in cc)

counted : (p : Piece) (count : ℕ) → (let o : Option ℕ = Some p.count in o) ≡ Some count → p.count ≡ count
counted p count is = cc

pub some_stand : (list : List Piece) (count : ℕ) → count_told list ≡ Some count → long_from list ≡ unless_clash (clash_in list) (whole_of list count)
some_stand [] count is = absurd (let f : (let o : Option ℕ = None in o) ≡ Some count = is in cc)
some_stand (p ∷ list) count is = ap (λ n. unless_clash (clash_in (p ∷ list)) (whole_of (p ∷ list) n)) (counted p count is)

pub clash_stands : (list : List Piece) (count : ℕ) (refusal : LongRefusal) → count_told list ≡ Some count → clash_in list ≡ Some refusal → long_from list ≡ Err refusal
clash_stands list count refusal is clash = some_stand list count is ∙ ap (λ (o : Option LongRefusal). unless_clash o (whole_of list count)) clash

pub too_few : (list : List Piece) (count : ℕ) → count_told list ≡ Some count → clash_in list ≡ None → nat_lt (numbers_had list) count ≡ true
    → long_from list ≡ Err (Parts (numbers_had list) count)
too_few list count is clash lt =
    some_stand list count is ∙ ap (λ (o : Option LongRefusal). unless_clash o (whole_of list count)) clash ∙ by_test (nat_lt (numbers_had list) count) lt
  where
    by_test : (t : Bool) → t ≡ true → (if t then Err (Parts (numbers_had list) count) else Ok (joined list count)) ≡ Err (Parts (numbers_had list) count)
    by_test true _ = refl
    by_test false e = absurd (let f : false ≡ true = e in cc)

pub all_stand : (list : List Piece) (count : ℕ) → count_told list ≡ Some count → clash_in list ≡ None → nat_lt (numbers_had list) count ≡ false
    → long_from list ≡ Ok (joined list count)
all_stand list count is clash lt =
    some_stand list count is ∙ ap (λ (o : Option LongRefusal). unless_clash o (whole_of list count)) clash ∙ by_test (nat_lt (numbers_had list) count) lt
  where
    by_test : (t : Bool) → t ≡ false → (if t then Err (Parts (numbers_had list) count) else Ok (joined list count)) ≡ Ok (joined list count)
    by_test false _ = refl
    by_test true e = absurd (let f : true ≡ false = e in cc)

pub refused : (old : List ℕ) (r s : LongRefusal) (whole : Result (List ℕ) LongRefusal) → r ≡ s → whole ≡ Err s → Fills old old (Err r) whole
refused old r s whole same is = subst (λ (w : Result (List ℕ) LongRefusal). Fills old old (Err r) w) (sym is) (same, refl)

pub filled : (old new text : List ℕ) (len : ℕ) (whole : Result (List ℕ) LongRefusal) → Puts old new 0 text len → whole ≡ Ok text → Fills old new (Ok len) whole
filled old new text len whole puts is =
    subst (λ (w : Result (List ℕ) LongRefusal). Fills old new (Ok len) w) (sym is) (omega (arith, puts.next_is), puts.front, puts.rest)
