-- Where each part of a text stands, and no other under its id, they are joined to the text.
use Rattle.std.proofs.Common.{◌≡◌, ℕ, zero, suc, ◌+◌, ◌*◌, ◌-◌, ◌<◌, ◌≤◌, Bool, true, false, List, [], ◌∷◌, ◌++◌, length, take, drop, Option, Some, None, Result, Ok, Err, refl, sym, ◌∙◌, ap, ap₂, arith}
use Rattle.std.specs.Prelude.{◌==◌, ◌&&◌, ◌||◌, not, nat_lt, filter, find, flat_map, if◌then◌else◌}
use Rattle.std.specs.List.{AllByRecursion, list_any, range_with_len}
use Rattle.std.specs.Str.{bytes_eq}
use Rattle.std.proofs.Math.Seq.{take-add}
use Rattle.std.proofs.lemmas.Bool.Decides.{Decides-eqb, nat_tests}
use Rattle.std.proofs.lemmas.Grind.{div_ceil_times}
use Rattle.std.proofs.lemmas.List.{take_all, drop-drop}
use Rattle.std.proofs.lemmas.Slice.Eq.{bytes_eq-Decides}
use Rattle.boxes.specs.declared.limits.TheConstants.{PARTS_LIMIT, PART_LIMIT}
use Rattle.long_text.specs.declared.limits.TheConstants.{LONG_LIMIT}
use Rattle.boxes.specs.Entries.{Entry}
use Rattle.long_text.specs.Pieces.{Piece, pieces}
use Rattle.long_text.specs.Longs.{bytes_of, bytes_under, clash_in, clash_of, clashes, has_number, joined, long_from, long_of, numbers_had, unless_clash, whole_of}
use Rattle.long_text.specs.Cuts.{bytes_at, count_of}
use Rattle.long_text.specs.Told.{IsPartOf, IsTold}
use Rattle.long_text.specs.declared.refusal.LongRefusal.{LongRefusal}
use Rattle.long_text.specs.declared.refusal.LongRefusal.TheVariants.{Parts}

-- ---- a text cut, at any size

cut_at : ℕ → List ℕ → ℕ → List ℕ
cut_at size text number = take size (drop (size * (number - 1)) text)

cut_next : (size n : ℕ) → size * suc n ≡ size + size * n
cut_next size n = omega arith

join_from : (size : ℕ) (text : List ℕ) (n j : ℕ) → flat_map (cut_at size text) (range_with_len (j + 1) n) ≡ take (size * n) (drop (size * j) text)
unfolding cut_at
join_from size text zero j = sym (ap (λ m. take m (drop (size * j) text)) (let e : size * 0 ≡ 0 = omega arith in e))
join_from size text (suc n) j =
    let here : cut_at size text (j + 1) ≡ take size (drop (size * j) text) = ap (λ m. take size (drop (size * m) text)) (omega arith) in
    let next : drop (size * (j + 1)) text ≡ drop size (drop (size * j) text) = ap (λ m. drop m text) (let e : size * (j + 1) ≡ size * j + size = omega arith in e) ∙ sym (drop-drop size (size * j) text) in
    ap₂ (λ (a b : List ℕ). a ++ b) here (join_from size text n (j + 1) ∙ ap (take (size * n)) next)
    ∙ sym (take-add size (size * n) (drop (size * j) text))
    ∙ sym (ap (λ m. take m (drop (size * j) text)) (cut_next size n))

-- ---- numbers

count_true : (test : ℕ → Bool) (n m a : ℕ) → n ≤ m → ((k : ℕ) → a ≤ k → k < a + n → test k ≡ true) → n ≤ length (filter test (range_with_len a m))
count_true test zero m a le all = omega arith
count_true test (suc n) zero a le all = absurd (omega arith)
count_true test (suc n) (suc m) a le all =
    let more : n ≤ length (filter test (range_with_len (a + 1) m)) = count_true test n m (a + 1) (omega arith) (λ k low high. all k (omega arith) (omega arith)) in
    by_test (test a) (all a (omega arith) (omega arith)) more
  where
    by_test : (t : Bool) → t ≡ true → n ≤ length (filter test (range_with_len (a + 1) m))
        → suc n ≤ length (if t then a ∷ filter test (range_with_len (a + 1) m) else filter test (range_with_len (a + 1) m))
    by_test true _ more = omega arith
    by_test false e more = absurd (let f : false ≡ true = e in cc)

not_lt : (a b : ℕ) → b ≤ a → nat_lt a b ≡ false
not_lt a b le = grind (arith, nat_tests)

-- ---- pieces of a text

module _ (text : List ℕ) where
  no_clash : (p q : Piece) → IsPartOf text p → IsPartOf text q → clashes p q ≡ false
  no_clash p q is other =
      by_number (p.number == q.number) refl (p.count == q.count) ((Decides-eqb p.count q.count).1 (is.count_is ∙ sym other.count_is))
    where
      by_number : (same : Bool) → (p.number == q.number) ≡ same → (count : Bool) → count ≡ true
          → (not count || (same && not (bytes_eq p.bytes q.bytes))) ≡ false
      by_number false e true _ = refl
      by_number true e true _ =
          let number : p.number ≡ q.number = (Decides-eqb p.number q.number).0 e in
          let bytes : p.bytes ≡ q.bytes = is.bytes_are ∙ ap (bytes_at text) number ∙ sym other.bytes_are in
          ap not ((bytes_eq-Decides p.bytes q.bytes).1 bytes)
      by_number same e false w = absurd (let f : false ≡ true = w in cc)

  found_none : (p : Piece) (list : List Piece) → IsPartOf text p → AllByRecursion (IsPartOf text) list → find (clashes p) list ≡ None
  found_none p [] is all = refl
  found_none p (q ∷ list) is all = by_test (clashes p q) (no_clash p q is all.0) (found_none p list is all.1)
    where
      by_test : (t : Bool) → t ≡ false → find (clashes p) list ≡ None → (if t then Some q else find (clashes p) list) ≡ None
      by_test false _ none = none
      by_test true w none = absurd (let f : true ≡ false = w in cc)

  clash_none : (list : List Piece) → AllByRecursion (IsPartOf text) list → clash_in list ≡ None
  clash_none [] all = refl
  clash_none (p ∷ list) all = ap (λ (f : Option Piece). clash_of p f (clash_in list)) (found_none p list all.0 all.1) ∙ clash_none list all.1

  under : (list : List Piece) (number : ℕ) → AllByRecursion (IsPartOf text) list → list_any (has_number number) list ≡ true
      → bytes_of (find (has_number number) list) ≡ bytes_at text number
  under [] number all any = absurd (let f : false ≡ true = any in cc)
  under (p ∷ list) number all any = by_test (p.number == number) refl any (λ later. under list number all.1 later)
    where
      by_test : (t : Bool) → (p.number == number) ≡ t → (t || list_any (has_number number) list) ≡ true
          → (list_any (has_number number) list ≡ true → bytes_of (find (has_number number) list) ≡ bytes_at text number) → bytes_of (if t then Some p else find (has_number number) list) ≡ bytes_at text number
      by_test true e _ _ = all.0.bytes_are ∙ ap (bytes_at text) ((Decides-eqb p.number number).0 e)
      by_test false e later go = go later

  joined_from : (list : List Piece) (n a : ℕ) → AllByRecursion (IsPartOf text) list
      → ((k : ℕ) → a ≤ k → k < a + n → list_any (has_number k) list ≡ true)
      → flat_map (bytes_under list) (range_with_len a n) ≡ flat_map (bytes_at text) (range_with_len a n)
  joined_from list zero a all each = refl
  joined_from list (suc n) a all each =
      ap₂ (λ (x y : List ℕ). x ++ y) (under list a all (each a (omega arith) (omega arith)))
      (joined_from list n (a + 1) all (λ k low high. each k (omega arith) (omega arith)))

  -- there are enough numbers, and few enough
  pub long_enough : length text ≤ PART_LIMIT * count_of text
  long_enough = let times = div_ceil_times (length text) PART_LIMIT (omega arith) in omega (arith, times.0)

  pub few_parts : length text ≤ LONG_LIMIT → count_of text ≤ PARTS_LIMIT
  few_parts few = let times = div_ceil_times (length text) PART_LIMIT (omega arith) in omega (arith, times.1)

  cuts_join : flat_map (bytes_at text) (range_with_len 1 (count_of text)) ≡ text
  unfolding cut_at
  cuts_join = join_from PART_LIMIT text (count_of text) 0 ∙ take_all (PART_LIMIT * count_of text) text long_enough

  told : (list : List Piece) → length text ≤ LONG_LIMIT → AllByRecursion (IsPartOf text) list
      → ((number : ℕ) → 1 ≤ number → number ≤ count_of text → list_any (has_number number) list ≡ true) → long_from list ≡ Ok text
  told [] few all each = absurd (let f : false ≡ true = each 1 (omega arith) (omega arith) in cc)
  told (p ∷ rest) few all each =
      let list = p ∷ rest in
      let here : (k : ℕ) → 1 ≤ k → k < 1 + count_of text → list_any (has_number k) list ≡ true = λ k low high. each k low (omega arith) in
      let had : count_of text ≤ numbers_had list = count_true (λ k. list_any (has_number k) list) (count_of text) PARTS_LIMIT 1 (few_parts few) here in
      let whole : joined list (count_of text) ≡ text = joined_from list (count_of text) 1 all here ∙ cuts_join in
      ap (λ (c : Option LongRefusal). unless_clash c (whole_of list p.count)) (clash_none list all)
      ∙ ap (whole_of list) all.0.count_is
      ∙ by_test (nat_lt (numbers_had list) (count_of text)) (not_lt (numbers_had list) (count_of text) had) whole
    where
      by_test : (t : Bool) → t ≡ false → joined (p ∷ rest) (count_of text) ≡ text
          → (if t then Err (Parts (numbers_had (p ∷ rest)) (count_of text)) else Ok (joined (p ∷ rest) (count_of text))) ≡ Ok text
      by_test false _ whole = ap (λ (x : List ℕ). let r : Result (List ℕ) LongRefusal = Ok x in r) whole
      by_test true w whole = absurd (let f : true ≡ false = w in cc)

pub told_is_long : (text : List ℕ) (id : ℕ) (entries : List Entry) → IsTold text id entries → long_of id entries ≡ Ok text
unfolding long_of
told_is_long text id entries is = told text (pieces id entries) is.few is.only is.each
