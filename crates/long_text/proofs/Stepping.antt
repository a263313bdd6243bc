-- A search over the places of a list, and over the pieces that stand from a place on.
use Rattle.std.proofs.Common.{◌≡◌, ◌≢◌, ℕ, zero, suc, ◌+◌, ◌<◌, ◌≤◌, Bool, true, false, List, [], ◌∷◌, ◌++◌, length, drop, get_or, Option, Some, None, refl, sym, ◌∙◌, ap, arith}
use Rattle.std.specs.Prelude.{◌==◌, ◌||◌, filter, find, map, slice_get, is_some, if◌then◌else◌}
use Rattle.std.specs.List.{list_any, range_with_len}
use Rattle.std.proofs.lemmas.Bool.Decides.{nat_tests}
use Rattle.std.proofs.lemmas.List.{length-drop, nil_from_length}
use Rattle.std.proofs.lemmas.Option.{slice_get-get_or}
use Rattle.boxes.specs.Entries.{Entry, entry_with, is_of}
use Rattle.long_text.specs.Pieces.{Piece, piece, pieces}

abbrev pub cons_if : {X : Type 0} → Option X → List X → List X
cons_if None list = list
cons_if (Some x) list = x ∷ list

some_entry : Entry
some_entry = entry_with (record { epoch = 0; index = 0 }) 0 []

-- the list from a place on
drop_next : (es : List Entry) (at : ℕ) → at < length es → drop at es ≡ get_or es at some_entry ∷ drop (at + 1) es
drop_next [] at lt = absurd (omega arith)
drop_next (e ∷ es) zero lt = refl
drop_next (e ∷ es) (suc at) lt =
    drop_next es at (omega arith) ∙ ap (λ m. get_or es at some_entry ∷ drop m (e ∷ es)) (let h : suc (at + 1) ≡ suc at + 1 = omega arith in h)

pub stepped : (id : ℕ) (es : List Entry) (at : ℕ) (r : Option Piece) → at < length es
    → ((entry : Entry) → slice_get es at ≡ Some entry → r ≡ (if is_of id entry then Some (piece entry) else None))
    → pieces id (drop at es) ≡ cons_if r (pieces id (drop (at + 1) es))
unfolding pieces
stepped id es at r lt told =
    let entry = get_or es at some_entry in
    ap (λ (list : List Entry). map piece (filter (is_of id) list)) (drop_next es at lt)
    ∙ by_test (is_of id entry)
    ∙ ap (λ (o : Option Piece). cons_if o (map piece (filter (is_of id) (drop (at + 1) es)))) (sym (told entry (slice_get-get_or es at some_entry lt)))
  where
    by_test : (t : Bool) → map piece (if t then get_or es at some_entry ∷ filter (is_of id) (drop (at + 1) es) else filter (is_of id) (drop (at + 1) es))
        ≡ cons_if (if t then Some (piece (get_or es at some_entry)) else None) (map piece (filter (is_of id) (drop (at + 1) es)))
    by_test true = refl
    by_test false = refl

-- at the end no piece is left
pub none_left : (id : ℕ) (es : List Entry) (at : ℕ) → length es ≤ at → pieces id (drop at es) ≡ []
unfolding pieces
none_left id es at le =
    ap (λ (list : List Entry). map piece (filter (is_of id) list)) (nil_from_length (drop at es) (omega (arith, length-drop at es)))

-- what a test finds
pub any_found : {X : Type 0} (test : X → Bool) (list : List X) → list_any test list ≡ is_some (find test list)
any_found test [] = refl
any_found test (x ∷ list) = by_test (test x) (any_found test list)
  where
    by_test : (t : Bool) → list_any test list ≡ is_some (find test list) → ◌||◌ t (list_any test list) ≡ is_some (if t then Some x else find test list)
    by_test true _ = refl
    by_test false same = same

-- one more number
pub range_next : (a n : ℕ) → range_with_len a (n + 1) ≡ range_with_len a n ++ (a + n) ∷ []
range_next a zero = ap (λ m. m ∷ []) (let h : a ≡ a + 0 = omega arith in h)
range_next a (suc n) =
    ap (range_with_len a) (let h : suc n + 1 ≡ suc (n + 1) = omega arith in h)
    ∙ ap (λ (list : List ℕ). a ∷ list) (range_next (a + 1) n ∙ ap (λ m. range_with_len (a + 1) n ++ m ∷ []) (let h : (a + 1) + n ≡ a + suc n = omega arith in h))

pub differ : {m n : ℕ} → m ≢ n → (m == n) ≡ false
differ apart = grind (arith, nat_tests)

-- ---- a step of a search

pub found_hit : {X : Type 0} (test : X → Bool) (list rest : List X) (r : Option X) (x : X) → list ≡ cons_if r rest → r ≡ Some x → test x ≡ true → find test list ≡ Some x
found_hit test list rest r x here is hit =
    ap (find test) (here ∙ ap (λ (o : Option _). cons_if o rest) is) ∙ by_test (test x) hit
  where
    by_test : (t : Bool) → t ≡ true → (if t then Some x else find test rest) ≡ Some x
    by_test true _ = refl
    by_test false e = absurd (let f : false ≡ true = e in cc)

pub found_miss : {X : Type 0} (test : X → Bool) (list rest : List X) (r : Option X) (x : X) → list ≡ cons_if r rest → r ≡ Some x → test x ≡ false → find test rest ≡ find test list
found_miss test list rest r x here is miss =
    sym (ap (find test) (here ∙ ap (λ (o : Option _). cons_if o rest) is) ∙ by_test (test x) miss)
  where
    by_test : (t : Bool) → t ≡ false → (if t then Some x else find test rest) ≡ find test rest
    by_test false _ = refl
    by_test true e = absurd (let f : true ≡ false = e in cc)

pub nothing_here : {X : Type 0} (list rest : List X) (r : Option X) → list ≡ cons_if r rest → r ≡ None → rest ≡ list
nothing_here list rest r here is = sym (here ∙ ap (λ (o : Option _). cons_if o rest) is)

pub here_is : {X : Type 0} (list rest : List X) (r : Option X) (x : X) → list ≡ cons_if r rest → r ≡ Some x → list ≡ x ∷ rest
here_is list rest r x here is = here ∙ ap (λ (o : Option _). cons_if o rest) is
