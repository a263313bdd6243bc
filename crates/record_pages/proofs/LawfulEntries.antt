-- Entries without a fault: numbers of pages, each once.
use Rattle.std.proofs.Common.{◌≡◌, ◌≢◌, ℕ, zero, suc, ◌+◌, ◌<◌, ◌≤◌, Bool, true, false, List, [], ◌∷◌, ◌++◌, length, take, Some, None, refl, sym, ◌∙◌, arith}
use Rattle.std.specs.Prelude.{All, ◌&&◌, nat_eq, nat_le, nat_lt, not, slice_index, slice_index_or, if◌then◌else◌}
use Rattle.std.proofs.lemmas.Bool.{and_from, and_parts, eqb-false, le-leb, leb-true, lt-ltb, ltb-true, ne_eqb, not-true, not_from_false, or_from, or_parts}
use Rattle.std.proofs.lemmas.List.Elements.{All-cons, All-head, All-nil, All-push, All-tail, All-take, All-weaker}
use Rattle.record_pages.specs.Plans.{is_among}
use Rattle.record_pages.specs.Tables.{entry_fault}
use Rattle.record_pages.proofs.Dropped.{IsNone}
use Rattle.record_pages.proofs.Entries.{goes_on, is_entry}

-- a page's number
abbrev pub IsEntry : ℕ → ℕ → ℕ → Type 0
IsEntry least pages n = (least ≤ n) × (n < pages)

-- each number stands once
abbrev pub AreOnce : List ℕ → Type 0
AreOnce [] = Unit {0}
AreOnce (n ∷ numbers) = IsNone n numbers × AreOnce numbers

-- none of the first numbers is one of the others
abbrev pub AreNone : List ℕ → List ℕ → Type 0
AreNone numbers others = All (λ m. IsNone m others) numbers

-- numbers of pages, each once
pub record AreEntries (least pages : ℕ) (numbers : List ℕ) : Type 0 where
  pub within : All (IsEntry least pages) numbers
  pub once : AreOnce numbers

-- ---- a test and what it says

pub none_among : (numbers : List ℕ) (n : ℕ) → is_among numbers n ≡ false → IsNone n numbers
none_among [] n isnt = All-nil (λ x. x ≢ n)
none_among (m ∷ numbers) n isnt =
    let parts : (nat_eq m n ≡ false) × (is_among numbers n ≡ false) = or_parts (nat_eq m n) (is_among numbers n) isnt in
    All-cons (λ x. x ≢ n) m numbers (eqb-false m n parts.0) (none_among numbers n parts.1)

pub among_none : (numbers : List ℕ) (n : ℕ) → IsNone n numbers → is_among numbers n ≡ false
among_none [] n none = refl
among_none (m ∷ numbers) n none =
    or_from (nat_eq m n) (is_among numbers n) (ne_eqb m n (All-head (λ x. x ≢ n) m numbers none))
    (among_none numbers n (All-tail (λ x. x ≢ n) m numbers none))

entry_of : (least pages n : ℕ) (earlier : List ℕ) → is_entry least pages earlier n ≡ true → IsEntry least pages n × IsNone n earlier
entry_of least pages n earlier is =
    let first : (nat_le least n ≡ true) × ((nat_lt n pages && not (is_among earlier n)) ≡ true) =
    and_parts (nat_le least n) (nat_lt n pages && not (is_among earlier n)) is in
    let rest : (nat_lt n pages ≡ true) × (not (is_among earlier n) ≡ true) = and_parts (nat_lt n pages) (not (is_among earlier n)) first.1 in
    let bounds : IsEntry least pages n = (leb-true least n first.0, ltb-true n pages rest.0) in
    (bounds, none_among earlier n (not-true (is_among earlier n) rest.1))

entry_is : (least pages n : ℕ) (earlier : List ℕ) → IsEntry least pages n → IsNone n earlier → is_entry least pages earlier n ≡ true
entry_is least pages n earlier within none =
    and_from (nat_le least n) (nat_lt n pages && not (is_among earlier n)) (le-leb least n within.0)
    (and_from (nat_lt n pages) (not (is_among earlier n)) (lt-ltb n pages within.1)
    (not_from_false (is_among earlier n) (among_none earlier n none)))

-- ---- from the entries to their numbers

before : (m n : ℕ) (earlier : List ℕ) → IsNone m (earlier ++ n ∷ []) → IsNone m earlier
before m n [] none = All-nil (λ x. x ≢ m)
before m n (e ∷ earlier) none =
    All-cons (λ x. x ≢ m) e earlier (All-head (λ x. x ≢ m) e (earlier ++ n ∷ []) none)
    (before m n earlier (All-tail (λ x. x ≢ m) e (earlier ++ n ∷ []) none))

last : (m n : ℕ) (earlier : List ℕ) → IsNone m (earlier ++ n ∷ []) → n ≢ m
last m n [] none = All-head (λ x. x ≢ m) n [] none
last m n (e ∷ earlier) none = last m n earlier (All-tail (λ x. x ≢ m) e (earlier ++ n ∷ []) none)

record AreBehind (least pages : ℕ) (earlier numbers : List ℕ) : Type 0 where
  pub within : All (IsEntry least pages) numbers
  pub once : AreOnce numbers
  pub apart : AreNone numbers earlier

entries_from : (least pages : ℕ) (numbers earlier : List ℕ) (at : ℕ) → entry_fault least pages earlier at numbers ≡ None → AreBehind least pages earlier numbers
entries_from least pages [] earlier at is = record { within = All-nil (IsEntry least pages); once = tt; apart = All-nil (λ m. IsNone m earlier) }
entries_from least pages (n ∷ numbers) earlier at is =
    by (is_entry least pages earlier n) refl is (λ none. entries_from least pages numbers (earlier ++ n ∷ []) (at + 2) none)
  where
    by : (b : Bool) → is_entry least pages earlier n ≡ b → (if b then entry_fault least pages (earlier ++ n ∷ []) (at + 2) numbers else Some at) ≡ None
        → (entry_fault least pages (earlier ++ n ∷ []) (at + 2) numbers ≡ None → AreBehind least pages (earlier ++ n ∷ []) numbers)
        → AreBehind least pages earlier (n ∷ numbers)
    by false isnt none rest = absurd (let e : Some at ≡ None = none in cc)
    by true is none rest =
        let one : IsEntry least pages n × IsNone n earlier = entry_of least pages n earlier is in
        let more : AreBehind least pages (earlier ++ n ∷ []) numbers = rest none in
        record {
          within = All-cons (IsEntry least pages) n numbers one.0 more.within;
          once = (All-weaker (λ m. IsNone m (earlier ++ n ∷ [])) (λ x. x ≢ n) (λ m all e. last m n earlier all (sym e)) numbers more.apart, more.once);
          apart = All-cons (λ m. IsNone m earlier) n numbers one.1
              (All-weaker (λ m. IsNone m (earlier ++ n ∷ [])) (λ m. IsNone m earlier) (λ m all. before m n earlier all) numbers more.apart);
        }

pub entries_lawful : (least pages : ℕ) (numbers : List ℕ) → entry_fault least pages [] 6 numbers ≡ None → AreEntries least pages numbers
entries_lawful least pages numbers none =
    let all : AreBehind least pages [] numbers = entries_from least pages numbers [] 6 none in
    record { within = all.within; once = all.once }

-- ---- and back

lawful_from : (least pages : ℕ) (numbers earlier : List ℕ) (at : ℕ) → All (IsEntry least pages) numbers → AreOnce numbers → AreNone numbers earlier
    → entry_fault least pages earlier at numbers ≡ None
lawful_from least pages [] earlier at within once apart = refl
lawful_from least pages (n ∷ numbers) earlier at within once apart =
    let rest : AreNone numbers earlier = All-tail (λ m. IsNone m earlier) n numbers apart in
    goes_on least pages at n earlier numbers
    (entry_is least pages n earlier (All-head (IsEntry least pages) n numbers within) (All-head (λ m. IsNone m earlier) n numbers apart))
    ∙ lawful_from least pages numbers (earlier ++ n ∷ []) (at + 2) (All-tail (IsEntry least pages) n numbers within) once.1
    (λ k d lt. All-push (λ x. x ≢ slice_index_or numbers k d) earlier n (rest k d lt) (λ e. once.0 k d lt (sym e)))

pub lawful_entries : (least pages : ℕ) (numbers : List ℕ) → AreEntries least pages numbers → entry_fault least pages [] 6 numbers ≡ None
lawful_entries least pages numbers are =
    lawful_from least pages numbers [] 6 are.within are.once (λ k d lt. All-nil (λ x. x ≢ slice_index_or numbers k d))

-- ---- place by place

pub entry_at : (least pages : ℕ) (numbers : List ℕ) → AreEntries least pages numbers → (j : ℕ) → j < length numbers
    → (least ≤ slice_index numbers j) × (slice_index numbers j < pages)
entry_at least pages numbers are j lt = are.within j 0 lt

once_distinct : (numbers : List ℕ) → AreOnce numbers → (i j : ℕ) → i < j → j < length numbers → slice_index numbers i ≢ slice_index numbers j
once_distinct [] once i j lt inside = absurd (omega arith)
once_distinct (n ∷ numbers) once i zero lt inside = absurd (omega arith)
once_distinct (n ∷ numbers) once zero (suc j) lt inside = λ e. once.0 j 0 (omega arith) (sym e)
once_distinct (n ∷ numbers) once (suc i) (suc j) lt inside = once_distinct numbers once.1 i j (omega arith) (omega arith)

pub entries_distinct : (least pages : ℕ) (numbers : List ℕ) → AreEntries least pages numbers → (i j : ℕ) → i < j → j < length numbers
    → slice_index numbers i ≢ slice_index numbers j
entries_distinct least pages numbers are = once_distinct numbers are.once

-- of two lists, each number of one isn't in the other, whichever comes first
pub turned : (numbers others : List ℕ) → AreNone numbers others → AreNone others numbers
turned numbers others apart = λ i d lt k e inside is. apart k e inside i d lt (sym is)

-- place by place
pub none_at : (numbers others : List ℕ) → AreNone numbers others → (i j : ℕ) → i < length numbers → j < length others
    → slice_index numbers i ≢ slice_index others j
none_at numbers others apart i j lt inside = λ e. apart i 0 lt j 0 inside (sym e)

-- the first ones of these
once_take : (k : ℕ) (numbers : List ℕ) → AreOnce numbers → AreOnce (take k numbers)
once_take zero numbers once = tt
once_take (suc k) [] once = tt
once_take (suc k) (n ∷ numbers) once = (All-take (λ x. x ≢ n) k numbers once.0, once_take k numbers once.1)

pub entries_take : (least pages k : ℕ) (numbers : List ℕ) → AreEntries least pages numbers → AreEntries least pages (take k numbers)
entries_take least pages k numbers are = record { within = All-take (IsEntry least pages) k numbers are.within; once = once_take k numbers are.once }
