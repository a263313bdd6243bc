-- The entries of a table, one after the other.
use Rattle.std.proofs.Common.{◌≡◌, ℕ, zero, suc, ◌+◌, ◌-◌, ◌*◌, ◌<◌, Bool, true, false, List, [], ◌∷◌, ◌++◌, length, take, drop, Some, refl, ap, ◌∙◌, sym, arith}
use Rattle.std.specs.Prelude.{◌&&◌, nat_le, nat_lt, not, if◌then◌else◌}
use Rattle.std.specs.Int.{w16, from_be_bytes}
use Rattle.std.proofs.lemmas.List.{drop-drop}
use Rattle.record_pages.specs.Plans.{is_among}
use Rattle.record_pages.specs.Tables.{entry_fault, numbers_in}

-- the first k numbers of these bytes, and the next
abbrev pub number_in : ℕ → List ℕ → ℕ
number_in k l = from_be_bytes w16 (take 2 (drop (2 * k) l))

pub numbers_more : (k : ℕ) (l : List ℕ) → numbers_in (suc k) l ≡ numbers_in k l ++ number_in k l ∷ []
numbers_more zero l = refl
numbers_more (suc k) l =
    ap (λ ns. from_be_bytes w16 (take 2 l) ∷ ns)
    (numbers_more k (drop 2 l) ∙ ap (λ x. numbers_in k (drop 2 l) ++ from_be_bytes w16 (take 2 x) ∷ [])
    (drop-drop (2 * k) 2 l ∙ ap (λ n. drop n l) (let e : 2 + 2 * k ≡ 2 * suc k = omega arith in e)))

pub numbers_long : (k : ℕ) (l : List ℕ) → length (numbers_in k l) ≡ k
numbers_long zero l = refl
numbers_long (suc k) l = ap suc (numbers_long k (drop 2 l))

-- of a table's numbers, those from the i-th on
pub numbers_from : (count i : ℕ) (body : List ℕ) → i < count
    → numbers_in (count - i) (drop (5 + 2 * i) body)
    ≡ from_be_bytes w16 (take 2 (drop (5 + 2 * i) body)) ∷ numbers_in (count - (i + 1)) (drop (5 + 2 * (i + 1)) body)
numbers_from count i body lt =
    ap (λ k. numbers_in k (drop (5 + 2 * i) body)) (let e : count - i ≡ suc (count - (i + 1)) = omega arith in e)
    ∙ ap (λ l. from_be_bytes w16 (take 2 (drop (5 + 2 * i) body)) ∷ numbers_in (count - (i + 1)) l)
    (drop-drop 2 (5 + 2 * i) body ∙ ap (λ n. drop n body) (let e : 5 + 2 * i + 2 ≡ 5 + 2 * (i + 1) = omega arith in e))

abbrev pub is_entry : ℕ → ℕ → List ℕ → ℕ → Bool
is_entry least pages earlier n = nat_le least n && (nat_lt n pages && not (is_among earlier n))

pub goes_on : (least pages at n : ℕ) (earlier rest : List ℕ) → is_entry least pages earlier n ≡ true
    → entry_fault least pages earlier at (n ∷ rest) ≡ entry_fault least pages (earlier ++ n ∷ []) (at + 2) rest
goes_on least pages at n earlier rest is = ap (λ b. if b then entry_fault least pages (earlier ++ n ∷ []) (at + 2) rest else Some at) is

pub stops : (least pages at n : ℕ) (earlier rest : List ℕ) → is_entry least pages earlier n ≡ false → entry_fault least pages earlier at (n ∷ rest) ≡ Some at
stops least pages at n earlier rest is = ap (λ b. if b then entry_fault least pages (earlier ++ n ∷ []) (at + 2) rest else Some at) is

-- ---- of a whole table, whose first i entries were read
module _ (least pages count i : ℕ) (body numbers : List ℕ) (lt : i < count) where
  abbrev pub n : ℕ
  n = from_be_bytes w16 (take 2 (drop (5 + 2 * i) body))

  pub next_fault : is_entry least pages numbers n ≡ true → entry_fault least pages numbers (6 + 2 * i) (numbers_in (count - i) (drop (5 + 2 * i) body))
      ≡ entry_fault least pages (numbers ++ n ∷ []) (6 + 2 * (i + 1)) (numbers_in (count - (i + 1)) (drop (5 + 2 * (i + 1)) body))
  next_fault is =
      ap (λ l. entry_fault least pages numbers (6 + 2 * i) l) (numbers_from count i body lt)
      ∙ goes_on least pages (6 + 2 * i) n numbers (numbers_in (count - (i + 1)) (drop (5 + 2 * (i + 1)) body)) is
      ∙ ap (λ at. entry_fault least pages (numbers ++ n ∷ []) at (numbers_in (count - (i + 1)) (drop (5 + 2 * (i + 1)) body))) (let e : 6 + 2 * i + 2 ≡ 6 + 2 * (i + 1) = omega arith in e)

  pub this_fault : is_entry least pages numbers n ≡ false → entry_fault least pages numbers (6 + 2 * i) (numbers_in (count - i) (drop (5 + 2 * i) body)) ≡ Some (6 + 2 * i)
  this_fault is =
      ap (λ l. entry_fault least pages numbers (6 + 2 * i) l) (numbers_from count i body lt)
      ∙ stops least pages (6 + 2 * i) n numbers (numbers_in (count - (i + 1)) (drop (5 + 2 * (i + 1)) body)) is

  pub next_read : numbers ≡ numbers_in i (drop 5 body) → numbers ++ n ∷ [] ≡ numbers_in (i + 1) (drop 5 body)
  next_read is =
      ap (λ l. l ++ n ∷ []) is
      ∙ ap (λ l. numbers_in i (drop 5 body) ++ from_be_bytes w16 (take 2 l) ∷ []) (sym (drop-drop (2 * i) 5 body))
      ∙ sym (numbers_more i (drop 5 body))
      ∙ ap (λ k. numbers_in k (drop 5 body)) (let e : suc i ≡ i + 1 = omega arith in e)
