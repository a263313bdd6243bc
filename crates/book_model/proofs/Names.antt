-- Rows by their names: what a step under one name leaves under it, and under another.
use Rattle.std.proofs.Common.{◌≡◌, ℕ, Bool, true, false, List, [], ◌∷◌, Option, Some, None, refl, sym, ◌∙◌, ap, arith}
use Rattle.std.specs.Prelude.{◌&&◌, ◌==◌, if◌then◌else◌}
use Rattle.std.specs.Str.{bytes_eq}
use Rattle.std.proofs.lemmas.Bool.Decides.{nat_tests}
use Rattle.book_model.specs.Rows.{Rows, begun, is_full, keeping, under, without}

pub same_is : (xs ys : List ℕ) → bytes_eq xs ys ≡ true → xs ≡ ys
same_is [] [] is = refl
same_is [] (y ∷ ys) is = absurd (let e : false ≡ true = is in cc)
same_is (x ∷ xs) [] is = absurd (let e : false ≡ true = is in cc)
same_is (x ∷ xs) (y ∷ ys) is =
    by (x == y) (bytes_eq xs ys) refl refl is (λ tail. same_is xs ys tail)
  where
    by : (a b : Bool) → (x == y) ≡ a → bytes_eq xs ys ≡ b → (a && b) ≡ true
        → (bytes_eq xs ys ≡ true → xs ≡ ys) → x ∷ xs ≡ y ∷ ys
    by true true head tail both more = ap (λ n. n ∷ xs) (let e : x ≡ y = grind (arith, nat_tests) in
        e) ∙ ap (λ (l : List ℕ). y ∷ l) (more tail)
    by true false head tail both more = absurd (let e : false ≡ true = both in cc)
    by false b head tail both more = absurd (let e : false ≡ true = both in cc)

pub same_self : (xs : List ℕ) → bytes_eq xs xs ≡ true
same_self [] = refl
same_self (x ∷ xs) =
    let head : (x == x) ≡ true = grind (arith, nat_tests) in
    ap (λ b. b && bytes_eq xs xs) head ∙ same_self xs

-- a name that is the first one isn't the second
pub apart : (x n m : List ℕ) → bytes_eq x n ≡ true → bytes_eq n m ≡ false → bytes_eq x m ≡ false
apart x n m is isnt = ap (λ (y : List ℕ). bytes_eq y m) (same_is x n is) ∙ isnt

module _ {C : Type 0} (n m : List ℕ) (isnt : bytes_eq n m ≡ false) where
  pub keeping_other : (c : C) (rows : Rows C) → under m (keeping n c rows) ≡ under m rows
  keeping_other c [] = refl
  keeping_other c (None ∷ rows) = keeping_other c rows
  keeping_other c (Some row ∷ rows) = by (bytes_eq row.name n) refl (keeping_other c rows)
    where
      by : (a : Bool) → bytes_eq row.name n ≡ a → under m (keeping n c rows) ≡ under m rows
          → under m ((if a then Some (record { name = row.name; kept = c }) else Some row)
          ∷ keeping n c rows) ≡ under m (Some row ∷ rows)
      by true is rest = ap (λ b. if b then Some c else under m (keeping n c rows))
          (apart row.name n m is isnt) ∙ rest
          ∙ sym (ap (λ b. if b then Some row.kept else under m rows)
          (apart row.name n m is isnt))
      by false is rest =
          ap (λ (o : Option C). if bytes_eq row.name m then Some row.kept else o) rest

  pub without_other : (rows : Rows C) → under m (without n rows) ≡ under m rows
  without_other [] = refl
  without_other (None ∷ rows) = without_other rows
  without_other (Some row ∷ rows) = by (bytes_eq row.name n) refl (without_other rows)
    where
      by : (a : Bool) → bytes_eq row.name n ≡ a → under m (without n rows) ≡ under m rows
          → under m ((if a then None else Some row) ∷ without n rows) ≡ under m (Some row ∷ rows)
      by true is rest = rest
          ∙ sym (ap (λ b. if b then Some row.kept else under m rows)
          (apart row.name n m is isnt))
      by false is rest =
          ap (λ (o : Option C). if bytes_eq row.name m then Some row.kept else o) rest

  pub begun_other : (c : C) (rows : Rows C) → under m (begun n c rows) ≡ under m rows
  begun_other c [] = refl
  begun_other c (None ∷ rows) = ap (λ b. if b then Some c else under m rows) isnt
  begun_other c (Some row ∷ rows) =
      ap (λ (o : Option C). if bytes_eq row.name m then Some row.kept else o) (begun_other c rows)

module _ {C : Type 0} (n : List ℕ) where
  pub keeping_same : (c was : C) (rows : Rows C) → under n rows ≡ Some was
      → under n (keeping n c rows) ≡ Some c
  keeping_same c was [] is = absurd (let e : None ≡ Some was = is in cc)
  keeping_same c was (None ∷ rows) is = keeping_same c was rows is
  keeping_same c was (Some row ∷ rows) is =
      by (bytes_eq row.name n) refl is (λ more. keeping_same c was rows more)
    where
      by : (a : Bool) → bytes_eq row.name n ≡ a
          → (if a then Some row.kept else under n rows) ≡ Some was
          → (under n rows ≡ Some was → under n (keeping n c rows) ≡ Some c)
          → under n ((if a then Some (record { name = row.name; kept = c }) else Some row)
          ∷ keeping n c rows) ≡ Some c
      by true test is rest = ap (λ b. if b then Some c else under n (keeping n c rows)) test
      by false test is rest =
          ap (λ b. if b then Some row.kept else under n (keeping n c rows)) test ∙ rest is

  pub without_same : (rows : Rows C) → under n (without n rows) ≡ None
  without_same [] = refl
  without_same (None ∷ rows) = without_same rows
  without_same (Some row ∷ rows) = by (bytes_eq row.name n) refl (without_same rows)
    where
      by : (a : Bool) → bytes_eq row.name n ≡ a → under n (without n rows) ≡ None
          → under n ((if a then None else Some row) ∷ without n rows) ≡ None
      by true test rest = rest
      by false test rest =
          ap (λ b. if b then Some row.kept else under n (without n rows)) test ∙ rest

  pub begun_same : (c : C) (rows : Rows C) → under n rows ≡ None → is_full rows ≡ false
      → under n (begun n c rows) ≡ Some c
  begun_same c [] none room = absurd (let e : true ≡ false = room in cc)
  begun_same c (None ∷ rows) none room =
      ap (λ b. if b then Some c else under n rows) (same_self n)
  begun_same c (Some row ∷ rows) none room =
      by (bytes_eq row.name n) refl none (λ more. begun_same c rows more room)
    where
      by : (a : Bool) → bytes_eq row.name n ≡ a
          → (if a then Some row.kept else under n rows) ≡ None
          → (under n rows ≡ None → under n (begun n c rows) ≡ Some c)
          → (if a then Some row.kept else under n (begun n c rows)) ≡ Some c
      by true test none rest = absurd (let e : Some row.kept ≡ None = none in cc)
      by false test none rest = rest none
