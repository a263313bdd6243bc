-- How a table of commands is looked through, and the commands behind `book-`.
use Rattle.std.proofs.Common.{◌≡◌, ◌≢◌, ◌∙◌, ◌≤◌, ◌-◌, ℕ, suc, ◌+◌, ◌&&◌, Bool, true, false, cond, refl, sym, ap, arith, List, [], ◌∷◌, ◌++◌, drop, get_or, length, map, take, take_all, Option, Some, None, codes}
use Rattle.std.specs.Prelude.{⊤, is_some, nat_le}
use Rattle.std.specs.List.{list_all}
use Rattle.std.proofs.lemmas.Bool.Decides.{nat_tests}
use Rattle.std.specs.Option.{option_and_then, option_map, option_or}
use Rattle.std.specs.Borrow.{Bor}
use Rattle.std.specs.Str.{bytes_eq}
use Rattle.std.proofs.lemmas.List.Folds.{find-append}
use Rattle.std.proofs.lemmas.Slice.Eq.{bytes_eq-Decides}
use Rattle.clap.specs.Walk.{Text, texts}
use Rattle.command_words.specs.declared.command.Ask.{Ask}
use Rattle.command_words.specs.declared.command.Where.{Where}
use Rattle.command_words.specs.declared.command.Where.TheVariants.{Book, Folder}
use Rattle.command_words.specs.Commands.{Row, Shape, asked, asks, book_rows, command_named, fits, folder_rows, in_book, list_row, named_rows, row_of, rows, session_rows, work_with}

-- a row that takes at most two values, so none asks for anything with more
abbrev is_short : Row → Bool
is_short row = cond row.shape.more false (nat_le (row.shape.wanted + row.shape.spare) 2)

too_many : (wanted spare n : ℕ) (more : Bool) → 3 ≤ n → cond more false (nat_le (wanted + spare) 2) ≡ true
    → fits (record { wanted = wanted; spare = spare; more = more }) n ≡ false
too_many wanted spare n true many short = cc
too_many wanted spare n false many short = grind (arith, nat_tests, many, short)

pub none_asked : (table : List Row) (name : List ℕ) (values : List (List ℕ)) → 3 ≤ length values → list_all is_short table ≡ true
    → None ≡ asked table name values
none_asked [] name values many short = refl
none_asked (row ∷ rest) name values many short = go (is_short row) refl (bytes_eq name row.name) (none_asked rest name values many) short
  where
    go : (is : Bool) → is_short row ≡ is → (found : Bool) → (list_all is_short rest ≡ true → None ≡ asked rest name values)
        → (is && list_all is_short rest) ≡ true
        → None ≡ option_and_then (λ (r : Row). asks r values) (cond found (Some row) (row_of rest name))
    go false s found later e = cc
    go true s true later e = rw (too_many row.shape.wanted row.shape.spare (length values) row.shape.more many s) refl
    go true s false later e = later e

-- a table and one behind it
pub asked_first : (front back : List Row) (name : List ℕ) (values : List (List ℕ)) → is_some (row_of front name) ≡ true
    → asked front name values ≡ asked (front ++ back) name values
asked_first front back name values is = rw (find-append (λ (row : Row). bytes_eq name row.name) front back) (go (row_of front name) is)
  where
    go : (o : Option Row) → is_some o ≡ true
        → option_and_then (λ (r : Row). asks r values) o ≡ option_and_then (λ (r : Row). asks r values) (option_or o (row_of back name))
    go (Some row) is = refl
    go None is = cc

pub asked_behind : (front back : List Row) (name : List ℕ) (values : List (List ℕ)) → is_some (row_of front name) ≡ false
    → asked back name values ≡ asked (front ++ back) name values
asked_behind front back name values is = rw (find-append (λ (row : Row). bytes_eq name row.name) front back) (go (row_of front name) is)
  where
    go : (o : Option Row) → is_some o ≡ false
        → asked back name values ≡ option_and_then (λ (r : Row). asks r values) (option_or o (row_of back name))
    go (Some row) is = cc
    go None is = refl

-- ---- behind `book-`

-- a row of the book is the one whose name stands behind
pub row_in_book : (table : List Row) (name : List ℕ)
    → row_of (map in_book table) (codes "book-" ++ name) ≡ option_map in_book (row_of table name)
row_in_book [] name = refl
row_in_book (row ∷ rest) name = go (bytes_eq name row.name) (row_in_book rest name)
  where
    go : (is : Bool) → row_of (map in_book rest) (codes "book-" ++ name) ≡ option_map in_book (row_of rest name)
        → cond is (Some (in_book row)) (row_of (map in_book rest) (codes "book-" ++ name))
        ≡ option_map in_book (cond is (Some row) (row_of rest name))
    go true later = refl
    go false later = later

-- it takes one value more, the name of the session
fits_none : (shape : Shape) → fits (record shape { wanted = shape.wanted + 1 }) 0 ≡ false
fits_none shape = grind (arith, nat_tests)

fits_more : (shape : Shape) (n : ℕ) → fits shape n ≡ fits (record shape { wanted = shape.wanted + 1 }) (suc n)
fits_more shape n = grind (arith, nat_tests)

pub named_without : (table : List Row) (name : List ℕ) → None ≡ asked (map in_book table) (codes "book-" ++ name) []
named_without table name = rw (row_in_book table name) (go (row_of table name))
  where
    go : (o : Option Row) → None ≡ option_and_then (λ (r : Row). asks r []) (option_map in_book o)
    go None = refl
    go (Some row) = rw (fits_none row.shape) refl

pub named_with : (table : List Row) (name under : List ℕ) (values : List (List ℕ))
    → asked table name values ≡ asked (map in_book table) (codes "book-" ++ name) (under ∷ values)
named_with table name under values = rw (row_in_book table name) (go (row_of table name))
  where
    go : (o : Option Row)
        → option_and_then (λ (r : Row). asks r values) o ≡ option_and_then (λ (r : Row). asks r (under ∷ values)) (option_map in_book o)
    go None = refl
    go (Some row) = ap (λ (takes : Bool). cond takes (row.read values) None) (fits_more row.shape (length values))

-- the list's name is none behind which another stands
pub not_list : (name : List ℕ) (values : List (List ℕ)) → (name ≡ codes "list" → ⊥)
    → asked (map in_book named_rows) (codes "book-" ++ name) values ≡ asked book_rows (codes "book-" ++ name) values
not_list name values other = go (bytes_eq name (codes "list")) refl
  where
    go : (is : Bool) → bytes_eq name (codes "list") ≡ is
        → asked (map in_book named_rows) (codes "book-" ++ name) values
        ≡ option_and_then (λ (r : Row). asks r values) (cond is (Some list_row) (row_of (map in_book named_rows) (codes "book-" ++ name)))
    go true e = absurd (other ((bytes_eq-Decides name (codes "list")).0 e))
    go false e = refl

-- a first value, and those behind it
pub one_and_more : (xs : List (Bor Text)) (d : Bor Text) → 1 ≤ length xs
    → texts xs ≡ (get_or xs 0 d).now ∷ texts (take (length xs - 1) (drop 1 xs))
one_and_more [] d h = absurd (omega arith)
one_and_more (a ∷ rest) d h = ap (λ behind. a.now ∷ texts behind) (sym (take_all (length (a ∷ rest) - 1) rest (omega arith)))

-- ---- all rows

-- each row of a table is at this place
abbrev AreAt : Where → List Row → Type 0
AreAt place [] = ⊤
AreAt place (row ∷ rest) = (row.place ≡ place) × AreAt place rest

work_at : (place : Where) (table : List Row) (name : List ℕ) (values : List (List ℕ)) → AreAt place table
    → option_map (work_with place values) (asked table name values) ≡ command_named table name values
work_at place [] name values at = refl
work_at place (row ∷ rest) name values at = go (bytes_eq name row.name) (work_at place rest name values at.1)
  where
    go : (is : Bool) → option_map (work_with place values) (asked rest name values) ≡ command_named rest name values
        → option_map (work_with place values) (option_and_then (λ (r : Row). asks r values) (cond is (Some row) (row_of rest name)))
        ≡ option_and_then (λ (r : Row). option_map (work_with r.place values) (asks r values)) (cond is (Some row) (row_of rest name))
    go true later = ap (λ q. option_map (work_with q values) (asks row values)) (sym at.0)
    go false later = later

pub booked_is : (ask : Option Ask) (name : List ℕ) (values : List (List ℕ)) → ask ≡ asked book_rows (codes "book-" ++ name) values
    → option_map (work_with Book values) ask ≡ command_named rows (codes "book-" ++ name) values
booked_is ask name values is =
    ap (option_map (work_with Book values)) is
    ∙ work_at Book book_rows (codes "book-" ++ name) values
    (refl, (refl, (refl, (refl, (refl, (refl, (refl, (refl, (refl, (refl, tt))))))))))

-- no name of the book's rows is one without `book-`
module _ (name : List ℕ) (apart : (rest : List ℕ) → name ≢ codes "book-" ++ rest) where
  differs : (rest : List ℕ) → bytes_eq name (codes "book-" ++ rest) ≡ false
  differs rest = go (bytes_eq name (codes "book-" ++ rest)) refl
    where
      go : (is : Bool) → bytes_eq name (codes "book-" ++ rest) ≡ is → is ≡ false
      go true e = absurd (apart rest ((bytes_eq-Decides name (codes "book-" ++ rest)).0 e))
      go false e = refl

  none_booked : (table : List Row) → row_of (map in_book table) name ≡ None
  none_booked [] = refl
  none_booked (row ∷ rest) = rw (differs row.name) (none_booked rest)

  none_of_book : row_of book_rows name ≡ None
  none_of_book = rw (differs (codes "list")) (none_booked named_rows)

  apart_is : (front back : List Row) (values : List (List ℕ)) → row_of back name ≡ None
      → command_named front name values ≡ command_named (front ++ back) name values
  apart_is front back values none = rw (find-append (λ (row : Row). bytes_eq name row.name) front back, none) (go (row_of front name))
    where
      go : (o : Option Row) → option_and_then (λ (r : Row). option_map (work_with r.place values) (asks r values)) o
          ≡ option_and_then (λ (r : Row). option_map (work_with r.place values) (asks r values)) (option_or o None)
      go (Some row) = refl
      go None = refl

  pub here_is : (ask : Option Ask) (values : List (List ℕ)) → ask ≡ asked (session_rows ++ folder_rows) name values
      → option_map (work_with Folder values) ask ≡ command_named rows name values
  here_is ask values is =
      ap (option_map (work_with Folder values)) is
      ∙ work_at Folder (session_rows ++ folder_rows) name values
      (refl, (refl, (refl, (refl, (refl, (refl, (refl, (refl, (refl, (refl, (refl, (refl, (refl, (refl, (refl, (refl, (refl, (refl, (refl, (refl, tt))))))))))))))))))))
      ∙ apart_is (session_rows ++ folder_rows) book_rows values none_of_book
