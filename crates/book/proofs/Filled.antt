-- The rows that are read from a store, one after the other.
use Rattle.std.proofs.Common.{List, None, Option, Some, [], arith, get_or, length, refl, subst, sym, ℕ, ⊎_elim, ◌+◌, ◌<◌, ◌∙◌, ◌∷◌, ◌++◌, ◌≡◌}
use Rattle.std.proofs.lemmas.Bool.{cases_eq}
use Rattle.std.proofs.lemmas.List.{get_or_append_left, get_or_default, get_or_push}
use Rattle.book_model.specs.Rows.{Row, Rows}
use Rattle.book_store.specs.Readers.{HasReadRow, HaveReadRows}
use Rattle.book_store.specs.Shown.{BookRow}
use Rattle.book_store.specs.declared.layout.TheConstants.{BOOK_ROWS}
use Rattle.kem_laws.specs.Mechanism.{Mechanism}
use Rattle.session_model.specs.Clients.{Client}
use Rattle.book.specs.Opening.{IsRowRead}

-- what is true of a value is true of its equal
pub carried : {A : Type 0} {x y : A} → x ≡ y → (P : A → Type 0) → P x → P y
carried is P true_of = subst P is true_of

of_reader : {R : Type 0} (has_read : R → List ℕ → Type 0) (o : Option R) (held : Option BookRow)
    → HasReadRow has_read o held → (reader : R) → o ≡ Some reader
    → (row : BookRow) × (held ≡ Some row) × has_read reader row.text
of_reader has_read None held is reader some = absurd (let e : None ≡ Some reader = some in cc)
of_reader has_read (Some one) None is reader some = absurd is
of_reader has_read (Some one) (Some row) is reader some =
    let same : one ≡ reader = let e : Some one ≡ Some reader = some in cc in
    (row, refl, subst (λ r. has_read r row.text) same is)

of_none : {R : Type 0} (has_read : R → List ℕ → Type 0) (o : Option R) (held : Option BookRow)
    → HasReadRow has_read o held → o ≡ None → held ≡ None
of_none has_read (Some one) held is none = absurd (let e : Some one ≡ None = none in cc)
of_none has_read None None is none = refl
of_none has_read None (Some row) is none = absurd is

module _ {R : Type 0} (has_read : R → List ℕ → Type 0) (first now : List (Option R)) (held : List (Option BookRow))
    (at : ℕ) (lent : Option R) (all : HaveReadRows has_read first held) (long : length now ≡ BOOK_ROWS) (lt : at < BOOK_ROWS)
    (left : get_or now at None ≡ get_or first at None) (value : lent ≡ get_or now at lent) where
  lent_is : get_or first at None ≡ lent
  lent_is = sym left ∙ get_or_default now at None lent (omega (arith, lt, long)) ∙ sym value

  pub read_here : (reader : R) → lent ≡ Some reader
      → (row : BookRow) × (get_or held at None ≡ Some row) × has_read reader row.text
  read_here reader some =
      of_reader has_read (get_or first at None) (get_or held at None) (all.each at lt) reader (lent_is ∙ some)

  pub absent_here : lent ≡ None → get_or held at None ≡ None
  absent_here none = of_none has_read (get_or first at None) (get_or held at None) (all.each at lt) (lent_is ∙ none)

pub filled_next : (k : Mechanism) (held : List (Option BookRow)) (old new : Rows Client) (row : Option (Row Client)) (at : ℕ)
    → length old ≡ at → ((r : ℕ) → r < at → IsRowRead k (get_or held r None) (get_or old r None))
    → new ≡ old ++ row ∷ [] → IsRowRead k (get_or held at None) row
    → (r : ℕ) → r < at + 1 → IsRowRead k (get_or held r None) (get_or new r None)
filled_next k held old new row at long done is here r lt =
    subst (λ (l : Rows Client). IsRowRead k (get_or held r None) (get_or l r None)) (sym is)
    (⊎_elim
    (λ same. subst (λ q. IsRowRead k (get_or held q None) (get_or (old ++ row ∷ []) q None)) (sym same)
    (subst (λ (o : Option (Row Client)). IsRowRead k (get_or held at None) o)
    (sym (get_or_push old row None at (omega (arith, long)))) here))
    (λ other. subst (λ (o : Option (Row Client)). IsRowRead k (get_or held r None) o)
    (sym (get_or_append_left old (row ∷ []) None r (let e : r ≡ at → ⊥ = other in omega (arith, lt, long))))
    (done r (let e : r ≡ at → ⊥ = other in omega (arith, lt))))
    (cases_eq r at))
