-- The names of a fan, and the list of their sessions.
use Rattle.std.proofs.Common.{Err, List, Ok, Result, [], ap, arith, get_or, length, map, refl, subst, sym, ℕ, ◌+◌, ◌<◌, ◌≤◌, ◌∙◌, ◌∷◌, ◌≡◌}
use Rattle.std.proofs.lemmas.List.{get_or-map, length-map, length_push}
use Rattle.std.specs.Borrow.{Bor}
use Rattle.session_model.specs.Clients.{Client}
use Rattle.book_model.specs.Rows.{Rows}
use Rattle.book.specs.Fanning.{AddsTo}
use Rattle.book.specs.declared.fans.list.FanAddError.{FanAddError}
use Rattle.book.specs.declared.fans.list.FanAddError.TheVariants.{FanFull, NoName, Twice}
use Rattle.book_commands.specs.Fanning.{AddsInTurn, AreAdded, none_added, one_more}

-- a word that is lent, where there is none
abbrev pub no_word : Bor (List ℕ)
no_word = record { ref_ptr = (0, 0); now = [] }

-- a list of words, and the words
abbrev pub texts : List (Bor (List ℕ)) → List (List ℕ)
texts words = map (λ word. word.now) words

pub text_at : (words : List (Bor (List ℕ))) (i : ℕ) → i < length words
    → get_or (texts words) i [] ≡ (get_or words i no_word).now
text_at words i lt = get_or-map (λ (word : Bor (List ℕ)). word.now) words i no_word [] lt

module _ (words : List (Bor (List ℕ))) (sessions : Rows Client) (i : ℕ) (list : List ℕ)
    (lt : i < length words) (added : AreAdded (texts words) sessions i list) where
  abbrev Adds : List ℕ → Result Unit FanAddError → Type 0
  Adds next result = AddsTo (get_or words i no_word).now sessions list next result

  -- one more is added
  pub added_more : (next : List ℕ) → Adds next (Ok tt) → AreAdded (texts words) sessions (i + 1) next
  added_more next adds = one_more i list next added
      (subst (λ (n : List ℕ). AddsTo n sessions list next (Ok tt)) (sym (text_at words i lt)) adds)

  -- or isn't
  pub not_added : (next : List ℕ) (error : FanAddError) → Adds next (Err error)
      → AddsInTurn (texts words) sessions next (Err error)
  not_added next error adds =
      subst (λ (l : List ℕ). AddsInTurn (texts words) sessions l (Err error)) (sym (stays next error adds)) (
        i,
        omega (arith, lt, length-map {A = Bor (List ℕ)} words (λ w. w.now)),
        added,
        subst (λ (n : List ℕ). AddsTo n sessions list list (Err error)) (sym (text_at words i lt))
            (subst (λ (l : List ℕ). AddsTo (get_or words i no_word).now sessions list l (Err error))
            (stays next error adds) adds),
      )
    where
      stays : (next : List ℕ) (error : FanAddError) → Adds next (Err error) → next ≡ list
      stays next NoName adds = adds.1
      stays next Twice adds = adds.3
      stays next FanFull adds = adds.4

-- all are
pub all_added : (words : List (Bor (List ℕ))) (sessions : Rows Client) (i : ℕ) (list : List ℕ)
    → length words ≤ i → i ≤ length words → AreAdded (texts words) sessions i list
    → AddsInTurn (texts words) sessions list (Ok tt)
all_added words sessions i list most least added =
    subst (λ n. AreAdded (texts words) sessions n list)
    (let e : i ≡ length (texts words) =
    omega (arith, most, least, length-map {A = Bor (List ℕ)} words (λ w. w.now)) in e) added

module _ (names : List (List ℕ)) (sessions : Rows Client) where
  pub added_long : (n : ℕ) (list : List ℕ) → AreAdded names sessions n list → length list ≡ n
  added_long n list none_added = refl
  added_long n list (one_more m before next added adds) =
      ap length adds.4 ∙ length_push before adds.0 ∙ ap (λ i. i + 1) (added_long m before added)

  -- where none is listed, there is no name
  pub none_named : (list : List ℕ) → AddsInTurn names sessions list (Ok tt) → list ≡ [] → names ≡ []
  none_named list added none = by names (sym (added_long (length names) list added) ∙ ap length none)
    where
      by : (l : List (List ℕ)) → length l ≡ 0 → l ≡ []
      by [] is = refl
      by (n ∷ l) is = absurd (omega (arith, is))
