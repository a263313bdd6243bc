-- What stands, as positions are done.
use Rattle.std.proofs.Common.{◌≡◌, ℕ, Bool, true, false, not, List, [], ◌∷◌, ◌++◌, take, drop, refl, sym, ◌∙◌, ap, inl, inr}
use Rattle.std.specs.Prelude.{◌&&◌, ◌||◌, filter, if◌then◌else◌}
use Rattle.std.proofs.lemmas.Bool.{cases_Bool}
use Rattle.std.proofs.lemmas.List.Elements.{All-append, All-filter, All-take, All-weaker, filter-append}
use Rattle.std.proofs.lemmas.List.Folds.{list_any-append}
use Rattle.bodies.proofs.Enough.{none_first}
use Rattle.dr_base.specs.Position.{is_at}
use Rattle.dr_base.specs.declared.position.Position.{Position}
use Rattle.dr_model.specs.Conversations.Standing.{AreApart, AreDone, done_first, done_which, is_in, standing}
use Rattle.dr_model.proofs.Growth.Apart.{all_in, any_all, apart_append, apart_filter, apart_take, filter_alike, filter_none, in_filter, without_first}

not_either : (a b : Bool) → not (a || b) ≡ (not a && not b)
not_either true b = refl
not_either false b = refl

none_of : (a b : Bool) → a ≡ true → (not a && b) ≡ false
none_of true b is = refl
none_of false b is = absurd (let e : false ≡ true = is in cc)

-- two tests, one after the other
filter_both : (f g : Position → Bool) (list : List Position) → filter (λ p. f p && g p) list ≡ filter g (filter f list)
filter_both f g [] = refl
filter_both f g (q ∷ list) = by_test (f q) (filter_both f g list)
  where
    by_test : (t : Bool) → filter (λ p. f p && g p) list ≡ filter g (filter f list)
        → (if t && g q then q ∷ filter (λ p. f p && g p) list else filter (λ p. f p && g p) list)
        ≡ filter g (if t then q ∷ filter f list else filter f list)
    by_test true later = ap (λ (l : List Position). if g q then q ∷ l else l) later
    by_test false later = later

-- more are done: those stand that stood and aren't among them
stands_of : (arrived done more : List Position)
    → standing arrived (done ++ more) ≡ filter (λ p. not (is_in more p)) (standing arrived done)
stands_of arrived done more =
    filter_alike (λ p. not (is_in (done ++ more) p)) (λ p. not (is_in done p) && not (is_in more p)) arrived
    (λ p is. ap not (list_any-append (is_at p) done more) ∙ not_either (is_in done p) (is_in more p))
    ∙ filter_both (λ p. not (is_in done p)) (λ p. not (is_in more p)) arrived

-- what is done isn't among the first that stand
apart_of_first : (arrived done : List Position) (n : ℕ) (p : Position) → is_in done p ≡ true
    → is_in (take n (standing arrived done)) p ≡ false
apart_of_first arrived done n p is =
    none_first p p (standing arrived done) n
    (in_filter (λ q. not (is_in done q)) arrived p ∙ none_of (is_in done p) (is_in arrived p) is)

-- so many of the oldest that stand are done: the others stand
pub first_leave : (arrived done : List Position) (n : ℕ) → AreApart arrived
    → standing arrived (done_first arrived done n) ≡ drop n (standing arrived done)
first_leave arrived done n apart =
    stands_of arrived done (take n (standing arrived done))
    ∙ without_first (standing arrived done) n (apart_filter (λ p. not (is_in done p)) arrived apart)

pub first_done : (arrived done : List Position) (n : ℕ) → AreApart arrived → AreDone arrived done
    → AreDone arrived (done_first arrived done n)
first_done arrived done n apart are =
    let stood = standing arrived done in
    record {
      once = apart_append done (take n stood) are.once
          (apart_take stood n (apart_filter (λ p. not (is_in done p)) arrived apart)) (apart_of_first arrived done n);
      had = All-append (λ p. is_in arrived p ≡ true) done (take n stood) are.had
          (All-take (λ p. is_in arrived p ≡ true) n stood
          (All-filter (λ p. not (is_in done p)) (λ p. is_in arrived p ≡ true) arrived (all_in arrived)));
    }

-- those that pass a test are done: those that don't pass it stand
pub which_leave : (goes : Position → Bool) (arrived done : List Position)
    → standing arrived (done_which goes arrived done) ≡ filter (λ p. not (goes p)) (standing arrived done)
which_leave goes arrived done =
    let stood = standing arrived done in
    stands_of arrived done (filter goes stood)
    ∙ filter_alike (λ p. not (is_in (filter goes stood) p)) (λ p. not (goes p)) stood
    (λ p is. ap not (in_filter goes stood p ∙ ap (λ b. goes p && b) is ∙ and_true (goes p)))
  where
    and_true : (b : Bool) → (b && true) ≡ b
    and_true true = refl
    and_true false = refl

pub which_done : (goes : Position → Bool) (arrived done : List Position) → AreApart arrived → AreDone arrived done
    → AreDone arrived (done_which goes arrived done)
which_done goes arrived done apart are =
    let stood = standing arrived done in
    record {
      once = apart_append done (filter goes stood) are.once
          (apart_filter goes stood (apart_filter (λ p. not (is_in done p)) arrived apart)) elsewhere;
      had = All-append (λ p. is_in arrived p ≡ true) done (filter goes stood) are.had
          (All-filter goes (λ p. is_in arrived p ≡ true) stood
          (All-filter (λ p. not (is_in done p)) (λ p. is_in arrived p ≡ true) arrived (all_in arrived)));
    }
  where
    elsewhere : (p : Position) → is_in done p ≡ true → is_in (filter goes (standing arrived done)) p ≡ false
    elsewhere p is =
        in_filter goes (standing arrived done) p
        ∙ ap (λ b. goes p && b) (in_filter (λ q. not (is_in done q)) arrived p ∙ none_of (is_in done p) (is_in arrived p) is)
        ∙ and_false (goes p)
      where
        and_false : (b : Bool) → (b && false) ≡ false
        and_false true = refl
        and_false false = refl

-- one more has arrived: it stands last
pub last_stands : (arrived done : List Position) (p : Position) → AreDone arrived done → is_in arrived p ≡ false
    → standing (arrived ++ p ∷ []) done ≡ standing arrived done ++ p ∷ []
last_stands arrived done p are new =
    filter-append (λ q. not (is_in done q)) arrived (p ∷ [])
    ∙ ap (λ (b : Bool). standing arrived done ++ (if not b then p ∷ [] else [])) undone
  where
    undone : is_in done p ≡ false
    undone = elim (cases_Bool (is_in done p)) as (λ _. is_in done p ≡ false) [
      | inl is ↦ absurd (let e : true ≡ false = sym (any_all (λ q. is_in arrived q ≡ true) p done are.had is) ∙ new in cc)
      | inr isnt ↦ isnt
    ]

pub still_done : (arrived done : List Position) (p : Position) → AreDone arrived done → AreDone (arrived ++ p ∷ []) done
still_done arrived done p are = record {
  once = are.once;
  had = All-weaker (λ q. is_in arrived q ≡ true) (λ q. is_in (arrived ++ p ∷ []) q ≡ true)
      (λ q is. list_any-append (is_at q) arrived (p ∷ []) ∙ ap (λ b. b || is_in (p ∷ []) q) is) done are.had;
}

-- where all that arrived is done, none stands
pub none_stands : (arrived : List Position) → standing arrived arrived ≡ []
none_stands arrived = filter_none (λ p. not (is_in arrived p)) arrived (λ p is. ap not is)

pub all_done : (arrived : List Position) → AreApart arrived → AreDone arrived arrived
all_done arrived apart = record { once = apart; had = all_in arrived }
