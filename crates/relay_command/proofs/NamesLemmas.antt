-- Words that are looked at one after the other.
use Rattle.std.proofs.Common.{◌≡◌, inl, inr, ℕ, zero, suc, ◌+◌, ◌<◌, ◌≤◌, Bool, true, false, List, [], ◌∷◌, length, map, take, Option, Some, None, get_or, length-take, ltb-true, refl, sym, ◌∙◌, ap, subst, arith}
use Rattle.std.specs.Prelude.{slice_get, ◌&&◌, not, nat_lt, if◌then◌else◌}
use Rattle.std.specs.Borrow.{Bor}
use Rattle.std.proofs.lemmas.Option.{slice_get-get_or, slice_get_within}
use Rattle.relay_core.specs.declared.spec.BoxSpec.{BoxSpec}
use Rattle.relay_core.specs.declared.limits.TheConstants.{RELAY_LIMIT}
use Rattle.std.proofs.lemmas.Bool.{cases_eq, and_parts}
use Rattle.std.proofs.lemmas.List.{length-map, take-map}
use Rattle.relay_command.specs.BoxWords.{name_in, says_box, spec_in}
use Rattle.relay_command.specs.Names.{AreBoxNames, AreNames, IsFirstBad, is_among, is_box_name}

pub get-map : {A B : Type 0} (f : A → B) (xs : List A) (k : ℕ) (x : A) → slice_get xs k ≡ Some x → slice_get (map f xs) k ≡ Some (f x)
get-map {A} f [] k x is = absurd (let e : None ≡ Some x = is in cc)
get-map {A} f (y ∷ xs) zero x is = let e : y ≡ x = let g : Some y ≡ Some x = is in cc in ap (λ (z : A). Some (f z)) e
get-map f (y ∷ xs) (suc k) x is = get-map f xs k x is

-- one word more names a box
pub name_more : (words : List (List ℕ)) (k : ℕ) (word : List ℕ) → AreBoxNames k words → slice_get words k ≡ Some word → is_box_name (take k words) word ≡ true → AreBoxNames (k + 1) words
name_more words k word so here is j other less there = elim (cases_eq j k) [
  | inl same ↦
      let e : Some word ≡ Some other = sym here ∙ subst (λ (m : ℕ). slice_get words m ≡ Some other) same there in
      let f : word ≡ other = cc in
      subst (λ (w : List ℕ). is_box_name (take j words) w ≡ true) f (subst (λ (m : ℕ). is_box_name (take m words) word ≡ true) (sym same) is)
  | inr apart ↦ so j other (omega (arith, less, apart)) there
]

pub first_bad : (words : List (List ℕ)) (k : ℕ) (word : List ℕ) → AreBoxNames k words → slice_get words k ≡ Some word → is_box_name (take k words) word ≡ false → IsFirstBad words (k + 1)
first_bad words k word so here bad = record { place = k; word = word; number_is = refl; before = so; here = here; bad = bad }

-- after as many names as a relay has room for no word names a box
few_of : (a b c : Bool) → (a && (b && c)) ≡ true → c ≡ true
few_of true true c is = is
few_of true false c is = absurd (let e : false ≡ true = is in cc)
few_of false b c is = absurd (let e : false ≡ true = is in cc)

pub has_room : (before : List (List ℕ)) (word : List ℕ) → is_box_name before word ≡ true → length before < RELAY_LIMIT
unfolding is_box_name
has_room before word is = ltb-true (length before) RELAY_LIMIT (few_of (says_box word) (not (is_among before (name_in word))) (nat_lt (length before) RELAY_LIMIT) is)

-- ---- the word at a place, as code reads it

abbrev texts : List (Bor (List ℕ)) → List (List ℕ)
texts = map (λ w. w.now)

module _ (words : List (Bor (List ℕ))) (k : ℕ) (d : Bor (List ℕ)) (is : Bool) (inside : k < length words) (so : AreBoxNames k (texts words))
    (tested : is ≡ is_box_name (texts (take k words)) (get_or words k d).now) where
  there : slice_get (texts words) k ≡ Some (get_or words k d).now
  there = get-map (λ w. w.now) words k (get_or words k d) (slice_get-get_or words k d inside)

  as_taken : is_box_name (take k (texts words)) (get_or words k d).now ≡ is
  as_taken = ap (λ (before : List (List ℕ)). is_box_name before (get_or words k d).now) (take-map (λ w. w.now) k words) ∙ sym tested

  pub is_bad : is ≡ false → IsFirstBad (texts words) (k + 1)
  is_bad fails = first_bad (texts words) k (get_or words k d).now so there (as_taken ∙ fails)

  pub is_named : is ≡ true → AreBoxNames (k + 1) (texts words)
  is_named passes = name_more (texts words) k (get_or words k d).now so there (as_taken ∙ passes)

  pub are_few : is ≡ true → k + 1 ≤ RELAY_LIMIT
  are_few passes =
      let room = has_room (texts (take k words)) (get_or words k d).now (sym tested ∙ passes) in
      omega (arith, room, length-map {A = Bor (List ℕ)} (take k words) (λ w. w.now), length-take k words, inside)

pub all_named : (words : List (Bor (List ℕ))) (k : ℕ) → length words ≤ k → AreBoxNames k (texts words) → AreNames (texts words)
all_named words k most so j word here = so j word (let i = slice_get_within (texts words) j word here in omega (arith, i, most, length-map {A = Bor (List ℕ)} words (λ w. w.now))) here

says_of : (before : List (List ℕ)) (word : List ℕ) → is_box_name before word ≡ true → says_box word ≡ true
unfolding is_box_name
says_of before word is = (and_parts (says_box word) (not (is_among before (name_in word)) && nat_lt (length before) RELAY_LIMIT) is).0

pub word_says : (words : List (Bor (List ℕ))) (k : ℕ) (d : Bor (List ℕ)) → k < length words → AreNames (texts words) → says_box (get_or words k d).now ≡ true
word_says words k d inside all =
    says_of (take k (texts words)) (get_or words k d).now (all k (get_or words k d).now (get-map (λ w. w.now) words k (get_or words k d) (slice_get-get_or words k d inside)))

-- such a word isn't without a box
pub none_said : (word seen : List ℕ) (read : Option BoxSpec) → read ≡ (if says_box seen then Some (spec_in seen) else None)
    → read ≡ None → seen ≡ word → says_box word ≡ true → ⊥
none_said word seen read is none same says = by_said (says_box seen) (ap says_box same ∙ says) (sym is ∙ none)
  where
    said : Bool → Option BoxSpec
    said b = if b then Some (spec_in seen) else None

    by_said : (b : Bool) → b ≡ true → said b ≡ None → ⊥
    by_said true p q = let e : (let o : Option BoxSpec = Some (spec_in seen) in o) ≡ None = q in cc
    by_said false p q = let e : false ≡ true = p in cc
