-- What the code says of a request, from what its calls answered.
use Rattle.std.proofs.Common.{◌≡◌, ℕ, ◌<◌, Bool, true, false, List, Option, Some, Ok, Err, refl, sym, ◌∙◌, ap, subst}
use Rattle.std.specs.Prelude.{if◌then◌else◌, nat_lt, not, Result}
use Rattle.std.specs.Str.{bytes_eq}
use Rattle.std.proofs.lemmas.Slice.Eq.{bytes_eq-Decides}
use Rattle.relay_guard.specs.Guards.{Token, is_tagged, judged, key_of, last_of, old_counter, token_tag, with_last, wrong_tag}
use Rattle.relay_guard.specs.declared.guard.Denied.{Denied}
use Rattle.relay_guard.specs.declared.guard.Guard.{Guard}
use Rattle.relay_guard.specs.declared.guard.Role.{Role}
use Rattle.relay_guard.proofs.Rising.{to_judged}

same_where : (is differs : Bool) → differs ≡ not is → differs ≡ false → is ≡ true
same_where true differs e f = refl
same_where false differs e f = absurd (let g : true ≡ false = sym e ∙ f in cc)

other_where : (is differs : Bool) → differs ≡ not is → differs ≡ true → is ≡ false
other_where true differs e f = absurd (let g : false ≡ true = sym e ∙ f in cc)
other_where false differs e f = refl

otherwise : (is : Bool) (x y : Result Guard Denied) → is ≡ false → (if is then x else y) ≡ y
otherwise true x y e = absurd (let f : true ≡ false = e in cc)
otherwise false x y e = refl

untagged : (guard : Guard) (role : Role) (token : Token) (request : List ℕ)
    → bytes_eq token.tag (token_tag (key_of guard role) token.counter request) ≡ false
    → judged guard role (Some token) request ≡ Err wrong_tag
unfolding judged
untagged guard role token request other = otherwise (is_tagged guard role token request)
    (if nat_lt (last_of guard role) token.counter then Ok (with_last guard role token.counter) else Err (old_counter (last_of guard role)))
    (Err wrong_tag) other

module _ (guard : Guard) (role : Role) (given : Option Token) (token : Token) (request tag : List ℕ) (differs : Bool)
    (is : given ≡ Some token) (tag_is : tag ≡ token_tag (key_of guard role) token.counter request)
    (compared : differs ≡ not (bytes_eq token.tag tag)) where
  -- the tag is another
  pub denies_tag : differs ≡ true → judged guard role given request ≡ Err wrong_tag
  denies_tag other = ap (λ (t : Option Token). judged guard role t request) is
      ∙ untagged guard role token request
      (ap (bytes_eq token.tag) (sym tag_is) ∙ other_where (bytes_eq token.tag tag) differs compared other)

  -- the tag is the key's, and the counter above the last one
  pub serves_token : differs ≡ false → (last : ℕ) → last ≡ last_of guard role → last < token.counter
      → (next : Guard) → next ≡ with_last guard role token.counter → judged guard role given request ≡ Ok next
  serves_token same last last_is above next next_is = ap (λ (t : Option Token). judged guard role t request) is
      ∙ to_judged guard role token request
      ((bytes_eq-Decides token.tag tag).0 (same_where (bytes_eq token.tag tag) differs compared same) ∙ tag_is)
      (subst (λ (n : ℕ). n < token.counter) last_is above)
      ∙ ap (λ (g : Guard). let r : Result Guard Denied = Ok g in r) (sym next_is)
