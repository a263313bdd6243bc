-- What the rules say, and what follows over requests and crashes.
use Rattle.std.proofs.Common.{◌≡◌, ℕ, ◌<◌, ◌≤◌, Bool, true, false, List, [], ◌∷◌, ◌++◌, Option, Some, None, Result, Ok, Err, refl, sym, ◌∙◌, ap, subst, arith}
use Rattle.std.specs.Prelude.{nat_lt, if◌then◌else◌}
use Rattle.std.proofs.lemmas.Bool.Decides.{Decides-ltb}
use Rattle.std.proofs.lemmas.Slice.Eq.{bytes_eq-Decides}
use Rattle.relay_guard.specs.Guards.{Token, key_of, last_of, with_last, token_tag, judged, is_tagged, no_token, wrong_tag, old_counter}
use Rattle.relay_guard.specs.Histories.{Call, Happening, answers, cuts, verdict, guard_after, next_guard, guard_in, same_role, counter_served, counter_told, counters_told, RisesBetween, IsServed, RulesHold, StaysDenied}
use Rattle.relay_guard.specs.declared.guard.Denied.{Denied}
use Rattle.relay_guard.specs.declared.guard.Guard.{Guard}
use Rattle.relay_guard.specs.declared.guard.Role.{Role}
use Rattle.relay_guard.specs.declared.guard.Role.TheVariants.{Owner, Poster}

-- ---- one request

unserved : (d : Denied) (next : Guard) → (P : Type 0) → (let r : Result Guard Denied = Err d in r) ≡ Ok next → P
unserved d next P h = absurd (let e : (let r : Result Guard Denied = Err d in r) ≡ Ok next = h in cc)

-- both tests passed
both_passed : (t u : Bool) (g next : Guard) (d e : Denied) → (if t then (if u then Ok g else Err d) else Err e) ≡ Ok next
    → (t ≡ true) × (u ≡ true) × (next ≡ g)
both_passed true true g next d e h = (refl, refl, (let s : (let r : Result Guard Denied = Ok g in r) ≡ Ok next = h in cc))
both_passed true false g next d e h = unserved d next ((true ≡ true) × (false ≡ true) × (next ≡ g)) h
both_passed false u g next d e h = unserved e next ((false ≡ true) × (u ≡ true) × (next ≡ g)) h

passing : (t u : Bool) (g : Guard) (d e : Denied) → t ≡ true → u ≡ true → (if t then (if u then Ok g else Err d) else Err e) ≡ Ok g
passing true true g d e _ _ = refl
passing true false g d e _ w = absurd (let f : false ≡ true = w in cc)
passing false u g d e w _ = absurd (let f : false ≡ true = w in cc)

record Passed (guard : Guard) (role : Role) (token : Token) (request : List ℕ) (next : Guard) : Type 0 where
  tag : token.tag ≡ token_tag (key_of guard role) token.counter request
  above : last_of guard role < token.counter
  next_is : next ≡ with_last guard role token.counter

from_judged : (guard : Guard) (role : Role) (token : Token) (request : List ℕ) (next : Guard) → judged guard role (Some token) request ≡ Ok next
    → Passed guard role token request next
unfolding judged
from_judged guard role token request next h =
    let both = both_passed (is_tagged guard role token request) (nat_lt (last_of guard role) token.counter) (with_last guard role token.counter) next
    (old_counter (last_of guard role)) wrong_tag h in
    record {
      tag = (bytes_eq-Decides token.tag (token_tag (key_of guard role) token.counter request)).0 both.0;
      above = (Decides-ltb (last_of guard role) token.counter).0 both.1;
      next_is = both.2;
    }

pub to_judged : (guard : Guard) (role : Role) (token : Token) (request : List ℕ) → token.tag ≡ token_tag (key_of guard role) token.counter request
    → last_of guard role < token.counter → judged guard role (Some token) request ≡ Ok (with_last guard role token.counter)
unfolding judged
to_judged guard role token request tag above =
    passing (is_tagged guard role token request) (nat_lt (last_of guard role) token.counter) (with_last guard role token.counter)
    (old_counter (last_of guard role)) wrong_tag
    ((bytes_eq-Decides token.tag (token_tag (key_of guard role) token.counter request)).1 tag)
    ((Decides-ltb (last_of guard role) token.counter).1 above)

without_token : (guard next : Guard) (role : Role) (request : List ℕ) (P : Type 0) → judged guard role None request ≡ Ok next → P
unfolding judged
without_token guard next role request P h = unserved no_token next P h

pub served : (guard : Guard) (role : Role) (token : Option Token) (request : List ℕ) (next : Guard)
    → judged guard role token request ≡ Ok next → IsServed guard (record { role = role; token = token; request = request }) next
served guard role None request next h = without_token guard next role request _ h
served guard role (Some token) request next h =
    let p = from_judged guard role token request next h in
    record { token = token; there = refl; tag = p.tag; above = p.above; next_is = p.next_is }

serves : (guard : Guard) (call : Call) (next : Guard) → IsServed guard call next → verdict guard call ≡ Ok next
serves guard call next is =
    ap (λ (t : Option Token). judged guard call.role t call.request) is.there
    ∙ to_judged guard call.role is.token call.request is.tag is.above ∙ ap (λ (g : Guard). let r : Result Guard Denied = Ok g in r) (sym is.next_is)

pub rules_hold : (guard : Guard) (call : Call) → RulesHold guard call
rules_hold guard call = record { served = λ next. (served guard call.role call.token call.request next, serves guard call next) }

-- ---- what a guard is after a call

-- the role's own counter is the new one, the other's stays, and so do the keys
pub last-own : (guard : Guard) (role : Role) (n : ℕ) → last_of (with_last guard role n) role ≡ n
last-own guard Owner n = refl
last-own guard Poster n = refl

last-other : (guard : Guard) (role other : Role) (n : ℕ) → same_role role other ≡ false → last_of (with_last guard other n) role ≡ last_of guard role
last-other guard Owner Owner n h = absurd (let f : true ≡ false = h in cc)
last-other guard Owner Poster n h = refl
last-other guard Poster Owner n h = refl
last-other guard Poster Poster n h = absurd (let f : true ≡ false = h in cc)

pub own_role : (role other : Role) → same_role role other ≡ true → role ≡ other
own_role Owner Owner h = refl
own_role Owner Poster h = absurd (let f : false ≡ true = h in cc)
own_role Poster Owner h = absurd (let f : false ≡ true = h in cc)
own_role Poster Poster h = refl

key-with_last : (guard : Guard) (role other : Role) (n : ℕ) → key_of (with_last guard other n) role ≡ key_of guard role
key-with_last guard Owner Owner n = refl
key-with_last guard Owner Poster n = refl
key-with_last guard Poster Owner n = refl
key-with_last guard Poster Poster n = refl

-- how a counter goes on: it stays or rises, and where a counter is told it is the new one
pub record GoesOn (role : Role) (guard next : Guard) (told : List ℕ) : Type 0 where
  pub rises : last_of guard role ≤ last_of next role
  pub told_is : (rest : List ℕ) (high : ℕ) → RisesBetween (last_of next role) high rest → RisesBetween (last_of guard role) high (told ++ rest)
  pub key : (r : Role) → key_of next r ≡ key_of guard r

higher : (low high higher : ℕ) (list : List ℕ) → low ≤ high → RisesBetween high higher list → RisesBetween low higher list
higher low high top [] le h = omega (arith, h)
higher low high top (n ∷ more) le h = (omega (arith, h.0), h.1)

pub still : (role : Role) (guard : Guard) → GoesOn role guard guard []
still role guard = record { rises = omega arith; told_is = λ rest high h. h; key = λ r. refl }

module _ (role other : Role) (guard : Guard) (n : ℕ) (above : last_of guard other < n) where
  -- under another role's key
  elsewhere : same_role role other ≡ false → GoesOn role guard (with_last guard other n) []
  elsewhere apart =
      let same = last-other guard role other n apart in
      record {
        rises = omega (arith, same);
        told_is = λ rest high h. subst (λ low. RisesBetween low high rest) same h;
        key = λ r. key-with_last guard r other n;
      }

  -- under the role's own
  here : same_role role other ≡ true → (told : List ℕ) → (told ≡ last_of (with_last guard other n) role ∷ []) → GoesOn role guard (with_last guard other n) told
  here is told told_is =
      let same : role ≡ other = own_role role other is in
      let own : last_of (with_last guard other n) role ≡ n = ap (λ (r : Role). last_of (with_last guard other n) r) same ∙ last-own guard other n in
      let before : last_of guard role < n = subst (λ (r : Role). last_of guard r < n) (sym same) above in
      record {
        rises = omega (arith, own);
        told_is = λ rest high h. subst (λ (t : List ℕ). RisesBetween (last_of guard role) high (t ++ rest)) (sym told_is) (omega (arith, own), h);
        key = λ r. key-with_last guard r other n;
      }

  -- the counter that is told, by whether the role is the call's
  by_role : (is : Bool) → same_role role other ≡ is
      → GoesOn role guard (with_last guard other n) (if is then last_of (with_last guard other n) role ∷ [] else [])
  by_role true is = here is _ refl
  by_role false is = elsewhere is

  not_told : (is : Bool) → same_role role other ≡ is → GoesOn role guard (with_last guard other n) []
  not_told true is =
      let on = here is _ refl in
      record { rises = on.rises; told_is = λ rest high h. higher _ _ high rest on.rises h; key = on.key }
  not_told false is = elsewhere is

-- a call's verdict, as a variable
module _ (role : Role) (guard : Guard) (call : Call) where
  pub answered : (v : Result Guard Denied) → verdict guard call ≡ v → GoesOn role guard (guard_after guard v) (counter_served role call v)
  answered (Err denied) h = still role guard
  answered (Ok next) h =
      let is = served guard call.role call.token call.request next h in
      subst (λ (g : Guard). GoesOn role guard g (if same_role role call.role then last_of g role ∷ [] else []))
      (sym is.next_is) (by_role role call.role guard is.token.counter is.above (same_role role call.role) refl)

  pub cut : (v : Result Guard Denied) → verdict guard call ≡ v → GoesOn role guard (guard_after guard v) []
  cut (Err denied) h = still role guard
  cut (Ok next) h =
      let is = served guard call.role call.token call.request next h in
      subst (λ (g : Guard). GoesOn role guard g []) (sym is.next_is)
      (not_told role call.role guard is.token.counter is.above (same_role role call.role) refl)

happened : (role : Role) (guard : Guard) (h : Happening) → GoesOn role guard (next_guard guard h) (counter_told role guard h)
happened role guard (answers call) = answered role guard call (verdict guard call) refl
happened role guard (cuts true call) = cut role guard call (verdict guard call) refl
happened role guard (cuts false call) = still role guard

-- ---- over all that happens

pub counters_rise : (role : Role) (guard : Guard) (hs : List Happening)
    → RisesBetween (last_of guard role) (last_of (guard_in guard hs) role) (counters_told role guard hs)
counters_rise role guard [] = omega arith
counters_rise role guard (h ∷ hs) =
    (happened role guard h).told_is (counters_told role (next_guard guard h) hs) (last_of (guard_in (next_guard guard h) hs) role)
    (counters_rise role (next_guard guard h) hs)

pub keeps_keys : (role : Role) (guard : Guard) (hs : List Happening) → key_of (guard_in guard hs) role ≡ key_of guard role
keeps_keys role guard [] = refl
keeps_keys role guard (h ∷ hs) = keeps_keys role (next_guard guard h) hs ∙ (happened role guard h).key role

last_rises : (role : Role) (guard : Guard) (hs : List Happening) → last_of guard role ≤ last_of (guard_in guard hs) role
last_rises role guard [] = omega arith
last_rises role guard (h ∷ hs) = omega (arith, (happened role guard h).rises, last_rises role (next_guard guard h) hs)

pub stays_denied : (guard : Guard) (hs : List Happening) → StaysDenied guard hs
stays_denied guard hs role token request next low h =
    let p = from_judged (guard_in guard hs) role token request next h in
    absurd (omega (arith, p.above, last_rises role guard hs))
