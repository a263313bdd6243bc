-- The counters of a guard and of a sync.
use Rattle.std.proofs.Common.{◌≡◌, ℕ, ◌+◌, ◌-◌, ◌^◌, ◌≤◌, Bool, true, false, List, [], ◌∷◌, Option, Some, None, refl, ◌∙◌, ap, arith}
use Rattle.std.specs.Prelude.{⊤, nat_lt, option_map, if◌then◌else◌}
use Rattle.std.specs.Str.{bytes_eq}
use Rattle.std.proofs.lemmas.Bool.Decides.{nat_tests}
use Rattle.relay_guard.specs.Guards.{key_of, last_of, with_last}
use Rattle.relay_guard.specs.Histories.{same_role}
use Rattle.relay_guard.specs.declared.guard.Guard.{Guard}
use Rattle.relay_guard.specs.declared.guard.Role.{Role}
use Rattle.relay_guard.specs.declared.guard.Role.TheVariants.{Owner, Poster}
use Rattle.relay_core.specs.Boxes.{Box}
use Rattle.sync_model.specs.Tokens.{SyncKeys, Tokens, counter_under, next_counter, with_counter}
use Rattle.sync_model.specs.Transfers.{HasCounters, IsGuardedFor, counted, counted_on}

pub same_self : (name : List ℕ) → bytes_eq name name ≡ true
same_self [] = refl
same_self (b ∷ name) = grind (arith, nat_tests, same_self name)

-- ---- guards

-- the counter of the next request is no further than one above the last one that was served
abbrev pub IsReady : ℕ → Role → Option Guard → Type 0
IsReady counter role None = ⊤
IsReady counter role (Some guard) = counter ≤ last_of guard role + 1

pub last_with : (guard : Guard) (role : Role) (n : ℕ) → last_of (with_last guard role n) role ≡ n
last_with guard Owner n = refl
last_with guard Poster n = refl

key_with : (guard : Guard) (role : Role) (n : ℕ) → key_of (with_last guard role n) role ≡ key_of guard role
key_with guard Owner n = refl
key_with guard Poster n = refl

pub still_guarded : (keys : Option SyncKeys) (role : Role) (n : ℕ) (guard : Option Guard) → IsGuardedFor keys role guard → IsGuardedFor keys role (option_map (counted_on role n) guard)
still_guarded None role n None is = tt
still_guarded (Some keys) role n None is = tt
still_guarded None role n (Some guard) is = absurd is
still_guarded (Some keys) role n (Some guard) is = key_with guard role _ ∙ is

pub still_has : (role : Role) (a b : ℕ) (guard : Option Guard) → HasCounters role (a + b) guard → HasCounters role b (option_map (counted_on role a) guard)
still_has role a b None has = tt
still_has role a b (Some guard) has = omega (arith, has, last_with guard role (last_of guard role + a))

pub has_fewer : (role : Role) (a b : ℕ) (guard : Option Guard) → a ≤ b → HasCounters role b guard → HasCounters role a guard
has_fewer role a b None le has = tt
has_fewer role a b (Some guard) le has = omega (arith, le, has)

twice : (role : Role) (a b : ℕ) (guard : Guard) → counted_on role b (counted_on role a guard) ≡ counted_on role (a + b) guard
twice Owner a b guard = ap (λ (n : ℕ). with_last guard Owner n) (let e : (guard.owner_last + a) + b ≡ guard.owner_last + (a + b) = omega arith in e)
twice Poster a b guard = ap (λ (n : ℕ). with_last guard Poster n) (let e : (guard.poster_last + a) + b ≡ guard.poster_last + (a + b) = omega arith in e)

counted_twice : (role : Role) (a b : ℕ) (guard : Option Guard) → option_map (counted_on role b) (option_map (counted_on role a) guard) ≡ option_map (counted_on role (a + b)) guard
counted_twice role a b None = refl
counted_twice role a b (Some guard) = ap (λ (g : Guard). Some g) (twice role a b guard)

pub counts_on : (role : Role) (a b : ℕ) (box : Box) → counted role b (counted role a box) ≡ counted role (a + b) box
counts_on role a b box = ap (λ (g : Option Guard). record box { guard = g }) (counted_twice role a b box.guard)

not_at_all : (role : Role) (guard : Guard) → counted_on role 0 guard ≡ guard
not_at_all Owner guard = ap (λ (n : ℕ). with_last guard Owner n) (let e : guard.owner_last + 0 ≡ guard.owner_last = omega arith in e)
not_at_all Poster guard = ap (λ (n : ℕ). with_last guard Poster n) (let e : guard.poster_last + 0 ≡ guard.poster_last = omega arith in e)

none_counted : (role : Role) (guard : Option Guard) → option_map (counted_on role 0) guard ≡ guard
none_counted role None = refl
none_counted role (Some guard) = ap (λ (g : Guard). Some g) (not_at_all role guard)

pub counts_none : (role : Role) (box : Box) → counted role 0 box ≡ box
counts_none role box = ap (λ (g : Option Guard). record box { guard = g }) (none_counted role box.guard)

next_least : (counter : ℕ) → next_counter counter ≤ counter + 1
next_least counter = by_least (nat_lt counter (2 ^ 64 - 1))
  where
    by_least : (t : Bool) → (if t then counter + 1 else counter) ≤ counter + 1
    by_least true = omega arith
    by_least false = omega arith

pub ready_next : (counter : ℕ) (role : Role) (guard : Option Guard) → IsReady counter role guard → IsReady (next_counter counter) role (option_map (counted_on role 1) guard)
ready_next counter role None ready = tt
ready_next counter role (Some guard) ready = omega (arith, ready, next_least counter, last_with guard role (last_of guard role + 1))

-- ---- counters

pub counter_with : (tokens : Tokens) (role : Role) (n : ℕ) (again : Bool) → counter_under (with_counter tokens role n again) role ≡ n
counter_with tokens Owner n again = refl
counter_with tokens Poster n again = refl

pub other_with : (tokens : Tokens) (role other : Role) (n : ℕ) (again : Bool) → same_role other role ≡ false → counter_under (with_counter tokens role n again) other ≡ counter_under tokens other
other_with tokens Owner Poster n again differ = refl
other_with tokens Poster Owner n again differ = refl
other_with tokens Owner Owner n again differ = absurd (let e : true ≡ false = differ in cc)
other_with tokens Poster Poster n again differ = absurd (let e : true ≡ false = differ in cc)

pub again_with : (tokens : Tokens) (role : Role) (n : ℕ) (again : Bool) → (with_counter tokens role n again).again ≡ again
again_with tokens Owner n again = refl
again_with tokens Poster n again = refl
