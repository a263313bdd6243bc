-- What becomes of a guard over requests, and crashes amid them.
use Rattle.std.specs.Prelude.{◌≡◌, ◌↔◌, ℕ, ◌<◌, ◌≤◌, Bool, true, false, List, [], ◌∷◌, ◌++◌, Option, Some, Result, Ok, Err, if◌then◌else◌}
use Rattle.relay_guard.specs.Guards.{Token, key_of, last_of, with_last, token_tag, judged}
use Rattle.relay_guard.specs.declared.guard.Denied.{Denied}
use Rattle.relay_guard.specs.declared.guard.Guard.{Guard}
use Rattle.relay_guard.specs.declared.guard.Role.{Role}
use Rattle.relay_guard.specs.declared.guard.Role.TheVariants.{Owner, Poster}

-- a request for the box: the role that it takes, its token, and its bytes
pub record Call : Type 0 where
  pub role : Role
  pub token : Option Token
  pub request : List ℕ

abbrev pub verdict : Guard → Call → Result Guard Denied
verdict guard call = judged guard call.role call.token call.request

abbrev pub guard_after : Guard → Result Guard Denied → Guard
guard_after guard (Ok next) = next
guard_after guard (Err denied) = guard

-- what happens to a box: a request is answered, or a crash cuts it off, which leaves the guard from
-- before it or from after it
pub data Happening : Type 0 where
  answers : Call → Happening
  cuts : (took : Bool) → Call → Happening

abbrev pub next_guard : Guard → Happening → Guard
next_guard guard (answers call) = guard_after guard (verdict guard call)
next_guard guard (cuts took call) = if took then guard_after guard (verdict guard call) else guard

abbrev pub guard_in : Guard → List Happening → Guard
guard_in guard [] = guard
guard_in guard (happening ∷ more) = guard_in (next_guard guard happening) more

-- a request under the key of a role that was answered as served gives its counter
abbrev pub same_role : Role → Role → Bool
same_role Owner Owner = true
same_role Owner Poster = false
same_role Poster Owner = false
same_role Poster Poster = true

abbrev pub counter_served : Role → Call → Result Guard Denied → List ℕ
counter_served role call (Ok next) = if same_role role call.role then last_of next role ∷ [] else []
counter_served role call (Err denied) = []

abbrev pub counter_told : Role → Guard → Happening → List ℕ
counter_told role guard (answers call) = counter_served role call (verdict guard call)
counter_told role guard (cuts took call) = []

-- the counters of all requests under that key that were answered as served, in order
abbrev pub counters_told : Role → Guard → List Happening → List ℕ
counters_told role guard [] = []
counters_told role guard (happening ∷ more) =
    counter_told role guard happening ++ counters_told role (next_guard guard happening) more

-- numbers that rise, each above `low` and none above `high`; so they differ
abbrev pub RisesBetween : ℕ → ℕ → List ℕ → Type 0
RisesBetween low high [] = low ≤ high
RisesBetween low high (n ∷ more) = (low < n) × RisesBetween n high more

-- ---- what the rules say, in one line each

-- A request is served exactly where it has a token with the key's tag and a counter above the last
-- one.
pub record IsServed (guard : Guard) (call : Call) (next : Guard) : Type 0 where
  pub token : Token
  pub there : call.token ≡ Some token
  pub tag : token.tag ≡ token_tag (key_of guard call.role) token.counter call.request
  pub above : last_of guard call.role < token.counter
  pub next_is : next ≡ with_last guard call.role token.counter

pub record RulesHold (guard : Guard) (call : Call) : Type 0 where
  pub served : (next : Guard) → (verdict guard call ≡ Ok next) ↔ IsServed guard call next

-- Over every list of requests and crashes the counters that were answered as served differ and
-- rise, above the last one before them; the guard's last one is never below them.
abbrev pub CountersRise : Guard → List Happening → Type 0
CountersRise guard happenings =
    (role : Role) → RisesBetween (last_of guard role) (last_of (guard_in guard happenings) role)
    (counters_told role guard happenings)

-- and its keys are what they were
abbrev pub KeepsKeys : Guard → List Happening → Type 0
KeepsKeys guard happenings =
    (role : Role) → key_of (guard_in guard happenings) role ≡ key_of guard role

-- A request whose counter was served, or isn't above one that was, is denied for good, whatever
-- happened since.
abbrev pub StaysDenied : Guard → List Happening → Type 0
StaysDenied guard happenings = (role : Role) (token : Token) (request : List ℕ) (next : Guard)
    → token.counter ≤ last_of guard role
    → judged (guard_in guard happenings) role (Some token) request ≡ Ok next → ⊥
