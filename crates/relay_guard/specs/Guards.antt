-- The guard of a box: whose requests it lets through. A request is tagged with the key of a role,
-- over a counter that rises.
use Rattle.std.specs.Prelude.{ℕ, Bool, nat_lt, List, ◌++◌, codes, Option, Some, None, Result, Ok, Err, if◌then◌else◌}
use Rattle.std.specs.Int.{w64, to_be_bytes}
use Rattle.std.specs.Str.{bytes_eq}
use Rattle.dr_base.specs.declared.key.Key32.{Key32}
use Rattle.hmac_hkdf.specs.Hmac.{hmac_of}
use Rattle.relay_guard.specs.declared.guard.Denied.{Denied}
use Rattle.relay_guard.specs.declared.guard.Guard.{Guard}
use Rattle.relay_guard.specs.declared.guard.Role.{Role}
use Rattle.relay_guard.specs.declared.guard.Role.TheVariants.{Owner, Poster}

-- what stands before a request: a counter, and a tag over it and over the request
pub record Token : Type 0 where
  pub counter : ℕ
  pub tag : List ℕ

-- nothing was served under these keys
abbrev pub new_guard : Key32 → Key32 → Guard
new_guard owner poster =
    record { owner = owner; poster = poster; owner_last = 0; poster_last = 0 }

abbrev pub key_of : Guard → Role → List ℕ
key_of guard Owner = guard.owner.bytes
key_of guard Poster = guard.poster.bytes

-- the counter of the last request that was served under the key
abbrev pub last_of : Guard → Role → ℕ
last_of guard Owner = guard.owner_last
last_of guard Poster = guard.poster_last

abbrev pub with_last : Guard → Role → ℕ → Guard
with_last guard Owner counter = record guard { owner_last = counter }
with_last guard Poster counter = record guard { poster_last = counter }

-- the tag of a request's bytes under a key and a counter
unfoldable pub token_tag : List ℕ → ℕ → List ℕ → List ℕ
token_tag key counter request =
    hmac_of key (codes "relay token" ++ (to_be_bytes w64 counter ++ request))

-- ---- the rules, in their order

-- 1: there is no token
abbrev pub no_token : Denied
no_token = record { rule = 1; last = 0 }

-- 2: its tag is another
abbrev pub wrong_tag : Denied
wrong_tag = record { rule = 2; last = 0 }

-- 3: its counter isn't above the last one
abbrev pub old_counter : ℕ → Denied
old_counter last = record { rule = 3; last = last }

abbrev pub is_tagged : Guard → Role → Token → List ℕ → Bool
is_tagged guard role token request =
    bytes_eq token.tag (token_tag (key_of guard role) token.counter request)

-- a request is served, and then its counter is the last one; or it is denied, and the guard stays
unfoldable pub judged : Guard → Role → Option Token → List ℕ → Result Guard Denied
judged guard role None request = Err no_token
judged guard role (Some token) request =
    if is_tagged guard role token request then
    (if nat_lt (last_of guard role) token.counter then Ok (with_last guard role token.counter)
    else Err (old_counter (last_of guard role)))
    else Err wrong_tag
