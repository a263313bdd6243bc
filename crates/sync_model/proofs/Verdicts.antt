-- What a guard says of a sync's request: it lets it through, or denies it for its counter.
use Rattle.std.proofs.Common.{◌≡◌, ℕ, ◌+◌, ◌≤◌, Bool, true, false, List, [], ◌∷◌, Option, Some, None, Ok, Err, refl, ◌∙◌, ap, ap₂, arith}
use Rattle.std.specs.Prelude.{◌&&◌, nat_lt, not, is_some, option_map, if◌then◌else◌}
use Rattle.std.specs.Str.{bytes_eq}
use Rattle.std.proofs.lemmas.Bool.Decides.{nat_tests}
use Rattle.relay_guard.specs.Guards.{judged, key_of, last_of, old_counter, token_tag, with_last}
use Rattle.relay_guard.specs.declared.guard.Guard.{Guard}
use Rattle.relay_wire.specs.Requests.{Asking, Asked, posts, fetches, acks, plain_body}
use Rattle.relay_wire.specs.Replies.{Replied, stored, acked, box_full, absent}
use Rattle.relay_core.specs.Boxes.{Answer, Box, Kept, answer_of, becomes, guard_then, has_number, is_full, oldest, passed_by, role_of, stays, with_packet, without_number}
use Rattle.sync_model.specs.Tokens.{SyncKeys, Tokens, counter_under, is_behind, is_repeated, key_under, tagged}
use Rattle.sync_model.specs.Transfers.{IsGuardedFor, counted_on}
use Rattle.sync_model.proofs.Counting.{IsReady, same_self}

pub lets_through : (keys : SyncKeys) (tokens : Tokens) (asked : Asked) (guard : Guard) → key_of guard (role_of asked.ask) ≡ key_under keys (role_of asked.ask)
    → counter_under tokens (role_of asked.ask) ≡ last_of guard (role_of asked.ask) + 1
    → passed_by (Some guard) (tagged (Some keys) tokens asked) ≡ Ok (Some (counted_on (role_of asked.ask) 1 guard))
unfolding judged
lets_through keys tokens asked guard key next =
    let role = role_of asked.ask in
    let counter = counter_under tokens role in
    let request = plain_body asked.name asked.ask in
    let tag : bytes_eq (token_tag (key_under keys role) counter request) (token_tag (key_of guard role) counter request) ≡ true =
    ap (λ (k : List ℕ). bytes_eq (token_tag (key_under keys role) counter request) (token_tag k counter request)) key ∙ same_self (token_tag (key_under keys role) counter request) in
    let above : nat_lt (last_of guard role) counter ≡ true = grind (arith, nat_tests, next) in
    ap₂ (λ (a b : Bool). guard_then (if a then (if b then Ok (with_last guard role counter) else Err (old_counter (last_of guard role))) else Err (record { rule = 2; last = 0 }))) tag above
    ∙ ap (λ (n : ℕ). Ok (Some (with_last guard role n))) next

denies : (keys : SyncKeys) (tokens : Tokens) (asked : Asked) (guard : Guard) → key_of guard (role_of asked.ask) ≡ key_under keys (role_of asked.ask)
    → nat_lt (last_of guard (role_of asked.ask)) (counter_under tokens (role_of asked.ask)) ≡ false
    → passed_by (Some guard) (tagged (Some keys) tokens asked) ≡ Err (old_counter (last_of guard (role_of asked.ask)))
unfolding judged
denies keys tokens asked guard key behind =
    let role = role_of asked.ask in
    let counter = counter_under tokens role in
    let request = plain_body asked.name asked.ask in
    let tag : bytes_eq (token_tag (key_under keys role) counter request) (token_tag (key_of guard role) counter request) ≡ true =
    ap (λ (k : List ℕ). bytes_eq (token_tag (key_under keys role) counter request) (token_tag k counter request)) key ∙ same_self (token_tag (key_under keys role) counter request) in
    ap₂ (λ (a b : Bool). guard_then (if a then (if b then Ok (with_last guard role counter) else Err (old_counter (last_of guard role))) else Err (record { rule = 2; last = 0 }))) tag behind

pub data IsVerdict (keys : Option SyncKeys) (tokens : Tokens) (asked : Asked) (guard : Option Guard) : Type 0 where
  lets : passed_by guard (tagged keys tokens asked) ≡ Ok (option_map (counted_on (role_of asked.ask) 1) guard) → IsVerdict keys tokens asked guard
  denied_so : (there : SyncKeys) (of : Guard) → keys ≡ Some there → guard ≡ Some of → key_of of (role_of asked.ask) ≡ key_under there (role_of asked.ask)
      → passed_by guard (tagged keys tokens asked) ≡ Err (old_counter (last_of of (role_of asked.ask))) → IsVerdict keys tokens asked guard

next_is : (counter last : ℕ) → nat_lt last counter ≡ true → counter ≤ last + 1 → counter ≡ last + 1
next_is counter last is le = grind (arith, nat_tests, is, le)

pub verdict_of : (keys : Option SyncKeys) (tokens : Tokens) (asked : Asked) (guard : Option Guard) → IsGuardedFor keys (role_of asked.ask) guard
    → IsReady (counter_under tokens (role_of asked.ask)) (role_of asked.ask) guard → IsVerdict keys tokens asked guard
verdict_of None tokens asked None is ready = lets refl
verdict_of (Some keys) tokens asked None is ready = lets refl
verdict_of None tokens asked (Some guard) is ready = absurd is
verdict_of (Some keys) tokens asked (Some guard) is ready = by_test (nat_lt (last_of guard (role_of asked.ask)) (counter_under tokens (role_of asked.ask))) refl
  where
    by_test : (t : Bool) → nat_lt (last_of guard (role_of asked.ask)) (counter_under tokens (role_of asked.ask)) ≡ t → IsVerdict (Some keys) tokens asked (Some guard)
    by_test true above = lets (lets_through keys tokens asked guard is (next_is _ _ above ready))
    by_test false behind = denied_so keys guard refl refl is (denies keys tokens asked guard is behind)

-- ---- what a box replies by itself denies nothing

either : (P : Answer → Type 0) (t : Bool) (a b : Answer) → P a → P b → P (if t then a else b)
either P true a b x y = x
either P false a b x y = y

oldest_serves : (packets : List Kept) → is_behind (oldest packets) ≡ false
oldest_serves [] = refl
oldest_serves (kept ∷ more) = refl

pub plain_reply : (box : Box) (ask : Asking) → is_behind (answer_of box ask).reply ≡ false
unfolding answer_of
plain_reply box (posts packet) = either (λ a. is_behind a.reply ≡ false) (is_full box) (stays box_full box) (becomes (stored (box.last + 1)) (with_packet box packet)) refl refl
plain_reply box fetches = oldest_serves box.packets
plain_reply box (acks n) = either (λ a. is_behind a.reply ≡ false) (has_number n box.packets) (becomes acked (without_number box n)) (stays (absent n) box) refl refl

pub none_repeated : (keys : Option SyncKeys) (tokens : Tokens) (reply : Replied) → is_behind reply ≡ false → is_repeated keys tokens reply ≡ false
none_repeated keys tokens reply is = ap (λ (b : Bool). is_some keys && (not tokens.again && b)) is ∙ by_two (is_some keys) (not tokens.again)
  where
    by_two : (a b : Bool) → (a && (b && false)) ≡ false
    by_two true true = refl
    by_two true false = refl
    by_two false b = refl
