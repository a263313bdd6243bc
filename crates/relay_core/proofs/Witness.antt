-- The replies to the guarded box of `specs/Witness` are its own.
use Rattle.std.proofs.Common.{◌≡◌, ℕ, ◌<◌, Bool, true, false, List, [], ◌∷◌, Some, Result, Ok, Err, refl, sym, ap, ap₂, subst, arith}
use Rattle.std.specs.Prelude.{if◌then◌else◌, nat_lt, replicate}
use Rattle.std.proofs.lemmas.Slice.Eq.{bytes_eq-Decides}
use Rattle.relay_guard.specs.Guards.{Token, is_tagged, judged, old_counter, token_tag, with_last, wrong_tag}
use Rattle.relay_guard.specs.declared.guard.Denied.{Denied}
use Rattle.relay_guard.specs.declared.guard.Guard.{Guard}
use Rattle.relay_guard.specs.declared.guard.Role.TheVariants.{Owner}
use Rattle.relay_guard.proofs.Rising.{to_judged}
use Rattle.relay_core.specs.Alone.{next_alone, reply_alone}
use Rattle.relay_core.specs.Boxes.{Answer, Box, answer_in, answer_of, becomes, by_verdict, stays}
use Rattle.relay_core.specs.Counters.{AreOwn, Passage, cuts}
use Rattle.relay_core.specs.Witness.{anna, annas_box, annas_passages, answered, fetch_under, key_of_all}
use Rattle.relay_wire.specs.Replies.{denied, empty}
use Rattle.relay_wire.specs.Requests.{fetches, plain_body}

-- the box once a counter of its owner was served, and its guard
abbrev guard_at : ℕ → Guard
guard_at n = record { owner = key_of_all 17; poster = key_of_all 34; owner_last = n; poster_last = 0 }

abbrev box_at : ℕ → Box
box_at n = record { name = anna; last = 0; packets = []; guard = Some (guard_at n) }

abbrev token_at : ℕ → Token
token_at n = record { counter = n; tag = token_tag (replicate 32 17) n (plain_body anna fetches) }

fetched : (n : ℕ) → answer_of (box_at n) fetches ≡ stays empty (box_at n)
unfolding answer_of
fetched n = refl

abbrev by : (n : ℕ) → Answer → Result Guard Denied → Answer
by n = by_verdict (box_at n)

-- a counter above the last one
serves : (n m : ℕ) → n < m → answer_in (box_at n) (fetch_under m) ≡ becomes empty (box_at m)
unfolding answer_in
serves n m above = ap₂ (by n) (fetched n) (to_judged (guard_at n) Owner (token_at m) (plain_body anna fetches) refl above)

-- the last one
refuses : (n : ℕ) → nat_lt n n ≡ false → judged (guard_at n) Owner (Some (token_at n)) (plain_body anna fetches) ≡ Err (old_counter n)
unfolding judged
refuses n same = ap₂ (λ (tagged above : Bool). let r : Result Guard Denied = if tagged then (if above then Ok (with_last (guard_at n) Owner n) else Err (old_counter n)) else Err wrong_tag in r)
    (let e : is_tagged (guard_at n) Owner (token_at n) (plain_body anna fetches) ≡ true = (bytes_eq-Decides (token_at n).tag (token_at n).tag).1 refl in e) same

denies : (n : ℕ) → nat_lt n n ≡ false → answer_in (box_at n) (fetch_under n) ≡ stays (denied 3 n) (box_at n)
unfolding answer_in
denies n same = ap₂ (by n) (fetched n) (refuses n same)

-- ---- one passage after the other

told : (n m : ℕ) → n < m → empty ≡ reply_alone (Some (box_at n)) (fetch_under m)
told n m above = sym (ap (λ (a : Answer). a.reply) (serves n m above))

on : (n m : ℕ) → n < m → (more : List Passage) → AreOwn (Some (box_at m)) more
    → AreOwn (next_alone (Some (box_at n)) (fetch_under m)) more
on n m above more own = subst (λ (a : Answer). AreOwn (Some a.next) more) (sym (serves n m above)) own

-- from the end
denied_again : AreOwn (Some (box_at 3)) (answered 3 (denied 3 3) ∷ [])
denied_again = (sym (ap (λ (a : Answer). a.reply) (denies 3 refl)), tt)

behind_the_crash : AreOwn (Some (box_at 2)) (answered 3 empty ∷ answered 3 (denied 3 3) ∷ [])
behind_the_crash = (told 2 3 (omega arith), on 2 3 (omega arith) (answered 3 (denied 3 3) ∷ []) denied_again)

amid_the_crash : AreOwn (Some (box_at 1)) (cuts true (fetch_under 2) ∷ answered 3 empty ∷ answered 3 (denied 3 3) ∷ [])
amid_the_crash = (tt, on 1 2 (omega arith) (answered 3 empty ∷ answered 3 (denied 3 3) ∷ []) behind_the_crash)

pub annas_own : AreOwn (Some annas_box) annas_passages
annas_own = (told 0 1 (omega arith), on 0 1 (omega arith) (cuts true (fetch_under 2) ∷ answered 3 empty ∷ answered 3 (denied 3 3) ∷ []) amid_the_crash)
