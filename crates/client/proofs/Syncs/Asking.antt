-- A request with its token, and what its reply makes of the counters.
use Rattle.std.proofs.Common.{Bool, Err, List, None, Ok, Option, Result, Some, ap, ap₂, arith, false, refl, subst, sym, true, ℕ, ◌+◌, ◌*◌, ◌<◌, ◌∙◌, ◌≡◌, ◌≤◌}
use Rattle.std.specs.Prelude.{OnOk, if◌then◌else◌, is_some, nat_lt, not, option_map, ◌&&◌, ◌-◌, ◌==◌, ◌^◌}
use Rattle.std.proofs.lemmas.Bool.{and_from}
use Rattle.std.proofs.lemmas.Bool.Decides.{nat_tests}
use Rattle.dr_ports.specs.Wires.{Port}
use Rattle.relay_core.specs.Boxes.{role_of}
use Rattle.relay_guard.specs.Guards.{Token, token_tag}
use Rattle.relay_guard.specs.declared.guard.Role.{Role}
use Rattle.relay_pipe.specs.Asking.{IsReplied}
use Rattle.relay_wire.specs.Replies.{Replied, denied}
use Rattle.relay_wire.specs.Requests.{Asked, plain_body}
use Rattle.relay_wire.specs.Seen.{replied_of}
use Rattle.relay_wire.specs.declared.reply.Reply.{Reply}
use Rattle.session_model.specs.Clients.{Client}
use Rattle.sync_model.specs.Moves.{Wait, goes, move}
use Rattle.sync_model.specs.Parties.{Party}
use Rattle.sync_model.specs.Tokens.{SyncKeys, Tokens, counter_under, is_behind, is_repeated, key_under, last_told, next_counter, tagged, token_for, tokens_by}
use Rattle.sync_model.proofs.Counting.{again_with}
use Rattle.sync_model.proofs.Hearing.{once_only}
use Rattle.client.specs.Syncing.Moments.{Moment}
use Rattle.client.specs.Syncing.Rounds.{GetsReply, Hears, IsHeard, IsRound, IsUnmoved, MovesTo, RoundEnd, heard, heard_as, repeats_left, stops, was_broken, was_unheard}
use Rattle.client.specs.declared.syncing.faults.SyncFault.{SyncFault}
use Rattle.client.specs.declared.syncing.faults.SyncFault.TheVariants.{Closed, Link, Peer, Refused, Store, Write}

-- ---- the counters

-- where a request is made once more, it may be no further time
repeats_are : (t : Tokens) (again : Bool) → t.again ≡ again → repeats_left t ≡ (if again then 0 else 1)
repeats_are t again is = ap (λ (b : Bool). if b then 0 else 1) is

pub repeats_most : (t : Tokens) → repeats_left t ≤ 1
repeats_most t = by_test t.again
  where
    by_test : (b : Bool) → (if b then 0 else 1) ≤ 1
    by_test true = omega arith
    by_test false = omega arith

-- a packet fewer counts for more than a repeat
pub fewer_on : {E : Type 0} (result : Result Unit E) (a b : ℕ) (old new : Tokens) → OnOk result (a < b)
    → OnOk result (2 * a + repeats_left new < 2 * b + repeats_left old)
fewer_on (Ok u) a b old new fewer = omega (arith, fewer, repeats_most new)
fewer_on (Err e) a b old new fewer = tt

repeats_fewer : (keys : Option SyncKeys) (old new : Tokens) (role : Role) (reply : Replied) → is_repeated keys old reply ≡ true
    → new ≡ tokens_by role old reply true → repeats_left new < repeats_left old
repeats_fewer keys old new role reply repeats counts = by_test old.again refl
  where
    last : repeats_left new ≡ 0
    last = repeats_are new true (ap (λ (t : Tokens). t.again) counts ∙ again_with old role (last_told reply + 1) true)

    by_test : (b : Bool) → old.again ≡ b → repeats_left new < repeats_left old
    by_test false is = omega (arith, last, repeats_are old false is)
    by_test true is = absurd (let e : true ≡ false = sym repeats ∙ once_only keys old reply is in cc)

-- a request that was denied for its counter is made once more, where there are keys, and no other is
pub repeats_so : (keys : Option SyncKeys) (k : SyncKeys) (tokens : Tokens) (reply : Replied) → keys ≡ Some k → tokens.again ≡ false → is_behind reply ≡ true
    → is_repeated keys tokens reply ≡ true
repeats_so keys k tokens reply has first behind =
    ap (λ (o : Option SyncKeys). is_some o && (not tokens.again && is_behind reply)) has ∙ ap₂ (λ (a b : Bool). not a && b) first behind

pub not_behind : (keys : Option SyncKeys) (tokens : Tokens) (reply : Replied) → is_behind reply ≡ false → is_repeated keys tokens reply ≡ false
not_behind keys tokens reply is = ap (λ (b : Bool). is_some keys && (not tokens.again && b)) is ∙ neither (is_some keys) (not tokens.again)
  where
    neither : (a b : Bool) → (a && (b && false)) ≡ false
    neither true true = refl
    neither true false = refl
    neither false b = refl

pub behind_so : (rule last : ℕ) → rule ≡ 3 → last < 2 ^ 64 - 1 → is_behind (denied rule last) ≡ true
behind_so rule last is below = and_from (rule == 3) (nat_lt last (2 ^ 64 - 1)) (grind (arith, nat_tests, is)) (grind (arith, nat_tests, below))

pub other_rule : (rule last : ℕ) → (rule ≡ 3 → ⊥) → is_behind (denied rule last) ≡ false
other_rule rule last not = ap (λ (b : Bool). b && nat_lt last (2 ^ 64 - 1)) (let e : (rule == 3) ≡ false = grind (arith, nat_tests, not) in e)

pub at_top : (rule last : ℕ) → (last < 2 ^ 64 - 1 → ⊥) → is_behind (denied rule last) ≡ false
at_top rule last not = none (rule == 3) (nat_lt last (2 ^ 64 - 1)) (grind (arith, nat_tests, not))
  where
    none : (a b : Bool) → b ≡ false → (a && b) ≡ false
    none true b is = is
    none false b is = refl

pub next_above : (n : ℕ) → n < 2 ^ 64 - 1 → next_counter n ≡ n + 1
next_above n below = ap (λ (b : Bool). if b then n + 1 else n) (let e : nat_lt n (2 ^ 64 - 1) ≡ true = grind (arith, nat_tests, below) in e)

pub next_stays : (n : ℕ) → (n < 2 ^ 64 - 1 → ⊥) → next_counter n ≡ n
next_stays n not = ap (λ (b : Bool). if b then n + 1 else n) (let e : nat_lt n (2 ^ 64 - 1) ≡ false = grind (arith, nat_tests, not) in e)

-- ---- the token

-- without keys none goes along
pub untagged : (keys : Option SyncKeys) (tokens : Tokens) (asked : Asked) → keys ≡ None → asked.token ≡ None → tagged keys tokens asked ≡ asked
untagged keys tokens asked none bare =
    ap (λ (k : Option SyncKeys). record asked { token = option_map (token_for tokens asked) k }) none ∙ ap (λ (t : Option Token). record asked { token = t }) (sym bare)

-- with keys this one does
pub tagged_so : (keys : SyncKeys) (tokens : Tokens) (asked : Asked) (counter : ℕ) (tag : List ℕ) → counter ≡ counter_under tokens (role_of asked.ask)
    → tag ≡ token_tag (key_under keys (role_of asked.ask)) counter (plain_body asked.name asked.ask)
    → record asked { token = Some (record { counter = counter; tag = tag }) } ≡ tagged (Some keys) tokens asked
tagged_so keys tokens asked counter tag counts tags =
    ap₂ (λ (n : ℕ) (t : List ℕ). record asked { token = Some (record { counter = n; tag = t }) }) counts
    (tags ∙ ap (λ (n : ℕ). token_tag (key_under keys (role_of asked.ask)) n (plain_body asked.name asked.ask)) counts)

-- ---- the reply

module _ (keys : Option SyncKeys) (old new : Tokens) (made asked : Asked) (is : made ≡ asked) (start now : Port) where
  abbrev Gets : Asked → Result (Option Reply) SyncFault → Type 0
  Gets x result = GetsReply keys old new x start now result

  pub once_more : Gets made (Ok None) → repeats_left new < repeats_left old
  once_more got = repeats_fewer keys old new (role_of made.ask) got.0 got.1.repeats got.1.counts

  module _ (Makes : Replied → Bool → RoundEnd → Type 0) (Still : Type 0) where
    unanswered : (fault : SyncFault) → Gets asked (Err fault) → Still → Hears keys old new asked start now Makes Still (stops fault)
    unanswered (Closed call) got still = absurd got
    unanswered Link got still = was_broken got still
    unanswered (Peer at kind) got still = was_unheard at kind got still
    unanswered (Refused refusal) got still = absurd got
    unanswered (Store call) got still = absurd got
    unanswered Write got still = absurd got

    pub hears_fault : (fault : SyncFault) → Gets made (Err fault) → Still → Hears keys old new asked start now Makes Still (stops fault)
    hears_fault fault answers still = unanswered fault (subst (λ (x : Asked). Gets x (Err fault)) is answers) still

    pub hears_again : (turn : RoundEnd) → Gets made (Ok None) → ((reply : Replied) → Makes reply true turn)
        → Hears keys old new asked start now Makes Still turn
    hears_again turn answers makes = let got = subst (λ (x : Asked). Gets x (Ok None)) is answers in heard got.0 true turn got.1 (makes got.0)

    pub hears_reply : (reply : Reply) (turn : RoundEnd) → Gets made (Ok (Some reply)) → Makes (replied_of reply) false turn
        → Hears keys old new asked start now Makes Still turn
    hears_reply reply turn answers makes = heard (replied_of reply) false turn (subst (λ (x : Asked). Gets x (Ok (Some reply))) is answers) makes

-- a reply was read, and this was found of it
pub heard_so : (keys : Option SyncKeys) (old new : Tokens) (asked : Asked) (reply : Replied) (again is : Bool) (start now : Port)
    → IsReplied (tagged keys old asked) reply start now → again ≡ is_repeated keys old reply → new ≡ tokens_by (role_of asked.ask) old reply again
    → again ≡ is → IsHeard keys old new asked start now reply is
heard_so keys old new asked reply again is start now replied repeats counts same = record {
  replied = replied;
  repeats = sym repeats ∙ same;
  counts = counts ∙ ap (λ (b : Bool). tokens_by (role_of asked.ask) old reply b) same;
}

-- the same as a round
module _ (p : Party Client) (wait : Wait) (old new : Tokens) (made asked : Asked) (is : made ≡ asked) (a b : Moment) (start now : Port) where
  abbrev Makes : Replied → Bool → RoundEnd → Type 0
  Makes reply again turn = MovesTo (heard_as p a.client.kept wait reply again) a b turn

  pub round_fault : (fault : SyncFault) → GetsReply p.keys old new made start now (Err fault) → IsUnmoved a b
      → IsRound p wait asked old new a b start now (stops fault)
  round_fault = hears_fault p.keys old new made asked is start now Makes (IsUnmoved a b)

  pub round_again : (turn : RoundEnd) → GetsReply p.keys old new made start now (Ok None) → MovesTo (goes p a.client.kept wait) a b turn
      → IsRound p wait asked old new a b start now turn
  round_again turn answers moves = hears_again p.keys old new made asked is start now Makes (IsUnmoved a b) turn answers (λ reply. moves)

  pub round_reply : (reply : Reply) (turn : RoundEnd) → GetsReply p.keys old new made start now (Ok (Some reply))
      → MovesTo (move p a.client.kept wait (replied_of reply)) a b turn → IsRound p wait asked old new a b start now turn
  round_reply = hears_reply p.keys old new made asked is start now Makes (IsUnmoved a b)
