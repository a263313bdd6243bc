-- What a side keeps in a lawful world is a lawful state.
use Rattle.std.proofs.Common.{◌≡◌, ◌≢◌, ℕ, zero, suc, ◌+◌, ◌-◌, ◌<◌, ◌≤◌, ◌==◌, true, false, Bool, nat_le, List, [], ◌∷◌, length, map, Option, Some, None, refl, sym, ◌∙◌, ap, if◌then◌else◌, arith, le_trans}
use Rattle.std.specs.Prelude.{All, option_map, slice_index_or}
use Rattle.std.proofs.lemmas.Bool.{cond-true, eqb-true}
use Rattle.std.proofs.lemmas.Bool.Decides.{nat_tests}
use Rattle.std.proofs.lemmas.List.{length-map}
use Rattle.std.proofs.lemmas.List.Elements.{All-map, All-weaker}
use Rattle.session_model.proofs.Latest.{latest-reached}
use Rattle.dr_base.specs.declared.limits.TheConstants.{INDEX_LIMIT}
use Rattle.dr_base.specs.Position.{IsBefore, is_own}
use Rattle.dr_base.specs.declared.key.Kept.{Kept}
use Rattle.dr_base.specs.declared.position.Position.{Position}
use Rattle.dr_base.specs.declared.position.Side.{Side}
use Rattle.dr_base.proofs.Parity.{own_other}
use Rattle.fs_aead.specs.Chain.{chain_of, next_chain}
use Rattle.fs_aead.specs.Table.{AllBefore, IsAscending}
use Rattle.hmac_hkdf.proofs.Lengths.{length-hmac_of}
use Rattle.kem_laws.specs.Mechanism.{Mechanism, IsLawfulMechanism}
use Rattle.session_model.specs.LawfulStates.{IsLawfulKept, IsLawfulPhase, IsLawfulPrevious, IsLawfulReception, IsLawfulState}
use Rattle.session_model.specs.States.{receiving_epoch}
use Rattle.session_model.specs.Turns.{Turn}
use Rattle.dr_model.specs.Conversations.Conversation.{Conversation, count_of}
use Rattle.dr_model.specs.Conversations.Lawful.{IsLawfulConversation, IsLawfulView}
use Rattle.dr_model.specs.Conversations.Posts.{key_of, pair_seed, turn_of_epoch}
use Rattle.dr_model.specs.Conversations.ViewStates.{view_reception, state_of}
use Rattle.dr_model.specs.Conversations.Views.{View, reach_in, missing_in, missing_below, missing_of}
use Rattle.dr_model.specs.Machines.Worlds.{World, view_of}
use Rattle.dr_model.specs.Theorems.LawfulWorlds.{IsLawfulWorld}
use Rattle.dr_model.proofs.Growth.GrowingStates.{phase_with}
use Rattle.dr_model.proofs.Growth.GrowingViews.{missing_below-below}
use Rattle.dr_model.proofs.Missing.MissedPositions.{AllPairs-map, IsMissed, missing_below-ascending, missing_below-missed, reach_in-most}
use Rattle.dr_model.proofs.Worlds.TurnSizes.{IsTurn, turn_sizes, length-session_of}
use Rattle.dr_model.proofs.Worlds.WorldViews.{view_lawful}

-- ---- the stream

-- a chain key has 32 bytes
pub length-chain_of : (stream : List ℕ) (n : ℕ) → length stream ≡ 32 → length (chain_of stream n) ≡ 32
unfolding chain_of next_chain
length-chain_of stream zero h = h
length-chain_of stream (suc n) h = length-hmac_of (chain_of stream n) (2 ∷ [])

-- ---- what it holds of the epoch

lawful_phase : (k : Mechanism) (side : Side) (epoch : ℕ) (seed : List ℕ) (turn : Turn) (sent : ℕ) (own : Bool)
    → is_own side epoch ≡ own → IsTurn k seed epoch turn
    → sent ≤ INDEX_LIMIT → IsLawfulPhase k side epoch (phase_with own turn sent)
lawful_phase k side epoch seed turn sent true is sizes few = (
  is,
  record {
    secret_long = sizes.secret_long;
    secret_lawful = sizes.secret_lawful;
    agreement_long = sizes.agreement_long;
    chain_long = length-chain_of turn.stream sent sizes.stream_long;
    few = few;
  },
)
lawful_phase k side epoch seed turn sent false is sizes few = (is, sizes.public_long)

-- how many texts it said before
counted : (n : ℕ) (later : Bool) → n ≤ INDEX_LIMIT → (if later then n else 0) ≤ INDEX_LIMIT
counted n true h = h
counted n false h = omega arith

none_before : (epoch n : ℕ) → epoch ≤ 1 → (if nat_le 2 epoch then n else 0) ≡ 0
none_before epoch n h = grind (arith, nat_tests)

none_first : (epoch n : ℕ) → epoch ≡ 0 → (if nat_le 1 epoch then n else 0) ≡ 0
none_first epoch n h = grind (arith, nat_tests)

lawful_previous : (epoch m n : ℕ) (turn : Turn) (sent : ℕ) (own : Bool) → m ≤ INDEX_LIMIT → n ≤ INDEX_LIMIT
    → IsLawfulPrevious (if own then (if nat_le 2 epoch then m else 0) else (if nat_le 1 epoch then n else 0)) epoch
    (phase_with own turn sent)
lawful_previous epoch m n turn sent true few_m few_n = (counted m (nat_le 2 epoch) few_m, none_before epoch m)
lawful_previous epoch m n turn sent false few_m few_n = (counted n (nat_le 1 epoch) few_n, none_first epoch n)

-- ---- the keys that it keeps

-- in the order of their positions
pub kept-ascending : (k : Mechanism) (c : Conversation) (v : View) → IsAscending (map (key_of k c) (missing_of c v))
kept-ascending k c v =
    AllPairs-map (λ (a b : Kept). IsBefore a.position b.position) (key_of k c) (missing_of c v)
    (missing_below-ascending c v (v.epoch + 1))

-- of a peer's epochs, under indices that packets may have
pub kept-lawful : (k : Mechanism) (c : Conversation) (side : Side) (v : View) → IsLawfulConversation k c
    → IsLawfulView k c side v
    → All (IsLawfulKept v.side) (map (key_of k c) (missing_of c v))
kept-lawful k c side v world lawful =
    All-map (IsLawfulKept v.side) (key_of k c) (missing_of c v)
    (All-weaker (IsMissed c v) (λ p. IsLawfulKept v.side (key_of k c p))
    (λ p missed. record {
      peers = missed.peers;
      one = missed.one;
      most = le_trans (le_trans missed.most (reach_in-most c v p.epoch lawful.arrivals)) (world.few p.epoch);
    })
    (missing_of c v) (missing_below-missed c v (v.epoch + 1)))

-- no peer's epoch comes after the latest one
latest_most : (own first : Bool) (epoch t e : ℕ)
    → (if own then (if first then None else Some (epoch - 1)) else Some epoch) ≡ Some t
    → (own ≡ true → e ≢ epoch) → e ≤ epoch → e ≤ t
latest_most true true epoch t e is other most = cc
latest_most true false epoch t e is other most = let same : epoch - 1 ≡ t = cc in let less = other refl in grind arith
latest_most false first epoch t e is other most = let same : epoch ≡ t = cc in omega arith

peers_most : (side : Side) (epoch t e : ℕ) → receiving_epoch side epoch ≡ Some t → is_own side e ≡ false → e ≤ epoch → e ≤ t
peers_most side epoch t e is peers most =
    latest_most (is_own side epoch) (epoch == 0) epoch t e is (λ own same. own_other side epoch e own peers (sym same)) most

-- they come before the next key of the latest peer's epoch
kept_before : (c : Conversation) (v : View) (t : ℕ) (p : Position) → receiving_epoch v.side v.epoch ≡ Some t
    → IsMissed c v p → p.epoch < v.epoch + 1
    → IsBefore p (record { epoch = t; index = reach_in c v t + 1 })
kept_before c v t p is missed below = (
  peers_most v.side v.epoch t p.epoch is missed.peers (omega arith),
  λ same. omega (arith, missed.most, ap (reach_in c v) same),
)

pub kept-before : (k : Mechanism) (c : Conversation) (v : View) (t : ℕ) → receiving_epoch v.side v.epoch ≡ Some t
    → AllBefore (map (key_of k c) (missing_of c v)) (record { epoch = t; index = reach_in c v t + 1 })
kept-before k c v t is =
    let next : Position = record { epoch = t; index = reach_in c v t + 1 } in
    All-map (λ (kept : Kept). IsBefore kept.position next) (key_of k c) (missing_of c v)
    (λ i d below. kept_before c v t (slice_index_or (missing_of c v) i d) is
    (missing_below-missed c v (v.epoch + 1) i d below) (missing_below-below c v (v.epoch + 1) i d below))

-- before the first peer's epoch there is none
none_latest : (own first : Bool) (epoch : ℕ)
    → (if own then (if first then None else Some (epoch - 1)) else Some epoch) ≡ None → (own ≡ true) × (first ≡ true)
none_latest true true epoch is = (refl, refl)
none_latest true false epoch is = cc
none_latest false first epoch is = cc

missing_none : (c : Conversation) (v : View) (n : ℕ) → n ≡ 0 → is_own v.side n ≡ true → missing_below c v (n + 1) ≡ []
unfolding missing_below
missing_none c v n none own =
    ap (missing_below c v) (let one : n + 1 ≡ 1 = omega arith in one)
    ∙ cond-true (is_own v.side 0) [] (missing_in c v 0) (sym (ap (is_own v.side) none) ∙ own)

pub kept-none : (k : Mechanism) (c : Conversation) (v : View) → receiving_epoch v.side v.epoch ≡ None
    → map (key_of k c) (missing_of c v) ≡ []
kept-none k c v is =
    let tests = none_latest (is_own v.side v.epoch) (v.epoch == 0) v.epoch is in
    ap (map (key_of k c)) (missing_none c v v.epoch (eqb-true v.epoch 0 tests.1) tests.0)

-- ---- the stream of the latest peer's epoch

lawful_reception : (k : Mechanism) (c : Conversation) (side : Side) (v : View) (o : Option ℕ) → IsLawfulMechanism k
    → IsLawfulConversation k c → IsLawfulView k c side v
    → receiving_epoch v.side v.epoch ≡ o
    → IsLawfulReception (map (key_of k c) (missing_of c v)) (option_map (view_reception k c v) o) o
lawful_reception k c side v None law world lawful is = kept-none k c v is
lawful_reception k c side v (Some t) law world lawful is =
    let latest = latest-reached v.side v.epoch t is in
    let sizes = turn_sizes k c t law world (omega (arith, lawful.reached)) in (
      length-chain_of (turn_of_epoch k c t).stream (reach_in c v t) sizes.stream_long,
      omega (arith, reach_in-most c v t lawful.arrivals, world.few t),
      kept-before k c v t is,
    )

-- ---- the state

pub state_lawful : (k : Mechanism) (c : Conversation) (side : Side) (v : View) → IsLawfulMechanism k
    → IsLawfulConversation k c → IsLawfulView k c side v
    → IsLawfulState k (state_of k c v)
state_lawful k c side v law world lawful =
    let sizes = turn_sizes k c v.epoch law world lawful.reached in
    let own = is_own v.side v.epoch in
    record {
      session_long = length-session_of c.key;
      root_long = sizes.root_long;
      epoch_fits = le_trans lawful.reached world.few_turns;
      phase = lawful_phase k v.side v.epoch (pair_seed c v.epoch) (turn_of_epoch k c v.epoch)
          (count_of c v.epoch) own refl sizes (world.few v.epoch);
      previous = lawful_previous v.epoch (count_of c (v.epoch - 2)) (count_of c (v.epoch - 1)) (turn_of_epoch k c v.epoch)
          (count_of c v.epoch) own
          (world.few (v.epoch - 2)) (world.few (v.epoch - 1));
      receiving = lawful_reception k c side v (receiving_epoch v.side v.epoch) law world lawful refl;
      kept = kept-ascending k c v;
      each = kept-lawful k c side v world lawful;
      few = omega (arith, length-map (missing_of c v) (key_of k c), lawful.near);
      waiting = lawful.awaiting;
    }

pub lawful_state : (k : Mechanism) (w : World) (side : Side) → IsLawfulMechanism k → IsLawfulWorld k w
    → IsLawfulState k (state_of k w.conversation (view_of w side))
lawful_state k w side law lawful =
    state_lawful k w.conversation side (view_of w side) law lawful.conversation (view_lawful k w side lawful)
