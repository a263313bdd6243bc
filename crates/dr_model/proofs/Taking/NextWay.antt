-- The session's way into the peer's next epoch, with the keys of the peer's last one up to its end.
use Rattle.std.proofs.Common.{◌≡◌, ℕ, zero, suc, ◌+◌, ◌-◌, ◌<◌, ◌≤◌, true, false, nat_eq, nat_le, nat_lt, [], ◌++◌, length, Some, None, Err, refl, sym, ap, ap₂, ◌∙◌, append_assoc, append-nil, subst, arith, if◌then◌else◌}
use Rattle.std.specs.Prelude.{All, option_map}
use Rattle.std.proofs.lemmas.Bool.{cond-true, cond-false, eq-eqb, le-leb, le-ltb}
use Rattle.dr_base.specs.Position.{is_own, position_at}
use Rattle.fs_aead.specs.Chain.{chain_of, message_key}
use Rattle.fs_aead.specs.Table.{shelved}
use Rattle.fs_aead.proofs.Streams.{length-shelved}
use Rattle.kem_laws.specs.Mechanism.{Mechanism}
use Rattle.session_model.specs.States.{in_own, in_peers, receiving_epoch}
use Rattle.session_model.specs.Ways.{epoch_way, next_way, turn_way, within_limit}
use Rattle.session_model.specs.declared.answer.Refusal.TheVariants.{Count}
use Rattle.dr_model.specs.Conversations.Conversation.{Conversation, count_of, previous_of}
use Rattle.dr_model.specs.Conversations.Indices.{reach}
use Rattle.dr_model.specs.Conversations.Lawful.{HasArrived}
use Rattle.dr_model.specs.Conversations.Posts.{post_fields, turn_of_epoch}
use Rattle.dr_model.specs.Conversations.ViewStates.{view_own, view_reception, state_of}
use Rattle.dr_model.specs.Conversations.Views.{View, indices_in, missing_of, reach_in}
use Rattle.dr_model.proofs.Missing.EpochIndices.{indices_in-other, reach-said}
use Rattle.dr_model.proofs.Missing.MissingEpochs.{epoch_keys, keys_below, keys_below-own, keys_below-peers, keys_below-same, keys_below-zero}
use Rattle.dr_model.proofs.Missing.MissingKeys.{keys_in}
use Rattle.dr_model.proofs.Missing.PassedKeys.{keys_in-end}
use Rattle.dr_model.proofs.Taking.KnownEpoch.{receiving-latest}
use Rattle.dr_model.proofs.Taking.LatestEpoch.{IsLatest, keys_below-latest, latest_before, reach_in-end, reach_in-latest}
use Rattle.dr_model.proofs.Taking.NextEpoch.{Answers, opened_next, turn_way-is}

-- ---- the keys of earlier epochs

-- the next epoch leaves those that were read to their end
epoch_keys-ended : (k : Mechanism) (c : Conversation) (v : View) (i epoch : ℕ) → epoch + 1 < v.epoch
    → epoch_keys k c (opened_next v i) epoch ≡ epoch_keys k c v epoch
epoch_keys-ended k c v i epoch h =
    ap₂ (keys_in epoch (turn_of_epoch k c epoch).stream)
    (indices_in-other v.arrived (position_at (v.epoch + 1) i) epoch (λ same. omega arith))
    (reach_in-end c (opened_next v i) epoch (omega arith) ∙ sym (reach_in-end c v epoch h))

-- the latest one is read to its end then
epoch_keys-ends : (k : Mechanism) (c : Conversation) (v : View) (i latest : ℕ) → All (HasArrived c v) v.arrived
    → v.epoch ≡ latest + 1
    → epoch_keys k c (opened_next v i) latest
    ≡ epoch_keys k c v latest ++ shelved latest (chain_of (turn_of_epoch k c latest).stream (reach_in c v latest))
    (reach_in c v latest) (count_of c latest - reach_in c v latest)
epoch_keys-ends k c v i latest arrivals e =
    let stream = (turn_of_epoch k c latest).stream in
    let indices = indices_in v.arrived latest in
    let before : reach_in c v latest ≡ reach indices = reach_in-latest c v latest (omega arith) in
    ap₂ (keys_in latest stream)
    (indices_in-other v.arrived (position_at (v.epoch + 1) i) latest (λ same. omega arith))
    (reach_in-end c (opened_next v i) latest (omega arith))
    ∙ keys_in-end latest stream indices (count_of c latest) (reach-said c v v.arrived latest arrivals)
    ∙ ap (λ r. keys_in latest stream indices r ++ shelved latest (chain_of stream r) r (count_of c latest - r)) (sym before)

-- the table below the next epoch
keys_ended : (k : Mechanism) (c : Conversation) (v : View) (i latest : ℕ) → All (HasArrived c v) v.arrived
    → IsLatest v.side v.epoch latest → v.epoch ≡ latest + 1
    → keys_below k c (opened_next v i) v.epoch
    ≡ keys_below k c v (v.epoch + 1) ++ shelved latest (chain_of (turn_of_epoch k c latest).stream (reach_in c v latest))
    (reach_in c v latest) (count_of c latest - reach_in c v latest)
keys_ended k c v i latest arrivals at e =
    let next = opened_next v i in
    let r = reach_in c v latest in
    let passed = shelved latest (chain_of (turn_of_epoch k c latest).stream r) r (count_of c latest - r) in
    ap (keys_below k c next) e
    ∙ keys_below-peers k c next latest at.peers
    ∙ ap₂ (λ a b. a ++ b)
    (keys_below-same k c v next latest refl (λ epoch low own. epoch_keys-ended k c v i epoch (omega arith)))
    (epoch_keys-ends k c v i latest arrivals e)
    ∙ sym (append_assoc (keys_below k c v latest) (epoch_keys k c v latest) passed)
    ∙ ap (λ keys. keys ++ passed) (sym (keys_below-latest k c v latest at))

-- none before the first peer's epoch
keys_none : (k : Mechanism) (c : Conversation) (v : View) (i : ℕ) → is_own v.side v.epoch ≡ true → v.epoch ≡ 0
    → keys_below k c (opened_next v i) v.epoch ≡ keys_below k c v (v.epoch + 1) ++ []
keys_none k c v i own e =
    ap (keys_below k c (opened_next v i)) e ∙ keys_below-zero k c (opened_next v i)
    ∙ sym (append-nil (keys_below k c v (v.epoch + 1)) ∙ keys_below-own k c v v.epoch own ∙ ap (keys_below k c v) e
    ∙ keys_below-zero k c v)

-- ---- the way

-- the packet says how many texts the peer's last epoch has
previous_of-latest : (c : Conversation) (epoch latest : ℕ) → epoch ≡ latest + 1
    → previous_of c (epoch + 1) ≡ count_of c latest
previous_of-latest c epoch latest e =
    cond-true (nat_le 2 (epoch + 1)) (count_of c (epoch + 1 - 2)) 0 (le-leb 2 (epoch + 1) (omega arith))
    ∙ ap (count_of c) (omega arith)

-- where a peer's epoch went before
next_way-latest : (k : Mechanism) (c : Conversation) (v : View) (i latest : ℕ) → Answers k c v.epoch
    → All (HasArrived c v) v.arrived → 1 ≤ i
    → is_own v.side v.epoch ≡ true → is_own v.side (v.epoch + 1) ≡ false → IsLatest v.side v.epoch latest
    → v.epoch ≡ latest + 1
    → next_way k (state_of k c v) (view_own k c v) (post_fields k c (position_at (v.epoch + 1) i)) (state_of k c v).receiving
    ≡ within_limit (length (missing_of c (opened_next v i)))
    (record { key = message_key (turn_of_epoch k c (v.epoch + 1)).stream i; next = state_of k c (opened_next v i) })
next_way-latest k c v i latest answered arrivals one own peers at e =
    let s = state_of k c v in
    let f = post_fields k c (position_at (v.epoch + 1) i) in
    let r = reach_in c v latest in
    let chain = chain_of (turn_of_epoch k c latest).stream r in
    let end = count_of c latest in
    let before : r ≡ reach (indices_in v.arrived latest) = reach_in-latest c v latest (omega arith) in
    let said = reach-said c v v.arrived latest arrivals in
    ap (next_way k s (view_own k c v) f) (receiving-latest k c v latest at)
    ∙ ap₂ (λ previous epoch. if nat_lt previous r then Err (Count previous r) else turn_way k s (view_own k c v) f
    (previous - r) (shelved epoch chain r (previous - r)))
    (previous_of-latest c v.epoch latest e) (omega arith)
    ∙ cond-false (nat_lt end r) (Err (Count end r))
    (turn_way k s (view_own k c v) f (end - r) (shelved latest chain r (end - r))) (le-ltb end r (omega arith))
    ∙ turn_way-is k c v i (end - r) (shelved latest chain r (end - r)) answered arrivals one own peers
    (length-shelved latest chain r (end - r)) (keys_ended k c v i latest arrivals at e)

-- where none did
next_way-first : (k : Mechanism) (c : Conversation) (v : View) (i : ℕ) → Answers k c v.epoch
    → All (HasArrived c v) v.arrived → 1 ≤ i
    → is_own v.side v.epoch ≡ true → is_own v.side (v.epoch + 1) ≡ false → v.epoch ≡ 0
    → next_way k (state_of k c v) (view_own k c v) (post_fields k c (position_at (v.epoch + 1) i)) (state_of k c v).receiving
    ≡ within_limit (length (missing_of c (opened_next v i)))
    (record { key = message_key (turn_of_epoch k c (v.epoch + 1)).stream i; next = state_of k c (opened_next v i) })
next_way-first k c v i answered arrivals one own peers e =
    let s = state_of k c v in
    let f = post_fields k c (position_at (v.epoch + 1) i) in
    let none : receiving_epoch v.side v.epoch ≡ None =
    cond-true (is_own v.side v.epoch) (if nat_eq v.epoch 0 then None else Some (v.epoch - 1)) (Some v.epoch) own
    ∙ cond-true (nat_eq v.epoch 0) None (Some (v.epoch - 1)) (eq-eqb v.epoch 0 e) in
    ap (λ epoch. next_way k s (view_own k c v) f (option_map (view_reception k c v) epoch)) none
    ∙ turn_way-is k c v i 0 [] answered arrivals one own peers refl (keys_none k c v i own e)

-- by the epoch that is reached
next_way-is : (k : Mechanism) (c : Conversation) (v : View) (i epoch : ℕ) → Answers k c v.epoch
    → All (HasArrived c v) v.arrived → 1 ≤ i
    → is_own v.side v.epoch ≡ true → is_own v.side (v.epoch + 1) ≡ false → v.epoch ≡ epoch
    → next_way k (state_of k c v) (view_own k c v) (post_fields k c (position_at (v.epoch + 1) i)) (state_of k c v).receiving
    ≡ within_limit (length (missing_of c (opened_next v i)))
    (record { key = message_key (turn_of_epoch k c (v.epoch + 1)).stream i; next = state_of k c (opened_next v i) })
next_way-is k c v i zero answered arrivals one own peers e = next_way-first k c v i answered arrivals one own peers e
next_way-is k c v i (suc latest) answered arrivals one own peers e =
    let more : v.epoch ≡ latest + 1 = omega arith in
    let at : IsLatest v.side v.epoch latest =
    subst (λ n. IsLatest v.side n latest) (sym more) (latest_before v.side latest (ap (is_own v.side) (sym more) ∙ own)) in
    next_way-latest k c v i latest answered arrivals one own peers at more

pub way_next : (k : Mechanism) (c : Conversation) (v : View) (i : ℕ) → Answers k c v.epoch → All (HasArrived c v) v.arrived
    → 1 ≤ i
    → is_own v.side v.epoch ≡ true → is_own v.side (v.epoch + 1) ≡ false
    → epoch_way k (state_of k c v) (post_fields k c (position_at (v.epoch + 1) i)) (state_of k c v).phase
    ≡ within_limit (length (missing_of c (opened_next v i)))
    (record { key = message_key (turn_of_epoch k c (v.epoch + 1)).stream i; next = state_of k c (opened_next v i) })
way_next k c v i answered arrivals one own peers =
    ap (epoch_way k (state_of k c v) (post_fields k c (position_at (v.epoch + 1) i)))
    (cond-true (is_own v.side v.epoch) (in_own (view_own k c v)) (in_peers (turn_of_epoch k c v.epoch).public) own)
    ∙ next_way-is k c v i v.epoch answered arrivals one own peers refl
