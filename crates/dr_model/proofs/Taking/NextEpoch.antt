-- A packet of the peer's next epoch: the session's way, and what it keeps then.
use Rattle.std.proofs.Common.{◌≡◌, ℕ, ◌+◌, ◌-◌, ◌<◌, ◌≤◌, true, false, nat_le, List, [], ◌∷◌, ◌++◌, length, take, drop, slice_index_or, Option, Some, refl, sym, ap, ap₂, ◌∙◌, add-one, length-append, arith, if◌then◌else◌}
use Rattle.std.specs.Prelude.{All, max}
use Rattle.std.proofs.lemmas.Bool.{cond-true, cond-false, le-leb}
use Rattle.std.proofs.lemmas.List.{drop_at, length-map, take_at}
use Rattle.dr_base.specs.Position.{is_own, position_at}
use Rattle.dr_base.specs.declared.key.Kept.{Kept}
use Rattle.fs_aead.specs.Chain.{chain_of, message_key}
use Rattle.fs_aead.specs.Table.{shelved}
use Rattle.fs_aead.proofs.Streams.{length-shelved}
use Rattle.kem_laws.specs.Mechanism.{Mechanism, IsLawfulMechanism}
use Rattle.prf_prng.specs.Root.{next_root, root_key}
use Rattle.session_model.specs.States.{Phase, in_own, in_peers, Reception, State}
use Rattle.session_model.specs.Turns.{Turn, next_turn, pair_at, turn_at}
use Rattle.session_model.specs.Ways.{turn_way, within_limit}
use Rattle.dr_model.specs.Conversations.Conversation.{Conversation, count_of, previous_of}
use Rattle.dr_model.specs.Conversations.Indices.{reach}
use Rattle.dr_model.specs.Conversations.Lawful.{HasArrived, IsLawfulConversation}
use Rattle.dr_model.specs.Conversations.Posts.{post_fields, key_of, pair_seed, turn_of_epoch}
use Rattle.dr_model.specs.Conversations.ViewStates.{view_own, view_phase, state_of}
use Rattle.dr_model.specs.Conversations.Views.{View, after_opening, indices_in, missing_of, reach_in}
use Rattle.dr_model.proofs.Missing.EpochIndices.{indices_in-beyond, indices_in-same}
use Rattle.dr_model.proofs.Missing.MissingEpochs.{epoch_keys, keys_below, keys_below-own, keys_below-peers}
use Rattle.dr_model.proofs.Missing.MissingKeys.{keys_in}
use Rattle.dr_model.proofs.Missing.PassedKeys.{keys_in-first}
use Rattle.dr_model.proofs.Taking.KnownEpoch.{obeying, receiving-latest}
use Rattle.dr_model.proofs.Taking.LatestEpoch.{latest_here, reach_in-latest}
use Rattle.dr_model.proofs.Worlds.TurnSizes.{turn_sizes}

-- the view with an index of the next epoch
abbrev pub opened_next : View → ℕ → View
opened_next v i = record v { arrived = v.arrived ++ position_at (v.epoch + 1) i ∷ []; epoch = v.epoch + 1 }

-- the next epoch is reached then
pub after_opening-next : (c : Conversation) (v : View) (i : ℕ)
    → after_opening c v (position_at (v.epoch + 1) i) ≡ obeying c (position_at (v.epoch + 1) i) (opened_next v i)
after_opening-next c v i =
    let p = position_at (v.epoch + 1) i in
    let same : max v.epoch (v.epoch + 1) ≡ v.epoch + 1 = omega arith in
    ap (λ (epoch : ℕ). obeying c p (record v { arrived = v.arrived ++ p ∷ []; epoch = epoch })) same

-- ---- the keys of the turn

-- the keys of the next epoch
abbrev made_turn : Mechanism → Conversation → ℕ → Turn
made_turn k c epoch = next_turn k (turn_of_epoch k c epoch) (slice_index_or c.seeds epoch [])

turn_is : (k : Mechanism) (c : Conversation) (epoch : ℕ) → turn_of_epoch k c (epoch + 1) ≡ made_turn k c epoch
unfolding turn_at
turn_is k c epoch = ap (turn_at k c.key c.seeds) (add-one epoch)

-- the key that the turn took in
abbrev turn_key : Mechanism → Conversation → ℕ → List ℕ
turn_key k c epoch = (k.meaning.encap_of (turn_of_epoch k c epoch).public (slice_index_or c.seeds epoch [])).1

-- the held secret and the agreement message give it, and the message ends with the next public key
pub record Answers (k : Mechanism) (c : Conversation) (epoch : ℕ) : Type 0 where
  pub key : k.meaning.decap_of (turn_of_epoch k c epoch).secret (take k.ciphertext (turn_of_epoch k c (epoch + 1)).agreement)
      ≡ turn_key k c epoch
  pub public : drop k.ciphertext (turn_of_epoch k c (epoch + 1)).agreement ≡ (turn_of_epoch k c (epoch + 1)).public
  pub root : next_root (turn_of_epoch k c epoch).root (turn_key k c epoch) ≡ (turn_of_epoch k c (epoch + 1)).root
  pub stream : root_key (turn_of_epoch k c epoch).root (turn_key k c epoch) ≡ (turn_of_epoch k c (epoch + 1)).stream

pub answers : (k : Mechanism) (c : Conversation) (epoch : ℕ) → IsLawfulMechanism k → IsLawfulConversation k c
    → epoch < length c.seeds → Answers k c epoch
answers k c epoch law lawful h =
    let turn = turn_of_epoch k c epoch in
    let seed = slice_index_or c.seeds epoch [] in
    let sealed = k.meaning.encap_of turn.public seed in
    let sizes = turn_sizes k c epoch law lawful (omega arith) in
    let is_seed = lawful.turns epoch [] h in
    let cipher_long = law.ciphertext_long turn.public seed sealed.0 sealed.1 sizes.public_long is_seed.long refl in
    let is = turn_is k c epoch in
    record {
      key = ap (λ (t : Turn). k.meaning.decap_of turn.secret (take k.ciphertext t.agreement)) is
          ∙ ap (k.meaning.decap_of turn.secret) (take_at sealed.0 (pair_at k seed).0 k.ciphertext cipher_long)
          ∙ law.opens (pair_seed c epoch) turn.public turn.secret seed sealed.0 sealed.1 sizes.pair is_seed.long refl;
      public = ap (λ (t : Turn). drop k.ciphertext t.agreement) is
          ∙ drop_at sealed.0 (pair_at k seed).0 k.ciphertext cipher_long
          ∙ ap (λ (t : Turn). t.public) (sym is);
      root = ap (λ (t : Turn). t.root) (sym is);
      stream = ap (λ (t : Turn). t.stream) (sym is);
    }

-- ---- the keys that are kept

-- none of the epoch arrived before
indices_next : (c : Conversation) (v : View) (i : ℕ) → All (HasArrived c v) v.arrived
    → indices_in (opened_next v i).arrived (v.epoch + 1) ≡ i ∷ []
indices_next c v i arrivals =
    indices_in-same v.arrived (position_at (v.epoch + 1) i) (v.epoch + 1) refl
    ∙ ap (λ indices. indices ++ i ∷ []) (indices_in-beyond c v v.arrived (v.epoch + 1) arrivals (omega arith))

reach_one : (i : ℕ) → reach (i ∷ []) ≡ i
unfolding reach
reach_one i = omega arith

reach_in-next : (c : Conversation) (v : View) (i : ℕ) → All (HasArrived c v) v.arrived
    → reach_in c (opened_next v i) (v.epoch + 1) ≡ i
reach_in-next c v i arrivals =
    reach_in-latest c (opened_next v i) (v.epoch + 1) (omega arith) ∙ ap reach (indices_next c v i arrivals) ∙ reach_one i

-- the keys before the index are
epoch_keys-next : (k : Mechanism) (c : Conversation) (v : View) (i : ℕ) → All (HasArrived c v) v.arrived → 1 ≤ i
    → epoch_keys k c (opened_next v i) (v.epoch + 1) ≡ shelved (v.epoch + 1) (turn_of_epoch k c (v.epoch + 1)).stream 0
    (i - 1)
epoch_keys-next k c v i arrivals one =
    ap₂ (keys_in (v.epoch + 1) (turn_of_epoch k c (v.epoch + 1)).stream) (indices_next c v i arrivals)
    (reach_in-next c v i arrivals)
    ∙ keys_in-first (v.epoch + 1) (turn_of_epoch k c (v.epoch + 1)).stream i one

-- with those of earlier epochs
keys_next : (k : Mechanism) (c : Conversation) (v : View) (i : ℕ) (keys : List Kept) → All (HasArrived c v) v.arrived → 1 ≤ i
    → is_own v.side v.epoch ≡ true → is_own v.side (v.epoch + 1) ≡ false
    → keys_below k c (opened_next v i) v.epoch ≡ keys_below k c v (v.epoch + 1) ++ keys
    → keys_below k c v (v.epoch + 1) ++ keys ++ shelved (v.epoch + 1) (turn_of_epoch k c (v.epoch + 1)).stream 0 (i - 1)
    ≡ keys_below k c (opened_next v i) (v.epoch + 1 + 1)
keys_next k c v i keys arrivals one own peers earlier =
    let next = opened_next v i in
    ap₂ (λ a b. a ++ b)
    (sym earlier ∙ sym (keys_below-own k c next v.epoch own))
    (sym (epoch_keys-next k c v i arrivals one))
    ∙ sym (keys_below-peers k c next (v.epoch + 1) peers)

-- and how many they are
would_next : (k : Mechanism) (c : Conversation) (v : View) (i : ℕ) (keys : List Kept) (passed : ℕ) → length keys ≡ passed
    → keys_below k c v (v.epoch + 1) ++ keys ++ shelved (v.epoch + 1) (turn_of_epoch k c (v.epoch + 1)).stream 0 (i - 1)
    ≡ keys_below k c (opened_next v i) (v.epoch + 1 + 1)
    → length (state_of k c v).kept + passed + (i - 1) ≡ length (missing_of c (opened_next v i))
would_next k c v i keys passed long same =
    let first = keys_below k c v (v.epoch + 1) in
    let stream = (turn_of_epoch k c (v.epoch + 1)).stream in
    let last = shelved (v.epoch + 1) stream 0 (i - 1) in
    let lengths = ap length same in
    let all : length (keys_below k c (opened_next v i) (v.epoch + 1 + 1)) ≡ length
    (missing_of c (opened_next v i)) = length-map (missing_of c (opened_next v i)) (key_of k c) in
    let parts = length-append (first ++ keys) last in
    let two = length-append first keys in
    let three = length-shelved (v.epoch + 1) stream 0 (i - 1) in
    omega arith

-- ---- the way

-- what the session keeps, from its parts
abbrev turned : Mechanism → Conversation → View → List ℕ → Phase → ℕ → Option Reception → List Kept → State
turned k c v root phase previous receiving kept = record (state_of k c v) {
  root = root;
  epoch = v.epoch + 1;
  phase = phase;
  previous = previous;
  receiving = receiving;
  kept = kept;
}

-- how many texts the side said in its last epoch
previous_next : (k : Mechanism) (c : Conversation) (v : View) (i : ℕ) → is_own v.side (v.epoch + 1) ≡ false
    → count_of c v.epoch ≡ (state_of k c (opened_next v i)).previous
previous_next k c v i peers =
    sym (cond-false (is_own v.side (v.epoch + 1)) (previous_of c (v.epoch + 1))
    (if nat_le 1 (v.epoch + 1) then count_of c (v.epoch + 1 - 1) else 0) peers
    ∙ cond-true (nat_le 1 (v.epoch + 1)) (count_of c (v.epoch + 1 - 1)) 0 (le-leb 1 (v.epoch + 1) (omega arith))
    ∙ ap (count_of c) (omega arith))

-- the way, with the keys of the peer's last epoch
pub turn_way-is : (k : Mechanism) (c : Conversation) (v : View) (i : ℕ) (passed : ℕ) (keys : List Kept)
    → Answers k c v.epoch → All (HasArrived c v) v.arrived → 1 ≤ i
    → is_own v.side v.epoch ≡ true → is_own v.side (v.epoch + 1) ≡ false → length keys ≡ passed
    → keys_below k c (opened_next v i) v.epoch ≡ keys_below k c v (v.epoch + 1) ++ keys
    → turn_way k (state_of k c v) (view_own k c v) (post_fields k c (position_at (v.epoch + 1) i)) passed keys
    ≡ within_limit (length (missing_of c (opened_next v i)))
    (record { key = message_key (turn_of_epoch k c (v.epoch + 1)).stream i; next = state_of k c (opened_next v i) })
turn_way-is k c v i passed keys answered arrivals one own peers long earlier =
    let s = state_of k c v in
    let f = post_fields k c (position_at (v.epoch + 1) i) in
    let turn = turn_of_epoch k c (v.epoch + 1) in
    let next = opened_next v i in
    let root = (turn_of_epoch k c v.epoch).root in
    let secret_key = k.meaning.decap_of (turn_of_epoch k c v.epoch).secret (take k.ciphertext turn.agreement) in
    let stream : root_key root secret_key ≡ turn.stream = ap (root_key root) answered.key ∙ answered.stream in
    let kept = keys_next k c v i keys arrivals one own peers earlier in
    ap (λ stream. within_limit (length s.kept + passed + (i - 1)) (record {
      key = message_key stream i;
      next = turned k c v (next_root root secret_key) (in_peers (drop k.ciphertext turn.agreement)) (count_of c v.epoch)
          (Some (record { chain = chain_of stream i; reach = i })) (s.kept ++ keys ++ shelved (v.epoch + 1) stream 0 (i - 1));
    })) stream
    ∙ ap₂ (λ would (next : State). within_limit would (record { key = message_key turn.stream i; next = next }))
    (would_next k c v i keys passed long kept)
    (ap₂ (λ root phase. turned k c v root phase (count_of c v.epoch)
    (Some (record { chain = chain_of turn.stream i; reach = i }))
    (s.kept ++ keys ++ shelved (v.epoch + 1) turn.stream 0 (i - 1)))
    (ap (next_root root) answered.key ∙ answered.root)
    (ap in_peers answered.public
    ∙ sym (cond-false (is_own v.side (v.epoch + 1)) (in_own (view_own k c next)) (in_peers turn.public) peers))
    ∙ ap₂ (λ previous receiving. turned k c v turn.root (view_phase k c next) previous receiving
    (s.kept ++ keys ++ shelved (v.epoch + 1) turn.stream 0 (i - 1)))
    (previous_next k c v i peers)
    (ap (λ n. Some (record { chain = chain_of turn.stream n; reach = n })) (sym (reach_in-next c v i arrivals))
    ∙ sym (receiving-latest k c next (v.epoch + 1) (latest_here v.side (v.epoch + 1) peers)))
    ∙ ap (turned k c v turn.root (view_phase k c next) (state_of k c next).previous (state_of k c next).receiving) kept)
