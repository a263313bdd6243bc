-- A packet of the latest peer's epoch after the greatest index that was opened: the session's way along the chain.
use Rattle.std.proofs.Common.{◌≡◌, ℕ, ◌+◌, ◌-◌, ◌<◌, ◌≤◌, ◌&&◌, nat_le, nat_lt, List, ◌++◌, length, Option, Some, refl, sym, ap, ap₂, ◌∙◌, arith, append_assoc, length-append}
use Rattle.std.proofs.lemmas.Bool.{and_from, cond-true, le-leb, lt-ltb}
use Rattle.std.proofs.lemmas.List.{length-map}
use Rattle.dr_base.specs.declared.key.Kept.{Kept}
use Rattle.dr_base.specs.declared.position.Position.{Position}
use Rattle.fs_aead.specs.Chain.{chain_of, message_key}
use Rattle.fs_aead.specs.Table.{kept_key, shelved}
use Rattle.fs_aead.proofs.Streams.{chain_of-add, length-shelved, message_key-add}
use Rattle.kem_laws.specs.Mechanism.{Mechanism}
use Rattle.session_model.specs.States.{Reception, State}
use Rattle.session_model.specs.Ways.{chain_way, kept_way, known_way, within_limit}
use Rattle.dr_model.specs.Conversations.Conversation.{Conversation}
use Rattle.dr_model.specs.Conversations.Indices.{reach}
use Rattle.dr_model.specs.Conversations.Posts.{key_of, turn_of_epoch}
use Rattle.dr_model.specs.Conversations.ViewStates.{view_reception, state_of}
use Rattle.dr_model.specs.Conversations.Views.{View, indices_in, missing_of, reach_in}
use Rattle.dr_model.proofs.Missing.Arrived.{reach-push}
use Rattle.dr_model.proofs.Missing.EpochIndices.{indices_in-same}
use Rattle.dr_model.proofs.Missing.MissingEpochs.{epoch_keys, keys_below, keys_below-same}
use Rattle.dr_model.proofs.Missing.MissingKeys.{keys_in}
use Rattle.dr_model.proofs.Missing.PassedKeys.{keys_in-beyond}
use Rattle.dr_model.proofs.Taking.KnownEpoch.{opened_here, epoch_keys-other, receiving-latest}
use Rattle.dr_model.proofs.Taking.LatestEpoch.{IsLatest, keys_below-latest, reach_in-latest}

-- the key after the reach
chain_key : (stream : List ℕ) (r i : ℕ) → r < i → message_key (chain_of stream r) (i - r) ≡ message_key stream i
chain_key stream r i h =
    ap (message_key (chain_of stream r)) (omega arith) ∙ message_key-add stream r (i - r - 1)
    ∙ ap (message_key stream) (omega arith)

-- and the chain key
chain_further : (stream : List ℕ) (r i : ℕ) → r < i → chain_of (chain_of stream r) (i - r) ≡ chain_of stream i
chain_further stream r i h = chain_of-add stream r (i - r) ∙ ap (chain_of stream) (omega arith)

-- the reach is the new index
pub reach_in-early : (c : Conversation) (v : View) (p : Position) → v.epoch ≤ p.epoch + 1 → reach_in c v p.epoch < p.index
    → reach_in c (opened_here v p) p.epoch ≡ p.index
reach_in-early c v p near early =
    let indices = indices_in v.arrived p.epoch in
    let before : reach_in c v p.epoch ≡ reach indices = reach_in-latest c v p.epoch near in
    reach_in-latest c (opened_here v p) p.epoch near
    ∙ ap reach (indices_in-same v.arrived p p.epoch refl)
    ∙ reach-push indices p.index ∙ omega arith

-- the keys of its epoch
epoch_keys-early : (k : Mechanism) (c : Conversation) (v : View) (p : Position) → v.epoch ≤ p.epoch + 1
    → reach_in c v p.epoch < p.index
    → epoch_keys k c (opened_here v p) p.epoch
    ≡ epoch_keys k c v p.epoch ++ shelved p.epoch (chain_of (turn_of_epoch k c p.epoch).stream (reach_in c v p.epoch))
    (reach_in c v p.epoch) (p.index - reach_in c v p.epoch - 1)
epoch_keys-early k c v p near early =
    let stream = (turn_of_epoch k c p.epoch).stream in
    let indices = indices_in v.arrived p.epoch in
    let before : reach_in c v p.epoch ≡ reach indices = reach_in-latest c v p.epoch near in
    ap₂ (keys_in p.epoch stream) (indices_in-same v.arrived p p.epoch refl) (reach_in-early c v p near early)
    ∙ keys_in-beyond p.epoch stream indices p.index (omega arith)
    ∙ ap (λ r. keys_in p.epoch stream indices r ++ shelved p.epoch (chain_of stream r) r (p.index - r - 1)) (sym before)

-- all keys that are kept then
pub keys_early : (k : Mechanism) (c : Conversation) (v : View) (p : Position) → IsLatest v.side v.epoch p.epoch
    → reach_in c v p.epoch < p.index
    → keys_below k c (opened_here v p) (v.epoch + 1)
    ≡ keys_below k c v (v.epoch + 1) ++ shelved p.epoch (chain_of (turn_of_epoch k c p.epoch).stream (reach_in c v p.epoch))
    (reach_in c v p.epoch) (p.index - reach_in c v p.epoch - 1)
keys_early k c v p at early =
    let passed = shelved p.epoch (chain_of (turn_of_epoch k c p.epoch).stream (reach_in c v p.epoch)) (reach_in c v p.epoch)
    (p.index - reach_in c v p.epoch - 1) in
    keys_below-latest k c (opened_here v p) p.epoch at
    ∙ ap₂ (λ a b. a ++ b)
    (keys_below-same k c v (opened_here v p) p.epoch refl
    (λ epoch low own. epoch_keys-other k c v p epoch (λ same. omega arith)))
    (epoch_keys-early k c v p at.near early)
    ∙ sym (append_assoc (keys_below k c v p.epoch) (epoch_keys k c v p.epoch) passed)
    ∙ ap (λ keys. keys ++ passed) (sym (keys_below-latest k c v p.epoch at))

-- and how many they are
would_keep : (k : Mechanism) (c : Conversation) (v : View) (p : Position) → IsLatest v.side v.epoch p.epoch
    → reach_in c v p.epoch < p.index
    → length (state_of k c v).kept + (p.index - reach_in c v p.epoch - 1) ≡ length (missing_of c (opened_here v p))
would_keep k c v p at early =
    let r = reach_in c v p.epoch in
    let chain = chain_of (turn_of_epoch k c p.epoch).stream r in
    let passed = shelved p.epoch chain r (p.index - r - 1) in
    ap (λ n. length (state_of k c v).kept + n) (sym (length-shelved p.epoch chain r (p.index - r - 1)))
    ∙ sym (length-append (state_of k c v).kept passed)
    ∙ ap length (sym (keys_early k c v p at early))
    ∙ length-map (missing_of c (opened_here v p)) (key_of k c)

-- what the session keeps then
chain_next : (k : Mechanism) (c : Conversation) (v : View) (p : Position) → IsLatest v.side v.epoch p.epoch
    → reach_in c v p.epoch < p.index
    → (let r = reach_in c v p.epoch in let chain = chain_of (turn_of_epoch k c p.epoch).stream r in
    record (state_of k c v) {
      receiving = Some (record { chain = chain_of chain (p.index - r); reach = p.index });
      kept = (state_of k c v).kept ++ shelved p.epoch chain r (p.index - r - 1);
    })
    ≡ state_of k c (opened_here v p)
chain_next k c v p at early =
    let stream = (turn_of_epoch k c p.epoch).stream in
    ap₂ (λ (receiving : Option Reception) (kept : List Kept). record (state_of k c v) { receiving = receiving; kept = kept })
    (ap (λ (chain : List ℕ). Some (record { chain = chain; reach = p.index }))
    (chain_further stream (reach_in c v p.epoch) p.index early)
    ∙ ap (λ n. Some (record { chain = chain_of stream n; reach = n })) (sym (reach_in-early c v p at.near early))
    ∙ sym (receiving-latest k c (opened_here v p) p.epoch at))
    (sym (keys_early k c v p at early))

-- the way, within the limit
pub way_chain : (k : Mechanism) (c : Conversation) (v : View) (p : Position) → IsLatest v.side v.epoch p.epoch
    → reach_in c v p.epoch < p.index
    → known_way (state_of k c v) p (state_of k c v).receiving
    ≡ within_limit (length (missing_of c (opened_here v p)))
    (record { key = message_key (turn_of_epoch k c p.epoch).stream p.index; next = state_of k c (opened_here v p) })
way_chain k c v p at early =
    let s = state_of k c v in
    let r = reach_in c v p.epoch in
    ap (known_way s p) (receiving-latest k c v p.epoch at)
    ∙ cond-true (nat_le v.epoch (p.epoch + 1) && nat_lt r p.index) (chain_way s (view_reception k c v p.epoch) p)
    (kept_way s p (kept_key s.kept p))
    (and_from (nat_le v.epoch (p.epoch + 1)) (nat_lt r p.index) (le-leb v.epoch (p.epoch + 1) at.near)
    (lt-ltb r p.index early))
    ∙ ap₂ within_limit
    (would_keep k c v p at early)
    (ap₂ (λ (key : List ℕ) (next : State). record { key = key; next = next })
    (chain_key (turn_of_epoch k c p.epoch).stream r p.index early)
    (chain_next k c v p at early))
