-- The keys of an epoch that are passed after the greatest index that arrived.
use Rattle.std.proofs.Common.{◌≡◌, ℕ, zero, suc, ◌+◌, ◌-◌, ◌<◌, ◌≤◌, false, List, [], ◌∷◌, ◌++◌, map, sym, ap, ap₂, ◌∙◌, add-one, append_assoc, append-nil, arith}
use Rattle.dr_base.specs.declared.key.Kept.{Kept}
use Rattle.fs_aead.specs.Chain.{chain_of, message_key}
use Rattle.fs_aead.specs.Table.{shelved}
use Rattle.fs_aead.proofs.Streams.{chain_of-zero, message_key-add}
use Rattle.dr_model.specs.Conversations.Indices.{is_among, missing_to, reach}
use Rattle.dr_model.proofs.Missing.Arrived.{is_among-last, is_among-other, is_among-beyond}
use Rattle.dr_model.proofs.Missing.MissingIndices.{unless_among, unless, unless_not, missing_to-after}
use Rattle.dr_model.proofs.Missing.MissingKeys.{key_in, keys_in, keys_in-suc}
use Rattle.dr_base.specs.Position.{position_at}

-- a key some steps after an index
key_after : (epoch : ℕ) (stream : List ℕ) (r n : ℕ)
    → key_in epoch stream (suc (r + n))
    ≡ record { position = position_at epoch (r + suc n); key = record { bytes = message_key (chain_of stream r) (suc n) } }
key_after epoch stream r n =
    let make : ℕ → List ℕ → Kept = λ i bytes. record { position = position_at epoch i; key = record { bytes = bytes } } in
    ap₂ make (omega arith)
    (ap (message_key stream) (omega arith) ∙ sym (message_key-add stream r n)
    ∙ ap (message_key (chain_of stream r)) (add-one n))

-- where none arrived after an index each one is missing, and its key passed
pub keys_in-passed : (epoch : ℕ) (stream arrived : List ℕ) (r n : ℕ)
    → ((i : ℕ) → r < i → i ≤ r + n → is_among arrived i ≡ false)
    → keys_in epoch stream arrived (r + n) ≡ keys_in epoch stream arrived r ++ shelved epoch (chain_of stream r) r n
unfolding shelved
keys_in-passed epoch stream arrived r zero none =
    ap (keys_in epoch stream arrived) (omega arith) ∙ sym (append-nil (keys_in epoch stream arrived r))
keys_in-passed epoch stream arrived r (suc n) none =
    ap (keys_in epoch stream arrived) (omega arith)
    ∙ keys_in-suc epoch stream arrived (r + n)
    ∙ ap₂ (λ a b. a ++ b)
    (keys_in-passed epoch stream arrived r n (λ i low high. none i low (omega arith)))
    (ap (map (key_in epoch stream))
    (unless (is_among arrived (suc (r + n))) (suc (r + n)) (none (suc (r + n)) (omega arith) (omega arith)))
    ∙ ap (λ kept. kept ∷ []) (key_after epoch stream r n))
    ∙ append_assoc (keys_in epoch stream arrived r) (shelved epoch (chain_of stream r) r n) _

-- up to the end of an epoch
pub keys_in-end : (epoch : ℕ) (stream arrived : List ℕ) (end : ℕ) → reach arrived ≤ end
    → keys_in epoch stream arrived end ≡ keys_in epoch stream arrived (reach arrived) ++ shelved epoch
    (chain_of stream (reach arrived)) (reach arrived) (end - reach arrived)
keys_in-end epoch stream arrived end h =
    let r = reach arrived in
    ap (keys_in epoch stream arrived) (omega arith)
    ∙ keys_in-passed epoch stream arrived r (end - r) (λ i low high. is_among-beyond arrived i low)

-- up to an index after the greatest that arrives
pub keys_in-beyond : (epoch : ℕ) (stream arrived : List ℕ) (i : ℕ) → reach arrived < i
    → keys_in epoch stream (arrived ++ i ∷ []) i ≡ keys_in epoch stream arrived (reach arrived) ++ shelved epoch
    (chain_of stream (reach arrived)) (reach arrived) (i - reach arrived - 1)
keys_in-beyond epoch stream arrived i h =
    let r = reach arrived in
    let n = i - reach arrived - 1 in
    let more = arrived ++ i ∷ [] in
    let same : suc (r + n) ≡ i = omega arith in
    ap (keys_in epoch stream more) (sym same)
    ∙ keys_in-suc epoch stream more (r + n)
    ∙ ap₂ (λ a b. a ++ b)
    (keys_in-passed epoch stream more r n
    (λ j low high. is_among-other arrived i j (omega arith) ∙ is_among-beyond arrived j low)
    ∙ ap (λ keys. keys ++ shelved epoch (chain_of stream r) r n)
    (ap (map (key_in epoch stream)) (missing_to-after arrived i r h)))
    (ap (map (key_in epoch stream)) (ap (unless_among more) same ∙ unless_not (is_among more i) i (is_among-last arrived i)))
    ∙ append-nil _

-- up to the first index that arrives
pub keys_in-first : (epoch : ℕ) (stream : List ℕ) (i : ℕ) → 1 ≤ i
    → keys_in epoch stream (i ∷ []) i ≡ shelved epoch stream 0 (i - 1)
unfolding reach missing_to
keys_in-first epoch stream i one =
    keys_in-beyond epoch stream [] i one ∙ ap₂ (λ chain n. shelved epoch chain 0 n) (chain_of-zero stream) (omega arith)
