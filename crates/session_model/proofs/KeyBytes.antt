-- The keys of a session's boxes as bytes, both ways.
use Rattle.std.proofs.Common.{◌≡◌, ◌∙◌, ◌≤◌, ◌+◌, ℕ, List, ◌++◌, length, take, drop, sym, ap, subst, arith, length-append, length-drop}
use Rattle.std.proofs.Math.Seq.{drop-append_seam, take-append_seam}
use Rattle.std.proofs.lemmas.List.{drop-drop, length-take-le, take-append-drop, take_all}
use Rattle.hmac_hkdf.proofs.Lengths.{length-expand_of}
use Rattle.session_model.specs.BoxKeys.{AreLongKeys, relay_begun, relay_bytes, relay_keys_at, relay_keys_of}
use Rattle.session_model.specs.declared.relay_keys.RelayKeys.{RelayKeys}
use Rattle.session_model.specs.declared.relay_keys.TheConstants.{RELAY_KEYS_SIZE}

pub relay-size : (keys : RelayKeys) → AreLongKeys keys → length (relay_bytes keys) ≡ RELAY_KEYS_SIZE
relay-size keys l =
    let a = keys.first_owner.bytes in
    let b = keys.first_poster.bytes in
    let c = keys.second_owner.bytes in
    let d = keys.second_poster.bytes in
    omega (arith, length-append a (b ++ (c ++ d)), length-append b (c ++ d), length-append c d, l.first_owner, l.first_poster, l.second_owner, l.second_poster)

-- ---- from bytes

part_long : (bytes : List ℕ) (at : ℕ) → at + 32 ≤ length bytes → length (take 32 (drop at bytes)) ≡ 32
part_long bytes at inside = length-take-le 32 (drop at bytes) (omega (arith, length-drop at bytes, inside))

pub keys-long : (bytes : List ℕ) → length bytes ≡ RELAY_KEYS_SIZE → AreLongKeys (relay_keys_at bytes)
keys-long bytes long = record {
  first_owner = length-take-le 32 bytes (omega (arith, long));
  first_poster = part_long bytes 32 (omega (arith, long));
  second_owner = part_long bytes 64 (omega (arith, long));
  second_poster = part_long bytes 96 (omega (arith, long));
}

-- what stands at a place, and what follows it
part_then : (bytes : List ℕ) (at : ℕ) → take 32 (drop at bytes) ++ drop (at + 32) bytes ≡ drop at bytes
part_then bytes at =
    ap (λ (l : List ℕ). take 32 (drop at bytes) ++ l) (sym (drop-drop 32 at bytes)) ∙ take-append-drop 32 (drop at bytes)

pub keys-back : (bytes : List ℕ) → length bytes ≡ RELAY_KEYS_SIZE → relay_bytes (relay_keys_at bytes) ≡ bytes
keys-back bytes long =
    let last : take 32 (drop 96 bytes) ≡ drop 96 bytes = take_all 32 (drop 96 bytes) (omega (arith, length-drop 96 bytes, long)) in
    let third = ap (λ (l : List ℕ). take 32 (drop 64 bytes) ++ l) last ∙ part_then bytes 64 in
    let second = ap (λ (l : List ℕ). take 32 (drop 32 bytes) ++ l) third ∙ part_then bytes 32 in
    ap (λ (l : List ℕ). take 32 bytes ++ l) second ∙ take-append-drop 32 bytes

-- ---- from keys

front : (n : ℕ) (xs ys : List ℕ) → length xs ≡ n → take n (xs ++ ys) ≡ xs
front n xs ys long = subst (λ (m : ℕ). take m (xs ++ ys) ≡ xs) long (take-append_seam xs ys)

behind : (n at : ℕ) (all xs ys : List ℕ) → drop at all ≡ xs ++ ys → length xs ≡ n → drop (at + n) all ≡ ys
behind n at all xs ys here long =
    sym (drop-drop n at all) ∙ ap (drop n) here ∙ subst (λ (m : ℕ). drop m (xs ++ ys) ≡ ys) long (drop-append_seam xs ys)

pub bytes-back : (keys : RelayKeys) → AreLongKeys keys → relay_keys_at (relay_bytes keys) ≡ keys
bytes-back keys l =
    let a = keys.first_owner.bytes in
    let b = keys.first_poster.bytes in
    let c = keys.second_owner.bytes in
    let d = keys.second_poster.bytes in
    let all = relay_bytes keys in
    let at_b : drop 32 all ≡ b ++ (c ++ d) = subst (λ (m : ℕ). drop m all ≡ b ++ (c ++ d)) l.first_owner (drop-append_seam a (b ++ (c ++ d))) in
    let at_c : drop 64 all ≡ c ++ d = behind 32 32 all b (c ++ d) at_b l.first_poster in
    let at_d : drop 96 all ≡ d = behind 32 64 all c d at_c l.second_owner in
    let first : take 32 all ≡ a = front 32 a (b ++ (c ++ d)) l.first_owner in
    let second : take 32 (drop 32 all) ≡ b = ap (take 32) at_b ∙ front 32 b (c ++ d) l.first_poster in
    let third : take 32 (drop 64 all) ≡ c = ap (take 32) at_c ∙ front 32 c d l.second_owner in
    let last : take 32 (drop 96 all) ≡ d = ap (take 32) at_d ∙ take_all 32 d (omega (arith, l.second_poster)) in
    made first second third last
  where
    make : List ℕ → List ℕ → List ℕ → List ℕ → RelayKeys
    make a b c d = record {
      first_owner = record { bytes = a };
      first_poster = record { bytes = b };
      second_owner = record { bytes = c };
      second_poster = record { bytes = d };
    }

    made : {p q r s a b c d : List ℕ} → p ≡ a → q ≡ b → r ≡ c → s ≡ d → make p q r s ≡ make a b c d
    made first second third last = cc (first, second, third, last)

-- ---- those of a session

pub relay-long : (key : List ℕ) → AreLongKeys (relay_keys_of key)
unfolding relay_begun
relay-long key = keys-long (relay_begun key) (length-expand_of _ _ RELAY_KEYS_SIZE)
