-- sntrup761 on lists of bytes (NTRU Prime, round 3 specification, Streamlined NTRU Prime: KeyGen, Encap, Decap).
use Rattle.std.specs.Prelude.{ℕ, ◌+◌, List, ◌++◌, take, drop, Option, Some, None, is_some, find, if◌then◌else◌, ℤ}
use Rattle.std.specs.List.{range_with_len}
use Rattle.std.specs.Option.{option_map, option_or}
use Rattle.std.specs.Str.{bytes_eq}
use Rattle.ntru_codec.specs.Small.{small_encoded, small_decoded, first_bad}
use Rattle.ntru_codec.specs.Elements.{rq_encoded, rq_decoded, rounded_encoded, rounded_decoded}
use Rattle.sntrup_core.specs.Inverse.{inverse}
use Rattle.sntrup_core.specs.Core.{quotient, encrypted, decrypted}
use Rattle.kem_laws.specs.Mechanism.{Meaning, Mechanism}
use Rattle.sntrup761.specs.Draws.{drawn_g, drawn_f, drawn_rho, drawn_r}
use Rattle.sntrup761.specs.Hashes.{hash, confirm, session}

-- ---- keys
-- the number of the first of n tries whose element has an inverse modulo 2h + 1
unfoldable pub first_try : ℕ → (ℕ → List ℤ) → ℕ → Option ℕ
first_try h drawn n = find (λ number. is_some (inverse h (drawn number))) (range_with_len 0 n)

-- f, v, the public key, rho, and the hash of the public key
unfoldable pub secret_of : List ℤ → List ℤ → List ℕ → List ℕ → List ℕ
secret_of f v public rho = small_encoded f ++ small_encoded v ++ public ++ rho ++ hash 4 public

-- the public key and the secret
unfoldable pub keys_from : List ℕ → List ℤ → Option (List ℤ) → Option (List ℤ) → Option (List ℕ × List ℕ)
keys_from rho f (Some v) (Some h) = Some (rq_encoded h, secret_of f v (rq_encoded h) rho)
keys_from rho f _ _ = None

unfoldable pub keys_of : List ℕ → Option ℕ → Option ℕ → Option (List ℕ × List ℕ)
keys_of seed (Some i) (Some j) =
    keys_from (drawn_rho seed) (drawn_f seed j) (inverse 1 (drawn_g seed i)) (quotient (drawn_g seed i) (drawn_f seed j))
keys_of seed _ _ = None

-- KeyGen: from the first of sixteen tries for g with an inverse in R/3, and the first of four for f with one in R/q
unfoldable pub pair : List ℕ → Option (List ℕ × List ℕ)
pair seed = keys_of seed (first_try 1 (drawn_g seed) 16) (first_try 2295 (drawn_f seed) 4)

-- ---- ciphertexts
-- Hide: the rounded ciphertext of r, and the confirmation
unfoldable pub hidden : List ℤ → List ℕ → List ℕ → List ℕ
hidden r public public_hash =
    rounded_encoded (encrypted r (rq_decoded public)) ++ confirm (small_encoded r) public_hash

-- Encap: the ciphertext and the shared key
unfoldable pub encapsulated : List ℕ → List ℕ → List ℕ × List ℕ
encapsulated public seed =
    let ciphertext = hidden (drawn_r seed) public (hash 4 public) in
    (ciphertext, session 1 (small_encoded (drawn_r seed)) ciphertext)

-- ---- secrets
-- n bytes from a place on
abbrev pub part : ℕ → ℕ → List ℕ → List ℕ
part at n bytes = take n (drop at bytes)

-- the place of the first byte that neither f nor v has
unfoldable pub bad_byte : List ℕ → Option ℕ
bad_byte secret = option_or (first_bad (part 0 191 secret)) (option_map (λ at. 191 + at) (first_bad (part 191 191 secret)))

-- what a ciphertext is decrypted to
unfoldable pub opened : List ℕ → List ℕ → List ℤ
opened secret ciphertext =
    decrypted (small_decoded (part 0 191 secret)) (small_decoded (part 191 191 secret))
    (rounded_decoded (part 0 1007 ciphertext))

-- that, hidden again
unfoldable pub hidden_again : List ℕ → List ℕ → List ℕ
hidden_again secret ciphertext = hidden (opened secret ciphertext) (part 382 1158 secret) (part 1731 32 secret)

-- Decap: the key of what was opened, where hiding that gives the ciphertext again, and else a key of rho
unfoldable pub decapsulated : List ℕ → List ℕ → List ℕ
decapsulated secret ciphertext =
    if bytes_eq (hidden_again secret ciphertext) ciphertext
    then session 1 (small_encoded (opened secret ciphertext)) ciphertext
    else session 0 (part 1540 191 secret) ciphertext

-- the mechanism
abbrev pub sntrup761_meaning : Meaning
sntrup761_meaning = record { pair_of = pair; encap_of = encapsulated; decap_of = decapsulated; bad_byte = bad_byte }

-- with its sizes
abbrev pub sntrup761_kem : Mechanism
sntrup761_kem = record { meaning = sntrup761_meaning; public = 1158; secret = 1763; ciphertext = 1039 }
