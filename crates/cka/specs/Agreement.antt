-- Continuous key agreement from a key encapsulation mechanism (Alwen, Coretti, Dodis, "The Double Ratchet",
-- Eurocrypt 2019, section 4.1): each message is a ciphertext to the last public key, and a public key for the answer.
use Rattle.std.specs.Prelude.{◌≡◌, ℕ, ◌+◌, List, ◌++◌, length, take, drop, Option, Some, option_map}
use Rattle.kem_laws.specs.Mechanism.{Mechanism, IsPairOf}

-- how long an agreement message is: a ciphertext and a public key
abbrev pub agreement_size : Mechanism → ℕ
agreement_size k = k.ciphertext + k.public

-- the secret that waits for the answer, the message, and the shared key
abbrev pub turn_of : Mechanism → List ℕ → List ℕ → Option (List ℕ × List ℕ × List ℕ)
turn_of k public seed =
    let sealed = k.meaning.encap_of public seed in
    option_map (λ pair. (pair.1, sealed.0 ++ pair.0, sealed.1)) (k.meaning.pair_of seed)

-- Both sides agree: the message has its size, the secret that the public key belongs to gives the key of the turn,
-- and the public key in the message belongs to the secret that waits for the answer.
abbrev pub Agrees : Mechanism → Type 0
Agrees k =
    (first public held seed secret agreement key : List ℕ) → IsPairOf k.meaning first public held → length seed ≡ 32
    → turn_of k public seed ≡ Some (secret, agreement, key)
    → (length agreement ≡ agreement_size k)
    × (k.meaning.decap_of held (take k.ciphertext agreement) ≡ key)
    × IsPairOf k.meaning seed (drop k.ciphertext agreement) secret
