-- What the code of encapsulation makes.
use Rattle.std.proofs.Common.{◌≡◌, ℕ, List, length, ℤ, ap, ap₂, sym, ◌∙◌, arith}
use Rattle.std.proofs.lemmas.List.{take_all}
use Rattle.ntru_codec.specs.Small.{small_encoded}
use Rattle.sntrup761.specs.Draws.{drawn_r}
use Rattle.sntrup761.specs.Hashes.{hash, session}
use Rattle.sntrup761.specs.Mechanism.{part, hidden, encapsulated}

pub encapsulated-is : (public seed whole public_hash ciphertext small key : List ℕ) (r : List ℤ)
    → length public ≡ 1158 → r ≡ drawn_r seed
    → whole ≡ part 0 1158 public → public_hash ≡ hash 4 public → ciphertext ≡ hidden r whole public_hash
    → small ≡ small_encoded r
    → key ≡ session 1 small ciphertext → encapsulated public seed ≡ (ciphertext, key)
unfolding encapsulated
encapsulated-is public seed whole public_hash ciphertext small key r long drawn all hashed hidden_is encoded keyed =
    let same : whole ≡ public = all ∙ take_all 1158 public (omega arith) in
    let c : hidden (drawn_r seed) public (hash 4 public) ≡ ciphertext =
    sym (hidden_is ∙ ap (λ x. hidden x whole public_hash) drawn ∙ ap₂ (λ x y. hidden (drawn_r seed) x y) same hashed) in
    let k : session 1 (small_encoded (drawn_r seed)) (hidden (drawn_r seed) public (hash 4 public)) ≡ key =
    sym (keyed ∙ ap₂ (λ x y. session 1 x y) (encoded ∙ ap small_encoded drawn) (sym c)) in
    ap₂ (λ (x y : List ℕ). (x, y)) c k
