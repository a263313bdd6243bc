-- Both sides of an agreement get one key.
use Rattle.std.proofs.Common.{◌≡◌, ℕ, List, ◌++◌, length, take, drop, Option, Some, None, refl, sym, ap, ◌∙◌, arith}
use Rattle.std.specs.Prelude.{option_map}
use Rattle.std.proofs.lemmas.List.{length-append}
use Rattle.std.proofs.Math.Seq.{take-append_seam, drop-append_seam}
use Rattle.kem_laws.specs.Mechanism.{Mechanism, IsPairOf, IsLawful, IsLawfulMechanism}
use Rattle.cka.specs.Agreement.{Agrees}

-- the parts of an agreement
take_front : (n : ℕ) (xs ys : List ℕ) → length xs ≡ n → take n (xs ++ ys) ≡ xs
take_front n xs ys e = ap (λ k. take k (xs ++ ys)) (sym e) ∙ take-append_seam xs ys

drop_front : (n : ℕ) (xs ys : List ℕ) → length xs ≡ n → drop n (xs ++ ys) ≡ ys
drop_front n xs ys e = ap (λ k. drop k (xs ++ ys)) (sym e) ∙ drop-append_seam xs ys

-- what a turn gave comes from a pair
pub of_pair : (f : List ℕ × List ℕ → List ℕ × List ℕ × List ℕ) (o : Option (List ℕ × List ℕ)) (t : List ℕ × List ℕ × List ℕ)
    → option_map f o ≡ Some t → (pair : List ℕ × List ℕ) × (o ≡ Some pair) × (t ≡ f pair)
of_pair f None t e = absurd (cc e)
of_pair f (Some pair) t e = (pair, refl, cc e)

pub agrees : (k : Mechanism) → IsLawfulMechanism k → Agrees k
agrees k m first public held seed secret agreement key belongs long turned =
    let Out : Type 0 = List ℕ × List ℕ × List ℕ in
    let sealed : List ℕ × List ℕ = k.meaning.encap_of public seed in
    let found = of_pair (λ pair. (pair.1, sealed.0 ++ pair.0, sealed.1)) (k.meaning.pair_of seed) (secret, agreement, key) turned in
    let next : List ℕ = found.0.0 in
    let secret_is : secret ≡ found.0.1 = ap (λ (t : Out). t.0) found.2 in
    let agreement_is : agreement ≡ sealed.0 ++ next = ap (λ (t : Out). t.1) found.2 in
    let key_is : key ≡ sealed.1 = ap (λ (t : Out). t.2) found.2 in
    let new_pair : IsPairOf k.meaning seed next found.0.1 = record { long = long; gives = found.1 } in
    let public_long : length public ≡ k.public = m.public_long first public held belongs in
    let cipher_long : length sealed.0 ≡ k.ciphertext = m.ciphertext_long public seed sealed.0 sealed.1 public_long long refl in
    let next_long : length next ≡ k.public = m.public_long seed next found.0.1 new_pair in
    let front : take k.ciphertext agreement ≡ sealed.0 = ap (λ a. take k.ciphertext a) agreement_is ∙ take_front k.ciphertext sealed.0 next cipher_long in
    let back : drop k.ciphertext agreement ≡ next = ap (λ a. drop k.ciphertext a) agreement_is ∙ drop_front k.ciphertext sealed.0 next cipher_long in
    let opened : k.meaning.decap_of held sealed.0 ≡ sealed.1 = m.opens first public held seed sealed.0 sealed.1 belongs long refl in (
      ap length agreement_is ∙ length-append sealed.0 next ∙ omega (arith, cipher_long, next_long),
      ap (λ a. k.meaning.decap_of held a) front ∙ opened ∙ sym key_is,
      record {
        long = long;
        gives = found.1 ∙ ap Some (ap (λ (x : List ℕ). (x, found.0.1)) (sym back) ∙ ap (λ (y : List ℕ). (drop k.ciphertext agreement, y)) (sym secret_is));
      },
    )

-- the secret of a pair is lawful, read back from the front of its room
pub lawful_front : (k : Mechanism) (n : ℕ) (seed public secret after : List ℕ) → IsLawfulMechanism k → n ≡ k.secret
    → length seed ≡ 32 → k.meaning.pair_of seed ≡ Some (public, secret) → IsLawful k.meaning (take n (secret ++ after))
lawful_front k n seed public secret after m e long gives =
    let made : IsPairOf k.meaning seed public secret = record { long = long; gives = gives } in
    ap (λ b. k.meaning.bad_byte b) (take_front n secret after (m.secret_long seed public secret made ∙ sym e))
    ∙ m.lawful seed public secret made
