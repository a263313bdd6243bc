-- sntrup761 is a mechanism: the proof that the law of `Kem` asks for. It holds of every seed, by the law that decryption
-- undoes encryption.
use Rattle.std.proofs.Common.{◌≡◌, ℕ, Some, None, Option, List, length, ℤ, ◌+◌, refl, ap, ap₂, sym, ◌∙◌, subst, arith}
use Rattle.std.specs.Option.{option_map, option_or}
use Rattle.std.specs.Str.{bytes_eq}
use Rattle.std.proofs.lemmas.Bool.{cond-true}
use Rattle.std.proofs.lemmas.Slice.Eq.{bytes_eq-Decides}
use Rattle.ntru_codec.specs.Small.{small_encoded, small_decoded, first_bad}
use Rattle.ntru_codec.specs.Elements.{rq_encoded, rq_decoded, rounded_decoded}
use Rattle.ntru_codec.proofs.SmallLaws.{small_decoded-encoded, encoded-good}
use Rattle.ntru_codec.proofs.ElementLaws.{rq_decoded-encoded, rounded_decoded-encoded, length-rq_encoded}
use Rattle.sntrup_core.specs.Inverse.{inverse}
use Rattle.sntrup_core.specs.Core.{IsSmall, IsShort, IsPair, quotient, encrypted, decrypted}
use Rattle.sntrup_core.proofs.InverseLaws.{inverse-some}
use Rattle.sntrup_core.proofs.Quotients.{pair-from, length-quotient, quotient-within}
use Rattle.sntrup_core.proofs.Decryption.{decrypted-encrypted}
use Rattle.kem_laws.specs.Mechanism.{IsLawfulMechanism}
use Rattle.sntrup761.specs.Draws.{drawn_g, drawn_f, drawn_rho, drawn_r}
use Rattle.sntrup761.specs.DrawLaws.{drawn_g-small, drawn_f-short, length-drawn_rho, drawn_r-short}
use Rattle.sntrup761.specs.Hashes.{hash, session}
use Rattle.sntrup761.specs.Mechanism.{first_try, secret_of, keys_from, keys_of, pair, part, hidden, encapsulated, bad_byte, opened, hidden_again, decapsulated, sntrup761_kem, sntrup761_meaning}
use Rattle.sntrup761.specs.Sizes.{length-session, length-encrypted, encrypted-within, encrypted-rounded, length-hidden, AreParts, secret-parts, hidden-front}

-- the parts of equal pairs
parts-of : {X Y : Type 0} (a c : X) (b d : Y) → ◌≡◌ {A = X × Y} (a, b) (c, d) → (a ≡ c) × (b ≡ d)
parts-of {X} {Y} a c b d e = (ap (λ (t : X × Y). t.0) e, ap (λ (t : X × Y). t.1) e)

-- what a pair of keys is made of
record Made (public secret : List ℕ) : Type 0 where
  pub g : List ℤ
  pub f : List ℤ
  pub h : List ℤ
  pub v : List ℤ
  pub rho : List ℕ
  pub pair_is : IsPair g f h v
  pub small : IsSmall g
  pub short : IsShort f
  pub public_is : public ≡ rq_encoded h
  pub secret_is : secret ≡ secret_of f v public rho
  pub rho_long : length rho ≡ 191

made-from : (public secret rho : List ℕ) (g f : List ℤ) (i q : Option (List ℤ)) → IsSmall g → IsShort f → length rho ≡ 191
    → inverse 1 g ≡ i → quotient g f ≡ q → keys_from rho f i q ≡ Some (public, secret) → Made public secret
unfolding keys_from
made-from public secret rho g f (Some v) (Some h) sg sf lr i q e =
    let given : Option (List ℕ × List ℕ) → List ℕ × List ℕ = λ o. elim o [ Some p ↦ p | None ↦ (public, secret) ] in
    let p = parts-of (rq_encoded h) public (secret_of f v (rq_encoded h) rho) secret (ap given e) in
    record {
      g = g;
      f = f;
      h = h;
      v = v;
      rho = rho;
      pair_is = pair-from 760 g f h v sg.long sf.small.long sg.within i q;
      small = sg;
      short = sf;
      public_is = sym p.0;
      secret_is = sym p.1 ∙ ap (λ t. secret_of f v t rho) p.0;
      rho_long = lr;
    }
made-from public secret rho g f (Some v) None sg sf lr i q e = absurd (let n : None ≡ Some (public, secret) = e in cc)
made-from public secret rho g f None q' sg sf lr i q e = absurd (let n : None ≡ Some (public, secret) = e in cc)

made-of : (seed public secret : List ℕ) (i j : Option ℕ) → keys_of seed i j ≡ Some (public, secret) → Made public secret
unfolding keys_of
made-of seed public secret (Some i) (Some j) e =
    let g = drawn_g seed i in
    let f = drawn_f seed j in
    made-from public secret (drawn_rho seed) g f (inverse 1 g) (quotient g f) (drawn_g-small seed i)
    (drawn_f-short seed j) (length-drawn_rho seed) refl refl e
made-of seed public secret (Some i) None e = absurd (let n : None ≡ Some (public, secret) = e in cc)
made-of seed public secret None j e = absurd (let n : None ≡ Some (public, secret) = e in cc)

made : (seed public secret : List ℕ) → pair seed ≡ Some (public, secret) → Made public secret
unfolding pair
made seed public secret e = made-of seed public secret (first_try 1 (drawn_g seed) 16) (first_try 2295 (drawn_f seed) 4) e

-- ---- what a made pair has
length-h : (public secret : List ℕ) (m : Made public secret) → length m.h ≡ 761
length-h public secret m = length-quotient m.g m.f m.h m.pair_is.quotient_is ∙ m.small.long

length-v : (public secret : List ℕ) (m : Made public secret) → length m.v ≡ 761
length-v public secret m = (inverse-some 1 m.g m.v m.pair_is.inverse_is).long ∙ m.small.long

public_long : (public secret : List ℕ) → Made public secret → length public ≡ 1158
public_long public secret m =
    ap length m.public_is ∙ length-rq_encoded m.h (length-h public secret m)
    (quotient-within m.g m.f m.h m.pair_is.quotient_is)

made-parts : (public secret : List ℕ) (m : Made public secret)
    → AreParts secret (small_encoded m.f) (small_encoded m.v) public m.rho (hash 4 public) 191 191 1158 191 32
made-parts public secret m =
    subst (λ (t : List ℕ). AreParts t (small_encoded m.f) (small_encoded m.v) public m.rho
    (hash 4 public) 191 191 1158 191 32) (sym m.secret_is)
    (secret-parts m.f m.v public m.rho (public_long public secret m) m.rho_long)

secret_lawful : (public secret : List ℕ) → Made public secret → bad_byte secret ≡ None
unfolding bad_byte
secret_lawful public secret m =
    let p = made-parts public secret m in
    let v = inverse-some 1 m.g m.v m.pair_is.inverse_is in
    let first : first_bad (part 0 191 secret) ≡ None = ap first_bad p.first
    ∙ encoded-good m.f m.short.small.long m.short.small.within in
    let second : first_bad (part 191 191 secret) ≡ None = ap first_bad p.second
    ∙ encoded-good m.v (length-v public secret m) v.within in
    ap₂ (λ (x y : Option ℕ). option_or x (option_map (λ at. 191 + at) y)) first second

-- ---- an honest ciphertext
-- what its secret opens it to
opened-is : (public secret : List ℕ) (m : Made public secret) (r : List ℤ) → IsShort r
    → opened secret (hidden r public (hash 4 public)) ≡ r
unfolding opened
opened-is public secret m r short =
    let p = made-parts public secret m in
    let v = inverse-some 1 m.g m.v m.pair_is.inverse_is in
    let f_is : small_decoded (part 0 191 secret) ≡ m.f = ap small_decoded p.first
    ∙ small_decoded-encoded m.f m.short.small.long m.short.small.within in
    let v_is : small_decoded (part 191 191 secret) ≡ m.v = ap small_decoded p.second
    ∙ small_decoded-encoded m.v (length-v public secret m) v.within in
    let h_is : rq_decoded public ≡ m.h =
    ap rq_decoded m.public_is ∙ rq_decoded-encoded m.h (length-h public secret m)
    (quotient-within m.g m.f m.h m.pair_is.quotient_is) in
    let c_is : rounded_decoded (part 0 1007 (hidden r public (hash 4 public))) ≡ encrypted r m.h =
    ap rounded_decoded (hidden-front r public (hash 4 public) short.small.long)
    ∙ rounded_decoded-encoded (encrypted r (rq_decoded public))
    (length-encrypted r (rq_decoded public) short.small.long) (encrypted-within r (rq_decoded public))
    (encrypted-rounded r (rq_decoded public))
    ∙ ap (encrypted r) h_is in
    ap (λ f. decrypted f (small_decoded (part 191 191 secret))
    (rounded_decoded (part 0 1007 (hidden r public (hash 4 public))))) f_is
    ∙ ap₂ (λ v c. decrypted m.f v c) v_is c_is
    ∙ decrypted-encrypted m.g m.f m.h m.v r m.pair_is m.small m.short short

decapsulated-is : (public secret : List ℕ) (m : Made public secret) (r : List ℤ) → IsShort r
    → decapsulated secret (hidden r public (hash 4 public)) ≡ session 1 (small_encoded r) (hidden r public (hash 4 public))
unfolding decapsulated hidden_again
decapsulated-is public secret m r short =
    let p = made-parts public secret m in
    let c = hidden r public (hash 4 public) in
    let is = opened-is public secret m r short in
    let again : hidden (opened secret c) (part 382 1158 secret) (part 1731 32 secret) ≡ c =
    ap (λ x. hidden x (part 382 1158 secret) (part 1731 32 secret)) is ∙ ap₂ (λ x y. hidden r x y) p.third p.fifth in
    cond-true (bytes_eq (hidden (opened secret c) (part 382 1158 secret) (part 1731 32 secret)) c) _ _
    ((bytes_eq-Decides (hidden (opened secret c) (part 382 1158 secret) (part 1731 32 secret)) c).1 again)
    ∙ ap (λ x. session 1 (small_encoded x) c) is

-- ---- the law
given : (public other ciphertext key : List ℕ) → encapsulated public other ≡ (ciphertext, key)
    → (hidden (drawn_r other) public (hash 4 public) ≡ ciphertext)
    × (session 1 (small_encoded (drawn_r other)) (hidden (drawn_r other) public (hash 4 public)) ≡ key)
unfolding encapsulated
given public other ciphertext key e = parts-of _ _ _ _ e

opens : (public secret : List ℕ) → Made public secret → (other ciphertext key : List ℕ)
    → encapsulated public other ≡ (ciphertext, key) → decapsulated secret ciphertext ≡ key
opens public secret m other ciphertext key e =
    let g = given public other ciphertext key e in
    ap (decapsulated secret) (sym g.0) ∙ decapsulated-is public secret m (drawn_r other) (drawn_r-short other) ∙ g.1

pub sntrup761_law : IsLawfulMechanism sntrup761_kem
sntrup761_law = record {
  public_fits = omega arith;
  secret_fits = omega arith;
  ciphertext_fits = omega arith;
  public_long = λ seed public secret p. public_long public secret (made seed public secret p.gives);
  secret_long = λ seed public secret p. (made-parts public secret (made seed public secret p.gives)).long;
  lawful = λ seed public secret p. secret_lawful public secret (made seed public secret p.gives);
  ciphertext_long = λ public other ciphertext key _ _ e.
      ap length (sym (given public other ciphertext key e).0)
      ∙ length-hidden (drawn_r other) public (hash 4 public) (drawn_r-short other).small.long;
  key_long = λ public other ciphertext key _ _ e.
      ap length (sym (given public other ciphertext key e).1)
      ∙ length-session 1 (small_encoded (drawn_r other)) (hidden (drawn_r other) public (hash 4 public));
  opens = λ seed public secret other ciphertext key p _ e. opens public secret
      (made seed public secret p.gives) other ciphertext key e;
}
