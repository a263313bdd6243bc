-- One field: what is read was written, and what was written is read again.
use Rattle.std.proofs.Common.{◌≡◌, ℕ, ◌<◌, ◌≤◌, Bool, true, false, cond, List, ◌++◌, length, take, drop, Result, Ok, Err, refl, sym, ap, subst, ◌∙◌, arith}
use Rattle.std.specs.Prelude.{nat_le}
use Rattle.std.specs.Int.{Width, byte_len, from_be_bytes, to_be_bytes}
use Rattle.std.proofs.lemmas.Bool.{leb-true, le-leb}
use Rattle.std.proofs.lemmas.List.{take_at, drop_at, take-append-drop, length-append, length-take}
use Rattle.dr_base.proofs.Widths.{IsExact}
use Rattle.dr_base.proofs.Bytes.{AreBytes-take, AreBytes-drop}
use Rattle.packet.specs.declared.fault.Kind.{Kind}
use Rattle.packet.specs.declared.fault.Malformed.{Malformed}
use Rattle.dr_base.specs.Bytes.{AreBytes}
use Rattle.packet.specs.Reading.{◌>>=◌, field, number, lawful}

-- the value of a step without a fault
pub step : {A B : Type 0} (r : Result A Malformed) (next : A → Result B Malformed) (y : B) → (r >>= next) ≡ Ok y →
    (x : A) × (r ≡ Ok x) × (next x ≡ Ok y)
step (Ok x) next y e = (x, refl, e)
step (Err fault) next y e = absurd cc

-- what follows from the value of a step without a fault
pub by_step : {A B : Type 0} {P : Type 0} (r : Result A Malformed) (next : A → Result B Malformed) (y : B) →
    (r >>= next) ≡ Ok y → ((x : A) → r ≡ Ok x → next x ≡ Ok y → P) → P
by_step r next y e so = let x = step r next y e in so x.0 x.1 x.2

-- a fault of a step, or of what follows it
pub by_fault : {A B : Type 0} {P : Type 0} (r : Result A Malformed) (next : A → Result B Malformed) (e : Malformed) →
    (r >>= next) ≡ Err e → (r ≡ Err e → P) → ((x : A) → r ≡ Ok x → next x ≡ Err e → P) → P
by_fault (Ok x) next e is here behind = behind x refl is
by_fault (Err f) next e is here behind = here cc

-- a test that was passed
pub passed : {A : Type 0} (b : Bool) (x y : A) (e : Malformed) → cond b (Ok x) (Err e) ≡ Ok y → (b ≡ true) × (x ≡ y)
passed true x y fault e = (refl, cc)
passed false x y fault e = absurd cc

abbrev answered : {A : Type 0} → A → Result A Malformed
answered x = Ok x

pub passed_on : {A : Type 0} (x y : A) → answered x ≡ answered y → x ≡ y
passed_on x y e = cc

-- a field's bytes, and the rest
pub record IsField (bytes front rest : List ℕ) : Type 0 where
  pub parts : bytes ≡ front ++ rest
  pub front_small : AreBytes front
  pub rest_small : AreBytes rest

pub field_read : (at size : ℕ) (bytes : List ℕ) (x : List ℕ × List ℕ) → AreBytes bytes → field at size bytes ≡ Ok x
    → IsField bytes x.0 x.1 × (length x.0 ≡ size)
unfolding field
field_read at size bytes x small e =
    let p = passed (nat_le size (length bytes)) (take size bytes, drop size bytes) x _ e in
    let inside : size ≤ length bytes = leb-true _ _ p.0 in
    let whole : IsField bytes (take size bytes) (drop size bytes) = record {
      parts = sym (take-append-drop size bytes);
      front_small = AreBytes-take size bytes small;
      rest_small = AreBytes-drop size bytes small;
    } in
    let len : length (take size bytes) ≡ size = omega (arith, length-take size bytes) in
    subst (λ (y : List ℕ × List ℕ). IsField bytes y.0 y.1 × (length y.0 ≡ size)) p.1 (whole, len)

pub field_again : (at size : ℕ) (front rest : List ℕ) → length front ≡ size → field at size (front ++ rest) ≡ Ok
    (front, rest)
unfolding field
field_again at size front rest len =
    let inside : nat_le size (length (front ++ rest)) ≡ true = le-leb _ _ (omega (arith, length-append front rest)) in
    rw (inside, take_at front rest size len, drop_at front rest size len) refl

-- a lawful number's bytes and the rest
pub record IsNumber (w : Width) (limit : ℕ) (test : ℕ → Bool) (bytes : List ℕ) (n : ℕ) (rest : List ℕ) : Type 0 where
  pub parts : bytes ≡ to_be_bytes w n ++ rest
  pub rest_small : AreBytes rest
  pub fits : n < limit
  pub passes : test n ≡ true

pub number_read : (w : Width) (limit : ℕ) → IsExact w limit → (at : ℕ) (kind : Kind) (test : ℕ → Bool) (bytes : List ℕ)
    (x : ℕ × List ℕ) → AreBytes bytes → lawful w at kind test bytes ≡ Ok x → IsNumber w limit test bytes x.0 x.1
unfolding lawful number
number_read w limit exact at kind test bytes x small e =
    let n = step (number w at bytes) _ x e in
    let f = step (field at (byte_len w) bytes) _ n.0 n.1 in
    let p = passed (test n.0.0) n.0 x _ n.2 in
    let front = field_read at (byte_len w) bytes f.0 small f.1 in
    let made : ℕ × List ℕ = (from_be_bytes w f.0.0, f.0.1) in
    let is : made ≡ n.0 = passed_on made n.0 f.2 in
    let back : to_be_bytes w made.0 ≡ f.0.0 = exact.printed f.0.0 front.1 front.0.front_small in
    let found : IsNumber w limit test bytes made.0 made.1 = record {
      parts = front.0.parts ∙ ap (λ (t : List ℕ). t ++ f.0.1) (sym back);
      rest_small = front.0.rest_small;
      fits = exact.below f.0.0 front.0.front_small;
      passes = subst (λ (y : ℕ × List ℕ). test y.0 ≡ true) (sym is) p.0;
    } in
    subst (λ (y : ℕ × List ℕ). IsNumber w limit test bytes y.0 y.1) (is ∙ p.1) found

pub number_again : (w : Width) (limit : ℕ) → IsExact w limit → (at : ℕ) (kind : Kind) (test : ℕ → Bool) (n : ℕ)
    (rest : List ℕ) → n < limit → test n ≡ true → lawful w at kind test (to_be_bytes w n ++ rest) ≡ Ok (n, rest)
unfolding lawful number
number_again w limit exact at kind test n rest fits passes =
    rw (field_again at (byte_len w) (to_be_bytes w n) rest (exact.size n), exact.read n fits, passes) refl
