-- Requests both ways.
use Rattle.std.proofs.Common.{◌≡◌, ℕ, ◌≤◌, true, false, List, [], ◌∷◌, ◌++◌, length, take, drop, Option, Some, None, Result, Ok, Err, refl, sym, ◌∙◌, ap, ap₂, subst, append_assoc, arith}
use Rattle.std.specs.Prelude.{◌&&◌, ◌==◌, nat_le, if◌then◌else◌}
use Rattle.std.specs.Int.{w64, to_be_bytes, from_be_bytes}
use Rattle.std.proofs.lemmas.Bool.{le-leb, leb-true, eqb-true, cond-true, and_from, and_parts}
use Rattle.std.proofs.lemmas.Bool.Decides.{nat_tests}
use Rattle.std.proofs.lemmas.List.{take_at, drop_at, take-append-drop, length-append, length-take, length-drop, drop-drop, nil_from_length}
use Rattle.dr_base.specs.Bytes.{AreBytes}
use Rattle.dr_base.proofs.Bytes.{AreBytes-drop, AreBytes-take}
use Rattle.dr_base.proofs.Widths.{exact64}
use Rattle.relay_guard.specs.Guards.{Token}
use Rattle.relay_wire.specs.declared.limits.TheConstants.{TOKEN_LEN}
use Rattle.relay_wire.specs.Names.{is_name, is_packet}
use Rattle.relay_wire.specs.Requests.{Asking, posts, fetches, acks, Asked, bare_request, is_ask_byte, IsLawfulAsking, IsLawfulAsked, IsLawfulToken, ask_byte, ask_rest, plain_body, request_body, token_byte, token_of, token_text, read_guarded, read_inner, read_rest, of_name, read_named, read_request, with_token}
use Rattle.relay_wire.proofs.Choices.{from_choice, by_number}
use Rattle.relay_wire.proofs.Tokens.{behind_token, text, token_fits, token_read}

-- ---- what was printed is read

named : (first : ℕ) (name rest : List ℕ) → is_name name ≡ true → read_named first (length name ∷ (name ++ rest)) ≡ of_name name (read_rest first rest)
unfolding read_named
named first name rest is =
    let front = take_at name rest (length name) refl in
    let fits : nat_le (length name) (length (name ++ rest)) ≡ true = le-leb _ _ (omega (arith, length-append name rest)) in
    let test = and_from _ _ fits (ap is_name front ∙ is) in
    cond-true _ _ _ test ∙ ap₂ (λ (n r : List ℕ). of_name n (read_rest first r)) front (drop_at name rest (length name) refl)

plain : (name : List ℕ) (ask : Asking) → is_name name ≡ true → IsLawfulAsking ask
    → read_named (ask_byte ask) (length name ∷ (name ++ ask_rest ask)) ≡ Ok (bare_request name ask)
unfolding read_rest
plain name (posts packet) named_ is = named 1 name packet named_ ∙ ap (of_name name) (cond-true (is_packet packet) (Ok (posts packet)) (Err 4) is)
plain name fetches named_ is = named 2 name [] named_
plain name (acks n) named_ is = named 3 name (to_be_bytes w64 n) named_ ∙ ap (λ (m : ℕ). Ok (bare_request name (acks m))) (exact64.read n is)

inner : (name : List ℕ) (ask : Asking) → is_name name ≡ true → IsLawfulAsking ask → read_inner (plain_body name ask) ≡ Ok (bare_request name ask)
unfolding read_inner plain_body
inner name (posts packet) named_ is = plain name (posts packet) named_ is
inner name fetches named_ is = plain name fetches named_ is
inner name (acks n) named_ is = plain name (acks n) named_ is

alone : (name : List ℕ) (ask : Asking) → is_name name ≡ true → IsLawfulAsking ask → read_request (plain_body name ask) ≡ Ok (bare_request name ask)
unfolding read_request plain_body
alone name (posts packet) named_ is = plain name (posts packet) named_ is
alone name fetches named_ is = plain name fetches named_ is
alone name (acks n) named_ is = plain name (acks n) named_ is

pub request : (a : Asked) → IsLawfulAsked a → read_request (request_body a) ≡ Ok a
unfolding read_request request_body read_guarded
request a lawful = by_token a.token lawful.2
  where
    by_token : (token : Option Token) → IsLawfulToken token → read_request (token_text token ++ plain_body a.name a.ask) ≡ Ok (record { name = a.name; ask = a.ask; token = token })
    by_token None is = alone a.name a.ask lawful.0 lawful.1
    by_token (Some token) is =
        let body = plain_body a.name a.ask in
        cond-true (nat_le TOKEN_LEN (length (text token.counter token.tag body is.0 is.1))) _ _ (token_fits token.counter token.tag body is.0 is.1)
        ∙ ap₂ with_token (token_read token.counter token.tag body is.0 is.1)
        (ap read_inner (behind_token token.counter token.tag body is.0 is.1) ∙ inner a.name a.ask lawful.0 lawful.1)

-- ---- nothing else is read

abbrev rest_kind : ℕ
rest_kind = 4

-- what the first byte and what stands after the name say
record IsRest (first : ℕ) (rest : List ℕ) (ask : Asking) : Type 0 where
  first_is : first ≡ ask_byte ask
  rest_is : rest ≡ ask_rest ask
  lawful : IsLawfulAsking ask

third : (first : ℕ) → is_ask_byte first ≡ true → (first == 1) ≡ false → (first == 2) ≡ false → first ≡ 3
third first is not_one not_two = grind (arith, nat_tests)

only_rest : (first : ℕ) (rest : List ℕ) (ask : Asking) → is_ask_byte first ≡ true → AreBytes rest → read_rest first rest ≡ Ok ask → IsRest first rest ask
unfolding read_rest
only_rest first rest ask is are h =
    by_number first 1 _ _ _ h (IsRest first rest ask) as_post (λ not_one e.
    by_number first 2 _ _ _ e (IsRest first rest ask) as_fetch (λ not_two f. as_ack (third first is not_one not_two) f))
  where
    as_post : first ≡ 1 → (if is_packet rest then Ok (posts rest) else Err rest_kind) ≡ Ok ask → IsRest first rest ask
    as_post one e =
        let t = from_choice (is_packet rest) (Ok (posts rest)) 4 ask e in
        let same : posts rest ≡ ask = cc in
        subst (IsRest first rest) same (record { first_is = one; rest_is = refl; lawful = t.0 })

    as_fetch : first ≡ 2 → (if length rest == 0 then Ok fetches else Err rest_kind) ≡ Ok ask → IsRest first rest ask
    as_fetch two e =
        let t = from_choice (length rest == 0) (Ok fetches) 4 ask e in
        let same : fetches ≡ ask = cc in
        subst (IsRest first rest) same (record { first_is = two; rest_is = nil_from_length rest (eqb-true _ _ t.0); lawful = tt })

    as_ack : first ≡ 3 → (if length rest == 8 then Ok (acks (from_be_bytes w64 rest)) else Err rest_kind) ≡ Ok ask → IsRest first rest ask
    as_ack three e =
        let t = from_choice (length rest == 8) (Ok (acks (from_be_bytes w64 rest))) 4 ask e in
        let same : acks (from_be_bytes w64 rest) ≡ ask = cc in
        let long : length rest ≡ 8 = eqb-true _ _ t.0 in
        subst (IsRest first rest) same (record { first_is = three; rest_is = sym (exact64.printed rest long are); lawful = exact64.below rest are })

from_of_name : (name : List ℕ) (r : Result Asking ℕ) (a : Asked) → of_name name r ≡ Ok a → (ask : Asking) × (r ≡ Ok ask) × (bare_request name ask ≡ a)
from_of_name name (Ok ask) a h = (ask, refl, (let e : Ok (bare_request name ask) ≡ Ok a = h in cc))
from_of_name name (Err kind) a h = absurd (let e : Err kind ≡ Ok a = h in cc)

AreBytes-tail : (b : ℕ) (bytes : List ℕ) → AreBytes (b ∷ bytes) → AreBytes bytes
AreBytes-tail b bytes are = AreBytes-drop 1 (b ∷ bytes) are

-- what stands behind a token, or alone
record IsPlain (bytes : List ℕ) (a : Asked) : Type 0 where
  body : bytes ≡ plain_body a.name a.ask
  name : is_name a.name ≡ true
  ask : IsLawfulAsking a.ask
  bare : a.token ≡ None

only_named : (first : ℕ) (more : List ℕ) (a : Asked) → is_ask_byte first ≡ true → AreBytes more → read_named first more ≡ Ok a → IsPlain (first ∷ more) a
unfolding plain_body read_named
only_named first [] a is are h = absurd (let three : ℕ = 3 in let e : Err three ≡ Ok a = h in cc)
only_named first (n ∷ more) a is are h =
    let t = from_choice (nat_le n (length more) && is_name (take n more)) (of_name (take n more) (read_rest first (drop n more))) 3 a h in
    let tests = and_parts _ _ t.0 in
    let asked = from_of_name (take n more) (read_rest first (drop n more)) a t.1 in
    let ask = asked.0 in
    let rest = only_rest first (drop n more) ask is (AreBytes-drop n more (AreBytes-tail n more are)) asked.1 in
    let inside : n ≤ length more = leb-true _ _ tests.0 in
    let long : length (take n more) ≡ n = omega (arith, length-take n more, inside) in
    let parted : more ≡ take n more ++ ask_rest ask = sym (take-append-drop n more) ∙ ap (λ (r : List ℕ). take n more ++ r) rest.rest_is in
    subst (λ (b : Asked). IsPlain (first ∷ n ∷ more) b) asked.2 (record {
      body = ap₂ (λ (f : ℕ) (bytes : List ℕ). f ∷ n ∷ bytes) rest.first_is parted
          ∙ ap (λ (m : ℕ). ask_byte ask ∷ m ∷ (take n more ++ ask_rest ask)) (sym long);
      name = tests.1;
      ask = rest.lawful;
      bare = refl;
    })

only_inner : (bytes : List ℕ) (a : Asked) → AreBytes bytes → read_inner bytes ≡ Ok a → IsPlain bytes a
unfolding read_inner
only_inner [] a are h = absurd (let four : ℕ = 4 in let e : Err four ≡ Ok a = h in cc)
only_inner (first ∷ more) a are h =
    let t = from_choice (is_ask_byte first) (read_named first more) 4 a h in
    only_named first more a t.0 (AreBytes-tail first more are) t.1

-- a token before what was read
from_token : (token : Token) (r : Result Asked ℕ) (a : Asked) → with_token token r ≡ Ok a → (b : Asked) × (r ≡ Ok b) × (record b { token = Some token } ≡ a)
from_token token (Ok b) a h = (b, refl, (let e : Ok (record b { token = Some token }) ≡ Ok a = h in cc))
from_token token (Err kind) a h = absurd (let e : Err kind ≡ Ok a = h in cc)

only_guarded : (bytes : List ℕ) (a : Asked) → AreBytes bytes → read_guarded bytes ≡ Ok a → (token_byte ∷ bytes ≡ request_body a) × IsLawfulAsked a
unfolding read_guarded request_body
only_guarded bytes a are h =
    let t = from_choice (nat_le TOKEN_LEN (length bytes)) (with_token (token_of bytes) (read_inner (drop TOKEN_LEN bytes))) 4 a h in
    let many : TOKEN_LEN ≤ length bytes = leb-true _ _ t.0 in
    let b = from_token (token_of bytes) (read_inner (drop TOKEN_LEN bytes)) a t.1 in
    let plain = only_inner (drop TOKEN_LEN bytes) b.0 (AreBytes-drop TOKEN_LEN bytes are) b.1 in
    let counter = take 8 bytes in
    let rest = drop 8 bytes in
    let tag = take 32 rest in
    let are_counter : AreBytes counter = AreBytes-take 8 bytes are in
    let counter_long : length counter ≡ 8 = omega (arith, length-take 8 bytes, many) in
    let tag_long : length tag ≡ 32 = omega (arith, length-take 32 rest, length-drop 8 bytes, many) in
    let printed : to_be_bytes w64 (from_be_bytes w64 counter) ≡ counter = exact64.printed counter counter_long are_counter in
    let behind : drop TOKEN_LEN bytes ≡ drop 32 rest = sym (drop-drop 32 8 bytes) in
    let whole : bytes ≡ (counter ++ tag) ++ drop TOKEN_LEN bytes =
    sym (take-append-drop 8 bytes) ∙ ap (λ (r : List ℕ). counter ++ r) (sym (take-append-drop 32 rest)) ∙ sym (append_assoc counter tag (drop 32 rest)) ∙ ap (λ (r : List ℕ). (counter ++ tag) ++ r) (sym behind) in
    subst (λ (x : Asked). (token_byte ∷ bytes ≡ request_body x) × IsLawfulAsked x) b.2 (
      ap (λ (l : List ℕ). token_byte ∷ l) (whole ∙ ap₂ (λ (c r : List ℕ). (c ++ tag) ++ r) (sym printed) plain.body),
      (plain.name, plain.ask, (exact64.below counter are_counter, tag_long)),
    )

pub only_request : (body : List ℕ) (a : Asked) → AreBytes body → read_request body ≡ Ok a → (body ≡ request_body a) × IsLawfulAsked a
unfolding read_request request_body
only_request [] a are h = absurd (let one : ℕ = 1 in let e : Err one ≡ Ok a = h in cc)
only_request (first ∷ more) a are h =
    by_number first token_byte _ _ _ h ((first ∷ more ≡ request_body a) × IsLawfulAsked a)
    (λ four e. let g = only_guarded more a (AreBytes-tail first more are) e in (ap (λ (f : ℕ). f ∷ more) four ∙ g.0, g.1))
    (λ other e.
    let t = from_choice (is_ask_byte first) (read_named first more) 2 a e in
    let plain = only_named first more a t.0 (AreBytes-tail first more are) t.1 in
    subst (λ (token : Option Token). (first ∷ more ≡ token_text token ++ plain_body a.name a.ask) × ((is_name a.name ≡ true) × IsLawfulAsking a.ask × IsLawfulToken token)) (sym plain.bare)
    (plain.body, (plain.name, plain.ask, tt)))
