-- A token, and the request behind it, where they stand.
use Rattle.std.proofs.Common.{◌≡◌, ℕ, ◌+◌, ◌≤◌, true, false, List, length, take, drop, Option, Some, None, Result, Ok, Err, refl, sym, ◌∙◌, ap, ap₂, subst, arith}
use Rattle.std.specs.Prelude.{IfOk, is_some, nat_le}
use Rattle.relay_guard.specs.declared.guard.Token.{Token as TokenLent}
use Rattle.relay_wire.specs.declared.request.Ask.{Ask}
use Rattle.relay_wire.specs.declared.request.Ask.TheVariants.{Post, Fetch, Ack}
use Rattle.relay_wire.specs.declared.request.Bad.{Bad}
use Rattle.relay_wire.specs.declared.request.Request.{Request}
use Rattle.relay_wire.specs.Seen.{IsAskLaid, IsLaid, name_place}
use Rattle.std.proofs.lemmas.Bool.{cond-true, le-leb}
use Rattle.std.proofs.lemmas.List.{drop-drop}
use Rattle.relay_guard.specs.Guards.{Token}
use Rattle.relay_wire.specs.Parts.{Lent, LiesAt}
use Rattle.relay_wire.specs.Requests.{Asked, read_guarded, read_inner, token_of, with_token}

-- what stands from a place on, in the bytes from further in front
pub lies_deeper : (part : Lent) (at more : ℕ) (bytes : List ℕ) (place : ℕ) → LiesAt part at (drop more bytes) (place + more) → LiesAt part (more + at) bytes place
lies_deeper part at more bytes place lies = record {
  place_is = omega (arith, lies.place_is);
  bytes_are = lies.bytes_are ∙ ap (take (length part.bytes)) (drop-drop at more bytes);
}

-- a whole token is followed by a request, or by none
pub guarded_is : (bytes inner : List ℕ) (token : Token) (r : Result Asked ℕ) → 40 ≤ length bytes → token_of bytes ≡ token → drop 40 bytes ≡ inner → read_inner inner ≡ r
    → read_guarded bytes ≡ with_token token r
unfolding read_guarded
guarded_is bytes inner token r many is behind read =
    cond-true (nat_le 40 (length bytes)) _ _ (le-leb _ _ many) ∙ ap₂ with_token is (ap read_inner behind ∙ read)

-- the parts of a request that is told with a token lie where they lay
ask_deeper : (ask : Ask) (at more : ℕ) (bytes : List ℕ) (place : ℕ) → IsAskLaid ask at (drop more bytes) (place + more) → IsAskLaid ask (more + at) bytes place
ask_deeper (Post packet) at more bytes place lies = lies_deeper packet at more bytes place lies
ask_deeper Fetch at more bytes place lies = tt
ask_deeper (Ack number) at more bytes place lies = tt

pub laid_deeper : (request : Request) (at more : ℕ) (bytes inner : List ℕ) (place from : ℕ) → inner ≡ drop more bytes → from ≡ place + more
    → IsLaid request at inner from → IsLaid request (more + at) bytes place
laid_deeper request at more bytes inner place from is begins laid =
    let there : IsLaid request at (drop more bytes) (place + more) = subst (λ (b : List ℕ). IsLaid request at b (place + more)) is (subst (λ n. IsLaid request at inner n) begins laid) in
    record {
      name = lies_deeper request.name at more bytes place there.name;
      ask = subst (λ n. IsAskLaid request.ask n bytes place) (let e : more + (at + length request.name.bytes) ≡ (more + at) + length request.name.bytes = omega arith in e)
          (ask_deeper request.ask (at + length request.name.bytes) more bytes place there.ask);
    }

pub same_laid : (request other : Request) (at : ℕ) (bytes : List ℕ) (place : ℕ) → other.name ≡ request.name → other.ask ≡ request.ask → IsLaid request at bytes place → IsLaid other at bytes place
same_laid request other at bytes place name ask laid = record {
  name = subst (λ (n : Lent). LiesAt n at bytes place) (sym name) laid.name;
  ask = subst (λ (n : Lent). IsAskLaid other.ask (at + length n.bytes) bytes place) (sym name)
      (subst (λ (a : Ask). IsAskLaid a (at + length request.name.bytes) bytes place) (sym ask) laid.ask);
}

place_behind : (token : Option TokenLent) → is_some token ≡ true → name_place token ≡ 45
place_behind (Some token) is = refl
place_behind None is = absurd (let f : false ≡ true = is in cc)

pub laid_behind : (r : Result Request Bad) (bytes rest : List ℕ) (place from : ℕ) → rest ≡ drop 3 bytes → from ≡ place + 3 → IfOk r (λ q. IsLaid q 42 rest from) → IfOk r (λ q. is_some q.token ≡ true)
    → IfOk r (λ q. IsLaid q (name_place q.token) bytes place)
laid_behind (Err bad) bytes rest place from is begins laid some = tt
laid_behind (Ok q) bytes rest place from is begins laid some =
    subst (λ n. IsLaid q n bytes place) (sym (place_behind q.token some)) (laid_deeper q 42 3 bytes rest place from is begins laid)

pub laid_alone : (r : Result Request Bad) (bytes rest : List ℕ) (place from : ℕ) → rest ≡ drop 3 bytes → from ≡ place + 3 → IfOk r (λ q. IsLaid q 1 rest from) → IfOk r (λ q. q.token ≡ None)
    → IfOk r (λ q. IsLaid q (name_place q.token) bytes place)
laid_alone (Err bad) bytes rest place from is begins laid bare = tt
laid_alone (Ok q) bytes rest place from is begins laid bare =
    subst (λ (t : Option TokenLent). IsLaid q (name_place t) bytes place) (sym bare) (laid_deeper q 1 3 bytes rest place from is begins laid)
